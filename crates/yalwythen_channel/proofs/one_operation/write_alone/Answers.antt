use Rattle.std.proofs.Common.{◌≡◌, ◌∙◌, refl, subst, ap, ℕ, ◌+◌, ◌||◌, false, max}
use Rattle.txc_base.specs.declared.op.Op.TheVariants.{Write}
use Rattle.txc_base.specs.declared.source.Source.TheVariants.{Lit}
use Rattle.txc_txn.specs.Transaction.{is_worn}
use Rattle.yalwythen_channel.proofs.OneOperation.{ended_alone, write_fine}
use Rattle.yalwythen_channel.proofs.one_operation.write_alone.Goals as goal

pub returns : goal.returns
returns g c =
    let most : c.max.result ≡ max c.args.tag.stamp c.args.chan.now.logged.stamp =
    c.max.ensures ∙ ap (max c.args.tag.stamp) c.stamp.ensures in
    ended_alone c.args.tag c.in-Some.kept (Write 0 (Lit c.args.body)) c.args.chan.now.logged
    c.write_under.new.chan.logged c.write_under.result refl
    (subst (λ (n : ℕ). (is_worn c.args.tag.serial || is_worn n) ≡ false) most c.in-Some.ensures.some.0)
    (c.in-Some.ensures.some.1
    ∙ ap (λ (n : ℕ). record { seat = c.args.tag.seat; serial = c.args.tag.serial; stamp = n + 1 }) most)
    (write_fine c.args.chan.now.logged.decl.kind c.args.body) c.write_under.ensures
