use Rattle.std.proofs.Common.{◌≡◌, ◌∙◌, refl, subst, ap, ℕ, ◌+◌, ◌||◌, false, max}
use Rattle.txc_base.specs.declared.op.Op.TheVariants.{Read}
use Rattle.txc_txn.specs.Transaction.{is_worn}
use Rattle.yalwythen_channel.proofs.OneOperation.{ended_alone, read_fine}
use Rattle.yalwythen_channel.proofs.one_operation.read_alone.Goals as goal

pub returns : goal.returns
returns g c =
    let most : c.max.result ≡ max c.args.tag.stamp c.args.chan.now.logged.stamp =
    c.max.ensures ∙ ap (max c.args.tag.stamp) c.stamp.ensures in
    ended_alone c.args.tag c.in-Some.kept (Read 0 0) c.args.chan.now.logged
    c.read_under.new.chan.logged c.read_under.result refl
    (subst (λ (n : ℕ). (is_worn c.args.tag.serial || is_worn n) ≡ false) most c.in-Some.ensures.some.0)
    (c.in-Some.ensures.some.1
    ∙ ap (λ (n : ℕ). record { seat = c.args.tag.seat; serial = c.args.tag.serial; stamp = n + 1 }) most)
    (read_fine c.args.chan.now.logged.decl.kind) c.read_under.ensures
