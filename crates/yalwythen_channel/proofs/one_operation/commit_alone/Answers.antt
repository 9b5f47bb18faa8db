use Rattle.std.proofs.Common.{◌≡◌, ◌∙◌, subst, ap, ℕ, ◌+◌, ◌||◌, true, false, max, [], ◌∷◌, slice_get}
use Rattle.txc_base.specs.declared.kind.Kind.{Kind}
use Rattle.txc_base.specs.Op.{chan_of}
use Rattle.txc_txn_check.specs.Walk.{Faulty, Fine, walk_op}
use Rattle.txc_txn.specs.Transaction.{is_worn}
use Rattle.yalwythen_channel.specs.Opened.{untallied}
use Rattle.yalwythen_channel.proofs.OneOperation.{ended_alone, faulty_alone, worn_alone}
use Rattle.yalwythen_channel.proofs.one_operation.commit_alone.Goals as goal

pub returns-in-Err : goal.returns-in-Err
returns-in-Err g c = faulty_alone c.args.tag c.args.op.now c.args.chan.now.logged c.in-Err.fault c.call_result.result
    (subst (λ (k : Kind). walk_op (slice_get (k ∷ [])) c.args.op.now untallied ≡ Faulty c.in-Err.fault)
    c.kind.ensures c.in-Err.ensures.err)
    (λ j. record {
      code = c.call_result.ensures.code j;
      value = (c.call_result.ensures.value ∙ c.from.ensures ∙ c.code.ensures) j;
    })

pub returns-in-Some : goal.returns-in-Some
returns-in-Some g c =
    let most : c.max.result ≡ max c.args.tag.stamp c.args.chan.now.logged.stamp =
    c.max.ensures ∙ ap (max c.args.tag.stamp) c.stamp.ensures in
    ended_alone c.args.tag c.in-Some.kept c.args.op.now c.args.chan.now.logged c.commit_under.new.chan.logged
    c.commit_under.result c.requires
    (subst (λ (n : ℕ). (is_worn c.args.tag.serial || is_worn n) ≡ false) most c.in-Some.ensures.some.0)
    (c.in-Some.ensures.some.1
    ∙ ap (λ (n : ℕ). record { seat = c.args.tag.seat; serial = c.args.tag.serial; stamp = n + 1 }) most)
    (subst (λ (k : Kind). walk_op (slice_get (k ∷ [])) c.args.op.now untallied
    ≡ Fine (record { operations = 1; channels = chan_of c.args.op.now ∷ [] })) c.kind.ensures c.in_default.ensures.fine)
    c.commit_under.ensures

pub returns-in-None : goal.returns-in-None
returns-in-None g c =
    let most : c.max.result ≡ max c.args.tag.stamp c.args.chan.now.logged.stamp =
    c.max.ensures ∙ ap (max c.args.tag.stamp) c.stamp.ensures in
    worn_alone c.args.tag c.args.op.now c.args.chan.now.logged c.call_result-in-None.result c.requires
    (subst (λ (n : ℕ). (is_worn c.args.tag.serial || is_worn n) ≡ true) most c.in-None.ensures.none)
    (subst (λ (k : Kind). walk_op (slice_get (k ∷ [])) c.args.op.now untallied
    ≡ Fine (record { operations = 1; channels = chan_of c.args.op.now ∷ [] })) c.kind.ensures c.in_default.ensures.fine)
    (λ j. record {
      code = c.call_result-in-None.ensures.code j;
      value = (c.call_result-in-None.ensures.value ∙ c.from-in-None.ensures ∙ c.code-in-None.ensures) j;
    })
