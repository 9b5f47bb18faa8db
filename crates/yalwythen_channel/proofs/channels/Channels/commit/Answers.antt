use Rattle.std.proofs.Common.{◌∙◌, ap, subst, refl, Contains}
use Rattle.txc_txn.specs.declared.open_transaction.OpenTransaction.{OpenTransaction}
use Rattle.txc_txn.specs.Maps.{kinds_of}
use Rattle.txc_txn.specs.Plain.{chan_in}
use Rattle.txc_txn.specs.Run.{receipt_of, state_of}
use Rattle.txc_txn.proofs.Growing.{grow_none}
use Rattle.txc_txn.proofs.KindsKept.{kinds_kept}
use Rattle.txc_txn.proofs.Settling.{settle_kinds}
use Rattle.yalwythen_channel.specs.Channels.{TxnChannels}
use Rattle.yalwythen_channel.proofs.Consistency.{none_touched}
use Rattle.yalwythen_channel.proofs.channels.Channels.commit.Goals as goal

pub commit-requires : goal.commit-requires
commit-requires g c = record {
  held = λ n t. c.self.invariant.touched n
      (subst (λ (txn : OpenTransaction). Contains txn.touched.items n) c.replace.ensures.value t);
}

pub invariant_of-self : goal.invariant_of-self
invariant_of-self g c =
    let m = chan_in c.self.inside.plain in
    none_touched c.commit.new.hold c.self.inside.kinds.items c.replace.new.dest
    (kinds_kept c.self.inside.plain c.commit.new.hold c.self.inside.kinds.items c.self.invariant.known
    c.commit.ensures.held (ap kinds_of c.commit.ensures.settled
    ∙ settle_kinds c.replace.result.tag m m c.replace.result.tag.stamp c.replace.result.touched.items
    (grow_none c.replace.result.tag m m refl)))
    (c.commit.ensures.fixed ∙ c.self.invariant.as_many)
    (ap (λ (txn : OpenTransaction). txn.touched.items) c.replace.ensures.after ∙ c.begin-none.ensures.touched.0)
    (ap (λ (txn : OpenTransaction). txn.marks.items) c.replace.ensures.after ∙ c.begin-none.ensures.touched.1)

pub returns-clause-untouched : goal.returns-clause-untouched
returns-clause-untouched g c = ap (λ (txn : OpenTransaction). txn.touched.items) c.replace.ensures.after
    ∙ c.begin-none.ensures.touched.0

pub returns-clause-receipt : goal.returns-clause-receipt
returns-clause-receipt g c m = c.commit.ensures.receipt m
    ∙ ap (λ (txn : OpenTransaction). receipt_of txn.tag (state_of m txn.trace))
    (c.replace.ensures.value ∙ ap (λ (x : TxnChannels). x.txn) c.self.view_is)
