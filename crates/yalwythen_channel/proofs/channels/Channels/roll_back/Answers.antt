use Rattle.std.proofs.Common.{◌∙◌, ap, subst, Contains}
use Rattle.txc_txn.specs.declared.open_transaction.OpenTransaction.{OpenTransaction}
use Rattle.txc_txn.proofs.KindsKept.{kinds_kept}
use Rattle.yalwythen_channel.proofs.Consistency.{none_touched}
use Rattle.yalwythen_channel.proofs.channels.Channels.roll_back.Goals as goal

pub roll_back-requires-clause-held : goal.roll_back-requires-clause-held
roll_back-requires-clause-held g c n t = c.self.invariant.touched n
    (subst (λ (txn : OpenTransaction). Contains txn.touched.items n) c.replace.ensures.value t)

pub invariant_of-self : goal.invariant_of-self
invariant_of-self g c =
    none_touched c.roll_back.new.hold c.self.inside.kinds.items c.replace.new.dest
    (kinds_kept c.self.inside.plain c.roll_back.new.hold c.self.inside.kinds.items c.self.invariant.known
    c.roll_back.ensures.held c.roll_back.ensures.kinds)
    (c.roll_back.ensures.fixed ∙ c.self.invariant.as_many)
    (ap (λ (txn : OpenTransaction). txn.touched.items) c.replace.ensures.after ∙ c.begin-none.ensures.touched.0)
    (ap (λ (txn : OpenTransaction). txn.marks.items) c.replace.ensures.after ∙ c.begin-none.ensures.touched.1)

pub returns-clause-untouched : goal.returns-clause-untouched
returns-clause-untouched g c = ap (λ (txn : OpenTransaction). txn.touched.items) c.replace.ensures.after
    ∙ c.begin-none.ensures.touched.0
