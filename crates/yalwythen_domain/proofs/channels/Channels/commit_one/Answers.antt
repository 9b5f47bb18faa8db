use Rattle.std.proofs.Common.{◌≡◌, ◌∙◌, refl, ap, sym, subst, ℕ, ◌<◌, Ok, [], ◌∷◌, slice_get}
use Rattle.txc_txn_check.specs.declared.fault.TxnFault.{TxnFault}
use Rattle.txc_txn_check.specs.Walk.{Faulty, Fine, Tally, walk}
use Rattle.txc_txn_check.specs.declared.step.Step.TheVariants.{Do}
use Rattle.txc_txn.specs.declared.ran.Ran.TheVariants.{Kept as RanKept}
use Rattle.txc_txn.specs.Plain.{chan_in}
use Rattle.txc_txn.proofs.KindsKept.{kinds_kept}
use Rattle.yalwythen_domain.specs.Channels.{DomainChannels}
use Rattle.yalwythen_domain.proofs.Alone.{walk_one}
use Rattle.yalwythen_domain.proofs.Coming.{comes}
use Rattle.yalwythen_domain.proofs.Going.{both_ok}
use Rattle.yalwythen_domain.proofs.channels.Channels.commit_one.Goals as goal

pub invariant_of-self : goal.invariant_of-self
invariant_of-self g c = record {
  known = kinds_kept c.self.inside.plain c.commit_one.new.self c.self.inside.kinds.items c.self.invariant.known
      (λ n. subst (λ (k : ℕ). n < k) (sym c.commit_one.ensures.length)) c.commit_one.ensures.kinds;
  touched = λ n t. subst (λ (k : ℕ). n < k) (sym c.commit_one.ensures.length) (c.self.invariant.touched n t);
  marks = c.self.invariant.marks;
}

pub returns-clause-comes : goal.returns-clause-comes
returns-clause-comes g c = both_ok c.commit_one.result _ _ _ c.commit_one.ensures.done c.commit_one.ensures.done
    (λ it kept kept' is. comes c.args.self.now.kinds c.args.self.now.kinds (Do c.args.op.now ∷ []) _ c.args.tag
    (Ok (RanKept c.commit_one.new.last)) (chan_in c.self.inside.plain) (chan_in c.args.self.now.held)
    (chan_in c.commit_one.new.self) refl (ap (λ (x : DomainChannels). chan_in x.held) c.self.view_is)
    (walk_one (slice_get c.args.self.now.kinds) c.args.op.now _ c.in_default.ensures.fine) (kept is))

pub returns-in-Err-clause-once : goal.returns-in-Err-clause-once
returns-in-Err-clause-once g c tally fine immediate =
    let faulty : walk (slice_get c.args.self.now.kinds) (Do c.args.op.now ∷ []) ≡ Faulty c.in-Err.field-0 =
    walk_one (slice_get c.args.self.now.kinds) c.args.op.now (Faulty c.in-Err.field-0) c.in-Err.ensures.err in
    absurd (never _ _ (sym faulty ∙ fine))
  where
    never : (fault : TxnFault) (t : Tally) → Faulty fault ≡ Fine t → ⊥
    never fault t is = cc
