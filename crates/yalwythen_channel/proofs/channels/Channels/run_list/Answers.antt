use Rattle.std.proofs.Common.{◌∙◌, sym, subst, ℕ, ◌<◌, arith}
use Rattle.txc_txn.proofs.KindsKept.{kinds_kept}
use Rattle.yalwythen_channel.proofs.OneList.{is_below}
use Rattle.yalwythen_channel.proofs.channels.Channels.run_list.Goals as goal

pub transact_few-requires-clause-all : goal.transact_few-requires-clause-all
transact_few-requires-clause-all g c n lt = is_below c.len-count.result n (omega (arith, c.if-count-gt4.false))
    (subst (λ (k : ℕ). n < k) (sym c.len-count.ensures) lt)

pub invariant_of-self : goal.invariant_of-self
invariant_of-self g c = record {
  known = kinds_kept c.self.inside.plain c.transact_few.new.few c.self.inside.kinds.items c.self.invariant.known
      (λ n lt. subst (λ (k : ℕ). n < k) (sym c.transact_few.ensures.length) lt) c.transact_few.ensures.kinds;
  as_many = c.transact_few.ensures.length ∙ c.self.invariant.as_many;
  touched = λ n t. subst (λ (k : ℕ). n < k) (sym c.transact_few.ensures.length) (c.self.invariant.touched n t);
  marks = c.self.invariant.marks;
}
