use Rattle.std.proofs.Common.{sym, ap, ◌∙◌, length, arith}
use Rattle.txc_table_audit.proofs.Testing.{refuted}
use Rattle.txc_table_audit.proofs.Unmet.{earlier}
use Rattle.txc_table_audit.proofs.condition.find_unmet_of.Goals as goal

pub returns-then-not-can_be_made : goal.returns-then-not-can_be_made
returns-then-not-can_be_made g c = record {
  unmet = refuted c.can_be_made.result c.can_be_made.ensures.1 c.if-not-can_be_made.true;
  first = earlier _ _ _ 1 (omega arith) (λ _. omega arith) (λ lt. absurd (omega (arith, lt)))
      (λ lt. absurd (omega (arith, lt))) (λ lt. absurd (omega (arith, lt)))
      (λ lt. absurd (omega (arith, lt)));
}

pub returns-then-as_slice-decls : goal.returns-then-as_slice-decls
returns-then-as_slice-decls g c = record {
  unmet = λ holds. c.if-as_slice-decls.true (ap length c.as_slice.ensures ∙ holds);
  first = earlier _ _ _ 2 (omega arith) (λ _. omega arith) (λ _. c.can_be_made.ensures.0 c.if-not-can_be_made.false)
      (λ lt. absurd (omega (arith, lt)))
      (λ lt. absurd (omega (arith, lt))) (λ lt. absurd (omega (arith, lt)));
}

pub returns-then-not-has_begun : goal.returns-then-not-has_begun
returns-then-not-has_begun g c = record {
  unmet = refuted c.has_begun.result (λ begun. c.has_begun.ensures.1 (rw c.as_slice-2.ensures begun))
      c.if-not-has_begun.true;
  first = earlier _ _ _ 4 (omega arith) (λ _. omega arith) (λ _. c.can_be_made.ensures.0 c.if-not-can_be_made.false)
      (λ _. ap length (sym c.as_slice.ensures) ∙ c.if-as_slice-decls.false) (λ _. omega arith)
      (λ lt. absurd (omega (arith, lt)));
}
