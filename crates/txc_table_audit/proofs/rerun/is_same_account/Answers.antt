use Rattle.std.proofs.Common.{refl, ◌≡◌, ◌≢◌, sym, ◌∙◌, rules, Decides, Bool}
use Rattle.std.proofs.lemmas.Slice.Eq.{slice_eq-Decides}
use Rattle.txc_base.proofs.Deciding.{decides_entry, decides_item}
use Rattle.txc_table_audit.proofs.Testing.{refused}
use Rattle.txc_table_audit.proofs.rerun.is_same_account.Goals.{then-one-other, else-one-other}
use Rattle.txc_table_audit.proofs.rerun.is_same_account.Goals as goal

-- where the first two are so, the last one decides
last_decides : {A B C : Type 0} (last : Bool) → A → B → Decides last C → Decides last (A × (B × C))
last_decides last a b c = (λ e. (a, (b, c.0 e)), λ p. c.1 p.1.1)

pub returns-then-eq : goal.returns-then-eq
returns-then-eq c = elim c.if-one-other.branch [
  | then-one-other w ↦ (let closed : c.args.one.now.closed ≡ c.args.other.now.closed = search rules in
      let log : c.args.one.now.log ≡ c.args.other.now.log = (slice_eq-Decides decides_entry _ _ _ w.eq.ensures).0
      (sym w.value-is ∙ c.if-eq.true) in
      last_decides c.eq-then-eq.result closed log
      (slice_eq-Decides (λ a b. slice_eq-Decides decides_item a b _ refl) _ _ _ c.eq-then-eq.ensures))
  | else-one-other w ↦ absurd (cc (w.value-is, w.if-one-other.false, c.if-eq.true))
]

pub returns-else-eq : goal.returns-else-eq
returns-else-eq c = elim c.if-one-other.branch [
  | then-one-other w ↦ refused c.if-one-other.value c.if-eq.false
      (λ p. absurd (cc (w.value-is, c.if-eq.false, (slice_eq-Decides decides_entry _ _ _ w.eq.ensures).1 p.1.0)))
  | else-one-other w ↦ (let different : c.args.one.now.closed ≢ c.args.other.now.closed = search rules in
      refused c.if-one-other.value c.if-eq.false (λ p. different p.0))
]
