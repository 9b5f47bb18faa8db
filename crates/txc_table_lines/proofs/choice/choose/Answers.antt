use Rattle.std.proofs.Common.{refl, ◌∙◌, ap, not}
use Rattle.txc_table_lines.proofs.ThreeCommit.{first_waits}
use Rattle.txc_table_lines.proofs.choice.choose.Goals as goal

pub returns-clause-second : goal.returns-clause-second
returns-clause-second g c same = (
  refl,
  refl,
  refl,
  refl,
  c.cause_to_wait.ensures.same,
  first_waits c.args.what c.args.first c.cause_to_wait.result (c.is_none.ensures ∙ ap not c.if-is_none.false)
      c.cause_to_wait.ensures.cause,
)
