use Rattle.std.proofs.Common.{arith}
use Rattle.std.proofs.lemmas.Bool.{le-leb, leb-true}
use Rattle.std.proofs.lemmas.Bool.Decides.{Decides-ltb}
use Rattle.txc_table_audit.proofs.seats.follows.Goals as goal

pub returns-then-before-tag : goal.returns-then-before-tag
returns-then-before-tag c = (
  λ h. (c.if-before-tag.true, leb-true c.args.before.stamp c.args.tag.stamp h),
  λ h. le-leb c.args.before.stamp c.args.tag.stamp h.1,
)

pub returns-else-before-tag : goal.returns-else-before-tag
returns-else-before-tag c = (
  λ h. absurd (omega (arith, (Decides-ltb c.args.before.serial c.args.tag.serial).0 h)),
  λ h. (Decides-ltb c.args.before.serial c.args.tag.serial).1 h.0,
)
