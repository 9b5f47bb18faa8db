use Rattle.std.proofs.Common.{rules, ◌≡◌, None, IfSome, subst}
use Rattle.txc_base.specs.Operation.{Waits, operate}
use Rattle.txc_chan.specs.ChanView.{ChanView}
use Rattle.txc_table_line.proofs.locked_line.LockedLine.cause_to_wait.Goals as goal

pub returns-clause-cause : goal.returns-clause-cause
returns-clause-cause g c seat =
    let same : c.chan.result.now ≡ c.args.self.now.held = search rules in
    subst (λ (h : ChanView). IfSome c.cause_to_wait.result (λ cause. operate h.logged.channel seat None c.args.op.now
    ≡ Waits cause)) same (c.cause_to_wait.ensures seat)
