use Rattle.std.proofs.Common.{◌<◌, subst, arith}
use Rattle.txc_chan.specs.Logged.{Logged, Undone}
use Rattle.txc_table_lines.proofs.Locking.{chan_is, chan_others, chan_step, lines_written}
use Rattle.txc_table_lines.proofs.locked_hold.LockedLinesHold.undo_last.Goals as goal

pub undo_last-requires : goal.undo_last-requires
undo_last-requires g c = subst (λ (l : Logged). 0 < l.pending) (chan_is _ _ _ _ _ _ _ c.self.view_is
    c.as_mut_slice.ensures.value c.from.ensures c.requires.held c.in-Some.is) c.requires.pending

pub returns-clause-others : goal.returns-clause-others
returns-clause-others g c = chan_others _ _ _ _ _ c.undo_last.new.self c.self.inside.lines.ok.0 c.self.view_is
    c.as_mut_slice.ensures.value
    c.from.ensures c.requires.held

pub returns-clause-undone : goal.returns-clause-undone
returns-clause-undone g c = chan_step Undone _ _ _ _ _ _ _ c.undo_last.new.self c.self.inside.lines.ok.0 c.self.view_is
    c.as_mut_slice.ensures.value c.from.ensures c.requires.held c.in-Some.is c.undo_last.ensures.undone

pub returns-clause-fixed : goal.returns-clause-fixed
returns-clause-fixed g c = lines_written _ _ _ _ _ _ c.undo_last.new.self c.self.inside.lines.ok.0 c.self.view_is
    c.as_mut_slice.ensures.value
    (omega (arith, c.requires.held, c.from.ensures)) c.in-Some.is c.undo_last.ensures.line
