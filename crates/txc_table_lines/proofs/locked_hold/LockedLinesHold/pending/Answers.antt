use Rattle.std.proofs.Common.{◌∙◌, sym, ap, subst}
use Rattle.txc_chan.specs.Logged.{MatchesLog, Logged}
use Rattle.txc_table_lines.proofs.Locking.{chan_is}
use Rattle.txc_table_lines.proofs.locked_hold.LockedLinesHold.pending.Goals as goal

pub returns-clause-value : goal.returns-clause-value
returns-clause-value g c = c.pending.ensures.value ∙ sym (ap (λ (l : Logged). l.pending) (chan_is _ _ _ _ _ _ _
    c.self.view_is c.as_mut_slice.ensures.value c.from.ensures c.requires c.in-Some.is))

pub returns-clause-lawful : goal.returns-clause-lawful
returns-clause-lawful g c = subst MatchesLog (sym (chan_is _ _ _ _ _ _ _ c.self.view_is c.as_mut_slice.ensures.value
    c.from.ensures c.requires c.in-Some.is)) c.pending.ensures.lawful
