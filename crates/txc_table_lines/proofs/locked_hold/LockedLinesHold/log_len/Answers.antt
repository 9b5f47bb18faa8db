use Rattle.std.proofs.Common.{◌∙◌, sym, ap, length}
use Rattle.txc_chan.specs.Logged.{Logged}
use Rattle.txc_table_lines.proofs.Locking.{chan_is}
use Rattle.txc_table_lines.proofs.locked_hold.LockedLinesHold.log_len.Goals as goal

pub returns-clause-value : goal.returns-clause-value
returns-clause-value g c = c.log_len.ensures.value ∙ sym (ap (λ (l : Logged). length l.log) (chan_is _ _ _ _ _ _ _
    c.self.view_is c.as_mut_slice.ensures.value c.from.ensures c.requires c.in-Some.is))
