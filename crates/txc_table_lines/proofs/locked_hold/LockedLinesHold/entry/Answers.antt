use Rattle.std.proofs.Common.{◌∙◌, ◌≤◌, ◌+◌, sym, ap, subst, length, slice_get}
use Rattle.txc_chan.specs.Logged.{Logged}
use Rattle.txc_table_lines.proofs.Locking.{chan_is}
use Rattle.txc_table_lines.proofs.locked_hold.LockedLinesHold.entry.Goals as goal

pub entry-requires : goal.entry-requires
entry-requires g c = subst (λ (l : Logged). length l.log ≤ c.args.place + l.pending) (chan_is _ _ _ _ _ _ _
    c.self.view_is c.as_mut_slice.ensures.value c.from.ensures c.requires.held c.in-Some.is) c.requires.pending

pub returns-clause-value : goal.returns-clause-value
returns-clause-value g c = c.entry.ensures.value ∙ sym (ap (λ (l : Logged). slice_get l.log c.args.place)
    (chan_is _ _ _ _ _ _ _ c.self.view_is c.as_mut_slice.ensures.value c.from.ensures c.requires.held c.in-Some.is))
