use Rattle.std.proofs.Common.{◌≡◌, ◌∙◌, ap, sym}
use Rattle.std.specs.Option.{option_copied}
use Rattle.txc_cmd_replay.specs.Rounds.{SeatProgress, last_stamp, tag_after}
use Rattle.txc_cmd_replay.proofs.Turns.{last_some, last_none}
use Rattle.txc_cmd_replay.proofs.seat_progress.SeatProgress.next_tag.Goals as goal
use Rattle.txc_cmd_replay.proofs.seat_progress.SeatProgress.next_tag.Goals.{in-Some, in-None}

pub returns : goal.returns
returns c =
    let serial = c.len.ensures ∙ sym c.deref.ensures.len in
    let stamp : c.match-last.stamp ≡ last_stamp c.deref.result.now =
    elim c.match-last.branch [
      | in-Some w ↦ w.stamp-is ∙ sym
          (last_some c.deref.result.now _ (sym c.last.ensures.value ∙ ap option_copied w.in-Some.is))
      | in-None w ↦ w.stamp-is ∙ sym
          (last_none c.deref.result.now (sym c.last.ensures.value ∙ ap option_copied w.in-None.is))
    ] in
    (λ j. record { seat = c.args.seat; serial = serial j; stamp = stamp j })
    ∙ ap (tag_after c.args.seat) (c.deref.ensures.value ∙ ap (λ (s : SeatProgress). s.receipts) c.self.view_is)
