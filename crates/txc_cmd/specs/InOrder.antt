-- The outcome of a script in one thread that runs its transactions in some order. Only the order differs from the
-- rounds. In the rounds the seats have their turns round by round. Here a list of their numbers gives the order.
use Rattle.std.specs.Prelude.{◌≡◌, ℕ, ◌<◌, true, ◌&&◌, List, [], ◌∷◌, length, slice_index_or, slice_set}
use Rattle.txc_txn.specs.declared.receipt.Receipt.{Receipt}
use Rattle.txc_txn.specs.Limits.{CheckedView}
use Rattle.txc_cmd_report.specs.declared.seat_end.SeatEnd.{SeatEnd}
use Rattle.txc_cmd_report.specs.declared.seat_end.SeatEnd.TheVariants.{Finished, Stalled, Stopped}
use Rattle.txc_cmd_report.specs.Outcome.{Outcome}
use Rattle.txc_cmd_replay.specs.Rounds.{Round, Turn, beginning, outcome_after, round_to, turn, untried}
use Rattle.txc_cmd_script.specs.Script.{Script}

-- the turn of the seat with this number, as in a round
abbrev pub turn_of : List (List CheckedView) → ℕ → Round → Turn
turn_of seats seat r = turn seat (slice_index_or seats seat []) r.chans (slice_index_or r.progress seat untried)

-- the round after a turn of this seat: channels, progress of the seats, and whether each turn so far committed
abbrev pub after_turn : ℕ → Round → Turn → Round
after_turn seat r t = round_to t.chans (slice_set r.progress seat t.seat_progress) (r.kept && t.kept)

-- the round after the seats have had their turns in this order
abbrev pub turns : List (List CheckedView) → List ℕ → Round → Round
turns seats [] r = r
turns seats (seat ∷ order) r = turns seats order (after_turn seat r (turn_of seats seat r))

-- a script after its last turn, if its seats have their turns in this order
abbrev pub last_turn : Script → List ℕ → Round
last_turn script order = turns script.seats order (beginning script)

-- the outcome of a script if its seats have these turns and these ends; the order lists only turns that commit
abbrev pub outcome_in_order : Script → List ℕ → List SeatEnd → Outcome
outcome_in_order script order ends = record (outcome_after script.decls (last_turn script order)) { ends = ends }

-- a possible end of a seat with these numbers of transactions and of commits: finished if and only if all committed
abbrev pub MayEnd : ℕ → ℕ → SeatEnd → Type 0
MayEnd all kept Finished = kept ≡ all
MayEnd all kept (Stalled cause) = kept < all
MayEnd all kept (Stopped stop) = kept < all

-- each seat with these receipts can have this end
abbrev pub MayAllEnd : List (List CheckedView) → List (List Receipt) → List SeatEnd → Type 0
MayAllEnd seats receipts ends = (n : ℕ) → n < length seats
    → MayEnd (length (slice_index_or seats n [])) (length (slice_index_or receipts n []))
    (slice_index_or ends n Finished)

-- an outcome is that of a script in some order, in which each turn commits a transaction
pub record IsOfSomeOrder (script : Script) (outcome : Outcome) : Type 0 where
  pub order : List ℕ
  pub kept : (last_turn script order).kept ≡ true
  pub same : outcome ≡ outcome_in_order script order outcome.ends
  pub ends : MayAllEnd script.seats outcome.receipts outcome.ends
