-- What the code keeps of an order while it explores.
use Rattle.std.specs.Prelude.{◌≡◌, ℕ, ◌<◌, true, false, Bool, Option, Some, None, List, [], ◌∷◌, ◌++◌, length, slice_index_or}
use Rattle.txc_chan.specs.Decls.{kinds_in}
use Rattle.txc_txn.specs.Plain.{chan_in}
use Rattle.txc_cmd_report.specs.declared.seat_end.SeatEnd.{SeatEnd}
use Rattle.txc_cmd_report.specs.declared.seat_end.SeatEnd.TheVariants.{Finished}
use Rattle.txc_cmd_replay.specs.Rounds.{round_to}
use Rattle.txc_cmd_script.specs.Script.{Script}
use Rattle.txc_cmd_explore.specs.declared.follow.Reached.{Reached}
use Rattle.txc_cmd_explore.specs.Ends.{IsAmong}
use Rattle.txc_cmd_explore.specs.Moves.{can_move, reached, turn_in}

-- a value has what an order of moves comes to
pub record IsReached (script : Script) (order : List ℕ) (at : Reached) : Type 0 where
  pub kinds : at.channels.kinds ≡ kinds_in script.decls
  pub many : length at.progress.items ≡ length script.seats
  pub round : round_to (chan_in at.channels.held) at.progress.items true ≡ reached script order

-- what an order comes to; none if a turn of it is no move
abbrev pub IsFollowed : Script → List ℕ → Option Reached → Type 0
IsFollowed script order None = (reached script order).kept ≡ false
IsFollowed script order (Some at) = IsReached script order at

-- after the first seats have tried a turn: those that can move are next in what waits
pub record HaveTried (script : Script) (order : List ℕ) (tried : ℕ) (before waiting : List (List ℕ))
    (ends : List SeatEnd) (any : Bool) : Type 0 where
  pub more : (o : List ℕ) → IsAmong before o → IsAmong waiting o
  pub next : (seat : ℕ) → seat < tried → can_move script.seats seat (reached script order) ≡ true
      → IsAmong waiting (order ++ seat ∷ [])
  pub some : any ≡ true → (seat : ℕ) × ((seat < tried) × (can_move script.seats seat (reached script order) ≡ true))
  pub none : any ≡ false → (seat : ℕ) → seat < tried → can_move script.seats seat (reached script order) ≡ false
  pub many : length ends ≡ tried
  pub each : (seat : ℕ) → seat < tried
      → slice_index_or ends seat Finished ≡ (turn_in script.seats seat (reached script order)).seat_progress.end
