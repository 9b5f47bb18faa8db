-- The ends of a script: what is seen once no seat can move.
use Rattle.std.specs.Prelude.{⊤, ◌≡◌, ◌≢◌, ◌⊎◌, ℕ, suc, ◌<◌, true, false, List, [], ◌∷◌, length, map, slice_index_or}
use Rattle.txc_base.specs.declared.limits.TheConstants.{GREATEST_NUMBER}
use Rattle.txc_base.specs.Channel.{Channel}
use Rattle.txc_chan.specs.declared.decl.Decl.{Decl}
use Rattle.txc_txn.specs.Maps.{Map}
use Rattle.txc_cmd_report.specs.declared.seat_end.SeatEnd.TheVariants.{Finished}
use Rattle.txc_cmd_replay.specs.Rounds.{Round, SeatProgress, last_round}
use Rattle.txc_cmd_script.specs.Script.{Script}
use Rattle.txc_cmd_explore.specs.declared.state.Shape.{Shape}
use Rattle.txc_cmd_explore.specs.declared.state.State.{State}
use Rattle.txc_cmd_explore.specs.declared.found_end.FoundEnd.{FoundEnd}
use Rattle.txc_cmd_explore.specs.Moves.{can_move, reached, turn_in}

-- what is seen of a channel: whether it is closed, and how many items each reader has left
abbrev pub shape_of : Channel → Shape
shape_of channel = record { closed = channel.closed; left = map (λ list. length list) channel.lists }

-- what is seen of the declared channels, from this number on
abbrev pub shapes_from : ℕ → List Decl → Map → List Shape
shapes_from chan [] m = []
shapes_from chan (decl ∷ decls) m = shape_of (m chan).channel ∷ shapes_from (suc chan) decls m

-- what is seen of a round: the channels, how many transactions each seat has committed, and which seats have stopped
abbrev pub state_of : List Decl → Round → State
state_of decls r = record {
  shapes = shapes_from 0 decls r.chans;
  commits = map (λ s. length s.receipts) r.progress;
  stops = map (λ s. s.end) r.progress;
}

-- the value is one of these
abbrev pub IsAmong : {X : Type 0} → List X → X → Type 0
IsAmong [] x = ⊥
IsAmong (y ∷ ys) x = (y ≡ x) ⊎ IsAmong ys x

-- an order of moves after which no seat can move
pub record IsEnd (script : Script) (order : List ℕ) : Type 0 where
  pub moved : (reached script order).kept ≡ true
  pub last : (seat : ℕ) → seat < length script.seats → can_move script.seats seat (reached script order) ≡ false

-- an end that was found is what is seen after an order: the same state, and the next turn of each seat ends so
pub record IsSeen (script : Script) (order : List ℕ) (end : FoundEnd) : Type 0 where
  pub state : state_of script.decls (reached script order) ≡ state_of script.decls (reached script end.order)
  pub many : length end.ends ≡ length script.seats
  pub each : (seat : ℕ) → seat < length script.seats
      → slice_index_or end.ends seat Finished ≡ (turn_in script.seats seat (reached script order)).seat_progress.end

-- of two ends that were found, the states are different
abbrev pub AreApart : Script → List FoundEnd → Type 0
AreApart script [] = ⊤
AreApart script (end ∷ ends) = ((other : FoundEnd) → IsAmong ends other
    → state_of script.decls (reached script end.order) ≢ state_of script.decls (reached script other.order))
    × AreApart script ends

-- the ends of all orders: each that was found is one, with its order, and each order's end was found. No order is as
-- long as the greatest number, since a script has fewer transactions
pub record IsExplored (script : Script) (found : List FoundEnd) : Type 0 where
  pub sound : (end : FoundEnd) → IsAmong found end → IsEnd script end.order × IsSeen script end.order end
  pub complete : (order : List ℕ) → length order < GREATEST_NUMBER → IsEnd script order
      → (end : FoundEnd) × (IsAmong found end × IsSeen script order end)
  pub once : AreApart script found

-- if an order ends, each seat has finished: none has stalled or was stopped
abbrev pub AllFinish : Script → Type 0
AllFinish script = (order : List ℕ) → length order < GREATEST_NUMBER → IsEnd script order → (seat : ℕ)
    → seat < length script.seats → (turn_in script.seats seat (reached script order)).seat_progress.end ≡ Finished

-- the replay of a script takes its turns in this order, except those that retry, and then no seat can move
pub record IsReplayed (script : Script) (order : List ℕ) : Type 0 where
  pub is_end : IsEnd script order
  pub chans : (reached script order).chans ≡ (last_round script).chans
  pub receipts : map (λ (s : SeatProgress). s.receipts) (reached script order).progress
      ≡ map (λ (s : SeatProgress). s.receipts) (last_round script).progress
  pub ends : (seat : ℕ) → seat < length script.seats
      → (turn_in script.seats seat (reached script order)).seat_progress.end
      ≡ slice_index_or (map (λ (s : SeatProgress). s.end) (last_round script).progress) seat Finished
