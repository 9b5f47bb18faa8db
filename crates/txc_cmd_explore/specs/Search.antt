-- A search over the orders of a script, between two visits.
use Rattle.std.specs.Prelude.{◌≡◌, ◌⊎◌, ℕ, ◌<◌, true, List, [], ◌∷◌, ◌++◌, length}
use Rattle.txc_base.specs.declared.limits.TheConstants.{GREATEST_NUMBER}
use Rattle.txc_cmd_script.specs.Script.{Script}
use Rattle.txc_cmd_explore.specs.declared.state.State.{State}
use Rattle.txc_cmd_explore.specs.declared.found_end.FoundEnd.{FoundEnd}
use Rattle.txc_cmd_explore.specs.Ends.{AreApart, IsAmong, IsEnd, IsSeen, state_of}
use Rattle.txc_cmd_explore.specs.Moves.{reached}

-- an order of moves waits to be visited, or its state was seen
abbrev pub Owed : Script → List State → List (List ℕ) → List ℕ → Type 0
Owed script seen waiting order = (reached script order).kept ≡ true
    → IsAmong waiting order ⊎ IsAmong seen (state_of script.decls (reached script order))

-- a state that was visited: of an order that leads there, each next move is owed, and the end was found
pub record IsVisited (script : Script) (seen : List State) (waiting : List (List ℕ)) (found : List FoundEnd)
    (state : State) : Type 0 where
  pub order : List ℕ
  pub short : length order < GREATEST_NUMBER
  pub moved : (reached script order).kept ≡ true
  pub at : state ≡ state_of script.decls (reached script order)
  pub next : (seat : ℕ) → seat < length script.seats → Owed script seen waiting (order ++ seat ∷ [])
  pub ended : IsEnd script order → (end : FoundEnd) × (IsAmong found end × IsSeen script order end)

-- what was seen was visited, what is owed waits, and what was found are ends
pub record IsSearch (script : Script) (seen : List State) (waiting : List (List ℕ)) (found : List FoundEnd)
    : Type 0 where
  pub first : Owed script seen waiting []
  pub visited : (state : State) → IsAmong seen state → IsVisited script seen waiting found state
  pub sound : (end : FoundEnd) → IsAmong found end → IsEnd script end.order × IsSeen script end.order end
  pub within : (end : FoundEnd) → IsAmong found end
      → IsAmong seen (state_of script.decls (reached script end.order))
  pub once : AreApart script found
