-- A script: its channels, and the transactions of each seat.
use Rattle.txc_chan.specs.Decls.{kinds_in}
use Rattle.std.specs.Prelude.{◌≡◌, ℕ, ◌≤◌, None, List, length, slice_get, All}
use Rattle.txc_base.specs.declared.limits.TheConstants.{MAX_CHANNELS, MAX_SEATS}
use Rattle.txc_chan.specs.declared.decl.Decl.{Decl}
use Rattle.txc_txn_check.specs.Limits.{CheckedView}
use Rattle.txc_chan.specs.Limits.{first_fault}
use Rattle.txc_txn_check.specs.Steps.{Fits}

-- the declarations of the channels, and the transactions of each seat, in order
pub record Script : Type 0 where
  pub decls : List Decl
  pub seats : List (List CheckedView)

-- the maximum number of channels of a script
abbrev pub max_channels : ℕ
max_channels = MAX_CHANNELS

-- the maximum number of seats of a script
abbrev pub max_seats : ℕ
max_seats = MAX_SEATS

-- within the limits: every channel can be made, and every transaction fits the channels
pub record IsSound (script : Script) : Type 0 where
  pub few : length script.decls ≤ max_channels
  pub made : first_fault script.decls ≡ None
  pub some : 1 ≤ length script.seats
  pub seated : length script.seats ≤ max_seats
  pub fits : All (All (λ plan. Fits (slice_get (kinds_in script.decls)) plan.steps)) script.seats
