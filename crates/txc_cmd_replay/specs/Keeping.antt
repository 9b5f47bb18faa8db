-- What the code records from turn to turn, for its own contracts. The rounds do not use it.
use Rattle.std.specs.Prelude.{◌≡◌, ◌≢◌, Bool, true, false, Result, Ok, Err, [], ◌∷◌, ◌++◌}
use Rattle.txc_base.specs.declared.stop.Stop.{Stop}
use Rattle.txc_base.specs.declared.stop.Stop.TheVariants.{NoMemory}
use Rattle.txc_cmd_report.specs.declared.seat_end.SeatEnd.TheVariants.{Finished, Stalled, Stopped}
use Rattle.txc_txn.specs.declared.ran.Ran.{Ran}
use Rattle.txc_txn.specs.declared.ran.Ran.TheVariants.{Kept, Retry}
use Rattle.txc_cmd_replay.specs.Rounds.{SeatProgress}

-- a seat's progress after a try that ended so, and whether the try committed
abbrev pub IsNoted : SeatProgress → Result Ran Stop → SeatProgress → Bool → Type 0
IsNoted before (Ok (Kept receipt))
    after kept = (after ≡ record { receipts = before.receipts ++ receipt ∷ []; end = Finished }) × (kept ≡ true)
IsNoted before (Ok (Retry cause)) after kept = (after ≡ record { receipts = before.receipts; end = Stalled cause })
    × (kept ≡ false)
IsNoted before (Err stop) after kept = (after ≡ record { receipts = before.receipts; end = Stopped stop })
    × (kept ≡ false) × (stop ≢ NoMemory)
