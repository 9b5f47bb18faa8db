-- The outcome of a script.
use Rattle.std.specs.Prelude.{◌≡◌, ◌≢◌, List, [], None, map, length, All}
use Rattle.txc_base.specs.declared.stop.Stop.TheVariants.{NoMemory}
use Rattle.txc_chan.specs.declared.account.Account.{Account}
use Rattle.txc_chan.specs.Chan.{account_of}
use Rattle.txc_chan.specs.Logged.{Logged}
use Rattle.txc_txn.specs.declared.receipt.Receipt.{Receipt}
use Rattle.txc_cmd_report.specs.declared.outcome.Outcome.{Outcome as Ran}
use Rattle.txc_cmd_report.specs.declared.seat_end.SeatEnd.{SeatEnd}
use Rattle.txc_cmd_report.specs.declared.seat_end.SeatEnd.TheVariants.{Stopped}

-- the channels, the receipts of each seat, and how each seat ended. No account has its slots, since no definition
-- states which slot an item gets
pub record Outcome : Type 0 where
  pub accounts : List Account
  pub receipts : List (List Receipt)
  pub ends : List SeatEnd

-- a channel with its log, as an account without slots
abbrev pub account_in : Logged → Account
account_in logged = account_of (record { logged = logged; slots = []; shelf = None })

-- an account without its slots
abbrev pub without_slots : Account → Account
without_slots account = record account { slots = [] }

-- the outcome that a value represents
abbrev pub outcome_of : Ran → Outcome
outcome_of ran = record {
  accounts = map without_slots ran.report.accounts;
  receipts = ran.report.receipts;
  ends = ran.ends;
}

-- one end for each seat's receipts, and no end that is a failed allocation
pub record IsComplete (ran : Ran) : Type 0 where
  pub each : length ran.ends ≡ length ran.report.receipts
  pub known : All (λ end. end ≢ Stopped NoMemory) ran.ends
