-- The outcome of a script that runs in rounds.
use Rattle.txc_txn.specs.Opening.{opening_map}
use Rattle.std.specs.Prelude.{ℕ, zero, suc, ◌+◌, Bool, true, false, ◌||◌, Option, Some, None, List, [], ◌∷◌, ◌++◌, map}
use Rattle.std.specs.Prelude.{length, slice_get, if◌then◌else◌}
use Rattle.txc_base.specs.declared.kind.Kind.{Kind}
use Rattle.txc_base.specs.declared.tag.Tag.{Tag}
use Rattle.txc_chan.specs.declared.account.Account.{Account}
use Rattle.txc_chan.specs.declared.decl.Decl.{Decl}
use Rattle.txc_chan.specs.ChanView.{ChanView}
use Rattle.txc_txn.specs.declared.receipt.Receipt.{Receipt}
use Rattle.txc_txn.specs.Limits.{CheckedView}
use Rattle.txc_txn.specs.Maps.{Map, settle_all}
use Rattle.txc_txn.specs.Run.{receipt_of}
use Rattle.txc_txn.specs.Transaction.{Ending as Tried, Kept, Again, Aborted, kept_tag, transaction}
use Rattle.txc_cmd_report.specs.declared.seat_end.SeatEnd.{SeatEnd}
use Rattle.txc_cmd_report.specs.declared.seat_end.SeatEnd.TheVariants.{Finished, Stalled, Stopped}
use Rattle.txc_cmd_report.specs.Outcome.{Outcome, account_in}
use Rattle.txc_cmd_script.specs.Script.{Script}

-- the channels of a script, and their kinds by their numbers
pub record ChannelsWithKinds : Type 0 where
  pub held : List ChanView
  pub kinds : List Kind

-- the progress of a seat: the receipts of its committed transactions, and how its last try ended; a committed try, or
-- none yet, counts as finished
pub record SeatProgress : Type 0 where
  pub receipts : List Receipt
  pub end : SeatEnd

-- a seat that has tried nothing
abbrev pub untried : SeatProgress
untried = record { receipts = []; end = Finished }

-- the stamp of the last receipt, or 0 if there is none
abbrev pub last_stamp : List Receipt → ℕ
last_stamp [] = 0
last_stamp (receipt ∷ []) = receipt.tag.stamp
last_stamp (receipt ∷ next ∷ receipts) = last_stamp (next ∷ receipts)

-- the tag of a seat's next transaction
abbrev pub tag_after : ℕ → List Receipt → Tag
tag_after seat receipts = record { seat = seat; serial = length receipts; stamp = last_stamp receipts }

-- the channels and a seat's progress after its turn, and whether a transaction was committed in it
pub record Turn : Type 0 where
  pub chans : Map
  pub seat_progress : SeatProgress
  pub kept : Bool

-- a turn in which nothing is tried
abbrev pub idle : Map → SeatProgress → Turn
idle m s = record { chans = m; seat_progress = s; kept = false }

-- after a try with this tag: a commit settles the channels and leaves a receipt; a retry or a stop leaves only how the
-- try ended
abbrev pub after_try : Map → SeatProgress → Tag → List ℕ → Tried → Turn
after_try m s tag declared (Kept state) = record {
  chans = settle_all state.chans tag.stamp declared;
  seat_progress = record { receipts = s.receipts ++ receipt_of tag state ∷ []; end = Finished };
  kept = true;
}
after_try m s tag declared (Again cause) = idle m (record { receipts = s.receipts; end = Stalled cause })
after_try m s tag declared (Aborted stop) = idle m (record { receipts = s.receipts; end = Stopped stop })

-- a try of a transaction by this seat (stm; the tag is this project's)
abbrev pub try : ℕ → CheckedView → Map → SeatProgress → Turn
try seat plan m s =
    after_try m s (kept_tag m (tag_after seat s.receipts) plan.declared) plan.declared
    (transaction m (tag_after seat s.receipts) plan.declared plan.steps)

-- a try of a transaction, if there is one
abbrev pub try_next : ℕ → Option CheckedView → Map → SeatProgress → Turn
try_next seat None m s = idle m s
try_next seat (Some plan) m s = try seat plan m s

-- the transaction that a seat tries next: the one after its committed transactions, unless the seat has stopped
abbrev pub next_plan : List CheckedView → ℕ → SeatEnd → Option CheckedView
next_plan plans kept (Stopped stop) = None
next_plan plans kept Finished = slice_get plans kept
next_plan plans kept (Stalled cause) = slice_get plans kept

-- a seat's turn: it tries its next transaction
abbrev pub turn : ℕ → List CheckedView → Map → SeatProgress → Turn
turn seat plans m s = try_next seat (next_plan plans (length s.receipts) s.end) m s

-- a turn that leaves these channels and this progress
abbrev pub turn_to : Map → SeatProgress → Bool → Turn
turn_to m s kept = record { chans = m; seat_progress = s; kept = kept }

-- the channels and the progress of the seats after a round, and whether a transaction was committed in it
pub record Round : Type 0 where
  pub chans : Map
  pub progress : List SeatProgress
  pub kept : Bool

-- a round that leaves these channels and this progress
abbrev pub round_to : Map → List SeatProgress → Bool → Round
round_to m progress kept = record { chans = m; progress = progress; kept = kept }

-- a turn, before the rest of the round
abbrev pub with_turn : Turn → (Map → Round) → Round
with_turn t rest = record {
  chans = (rest t.chans).chans;
  progress = t.seat_progress ∷ (rest t.chans).progress;
  kept = t.kept || (rest t.chans).kept;
}

-- a round: the seats have their turns in the order of their numbers, from this one on
abbrev pub round_from : ℕ → List (List CheckedView) → List SeatProgress → Map → Round
round_from seat [] progress m = record { chans = m; progress = progress; kept = false }
round_from seat (plans ∷ seats) [] m = record { chans = m; progress = []; kept = false }
round_from seat (plans ∷ seats) (s ∷ progress) m = with_turn (turn seat plans m s)
    (round_from (suc seat) seats progress)

-- rounds up to the first in which nothing was committed, but at most this number of rounds
abbrev pub rounds_within : ℕ → List (List CheckedView) → Round → Round
rounds_within zero seats r = r
rounds_within (suc n) seats r = if r.kept then rounds_within n seats (round_from 0 seats r.progress r.chans) else r

-- the number of transactions of all seats
abbrev pub transaction_count : List (List CheckedView) → ℕ
transaction_count [] = 0
transaction_count (plans ∷ seats) = length plans + transaction_count seats

-- a script before its first round, which is always run
abbrev pub beginning : Script → Round
beginning script = record {
  chans = opening_map script.decls;
  progress = map (λ plans. untried) script.seats;
  kept = true;
}

-- a script after its last round: each round except the last commits a transaction, so there is at most one round more
-- than there are transactions
abbrev pub last_round : Script → Round
last_round script = rounds_within (suc (transaction_count script.seats)) script.seats (beginning script)

-- the accounts of the declared channels, from this number on
abbrev pub accounts_from : ℕ → List Decl → Map → List Account
accounts_from chan [] m = []
accounts_from chan (decl ∷ decls) m = account_in (m chan) ∷ accounts_from (suc chan) decls m

-- the outcome of these declared channels and seats after a round
abbrev pub outcome_after : List Decl → Round → Outcome
outcome_after decls r = record {
  accounts = accounts_from 0 decls r.chans;
  receipts = map (λ s. s.receipts) r.progress;
  ends = map (λ s. s.end) r.progress;
}

-- the outcome of a script: in each round the seats, in the order of their numbers, try their next transactions once,
-- and a round in which nothing was committed is the last
unfoldable pub rounds : Script → Outcome
rounds script = outcome_after script.decls (last_round script)
