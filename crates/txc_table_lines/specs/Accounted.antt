-- The accounts of the lines of a table, with and without their logs.
use Rattle.std.specs.Prelude.{◌≡◌, ℕ, zero, suc, List, [], ◌∷◌, length, map, Some, slice_get, slice_index_or}
use Rattle.txc_base.specs.declared.entry.Entry.{Entry}
use Rattle.txc_chan.specs.declared.account.Account.{Account}
use Rattle.txc_chan.specs.declared.summary.Summary.{Summary}
use Rattle.txc_chan.specs.declared.decl.Decl.{Decl}
use Rattle.txc_chan.specs.Chan.{account_of}
use Rattle.txc_chan.specs.ChanView.{ChanView}
use Rattle.txc_table_line.specs.Account.{IsAccount}
use Rattle.txc_table_line.specs.Line.{decl_at}
use Rattle.txc_txn.specs.Plain.{missing}

-- the account of one of these channels
abbrev pub IsAccountAt : List Decl → List ChanView → ℕ → Account → Type 0
IsAccountAt lines helds chan account = let held = slice_index_or helds chan missing in
    IsAccount (decl_at lines chan) (length held.logged.log) account × (account ≡ account_of held)

-- the accounts of the first of these channels
pub record AreAccounts (lines : List Decl) (helds : List ChanView) (count : ℕ) (accounts : List Account) : Type 0 where
  pub many : length accounts ≡ count
  pub each : (chan : ℕ) (account : Account) → slice_get accounts chan ≡ Some account
      → IsAccountAt lines helds chan account

-- these accounts, each with the log of the channel at its place
abbrev pub with_logs : List Account → List ChanView → List Account
with_logs accounts [] = accounts
with_logs [] (held ∷ helds) = []
with_logs (account ∷ accounts) (held ∷ helds) = record account { log = held.logged.log } ∷ with_logs accounts helds

-- these accounts, with this log in the one at this place, if there is one
abbrev pub with_log_at : List Account → ℕ → List Entry → List Account
with_log_at [] n log = []
with_log_at (account ∷ accounts) zero log = record account { log = log } ∷ accounts
with_log_at (account ∷ accounts) (suc n) log = account ∷ with_log_at accounts n log

-- this is what a function gives for one of these channels, whose account is a lawful one
abbrev pub IsSnapshotAt : {T : Type 0} → (ChanView → T) → List Decl → List ChanView → ℕ → T → Type 0
IsSnapshotAt of lines helds chan snapshot = let held = slice_index_or helds chan missing in
    IsAccount (decl_at lines chan) (length held.logged.log) (account_of held) × (snapshot ≡ of held)

-- what an account tells without its log
abbrev pub summary_in : Account → Summary
summary_in account = record {
  kind = account.kind;
  bound = account.bound;
  closed = account.closed;
  log_len = length account.log;
  remaining = account.remaining;
}

-- these are the accounts of the first of these channels, without their logs
pub record AreSummaries (lines : List Decl) (helds : List ChanView) (count : ℕ) (summaries : List Summary) : Type 0
  where
    pub accounts : List Account
    pub are : AreAccounts lines helds count accounts
    pub summarized : summaries ≡ map summary_in accounts
