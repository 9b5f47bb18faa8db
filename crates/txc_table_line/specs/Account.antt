-- What is true of a snapshot of a channel.
use Rattle.std.specs.Prelude.{◌≡◌, ◌≤◌, ℕ, List, length}
use Rattle.txc_base.specs.declared.entry.Entry.{Entry}
use Rattle.txc_base.specs.InOrder.{written}
use Rattle.txc_chan.specs.declared.account.Account.{Account}
use Rattle.txc_chan.specs.declared.summary.Summary.{Summary}
use Rattle.txc_chan.specs.declared.decl.Decl.{Decl}
use Rattle.txc_chan.specs.Body.{slots_for}
use Rattle.txc_chan.specs.Chan.{ObeysLaws, account_of, summary_of}
use Rattle.txc_chan.specs.ChanView.{ChanView}
use Rattle.txc_chan.specs.Logged.{MatchesLog}
use Rattle.txc_table_line.specs.Stamps.{NeverFall}

-- a snapshot of a lawful channel with this declaration, whose log has at least this many entries
pub record IsAccount (decl : Decl) (amount : ℕ) (account : Account) : Type 0 where
  pub held : ChanView
  pub is : account ≡ account_of held
  pub lawful : MatchesLog held.logged
  pub declared : held.logged.decl ≡ decl
  pub long : amount ≤ length account.log
  pub laws : ObeysLaws decl.kind account.log account.remaining
  pub slots : length account.slots ≡ slots_for decl.kind (written account.log)
  pub stamps : NeverFall account.log

-- `snapshot` is what `of` gives for a lawful channel with this log, of at least this many entries
pub record IsSnapshotOf {T : Type 0} (of : ChanView → T) (decl : Decl) (amount : ℕ) (log : List Entry)
    (snapshot : T) : Type 0 where
  pub held : ChanView
  pub account : IsAccount decl amount (account_of held)
  pub log_is : held.logged.log ≡ log
  pub its : snapshot ≡ of held

-- a snapshot without a log, of such a channel
pub record IsSummary (decl : Decl) (amount : ℕ) (summary : Summary) : Type 0 where
  pub log : List Entry
  pub snapshot : IsSnapshotOf summary_of decl amount log summary
