-- What is true of a channel whose lock was held.
use Rattle.std.specs.Prelude.{◌≡◌, ℕ, ◌≤◌, length}
use Rattle.txc_chan.specs.declared.decl.Decl.{Decl}
use Rattle.txc_chan.specs.Logged.{Logged, MatchesLog}

-- a lawful channel with this declaration and at least this many entries, in which nothing can be undone
pub record IsKnown (decl : Decl) (amount : ℕ) (l : Logged) : Type 0 where
  pub lawful : MatchesLog l
  pub declared : l.decl ≡ decl
  pub clean : l.pending ≡ 0
  pub long : amount ≤ length l.log
