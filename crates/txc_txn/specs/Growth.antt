-- How the logs of channels grow in a run, and the marks for undoing that.
use Rattle.std.specs.Prelude.{◌≡◌, ℕ, ◌+◌, List, ◌++◌, map, length, All, Contains}
use Rattle.txc_base.specs.declared.act.Act.{Act}
use Rattle.txc_base.specs.declared.tag.Tag.{Tag}
use Rattle.txc_base.specs.Log.{entries}
use Rattle.txc_chan.specs.Logged.{Logged, MatchesLog}
use Rattle.txc_txn.specs.Maps.{Map}

-- a channel with more entries, all under one tag, which can be undone
pub record Grows (tag : Tag) (before after : Logged) : Type 0 where
  pub acts : List Act
  pub log : after.log ≡ before.log ++ entries tag acts
  pub pending : after.pending ≡ before.pending + length acts
  pub stamp : after.stamp ≡ before.stamp
  pub decl : after.decl ≡ before.decl

-- every channel has more such entries, or is the same
abbrev pub AllGrow : Tag → Map → Map → Type 0
AllGrow tag before after = (n : ℕ) → Grows tag (before n) (after n)

-- the channels that are not declared are the same
abbrev pub SameOutside : List ℕ → Map → Map → Type 0
SameOutside declared before after = (n : ℕ) → ¬ Contains declared n → after n ≡ before n

-- how many entries of each of these channels can be undone
abbrev pub marks_of : Map → List ℕ → List ℕ
marks_of m declared = map (λ n. (m n).pending) declared

-- these marks are of an earlier map, and since then only the declared channels have grown
pub record IsMarked (tag : Tag) (declared marks : List ℕ) (before now : Map) : Type 0 where
  pub made : marks ≡ marks_of before declared
  pub lawful : All (λ n. MatchesLog (before n)) declared
  pub others : SameOutside declared before now
  pub grows : AllGrow tag before now
