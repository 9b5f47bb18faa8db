-- Which line a value is of.
use Rattle.std.specs.Prelude.{ℕ, List, slice_index_or}
use Rattle.txc_base.specs.declared.kind.Kind.TheVariants.{Queue}
use Rattle.txc_chan.specs.declared.decl.Decl.{Decl}

-- the names of a line's two ledgers, and how many parts each of them has: one for each seat of the table
pub record Books : Type 0 where
  pub entries : ℕ
  pub marks : ℕ
  pub seats : ℕ

-- the names of the two lists of a line that only grow: its log, and its marks
pub record LineLists : Type 0 where
  pub log : ℕ
  pub marks : ℕ

-- a line: what is declared there, and the names of its ledgers and lists, which no other line has
pub record LineId : Type 0 where
  pub decl : Decl
  pub ledgers : Books
  pub lists : LineLists

-- shares of the ledgers of a line: how many parts of each, how many entries they count, and how many marks
pub record LedgerSharesView : Type 0 where
  pub ledgers : Books
  pub parts : ℕ
  pub amount : ℕ
  pub made : ℕ

-- the value for a line past the last one
abbrev pub no_line : Decl
no_line = record { kind = Queue; bound = 0; readers = 0 }

-- the declaration of a line
abbrev pub decl_at : List Decl → ℕ → Decl
decl_at lines n = slice_index_or lines n no_line
