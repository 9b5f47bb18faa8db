-- A channel with its ledgers.
use Rattle.std.specs.Prelude.{◌≡◌, ℕ, ◌+◌, List, [], ◌∷◌, None, length, take}
use Rattle.txc_base.specs.declared.entry.Entry.{Entry}
use Rattle.txc_base.specs.declared.kind.Kind.TheVariants.{Queue}
use Rattle.txc_chan.specs.ChanView.{ChanView}
use Rattle.txc_chan.specs.Logged.{Logged, opened}
use Rattle.txc_table_line.specs.Marks.{AreMarks}
use Rattle.txc_table_line.specs.Stamps.{IsStamped}
use Rattle.txc_table_line.specs.declared.mark.Mark.{Mark}
use Rattle.txc_table_line.specs.Line.{LineId, LedgerSharesView}

-- a channel of a line, and the marks of the transactions that committed on it
pub record LineChanView : Type 0 where
  pub line : LineId
  pub held : ChanView
  pub marks : List Mark

-- the first ledger counts the entries that cannot be undone, whose stamps never fall and are at most the channel's; the
-- list is these entries; the second ledger counts the marks, which are those of the channel
pub record HasLedgers (l : Logged) (total : ℕ) (log : List Entry) (made : ℕ) (marks : List Mark) : Type 0 where
  pub counted : total + l.pending ≡ length l.log
  pub stamped : IsStamped l.stamp (take total l.log)
  pub list : log ≡ take total l.log
  pub marks_counted : made ≡ length marks
  pub marked : AreMarks l marks

-- these are shares without a part of the ledgers with these names, which have this number of parts
pub record HasEmptyShares (entries marks seats : ℕ) (shares : LedgerSharesView) : Type 0 where
  pub ledgers : shares.ledgers ≡ record { entries = entries; marks = marks; seats = seats }
  pub none : (shares.parts ≡ 0) × (shares.amount ≡ 0) × (shares.made ≡ 0)

-- the channel at a place that has none
abbrev pub no_channel : LineChanView
no_channel = record {
  line = record {
    decl = record { kind = Queue; bound = 0; readers = 0 };
    ledgers = record { entries = 0; marks = 0; seats = 0 };
    lists = record { log = 0; marks = 0 };
  };
  held = record { logged = opened (record { kind = Queue; bound = 0; readers = 0 }); slots = []; shelf = None };
  marks = [];
}

-- the value of a token
abbrev pub lent : List (ℕ × LineChanView) → LineChanView
lent [] = no_channel
lent (slot ∷ slots) = slot.1
