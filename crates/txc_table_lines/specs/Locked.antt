-- The lines of a table that are all locked, and the shares of seats that are back.
use Rattle.std.specs.Prelude.{◌≡◌, ℕ, List, length, map, slice_index_or, All, Option, Some, None, [], ◌∷◌, ◌+◌}
use Rattle.std.specs.List.{AllZip}
use mathlib.Core.List.{IsPrefix}
use Rattle.txc_chan.specs.declared.decl.Decl.{Decl}
use Rattle.txc_chan.specs.ChanView.{ChanView}
use Rattle.txc_table_line.specs.Marks.{AreMarks}
use Rattle.txc_table_line.specs.Known.{IsKnown}
use Rattle.txc_table_line.specs.declared.mark.Mark.{Mark}
use Rattle.txc_table_line.specs.LineChan.{LineChanView, no_channel}
use Rattle.txc_table_line.specs.Line.{Books, LineId, LedgerSharesView}
use Rattle.txc_table_line.specs.SeatShare.{SeatShareView}

-- a channel is there
abbrev pub IsLineThere : Option LineChanView → Type 0
IsLineThere None = ⊥
IsLineThere (Some channel) = Unit {0}

-- the channel at a place
abbrev pub channel_at : List LineChanView → ℕ → LineChanView
channel_at channels n = slice_index_or channels n no_channel

-- the lines of these channels
abbrev pub lines_of : List LineChanView → List LineId
lines_of channels = map (λ channel. channel.line) channels

-- what is declared at these lines
abbrev pub line_decls_of : List LineChanView → List Decl
line_decls_of channels = map (λ channel. channel.line.decl) channels

-- these channels without their lines and marks
abbrev pub helds_of : List LineChanView → List ChanView
helds_of channels = map (λ channel. channel.held) channels

-- the marks of these channels
abbrev pub line_marks_of : List LineChanView → List (List Mark)
line_marks_of channels = map (λ channel. channel.marks) channels

-- the ledgers of these lines
abbrev pub ledgers_of : List LineId → List Books
ledgers_of lines = map (λ line. line.ledgers) lines

-- nothing in these channels can be undone
abbrev pub AreClean : List ChanView → Type 0
AreClean helds = All (λ held. held.logged.pending ≡ 0) helds

-- these are the marks of these channels
abbrev pub AllMarked : List ChanView → List (List Mark) → Type 0
AllMarked helds marks = AllZip (λ held ms. AreMarks held.logged ms) helds marks

-- each log is as long as this amount
abbrev pub LogsCount : List ChanView → List ℕ → Type 0
LogsCount helds amounts = AllZip (λ held amount. length held.logged.log ≡ amount) helds amounts

-- there are as many marks as each amount says
abbrev pub MarksCount : List (List Mark) → List ℕ → Type 0
MarksCount marks made = AllZip (λ ms amount. length ms ≡ amount) marks made

-- the channel of a line is as declared and true to its log, which begins with what a seat has seen of it and has at
-- least the entries that the seat has made; the marks begin with what the seat has seen of them
pub record IsLineSeen (share : SeatShareView) (channel : LineChanView) : Type 0 where
  pub known : IsKnown share.line.decl share.amount channel.held.logged
  pub since : IsPrefix share.log channel.held.logged.log
  pub marks : IsPrefix share.marks channel.marks

-- shares of some ledgers without a part
abbrev pub no_part : Books → LedgerSharesView
no_part ledgers = record { ledgers = ledgers; parts = 0; amount = 0; made = 0 }

-- shares of a line together with what one more seat has of it
abbrev pub with_share : LedgerSharesView → SeatShareView → LedgerSharesView
with_share line share = record {
  ledgers = line.ledgers;
  parts = line.parts + 1;
  amount = line.amount + share.amount;
  made = line.made + share.made;
}

-- shares of the lines together with what one more seat has of the first of them
abbrev pub with_shares : List LedgerSharesView → List SeatShareView → List LedgerSharesView
with_shares [] shares = []
with_shares (line ∷ lines) [] = line ∷ lines
with_shares (line ∷ lines) (share ∷ shares) = with_share line share ∷ with_shares lines shares

-- whose ledgers these are shares of
abbrev pub ledgers_in : List LedgerSharesView → List Books
ledgers_in shares = map (λ share. share.ledgers) shares

-- how much these shares count of each log
abbrev pub amounts_in : List LedgerSharesView → List ℕ
amounts_in shares = map (λ share. share.amount) shares

-- how many of the marks of each line these shares count
abbrev pub made_in : List LedgerSharesView → List ℕ
made_in shares = map (λ share. share.made) shares

-- each of these shares has this number of parts of each ledger
abbrev pub HaveParts : ℕ → List LedgerSharesView → Type 0
HaveParts n shares = All (λ share. share.parts ≡ n) shares

-- these are the shares of all seats
abbrev pub AreWhole : List LedgerSharesView → Type 0
AreWhole shares = All (λ share. share.parts ≡ share.ledgers.seats) shares

-- how many entries of each log a seat has made
abbrev pub amounts_of : List SeatShareView → List ℕ
amounts_of shares = map (λ share. share.amount) shares

-- how many of the marks of each line a seat has made
abbrev pub made_of : List SeatShareView → List ℕ
made_of shares = map (λ share. share.made) shares

-- the shares of the line with this number
abbrev pub collected_at : List LedgerSharesView → ℕ → LedgerSharesView
collected_at shares n = slice_index_or shares n (no_part no_channel.line.ledgers)

-- the log and the marks of a channel are as long as these shares count
pub record IsLineCounted (channel : LineChanView) (shares : LedgerSharesView) : Type 0 where
  pub log : length channel.held.logged.log ≡ shares.amount
  pub marks : length channel.marks ≡ shares.made
