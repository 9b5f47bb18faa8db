-- The lines of a table by their numbers, and what a seat has of them.
use Rattle.std.specs.Prelude.{◌<◌, ℕ, List, [], length, map, slice_index_or}
use mathlib.Core.List.{IsPrefix}
use Rattle.txc_chan.specs.Logged.{opened}
use Rattle.txc_txn.specs.Maps.{Map}
use Rattle.txc_table_line.specs.LineChan.{no_channel}
use Rattle.txc_table_line.specs.Line.{LineId}
use Rattle.txc_table_line.specs.SeatShare.{IsValidShare, SeatShareView}

-- the share of a line that does not exist
abbrev pub no_share : SeatShareView
no_share = record {
  line = no_channel.line;
  amount = 0;
  log = [];
  made = 0;
  marks = [];
  known = no_channel.held.logged;
}

-- what a new seat has of a new line
abbrev pub fresh_share : LineId → SeatShareView
fresh_share line = record { line = line; amount = 0; log = []; made = 0; marks = []; known = opened line.decl }

-- the share of the line with this number
abbrev pub share_at : List SeatShareView → ℕ → SeatShareView
share_at shares n = slice_index_or shares n no_share

-- the lines that these are shares of
abbrev pub line_ids : List SeatShareView → List LineId
line_ids shares = map (λ share. share.line) shares

-- each of these shares is a true one
abbrev pub AreValidShares : List SeatShareView → Type 0
AreValidShares shares = (n : ℕ) → n < length shares → IsValidShare (share_at shares n)

-- the log of each channel begins with what was seen of it
abbrev pub AreSince : List SeatShareView → Map → Type 0
AreSince shares m = (n : ℕ) → IsPrefix (share_at shares n).log (m n).log

-- what was seen of each log begins with what had been seen of it
abbrev pub OnlyGrew : List SeatShareView → List SeatShareView → Type 0
OnlyGrew before after = (n : ℕ) → IsPrefix (share_at before n).log (share_at after n).log
