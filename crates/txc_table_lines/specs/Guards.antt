-- Lines that are locked, by their numbers.
use Rattle.std.specs.Prelude.{◌≡◌, ◌<◌, ℕ, suc, nat_eq, List, [], ◌∷◌, All}
use Rattle.std.specs.Prelude.{length, slice_set, slice_index_or, Option, Some, None, if◌then◌else◌}
use Rattle.std.specs.List.{AllZip}
use mathlib.Core.List.{IsPrefix}
use Rattle.txc_chan.specs.Body.{last_entries}
use Rattle.txc_chan.specs.Logged.{Logged}
use Rattle.txc_table_line.specs.Known.{IsKnown}
use Rattle.txc_txn.specs.Maps.{Map}
use Rattle.txc_table_line.specs.LineChan.{LineChanView, no_channel}
use Rattle.txc_table_line.specs.Line.{LineId}
use Rattle.txc_table_line.specs.SeatShare.{SeatShareView}
use Rattle.txc_table_lines.specs.Lines.{share_at}

-- the numbers of the lines that are locked, their channels, and what the seat has of all lines
pub record GuardsView : Type 0 where
  pub declared : List ℕ
  pub channels : List LineChanView
  pub known : List SeatShareView

-- what no operation changes: the numbers of the lines that are locked, and what the seat has of all lines
pub record Taken : Type 0 where
  pub declared : List ℕ
  pub known : List SeatShareView

-- the channel with a number, of lines with these numbers, and else the one that is known
abbrev pub chan_at : List ℕ → List LineChanView → Map → Map
chan_at [] channels known n = known n
chan_at (d ∷ ds) [] known n = known n
chan_at (d ∷ ds) (c ∷ cs) known n = if nat_eq n d then c.held.logged else chan_at ds cs known n

-- the channels that are known
abbrev pub known_of : List SeatShareView → Map
known_of shares n = (share_at shares n).known

-- the channels of all lines, some of them locked
abbrev pub chans_of : GuardsView → Map
chans_of locked = chan_at locked.declared locked.channels (known_of locked.known)

-- the first place of a number in a list
abbrev pub first_place_of : ℕ → List ℕ → ℕ
first_place_of n [] = 0
first_place_of n (d ∷ ds) = if nat_eq n d then 0 else suc (first_place_of n ds)

-- the channel of a guard
abbrev pub channel_in : Option LineChanView → LineChanView
channel_in None = no_channel
channel_in (Some channel) = channel

-- a line is locked by this guard
abbrev pub IsLocked : LineId → Option LineChanView → Type 0
IsLocked line None = ⊥
IsLocked line (Some channel) = channel.line ≡ line

-- the lines with these numbers are there, and are locked by these guards
abbrev pub AreLocked : List SeatShareView → List ℕ → List (Option LineChanView) → Type 0
AreLocked known declared guards = AllZip (λ n guard. (n < length known) × IsLocked (share_at known n).line guard)
    declared guards

-- a channel that was locked by a seat with this share of its line: nothing in it can be undone, it is as declared and
-- true to its log, and its log begins with what the seat has seen
pub record IsFound (share : SeatShareView) (channel : LineChanView) : Type 0 where
  pub line : channel.line ≡ share.line
  pub clean : channel.held.logged.pending ≡ 0
  pub known : IsKnown share.line.decl share.amount channel.held.logged
  pub since : IsPrefix share.log channel.held.logged.log

-- .. and is locked by this guard
abbrev pub IsTaken : SeatShareView → Option LineChanView → Type 0
IsTaken share None = ⊥
IsTaken share (Some channel) = IsFound share channel

-- the channels with these numbers were locked so
abbrev pub AreTaken : List SeatShareView → List ℕ → List (Option LineChanView) → Type 0
AreTaken shares declared guards = AllZip (λ n guard. IsTaken (share_at shares n) guard) declared guards

-- only the channel at this place changed, and is the channel of the same line
pub record ChangesAt (at : ℕ) (old new : GuardsView) : Type 0 where
  pub declared : new.declared ≡ old.declared
  pub known : new.known ≡ old.known
  pub channels : new.channels ≡ slice_set old.channels at (slice_index_or new.channels at no_channel)

-- a channel can be committed with this stamp: the entries that can be undone have the stamp, and the channel's is lower
pub record IsReady (stamp : ℕ) (l : Logged) : Type 0 where
  pub stamped : All (λ entry. entry.tag.stamp ≡ stamp) (last_entries l.pending l.log)
  pub later : l.stamp < stamp
