-- The places of the transactions of seats in the histories of channels.
use Rattle.std.specs.Prelude.{◌≡◌, ℕ, ◌≤◌, Bool, true, nat_eq, Option, Some, None, List, [], ◌∷◌, ◌++◌, length, map}
use Rattle.std.specs.Prelude.{take}
use Rattle.std.specs.List.{list_any}
use Rattle.txc_base.specs.declared.entry.Entry.{Entry}
use Rattle.txc_base.specs.declared.tag.Tag.{Tag}
use Rattle.txc_base.specs.Channel.{Channel, opening}
use Rattle.txc_base.specs.Log.{state}
use Rattle.txc_chan.specs.declared.decl.Decl.{Decl}
use Rattle.txc_chan.specs.Logged.{Logged, MatchesLog}
use Rattle.txc_txn_check.specs.Steps.{NamesOnly}
use Rattle.txc_txn.specs.Maps.{Map, settle_all}
use Rattle.txc_txn.specs.Run.{receipt_of}
use Rattle.txc_txn.specs.Transaction.{State, Ending, Kept, Again, Aborted, kept_tag, transaction}
use Rattle.txc_base_ghost.specs.Last.{last_from}
use Rattle.txc_txn_history.specs.Events.{Event, asked}

-- a test: this number is one of these
abbrev pub is_among : List ℕ → ℕ → Bool
is_among numbers n = list_any (nat_eq n) numbers

-- two maps have the same channels at the declared numbers
abbrev pub SameOn : List ℕ → Map → Map → Type 0
SameOn declared m n = (c : ℕ) → is_among declared c ≡ true → m c ≡ n c

-- the channels after an ending, with the changes of a commit settled
abbrev pub left_by : Ending → Map → ℕ → List ℕ → Map
left_by (Kept s) m stamp declared = settle_all s.chans stamp declared
left_by (Again cause) m stamp declared = m
left_by (Aborted stop) m stamp declared = m

-- on these channels the transaction of an event commits and gives its receipt
pub record Gives (event : Event) (m : Map) : Type 0 where
  pub state : State
  pub kept : transaction m (asked event) event.plan.declared event.plan.steps ≡ Kept state
  pub gives : event.receipt ≡ receipt_of (kept_tag m (asked event) event.plan.declared) state

-- the channels that the transaction of an event leaves
abbrev pub leaves : Event → Map → Map
leaves event m = left_by (transaction m (asked event) event.plan.declared event.plan.steps) m event.receipt.tag.stamp
    event.plan.declared

-- this channel if there is one, otherwise the default
abbrev pub channel_or : Channel → Option Channel → Channel
channel_or c None = c
channel_or c (Some channel) = channel

-- the channel that a log leaves of what was declared
abbrev pub channel_after : Decl → List Entry → Channel
channel_after decl log = let c = opening decl.kind decl.bound decl.readers in channel_or c (state (Some c) log)

module _ {T : Type 0} (tag_of : T → Tag) (len_of : T → ℕ) where
  -- the stamp of the last of these marks, and the length of the log at that mark
  abbrev pub last_stamp : List T → ℕ
  last_stamp marks = last_from 0 (map (λ t. (tag_of t).stamp) marks)

  abbrev pub last_len : List T → ℕ
  last_len marks = last_from 0 (map len_of marks)

  -- a channel with this declaration at the time of these marks; its log is the part of this log up to the last mark
  abbrev pub stood : Decl → List Entry → List T → Logged
  stood decl log marks = record {
    decl = decl;
    channel = channel_after decl (take (last_len marks) log);
    log = take (last_len marks) log;
    pending = 0;
    stamp = last_stamp marks;
  }

  -- a commit is placed among the marks of a channel: it found the channel in the state after the marks before its own,
  -- and left it in the state after its own mark
  pub record StandsIn (decl : Decl) (log : List Entry) (marks : List T) (tag : Tag) (found left : Logged) : Type 0 where
    pub before : List T
    pub mark : T
    pub later : List T
    pub here : marks ≡ before ++ mark ∷ later
    pub its : tag_of mark ≡ tag
    pub long : last_len before ≤ len_of mark
    pub within : len_of mark ≤ length log
    pub found_is : found ≡ stood decl log before
    pub left_is : left ≡ stood decl log (before ++ mark ∷ [])

  -- the transaction of an event gave its receipt on channels that it declares, and is placed among the marks of each
  pub record IsPlacedIn (decl : ℕ → Decl) (logs : ℕ → List Entry) (marks : ℕ → List T) (event : Event) : Type 0 where
    pub channels : Map
    pub names : NamesOnly event.plan.declared event.plan.steps
    pub gave : Gives event channels
    pub at : (c : ℕ) → is_among event.plan.declared c ≡ true
        → StandsIn (decl c) (logs c) (marks c) event.receipt.tag (channels c) (leaves event channels c)

  -- how a committed transaction found and left a declared channel: it matches its log both times and was as declared
  -- when found; the earlier marks have the stamp and the log length found, and one more mark is at the end of the log
  -- that was left, which is then seen
  pub record IsFound (decl : Decl) (log : List Entry) (marks : List T) (tag : Tag) (found left : Logged) : Type 0 where
    pub lawful : MatchesLog found
    pub lawful_left : MatchesLog left
    pub declared : found.decl ≡ decl
    pub clean : found.pending ≡ 0
    pub before : List T
    pub mark : T
    pub now : marks ≡ before ++ mark ∷ []
    pub its : tag_of mark ≡ tag
    pub stamp : last_stamp before ≡ found.stamp
    pub len : last_len before ≡ length found.log
    pub whole : len_of mark ≡ length left.log
    pub seen : log ≡ left.log
