-- The log of a channel: its lawful entries, and the channel after them.
use Rattle.std.specs.Prelude.{◌≡◌, ℕ, Bool, true, false, not, ◌&&◌, ◌==◌, nat_lt, Option, Some, None, List, [], ◌∷◌}
use Rattle.std.specs.Prelude.{length, drop, map, if◌then◌else◌}
use Rattle.std.specs.Option.{option_and_then}
use Rattle.txc_base.specs.declared.act.Act.{Act}
use Rattle.txc_base.specs.declared.act.Act.TheVariants.{Wrote, Took, PutBack, Closed, Begun, Cloned}
use Rattle.txc_base.specs.declared.entry.Entry.{Entry}
use Rattle.txc_base.specs.declared.item.Item.{Item}
use Rattle.txc_base.specs.declared.kind.Kind.{Kind}
use Rattle.txc_base.specs.declared.origin.Origin.{Origin}
use Rattle.txc_base.specs.declared.origin.Origin.TheVariants.{Written, Back}
use Rattle.txc_base.specs.declared.tag.Tag.{Tag}
use Rattle.txc_base.specs.Channel.{Channel, opening, list_of}
use Rattle.txc_base.specs.declared.limits.TheConstants.{MAX_READERS}
use Rattle.txc_base.specs.Kinds.{is_bounded, is_broadcast, is_closable}
use Rattle.txc_base.specs.Operation.{is_full, is_plain_bounded, next_written, next_back, with_written, with_left}
use Rattle.txc_base.specs.Operation.{with_back, with_reader}

-- a test: the origins are equal
abbrev pub origin_eq : Origin → Origin → Bool
origin_eq (Written m) (Written n) = m == n
origin_eq (Back m) (Back n) = m == n
origin_eq one other = false

-- a test: the items have the same origin, seat and body
abbrev pub item_eq : Item → Item → Bool
item_eq one other = origin_eq one.origin other.origin && (one.seat == other.seat && one.body == other.body)

-- a test: a list begins with an item
abbrev pub begins_with : List Item → Item → Bool
begins_with [] item = false
begins_with (first ∷ rest) item = item_eq first item

-- a test: the item is the next one that this seat writes, whatever its body
abbrev pub is_next_written : Channel → ℕ → Item → Bool
is_next_written channel seat item = item_eq item (next_written channel seat item.body)

-- a test: the item is the next one that this seat puts back, whatever its body
abbrev pub is_next_back : Channel → ℕ → Item → Bool
is_next_back channel seat item = item_eq item (next_back channel seat item.body)

-- a test: a write can proceed: the channel has no bound, or is below it (stm, stm-chans)
abbrev pub takes_write : Channel → Bool
takes_write channel = not (is_bounded channel.kind && is_full channel)

-- a test: a put-back can proceed, unless a TBQueue is at its bound (stm; for a TBMQueue, this project's)
abbrev pub takes_back : Channel → Bool
takes_back channel = not (is_plain_bounded channel.kind && is_full channel)

-- a test: a broadcast channel may have one more reader, and it gets this number (stm; the limit is this project's)
abbrev pub is_next_reader : Channel → ℕ → Bool
is_next_reader channel reader = is_broadcast channel.kind &&
    (reader == length channel.lists && nat_lt (length channel.lists) MAX_READERS)

-- this channel, if the test holds
abbrev pub provided : Bool → Channel → Option Channel
provided test channel = if test then Some channel else None

-- the channel that `next` makes of the list of a reader; none if there is no such reader
abbrev pub at_list : Channel → ℕ → (List Item → Option Channel) → Option Channel
at_list channel reader next = option_and_then next (list_of channel reader)

-- the channel after an act by a seat; none if the act is not lawful (stm, stm-chans)
abbrev pub after_act : Channel → ℕ → Act → Option Channel
after_act c seat (Wrote item) = provided (not c.closed && (takes_write c && is_next_written c seat item))
    (with_written c item)
after_act c seat (Took reader item) = at_list c reader
    (λ list. provided (begins_with list item) (with_left c reader (drop 1 list)))
after_act c seat (PutBack reader item) = at_list c reader
    (λ list. provided (not c.closed && (takes_back c && is_next_back c seat item)) (with_back c reader list item))
after_act c seat Closed = provided (is_closable c.kind && not c.closed) (record c { closed = true })
after_act c seat (Begun reader) = provided (is_next_reader c reader) (with_reader c [])
after_act c seat (Cloned source reader) = at_list c source
    (λ list. provided (is_next_reader c reader) (with_reader c list))

-- the channel after an entry; none if the entry is not lawful (stm, stm-chans)
abbrev pub after : Channel → Entry → Option Channel
after channel entry = after_act channel entry.tag.seat entry.act

-- the channel after an entry; none if there was none, or if the entry is not lawful
abbrev pub step : Option Channel → Entry → Option Channel
step None entry = None
step (Some channel) entry = after channel entry

-- the channel after a log; none if an entry is not lawful in its turn
abbrev pub state : Option Channel → List Entry → Option Channel
state channel [] = channel
state channel (entry ∷ log) = state (step channel entry) log

-- this log leads to this channel from the one that opens with this kind, bound and readers
abbrev pub IsTrueTo : Kind → ℕ → ℕ → List Entry → Channel → Type 0
IsTrueTo kind bound readers log channel = state (Some (opening kind bound readers)) log ≡ Some channel

-- the entries of acts under one tag, in order
abbrev pub entries : Tag → List Act → List Entry
entries tag acts = map (λ act. record { tag = tag; act = act }) acts
