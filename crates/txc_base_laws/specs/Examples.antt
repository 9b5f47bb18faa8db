-- Short names for the examples of logs.
use Rattle.std.specs.Prelude.{◌≡◌, ℕ, Option, Some, option_map, List, ◌++◌, drop}
use Rattle.txc_base.specs.declared.act.Act.{Act}
use Rattle.txc_base.specs.declared.entry.Entry.{Entry}
use Rattle.txc_base.specs.declared.item.Item.{Item}
use Rattle.txc_base.specs.declared.kind.Kind.{Kind}
use Rattle.txc_base.specs.declared.tag.Tag.{Tag}
use Rattle.txc_base.specs.Channel.{opening}
use Rattle.txc_base.specs.InOrder.{written, taken, strike, began}
use Rattle.txc_base.specs.Log.{state, entries}

-- a transaction of a seat
abbrev pub by : ℕ → ℕ → Tag
by seat stamp = record { seat = seat; serial = 0; stamp = stamp }

-- a log of acts by seat 0
abbrev pub logged : List Act → List Entry
logged acts = entries (by 0 1) acts

-- the lists of a channel after such a log; `None` if an entry was not lawful
abbrev pub left : Kind → ℕ → ℕ → List Act → Option (List (List Item))
left kind bound readers acts = option_map (λ channel. channel.lists)
    (state (Some (opening kind bound readers)) (logged acts))

-- a reader with this remaining list took or has exactly these written items, which were due to it
abbrev pub GetsItsDue : List Act → ℕ → List Item → List Item → Type 0
GetsItsDue acts reader list items =
    (strike (taken reader (logged acts) ++ list) ≡ items)
    × (drop (began (logged acts) reader) (written (logged acts)) ≡ items)
