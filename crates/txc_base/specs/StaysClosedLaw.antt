-- A closed channel takes nothing more.
use Rattle.std.specs.Prelude.{◌≡◌, Bool, true, false, List, ◌∷◌, ◌++◌}
use Rattle.std.specs.List.{list_any}
use Rattle.txc_base.specs.declared.act.Act.{Act}
use Rattle.txc_base.specs.declared.act.Act.TheVariants.{Wrote, PutBack, Closed}
use Rattle.txc_base.specs.declared.entry.Entry.{Entry}
use Rattle.txc_base.specs.declared.tag.Tag.{Tag}

-- a test: the act needs an open channel (stm-chans; the put-back is this project's)
abbrev pub needs_open : Act → Bool
needs_open (Wrote item) = true
needs_open (PutBack reader item) = true
needs_open Closed = true
needs_open act = false

-- nothing was written, put back or closed after a closing (stm-chans)
abbrev pub StaysClosed : List Entry → Type 0
StaysClosed log = (before since : List Entry) (tag : Tag) → log ≡ before ++ record { tag = tag; act = Closed } ∷ since
    → list_any (λ entry. needs_open entry.act) since ≡ false
