-- The result of a read of a typed channel.
use Rattle.std.specs.Prelude.{◌≡◌, Bool, true, false, Option, Some, None, List, [], ◌∷◌}
use Rattle.txc_base.specs.declared.item.Item.{Item}
use Rattle.txc_base.specs.declared.reply.Reply.{Reply}
use Rattle.txc_base.specs.declared.reply.Reply.TheVariants as reply
use Rattle.yalwythen_work.specs.declared.read_outcome.ReadOutcome.{ReadOutcome}
use Rattle.yalwythen_work.specs.declared.read_outcome.ReadOutcome.TheVariants.{Value, Opened, Closed}

module _ {V : Type 0} where
  -- the value that was read, if any
  abbrev pub value_in : ReadOutcome V → Option V
  value_in (Value value) = Some value
  value_in Opened = None
  value_in Closed = None

  -- whether the result is the end of the channel
  abbrev pub is_end : ReadOutcome V → Bool
  is_end (Value value) = false
  is_end Opened = false
  is_end Closed = true

-- these replies are those of a read that got an item
abbrev pub IsOfItem : List Reply → Type 0
IsOfItem replies = (item : Item) × (replies ≡ reply.Got item ∷ [])

-- these replies are those of a read that found the channel closed, or got an item, as the flag says
abbrev pub IsOfRead : Bool → List Reply → Type 0
IsOfRead false replies = IsOfItem replies
IsOfRead true replies = replies ≡ reply.Closed ∷ []
