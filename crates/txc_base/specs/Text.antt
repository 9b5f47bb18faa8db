-- The texts of items, replies, causes, stops and operations, as reports and scripts have them.
use Rattle.std.specs.Prelude.{ℕ, true, false, List, ◌++◌, codes, [], Option, Some, None}
use Rattle.std.specs.Fmt.{decimal}
use Rattle.std.specs.List.{flat_map}
use Rattle.txc_base.specs.declared.cause.Cause.{Cause}
use Rattle.txc_base.specs.declared.cause.Cause.TheVariants as cause
use Rattle.txc_base.specs.declared.item.Item.{Item}
use Rattle.txc_base.specs.declared.op.Op.{Op}
use Rattle.txc_base.specs.declared.origin.Origin.{Origin}
use Rattle.txc_base.specs.declared.origin.Origin.TheVariants.{Written, Back}
use Rattle.txc_base.specs.declared.reply.Reply.{Reply}
use Rattle.txc_base.specs.declared.reply.Reply.TheVariants.{Done, Got, Full, Empty, Closed, Flag, Reader, Count, All}
use Rattle.txc_base.specs.declared.source.Source.{Source}
use Rattle.txc_base.specs.declared.source.Source.TheVariants.{Lit, Last}
use Rattle.txc_base.specs.declared.stop.Stop.{Stop}
use Rattle.txc_base.specs.declared.stop.Stop.TheVariants as stop
use Rattle.txc_base.specs.Op.{chan_of, reader_of, source_of, word_of}

-- a number among the items written, or among those put back
abbrev pub origin_text : Origin → List ℕ
origin_text (Written number) = codes "w" ++ decimal number
origin_text (Back number) = codes "b" ++ decimal number

-- an item: its origin, its seat and its body
abbrev pub item_text : Item → List ℕ
item_text item = origin_text item.origin ++ codes "@" ++ decimal item.seat ++ codes "=" ++ decimal item.body

-- each item after a space
abbrev pub items_text : List Item → List ℕ
items_text items = flat_map (λ item. codes " " ++ item_text item) items

-- a reply
abbrev pub reply_text : Reply → List ℕ
reply_text Done = codes "done"
reply_text (Got item) = codes "got " ++ item_text item
reply_text Full = codes "full"
reply_text Empty = codes "empty"
reply_text Closed = codes "closed"
reply_text (Flag true) = codes "true"
reply_text (Flag false) = codes "false"
reply_text (Reader number) = codes "reader " ++ decimal number
reply_text (Count number) = codes "count " ++ decimal number
reply_text (All items) = codes "all" ++ items_text items

-- why a transaction waits
abbrev pub cause_text : Cause → List ℕ
cause_text cause.Full = codes "full"
cause_text cause.Empty = codes "empty"
cause_text cause.Asked = codes "asked"

-- why a transaction aborts
abbrev pub stop_text : Stop → List ℕ
stop_text stop.NoReader = codes "no-reader"
stop_text stop.NothingRead = codes "nothing-read"
stop_text stop.TooManyReaders = codes "too-many-readers"
stop_text stop.Worn = codes "worn"
stop_text stop.NoMemory = codes "no memory"

-- the body of a new item, as a script has it
abbrev pub source_text : Source → List ℕ
source_text (Lit body) = decimal body
source_text Last = codes "\"last\""

-- a reader and a body, if there are any, each after a comma
abbrev pub further_elements : Option ℕ → Option Source → List ℕ
further_elements None None = []
further_elements (Some reader) None = codes "," ++ decimal reader
further_elements None (Some body) = codes "," ++ source_text body
further_elements (Some reader) (Some body) = codes "," ++ decimal reader ++ codes "," ++ source_text body

-- an operation, as a script has it, with its reader even if a script may omit it
abbrev pub op_text : Op → List ℕ
op_text op = codes "[\"" ++ word_of op ++ codes "\"," ++ decimal (chan_of op)
    ++ further_elements (reader_of op) (source_of op) ++ codes "]"
