-- The account of a channel with a recorded log.
use Rattle.std.specs.Prelude.{◌≡◌, ℕ, min, drop, take}
use Rattle.std.specs.Prelude.{Result, Ok, Err}
use Rattle.std.specs.Prelude.{List, [], ◌++◌, length, map, slice_index_or}
use Rattle.txc_base.specs.declared.act.Act.{Act}
use Rattle.txc_base.specs.declared.act.Act.TheVariants.{Wrote, Took, PutBack, Closed, Begun, Cloned}
use Rattle.txc_base.specs.declared.entry.Entry.{Entry}
use Rattle.txc_base.specs.declared.item.Item.{Item}
use Rattle.txc_base.specs.declared.origin.Origin.{Origin}
use Rattle.txc_base.specs.declared.origin.Origin.TheVariants.{Written, Back}
use Rattle.txc_base.specs.declared.tag.Tag.{Tag}
use Rattle.txc_chan.specs.declared.account.Account.{Account}
use Rattle.yalwythen_channel.specs.declared.account.Record.{Record}
use Rattle.yalwythen_channel.specs.declared.call_result.CallResult.{CallResult}
use Rattle.yalwythen_channel.specs.Opening.{rejected_for}

-- the number of an item among those that came into its channel as it did
abbrev pub origin_number : Origin → ℕ
origin_number (Written number) = number
origin_number (Back number) = number

-- how an item came into its channel: 0 if it was written, 1 if it was put back
abbrev pub origin_code : Origin → ℕ
origin_code (Written number) = 0
origin_code (Back number) = 1

-- a record of an act on an item
abbrev pub item_record : ℕ → Tag → Item → Record
item_record act tag item = record {
  stamp = tag.stamp;
  serial = tag.serial;
  number = origin_number item.origin;
  body = item.body;
  act = act;
  origin = origin_code item.origin;
  seat = tag.seat;
  maker = item.seat;
}

-- a record of an act on no item, with a number of its own
abbrev pub bare_record : ℕ → Tag → ℕ → Record
bare_record act tag number = record {
  stamp = tag.stamp;
  serial = tag.serial;
  number = number;
  body = 0;
  act = act;
  origin = 2;
  seat = tag.seat;
  maker = 0;
}

-- the record of an act: writes are 0, takes 1, put-backs 2, a closing 3, and new readers 4 and 5
abbrev pub act_record : Tag → Act → Record
act_record tag (Wrote item) = item_record 0 tag item
act_record tag (Took reader item) = item_record 1 tag item
act_record tag (PutBack reader item) = item_record 2 tag item
act_record tag Closed = bare_record 3 tag 0
act_record tag (Begun reader) = bare_record 4 tag reader
act_record tag (Cloned from reader) = bare_record 5 tag reader

-- the record of an entry
abbrev pub entry_record : Entry → Record
entry_record entry = act_record entry.tag entry.act

-- the record of an item that is left, which no transaction has taken
abbrev pub left_record : Item → Record
left_record item = item_record 6 (record { stamp = 0; serial = 0; seat = 0 }) item

-- what is left to the first reader, the only one that a queue has
abbrev pub left_in : Account → List Item
left_in account = slice_index_or account.remaining 0 []

-- the records of an account: its entries, and after them what is left
abbrev pub account_records : Account → List Record
account_records account = map entry_record account.log ++ map left_record (left_in account)

-- the result of reading an account, and the array after it: records from `from` on, as many as fit, or no change
abbrev pub HasRecords : Result Account ℕ → ℕ → List Record → List Record → CallResult → Type 0
HasRecords (Err reason) from old new response = (response ≡ rejected_for reason) × (new ≡ old)
HasRecords (Ok account) from old new response = let rest = drop from (account_records account) in
    (response ≡ record { code = 0; value = length (account_records account) })
    × (take (min (length rest) (length old)) new ≡ take (min (length rest) (length old)) rest)
