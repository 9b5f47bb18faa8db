-- The last try of a transaction that can wait.
use Rattle.txc_table.specs.declared.tried.Ended.{Ended}
use Rattle.txc_table.specs.declared.tried.Ended.TheVariants.{Kept, Stalled}
use Rattle.txc_table.specs.declared.tried.Tried.{Tried}

-- the last try of a transaction that ended like this
abbrev pub as_tried : Ended → Tried
as_tried (Kept number) = Tried.Kept number
as_tried (Stalled cause) = Tried.Retry cause
