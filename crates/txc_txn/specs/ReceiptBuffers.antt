-- The lists of a receipt.
use Rattle.std.specs.Prelude.{List}
use Rattle.txc_base.specs.declared.reply.Reply.{Reply}
use Rattle.txc_txn.specs.declared.deed.Deed.{Deed}

-- the replies and the acts of a receipt
pub record Lists : Type 0 where
  pub replies : List Reply
  pub acts : List Deed
