-- The channels of a transaction in a contract.
use Rattle.std.specs.Prelude.{ℕ, Bool, List, length, nat_lt, Option, Some, None, if◌then◌else◌, slice_get}
use Rattle.txc_base.specs.declared.item.Item.{Item}
use Rattle.txc_base.specs.declared.kind.Kind.{Kind}
use Rattle.txc_chan.specs.ChanView.{ChanView}
use Rattle.txc_txn.specs.declared.open_savepoint.OpenSavepoint.{OpenSavepoint}
use Rattle.txc_txn.specs.declared.open_transaction.OpenTransaction.{OpenTransaction}
use Rattle.txc_txn.specs.Plain.{chan_in}

-- the channels that a transaction has, their kinds, and the transaction that is open on them, with its savepoints
pub record TxnChannels : Type 0 where
  pub held : List ChanView
  pub kinds : List Kind
  pub txn : OpenTransaction
  pub savepoints : List OpenSavepoint

-- how many acts were done on a channel, if it is there
abbrev pub count_at : TxnChannels → ℕ → Option ℕ
count_at channels chan =
    if nat_lt chan (length channels.kinds) then Some (length (chan_in channels.held chan).log) else None

-- whether a channel is closed, if it is there
abbrev pub is_closed_at : TxnChannels → ℕ → Option Bool
is_closed_at channels chan =
    if nat_lt chan (length channels.kinds) then Some (chan_in channels.held chan).channel.closed else None

-- how many items a list has, if it is there
abbrev pub list_length : Option (List Item) → Option ℕ
list_length (Some items) = Some (length items)
list_length None = None

-- how many items a reader of a channel has to read, if both are there
abbrev pub length_at : TxnChannels → ℕ → ℕ → Option ℕ
length_at channels chan reader = if nat_lt chan (length channels.kinds)
    then list_length (slice_get (chan_in channels.held chan).channel.lists reader) else None

-- how many readers a channel has, if it is there
abbrev pub readers_at : TxnChannels → ℕ → Option ℕ
readers_at channels chan =
    if nat_lt chan (length channels.kinds) then Some (length (chan_in channels.held chan).channel.lists) else None
