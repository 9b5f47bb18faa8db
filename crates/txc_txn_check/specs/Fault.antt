-- The numbers of the faults, and their texts.
use Rattle.std.specs.Prelude.{ℕ, List, codes}
use Rattle.txc_txn_check.specs.declared.fault.TxnFault.{TxnFault}
use Rattle.txc_txn_check.specs.declared.fault.TxnFault.TheVariants.{NoChannel, NotForKind, NoReader, TooManyChannels}
use Rattle.txc_txn_check.specs.declared.fault.TxnFault.TheVariants.{TooDeep, TooLong, NoMemory}

-- the number of a fault
abbrev pub txn_fault_code : TxnFault → ℕ
txn_fault_code NoChannel = 1
txn_fault_code NotForKind = 2
txn_fault_code NoReader = 3
txn_fault_code TooManyChannels = 4
txn_fault_code TooDeep = 5
txn_fault_code TooLong = 6
txn_fault_code NoMemory = 7

-- the text of a fault
abbrev pub txn_fault_text : TxnFault → List ℕ
txn_fault_text NoChannel = codes "no channel"
txn_fault_text NotForKind = codes "not for kind"
txn_fault_text NoReader = codes "no reader"
txn_fault_text TooManyChannels = codes "too many channels"
txn_fault_text TooDeep = codes "too deep"
txn_fault_text TooLong = codes "too long"
txn_fault_text NoMemory = codes "no memory"
