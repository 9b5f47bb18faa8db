-- The numbers of the faults, and their texts.
use Rattle.std.specs.Prelude.{ℕ, List, ◌++◌, codes}
use Rattle.std.specs.Fmt.{decimal}
use Rattle.txc_txn_check.specs.Fault.{txn_fault_text}
use Rattle.txc_cmd_script.specs.declared.fault.ScriptFault.{ScriptFault}
use Rattle.txc_cmd_script.specs.declared.fault.ScriptFault.TheVariants.{ReadFailed, TooLarge, NotJson, Shape, Version}
use Rattle.txc_cmd_script.specs.declared.fault.ScriptFault.TheVariants.{TooManyChannels, BadSeatCount, BoundTooLarge}
use Rattle.txc_cmd_script.specs.declared.fault.ScriptFault.TheVariants.{TooManyReaders, UnknownOp, Txn, NoMemory}

-- the number of a fault
abbrev pub script_fault_code : ScriptFault → ℕ
script_fault_code ReadFailed = 1
script_fault_code TooLarge = 2
script_fault_code NotJson = 3
script_fault_code Shape = 4
script_fault_code Version = 5
script_fault_code TooManyChannels = 6
script_fault_code BadSeatCount = 7
script_fault_code (BoundTooLarge chan) = 8
script_fault_code (TooManyReaders chan) = 9
script_fault_code (UnknownOp seat txn) = 10
script_fault_code (Txn seat txn fault) = 11
script_fault_code NoMemory = 12

-- the text of a fault
abbrev pub script_fault_text : ScriptFault → List ℕ
script_fault_text ReadFailed = codes "read failed"
script_fault_text TooLarge = codes "script too large"
script_fault_text NotJson = codes "not JSON"
script_fault_text Shape = codes "shape"
script_fault_text Version = codes "version"
script_fault_text TooManyChannels = codes "too many channels"
script_fault_text BadSeatCount = codes "bad seat count"
script_fault_text (BoundTooLarge chan) = codes "channel " ++ decimal chan ++ codes ": bound too large"
script_fault_text (TooManyReaders chan) = codes "channel " ++ decimal chan ++ codes ": too many readers"
script_fault_text (UnknownOp seat txn) = codes "seat " ++ decimal seat ++ codes " txn " ++ decimal txn
    ++ codes ": unknown operation"
script_fault_text (Txn seat txn fault) = codes "seat " ++ decimal seat ++ codes " txn " ++ decimal txn ++ codes ": "
    ++ txn_fault_text fault
script_fault_text NoMemory = codes "no memory"
