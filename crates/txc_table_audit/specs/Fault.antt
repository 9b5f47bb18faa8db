-- The numbers of the faults.
use Rattle.std.specs.Prelude.{ℕ}
use Rattle.txc_table_audit.specs.declared.fault.AuditFault.{AuditFault}
use Rattle.txc_table_audit.specs.declared.fault.AuditFault.TheVariants.{WrongReply, WrongAccount, OutOfOrder, NoMemory}

-- the number of a fault
abbrev pub audit_fault_code : AuditFault → ℕ
audit_fault_code (WrongReply rank) = 1
audit_fault_code (WrongAccount chan) = 2
audit_fault_code (OutOfOrder seat) = 3
audit_fault_code NoMemory = 4
