use Rattle.txc_table_interests.proofs.Missing.{no_lost_wakeup}
use Rattle.txc_table_interests.proofs.Waiting.{still_waits, only_those_wait}
use Rattle.txc_table_interests.proofs.law.no_lost_wakeup.Goals as goal

pub returns : goal.returns
returns c = record { awaits = only_those_wait; still = still_waits; missed = no_lost_wakeup }
