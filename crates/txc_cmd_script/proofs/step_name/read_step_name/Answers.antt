-- A text that is a step name's name is read by computing with it.
use Rattle.std.proofs.Common.{sym, ap}
use Rattle.txc_cmd_script.specs.Operations.{step_name_of}
use Rattle.txc_cmd_script.proofs.step_name.read_step_name.Goals as goal

pub returns-in-write : goal.returns-in-write
returns-in-write c = sym (ap step_name_of c.in-write.is)

pub returns-in-text : goal.returns-in-text
returns-in-text c = sym (ap step_name_of c.in-text.is)

pub returns-in-read : goal.returns-in-read
returns-in-read c = sym (ap step_name_of c.in-read.is)

pub returns-in-text-2 : goal.returns-in-text-2
returns-in-text-2 c = sym (ap step_name_of c.in-text-2.is)

pub returns-in-peek : goal.returns-in-peek
returns-in-peek c = sym (ap step_name_of c.in-peek.is)

pub returns-in-text-3 : goal.returns-in-text-3
returns-in-text-3 c = sym (ap step_name_of c.in-text-3.is)

pub returns-in-text-4 : goal.returns-in-text-4
returns-in-text-4 c = sym (ap step_name_of c.in-text-4.is)

pub returns-in-close : goal.returns-in-close
returns-in-close c = sym (ap step_name_of c.in-close.is)

pub returns-in-text-5 : goal.returns-in-text-5
returns-in-text-5 c = sym (ap step_name_of c.in-text-5.is)

pub returns-in-text-6 : goal.returns-in-text-6
returns-in-text-6 c = sym (ap step_name_of c.in-text-6.is)

pub returns-in-text-7 : goal.returns-in-text-7
returns-in-text-7 c = sym (ap step_name_of c.in-text-7.is)

pub returns-in-dup : goal.returns-in-dup
returns-in-dup c = sym (ap step_name_of c.in-dup.is)

pub returns-in-clone : goal.returns-in-clone
returns-in-clone c = sym (ap step_name_of c.in-clone.is)

pub returns-in-flush : goal.returns-in-flush
returns-in-flush c = sym (ap step_name_of c.in-flush.is)

pub returns-in-length : goal.returns-in-length
returns-in-length c = sym (ap step_name_of c.in-length.is)

pub returns-in-or : goal.returns-in-or
returns-in-or c = sym (ap step_name_of c.in-or.is)

pub returns-in-retry : goal.returns-in-retry
returns-in-retry c = sym (ap step_name_of c.in-retry.is)
