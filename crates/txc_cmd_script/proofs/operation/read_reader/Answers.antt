use Rattle.txc_cmd_script.proofs.PartLemmas.{by_reader-first}
use Rattle.txc_cmd_script.proofs.operation.read_reader.Goals as goal

pub returns-in_ok-number-in-len1 : goal.returns-in_ok-number-in-len1
returns-in_ok-number-in-len1 c =
    by_reader-first c.args.operands.now c.chan-item.result c.in_ok-number-in-len1.field-0 c.in-len1.len_at_least
    c.in-len1.len_below c.chan-item.is c.in_ok-number-in-len1.ensures
