use Rattle.serde_json.specs.View.{view}
use Rattle.txc_cmd_script.proofs.PartLemmas.{source_in-last}
use Rattle.txc_cmd_script.proofs.operation.source.Goals as goal

pub returns-in-None : goal.returns-in-None
returns-in-None c = source_in-last (view c.args.tree.now) c.in-None.ensures c.if-says.ensures
