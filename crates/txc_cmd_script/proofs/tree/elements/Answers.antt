use Rattle.txc_cmd_script.proofs.TreeLemmas.{option_map-listed}
use Rattle.txc_cmd_script.proofs.tree.elements.Goals as goal

pub returns : goal.returns
returns c = option_map-listed _ (λ list. list.now.items) _ c.as_array.ensures
