use Rattle.std.proofs.Common.{◌≡◌}
use Rattle.serde_json.specs.View.{view}
use Rattle.txc_base.specs.declared.kind.Kind.TheVariants.{Queue}
use Rattle.txc_cmd_script.specs.Reading.{plain_decl, declared_in}
use Rattle.txc_cmd_script.proofs.PartLemmas.{declared_in-kind}
use Rattle.txc_cmd_script.proofs.channel.read_declared.Goals as goal

pub returns-in-Queue : goal.returns-in-Queue
returns-in-Queue c =
    let tree = view c.args.tree.now in
    let plain : declared_in tree ≡ plain_decl Queue tree =
    declared_in-kind tree c.in_ok-text_at.field-0.now c.in_ok-read_kind.field-0 Queue c.in_ok-text_at.ensures
    c.in_ok-read_kind.ensures c.in-Queue.is in
    cc
