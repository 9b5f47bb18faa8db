use Rattle.std.proofs.Common.{◌++◌, ap, ◌∙◌}
use Rattle.txc_chan.specs.Flat.{flat}
use Rattle.txc_chan.proofs.ghost_list.GhostList.add.Goals as goal

pub returns : goal.returns
returns g c =
    ap flat c.of-3.ensures ∙ ap (λ past. flat past.value ++ c.of-2.result.value.items) c.of.ensures
    ∙ ap (λ more. flat c.self.inside.past.value ++ more.items) c.of-2.ensures
    ∙ ap (λ list. list ++ c.args.more.now.items) c.self.view_is
