use Rattle.std.proofs.Common.{◌++◌, ◌∷◌, [], ap, ◌∙◌}
use Rattle.txc_chan.specs.Flat.{flat}
use Rattle.txc_chan.proofs.ghost_list.GhostList.push.Goals as goal

pub returns : goal.returns
returns g c =
    ap flat c.of-3.ensures ∙ ap (λ past. flat past.value ++ c.of-2.result.value ∷ []) c.of.ensures
    ∙ ap (λ one. flat c.self.inside.past.value ++ one ∷ []) c.of-2.ensures
    ∙ ap (λ list. list ++ c.args.one.now ∷ []) c.self.view_is
