use Rattle.std.proofs.Common.{◌≡◌, ap, ◌∙◌, List, [], ◌∷◌, ◌++◌}
use Rattle.boxcar.specs.Table.{Where}
use Rattle.txc_base.specs.declared.item.Item.{Item}
use Rattle.txc_cast.specs.Kept.{broadcast}
use Rattle.txc_cast.specs.Broadcast.{appended}
use Rattle.std.specs.Arc.{arc_value}
use Rattle.txc_cast.proofs.Appends.{grows}
use Rattle.txc_cast.proofs.cast.Cast.append.Goals as goal

pub returns-clause-ok : goal.returns-clause-ok
returns-clause-ok g c =
    let inside = c.self.inside in
    let token = c.in-Ok.token in
    let item : token.value ≡ c.args.item = c.in-Ok.ensures.0.1 in (
      token.index,
      rw (← c.self.view_is)
          (grows (arc_value inside.items) inside.tokens.items _ inside.cursors.items token c.self.invariant.placed
          (c.push_reserved.ensures.items
          ∙ ap (λ (list : List (Where Item)). list ++ token ∷ []) c.reserve.ensures.items)
          ∙ ap (λ value. appended (broadcast (arc_value inside.items) inside.tokens.items inside.cursors.items) value
          token.index) item),
    )
