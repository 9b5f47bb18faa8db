use Rattle.std.proofs.Common.{◌∙◌}
use Rattle.std.specs.Arc.{arc_value}
use Rattle.txc_cast.proofs.Tokens.{many_items, many_slots}
use Rattle.txc_cast.proofs.cast.Cast.written.Goals as goal

pub returns-clause-items : goal.returns-clause-items
returns-clause-items c =
    let inside = c.self.inside in
    many_items (arc_value inside.items) inside.tokens.items inside.cursors.items c.args.self.now c.len.result
    c.self.view_is (c.len.ensures ∙ inside.tokens.ok.0)

pub returns-clause-slots : goal.returns-clause-slots
returns-clause-slots c =
    let inside = c.self.inside in
    many_slots (arc_value inside.items) inside.tokens.items inside.cursors.items c.args.self.now c.len.result
    c.self.view_is (c.len.ensures ∙ inside.tokens.ok.0)
