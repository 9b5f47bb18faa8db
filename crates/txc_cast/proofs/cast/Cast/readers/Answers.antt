use Rattle.std.proofs.Common.{◌∙◌, arith}
use Rattle.std.specs.Arc.{arc_value}
use Rattle.txc_cast.proofs.Tokens.{many_readers}
use Rattle.txc_cast.proofs.cast.Cast.readers.Goals as goal

pub overflow_cast-result : goal.overflow_cast-result
overflow_cast-result c =
    let few = c.self.invariant.few in
    let many = c.len.ensures ∙ c.self.inside.cursors.ok.0 in
    omega arith

pub returns-clause-value : goal.returns-clause-value
returns-clause-value c =
    let inside = c.self.inside in
    many_readers (arc_value inside.items) inside.tokens.items inside.cursors.items c.args.self.now c.len.result
    c.self.view_is (c.len.ensures ∙ inside.cursors.ok.0)

pub returns-clause-few : goal.returns-clause-few
returns-clause-few c =
    let few = c.self.invariant.few in
    let many = c.len.ensures ∙ c.self.inside.cursors.ok.0 in
    omega arith
