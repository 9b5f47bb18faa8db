use Rattle.std.proofs.Common.{arith}
use Rattle.std.specs.Arc.{arc_value}
use Rattle.txc_cast.proofs.Appends.{unappends, some_token}
use Rattle.txc_cast.proofs.Undone.{undoes_append}
use Rattle.txc_cast.proofs.cast.Cast.undo_append.Goals as goal

pub invariant_of-self : goal.invariant_of-self
invariant_of-self c =
    let inside = c.self.inside in
    let some = c.pop.ensures.variant.1
    (let many = some_token (arc_value inside.items) inside.tokens.items inside.cursors.items c.args.self.now
    c.self.view_is c.requires in omega arith) in
    (unappends (arc_value inside.items) inside.tokens.items c.pop.new.self.items inside.cursors.items c.pop.result
    c.args.self.now some c.pop.ensures.items c.self.invariant c.self.view_is c.requires).0

pub returns : goal.returns
returns c =
    let inside = c.self.inside in
    let some = c.pop.ensures.variant.1
    (let many = some_token (arc_value inside.items) inside.tokens.items inside.cursors.items c.args.self.now
    c.self.view_is c.requires in omega arith) in
    let value = (unappends (arc_value inside.items) inside.tokens.items c.pop.new.self.items inside.cursors.items
    c.pop.result c.args.self.now some c.pop.ensures.items c.self.invariant c.self.view_is c.requires).1 in
    record { value = value; undone = undoes_append _ _ value }
