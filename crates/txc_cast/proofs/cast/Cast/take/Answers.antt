use Rattle.std.proofs.Common.{sym, ap, ◌∙◌, Ok, arith}
use Rattle.std.specs.Arc.{arc_value}
use Rattle.txc_cast.proofs.Readers.{finds, takes_none, takes_empty}
use Rattle.txc_cast.proofs.Calls.{takes, is_placed}
use Rattle.txc_cast.proofs.cast.Cast.take.Goals as goal

pub returns-in_err-item-clause-taken : goal.returns-in_err-item-clause-taken
returns-in_err-item-clause-taken c = takes_none _ _ c.in_err-item.field-0.0 c.in_err-item.ensures

pub index_mut-requires : goal.index_mut-requires
index_mut-requires c =
    let within = finds (arc_value c.self.inside.items) c.self.inside.tokens.items c.self.inside.cursors.items
    c.args.self.now c.args.reader
    c.in_ok-item.field-0 c.self.view_is c.in_ok-item.ensures in
    omega arith

pub step-requires : goal.step-requires
step-requires c =
    let inside = c.self.inside in
    let within = finds (arc_value inside.items) inside.tokens.items inside.cursors.items c.args.self.now c.args.reader
    c.in_ok-item.field-0 c.self.view_is c.in_ok-item.ensures in
    let placed = is_placed (arc_value inside.items) inside.tokens.items inside.cursors.items c.args.reader
    c.index_mut.result.now c.self.invariant within c.index_mut.ensures.value in
    omega (arith, inside.tokens.ok, inside.tokens.small)

pub invariant_of-self : goal.invariant_of-self
invariant_of-self c =
    let inside = c.self.inside in
    (takes (arc_value inside.items) inside.tokens.items inside.cursors.items c.args.self.now c.args.reader
    c.in-Some.item c.index_mut.result.now c.step.new.self
    c.self.invariant c.self.view_is c.index_mut.ensures.value (sym (ap Ok c.in-Some.is) ∙ c.in_ok-item.ensures)
    c.step.ensures).0

pub returns-clause-taken : goal.returns-clause-taken
returns-clause-taken c =
    let inside = c.self.inside in
    (takes (arc_value inside.items) inside.tokens.items inside.cursors.items c.args.self.now c.args.reader
    c.in-Some.item c.index_mut.result.now c.step.new.self
    c.self.invariant c.self.view_is c.index_mut.ensures.value (sym (ap Ok c.in-Some.is) ∙ c.in_ok-item.ensures)
    c.step.ensures).1

pub returns-in_default-clause-taken : goal.returns-in_default-clause-taken
returns-in_default-clause-taken c = takes_empty _ _ (sym (ap Ok c.in_default.is) ∙ c.in_ok-item.ensures)
