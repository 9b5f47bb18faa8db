use Rattle.std.proofs.Common.{◌∙◌, ◌≤◌, arith}
use Rattle.std.specs.Arc.{arc_value}
use Rattle.txc_base.specs.declared.limits.TheConstants.{MAX_READERS}
use Rattle.txc_cast.proofs.Refused.{no_memory, same_fault, opens, opens_more, empty, opened}
use Rattle.txc_cast.proofs.cast.Cast.new.Goals as goal

pub returns-in_err-shelf-clause-refused : goal.returns-in_err-shelf-clause-refused
returns-in_err-shelf-clause-refused c =
    let is = c.from_residual.ensures in
    no_memory _ is.0 is.1 ∙ opens c.args.readers (omega arith)

pub returns-in_err-try_clone-clause-refused : goal.returns-in_err-try_clone-clause-refused
returns-in_err-try_clone-clause-refused c =
    let is = c.from_residual-in_err-try_clone.ensures in
    no_memory _ is.0 is.1 ∙ opens c.args.readers (omega arith)

pub loop-init : goal.loop-init
loop-init c =
    empty (arc_value c.shelf.inside.items) (arc_value c.in_ok-try_clone.field-0) c.new-2.result.items
    c.new-3.result.items c.in_ok-try_clone.ensures c.new-2.ensures.items c.new-3.ensures.items

pub returns-in_err-dup-clause-refused : goal.returns-in_err-dup-clause-refused
returns-in_err-dup-clause-refused c =
    let is = c.from_residual-in_err-dup.ensures in
    let few : c.args.readers ≤ MAX_READERS = omega arith in
    same_fault _ c.in_err-dup.field-0.0 is.0 is.1 ∙ c.in_err-dup.ensures.refused
    ∙ opens_more c.args.readers c.loop.counter (arc_value c.shelf.inside.items) c.loop.cast c.loop.invariant
    c.loop-test.true few
    ∙ opens c.args.readers few

pub returns-clause-refused : goal.returns-clause-refused
returns-clause-refused c = opens c.args.readers (omega arith)

pub returns-clause-ok : goal.returns-clause-ok
returns-clause-ok c =
    opened c.args.readers c.loop.counter c.in_ok-shelf.shelf (arc_value c.shelf.inside.items) c.loop.cast
    c.loop.invariant c.loop-test.false c.loop.auto.counter-end c.shelf.view_is
