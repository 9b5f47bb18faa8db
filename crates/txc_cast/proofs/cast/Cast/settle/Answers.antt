use Rattle.std.proofs.Common.{sym, ap, ◌∙◌, set}
use Rattle.std.specs.Arc.{arc_value}
use Rattle.std.proofs.lemmas.List.Edits.{map_over_more}
use Rattle.txc_cast.specs.Standing.{ReaderState, at_rest}
use Rattle.txc_cast.proofs.Loops.{all_rest, settles}
use Rattle.txc_cast.proofs.cast.Cast.settle.Goals as goal

pub loop-cursor-preserved : goal.loop-cursor-preserved
loop-cursor-preserved c =
    let loop = c.loop-cursor in
    ap (λ (new : ReaderState). set loop.cursor-items loop.cursor-index new)
    (c.settle.ensures ∙ ap at_rest (sym c.cursor-item.is))
    ∙ map_over_more at_rest c.deref_mut-cursor-items.result.now loop.cursor-items loop.cursor-index c.cursor-item.result
    c.loop-cursor-test.true loop.invariant c.cursor-item.is

pub invariant_of-self : goal.invariant_of-self
invariant_of-self c =
    let inside = c.self.inside in
    let rest = all_rest inside.cursors.len inside.cursors.items c.deref_mut-cursor-items.result.now
    c.loop-cursor.cursor-items c.loop-cursor.cursor-index
    inside.cursors.ok.0 c.deref_mut-cursor-items.ensures.value c.loop-cursor-test.false c.loop-cursor.invariant in
    (settles (arc_value inside.items) inside.tokens.items inside.cursors.items _ c.args.self.now c.self.invariant
    c.self.view_is rest).0

pub returns : goal.returns
returns c =
    let inside = c.self.inside in
    let rest = all_rest inside.cursors.len inside.cursors.items c.deref_mut-cursor-items.result.now
    c.loop-cursor.cursor-items c.loop-cursor.cursor-index
    inside.cursors.ok.0 c.deref_mut-cursor-items.ensures.value c.loop-cursor-test.false c.loop-cursor.invariant in
    (settles (arc_value inside.items) inside.tokens.items inside.cursors.items _ c.args.self.now c.self.invariant
    c.self.view_is rest).1
