use Rattle.std.proofs.Common.{ap, ◌∙◌, set, arith}
use Rattle.std.specs.Arc.{arc_value}
use Rattle.txc_cast.specs.Kept.{broadcast}
use Rattle.txc_cast.specs.Reader.{CanUntake}
use Rattle.txc_cast.specs.Standing.{ReaderState}
use Rattle.txc_cast.proofs.Readers.{is_there}
use Rattle.txc_cast.proofs.Calls.{untakes_written, untakes_back}
use Rattle.txc_cast.proofs.Undone.{undoes_take}
use Rattle.txc_cast.proofs.cast.Cast.undo_take.Goals as goal

pub returns-in-Written : goal.returns-in-Written
returns-in-Written c =
    let inside = c.self.inside in
    let value = ap (λ (new : ReaderState). broadcast (arc_value inside.items) inside.tokens.items
    (set inside.cursors.items c.args.reader new)) c.undo_take_of_written.ensures
    ∙ (untakes_written (arc_value inside.items) inside.tokens.items inside.cursors.items c.args.self.now c.args.reader
    c.args.item c.in-Written.field-0 c.index_mut.result.now
    c.self.invariant c.self.view_is c.index_mut.ensures.value c.requires c.in-Written.is).1 in
    record { value = value; undone = undoes_take _ _ _ _ value }

pub returns-in-Back : goal.returns-in-Back
returns-in-Back c =
    let inside = c.self.inside in
    let value = ap (λ (new : ReaderState). broadcast (arc_value inside.items) inside.tokens.items
    (set inside.cursors.items c.args.reader new)) c.undo_take_of_back.ensures
    ∙ (untakes_back (arc_value inside.items) inside.tokens.items inside.cursors.items c.args.self.now c.args.reader
    c.args.item c.in-Back.field-0 c.index_mut-in-Back.result.now
    c.self.view_is c.index_mut-in-Back.ensures.value c.requires c.in-Back.is).1 in
    record { value = value; undone = undoes_take _ _ _ _ value }

pub index_mut-requires : goal.index_mut-requires
index_mut-requires c =
    let inside = c.self.inside in
    let there = is_there (CanUntake c.args.self.now.items c.args.item) (arc_value inside.items) inside.tokens.items
    inside.cursors.items c.args.self.now c.args.reader c.self.view_is c.requires in
    let many = inside.cursors.ok.0 in
    omega (arith, there, many)

pub index_mut-requires-in-Back : goal.index_mut-requires-in-Back
index_mut-requires-in-Back c =
    let inside = c.self.inside in
    let there = is_there (CanUntake c.args.self.now.items c.args.item) (arc_value inside.items) inside.tokens.items
    inside.cursors.items c.args.self.now c.args.reader c.self.view_is c.requires in
    let many = inside.cursors.ok.0 in
    omega (arith, there, many)

pub undo_take_of_written-requires : goal.undo_take_of_written-requires
undo_take_of_written-requires c =
    let inside = c.self.inside in
    (untakes_written (arc_value inside.items) inside.tokens.items inside.cursors.items c.args.self.now c.args.reader
    c.args.item c.in-Written.field-0 c.index_mut.result.now
    c.self.invariant c.self.view_is c.index_mut.ensures.value c.requires c.in-Written.is).0

pub undo_take_of_back-requires : goal.undo_take_of_back-requires
undo_take_of_back-requires c =
    let inside = c.self.inside in
    (untakes_back (arc_value inside.items) inside.tokens.items inside.cursors.items c.args.self.now c.args.reader
    c.args.item c.in-Back.field-0 c.index_mut-in-Back.result.now
    c.self.view_is c.index_mut-in-Back.ensures.value c.requires c.in-Back.is).0
