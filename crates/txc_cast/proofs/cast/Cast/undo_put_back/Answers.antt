use Rattle.std.proofs.Common.{arith}
use Rattle.std.specs.Arc.{arc_value}
use Rattle.txc_cast.specs.Reader.{BeginsWithBack}
use Rattle.txc_cast.proofs.Readers.{is_there}
use Rattle.txc_cast.proofs.Calls.{undoes_put}
use Rattle.txc_cast.proofs.Undone.{undoes_put_back}
use Rattle.txc_cast.proofs.cast.Cast.undo_put_back.Goals as goal

pub returns : goal.returns
returns c =
    let inside = c.self.inside in
    let value = undoes_put (arc_value inside.items) inside.tokens.items inside.cursors.items c.args.self.now
    c.args.reader c.index_mut.result.now _
    c.self.invariant c.self.view_is c.index_mut.ensures.value c.requires c.undo_put_back.ensures in
    record { value = value; undone = undoes_put_back _ _ _ value }

pub index_mut-requires : goal.index_mut-requires
index_mut-requires c =
    let inside = c.self.inside in
    let there = is_there BeginsWithBack (arc_value inside.items) inside.tokens.items inside.cursors.items
    c.args.self.now c.args.reader c.self.view_is c.requires in
    let many = inside.cursors.ok.0 in
    omega (arith, there, many)
