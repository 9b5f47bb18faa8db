use Rattle.std.proofs.Common.{ap, ◌∙◌, ◌-◌, take}
use Rattle.std.specs.Arc.{arc_value}
use Rattle.txc_cast.proofs.Calls.{lets_go}
use Rattle.txc_cast.proofs.Undone.{undoes_reader}
use Rattle.txc_cast.proofs.cast.Cast.undo_reader.Goals as goal

pub returns : goal.returns
returns c =
    let inside = c.self.inside in
    let cursors = inside.cursors in
    let value = lets_go (arc_value inside.items) inside.tokens.items cursors.items c.pop.new.self.items c.args.self.now
    c.self.view_is
    (c.pop.ensures.rest ∙ ap (λ n. take (n - 1) cursors.items) cursors.ok.0) in
    record { value = value; undone = undoes_reader _ _ value }
