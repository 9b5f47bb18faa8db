use Rattle.std.specs.Arc.{arc_value}
use Rattle.txc_cast.proofs.Shown.{shows}
use Rattle.txc_cast.proofs.cast.Cast.show.Goals as goal

pub returns : goal.returns
returns c = shows (arc_value c.self.inside.items) c.self.inside.tokens.items c.self.inside.cursors.items c.args.self.now
    c.self.invariant c.self.view_is
