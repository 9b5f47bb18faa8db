use Rattle.std.proofs.Common.{sym, ◌∙◌}
use Rattle.txc_cmd_explore.proofs.Deciding.{decides_state}
use Rattle.txc_cmd_explore.proofs.state.are_same.Goals as goal

pub returns : goal.returns
returns c = record {
  same = λ so. (decides_state c.args.one.now c.args.other.now).0 (sym c.eq.ensures ∙ so);
  known = λ so. c.eq.ensures ∙ (decides_state c.args.one.now c.args.other.now).1 so;
}
