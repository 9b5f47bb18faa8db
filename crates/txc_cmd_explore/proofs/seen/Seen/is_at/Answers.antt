use Rattle.std.proofs.Common.{sym, ◌∙◌, arith}
use Rattle.std.proofs.lemmas.Option.{get_or_from_slice_get, slice_get_past}
use Rattle.txc_cmd_explore.proofs.Searching.{got_among}
use Rattle.txc_cmd_explore.proofs.seen.Seen.is_at.Goals as goal

pub returns-then-number-len : goal.returns-then-number-len
returns-then-number-len c = record {
  seen = λ so. got_among c.args.self.now.states.items c.args.number c.args.state.now c.index.result.now
      (omega (arith, c.if-number-len.true, c.len.ensures))
      (sym c.index.ensures ∙ c.are_same.ensures.same so);
  known = λ is. c.are_same.ensures.known (c.index.ensures
      ∙ get_or_from_slice_get c.args.self.now.states.items c.args.number c.args.state.now c.index.result.now is);
}

pub returns-else-number-len-clause-known : goal.returns-else-number-len-clause-known
returns-else-number-len-clause-known c = λ is.
    let none = slice_get_past c.args.self.now.states.items c.args.number
    (omega (arith, c.if-number-len.false, c.len.ensures)) in absurd (cc)
