use Rattle.std.proofs.Common.{sym, subst, ◌∙◌, arith}
use Rattle.std.specs.Arc.{arc_value}
use Rattle.txc_cast.specs.Kept.{IsSoundCast}
use Rattle.txc_cast.proofs.More.{begins, stands_with, behind_all, all_of, last_placed}
use Rattle.txc_cast.proofs.Refused.{no_memory, not_ok}
use Rattle.txc_cast.proofs.cast.Cast.dup.Goals as goal

pub invariant_of-self : goal.invariant_of-self
invariant_of-self c =
    let inside = c.self.inside in
    subst (IsSoundCast (arc_value inside.items) inside.tokens.items) (sym c.reserve.ensures.items) c.self.invariant

pub returns-in_err-reserve-clause-refused : goal.returns-in_err-reserve-clause-refused
returns-in_err-reserve-clause-refused c =
    let is = c.from_residual-in_err-reserve.ensures in
    no_memory _ is.0 is.1 ∙ c.in_ok-number.ensures.refused

pub returns-in_err-reserve-clause-ok : goal.returns-in_err-reserve-clause-ok
returns-in_err-reserve-clause-ok c =
    not_ok _ c.from_residual-in_err-reserve.result c.from_residual-in_err-reserve.ensures.0

pub push_reserved-requires : goal.push_reserved-requires
push_reserved-requires c = let room = c.in_ok-reserve.ensures.ok in omega arith

pub invariant_of-self-2 : goal.invariant_of-self-2
invariant_of-self-2 c =
    let inside = c.self.inside in
    let all = all_of (arc_value inside.items) inside.tokens.items inside.cursors.items c.args.self.now c.written.result
    c.self.view_is c.written.ensures.items in
    stands_with (arc_value inside.items) inside.tokens.items inside.cursors.items c.reserve.new.self.items
    c.push_reserved.new.self.items c.args.self.now c.new-cursor.result
    c.self.invariant c.self.view_is c.reserve.ensures.items c.push_reserved.ensures.items c.in_ok-number.ensures.few
    (last_placed inside.tokens.items c.written.result c.new-cursor.result all c.new-cursor.ensures)

pub returns-clause-ok : goal.returns-clause-ok
returns-clause-ok c =
    let inside = c.self.inside in
    let all = all_of (arc_value inside.items) inside.tokens.items inside.cursors.items c.args.self.now c.written.result
    c.self.view_is c.written.ensures.items in (
      c.in_ok-number.ensures.ok,
      begins (arc_value inside.items) inside.tokens.items inside.cursors.items c.reserve.new.self.items
          c.push_reserved.new.self.items c.args.self.now c.new-cursor.result _
          c.self.view_is c.reserve.ensures.items c.push_reserved.ensures.items
          (behind_all inside.tokens.items c.written.result c.new-cursor.result all c.new-cursor.ensures),
    )
