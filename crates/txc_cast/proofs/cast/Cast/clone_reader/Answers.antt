use Rattle.std.proofs.Common.{sym, subst, ◌∙◌, arith}
use Rattle.std.specs.Arc.{arc_value}
use Rattle.txc_cast.specs.Kept.{IsSoundCast}
use Rattle.txc_cast.proofs.More.{begins, stands_with, clones, clone_placed}
use Rattle.txc_cast.proofs.Refused.{is_reader, is_no_reader, none_to_clone, can_clone}
use Rattle.txc_cast.proofs.cast.Cast.clone_reader.Goals as goal

pub returns-then-reader-len-clause-refused : goal.returns-then-reader-len-clause-refused
returns-then-reader-len-clause-refused c =
    let inside = c.self.inside in
    let many = c.len.ensures ∙ inside.cursors.ok.0 in
    let past = c.if-reader-len.true in
    none_to_clone c.args.self.now c.args.reader
    (is_no_reader (arc_value inside.items) inside.tokens.items inside.cursors.items c.args.self.now c.args.reader
    c.self.view_is (omega (arith, many, past)))

pub invariant_of-self : goal.invariant_of-self
invariant_of-self c =
    let inside = c.self.inside in
    subst (IsSoundCast (arc_value inside.items) inside.tokens.items) (sym c.reserve.ensures.items) c.self.invariant

pub index-requires : goal.index-requires
index-requires c =
    let many = c.len.ensures in
    let within = c.if-reader-len.false in
    let same = c.reserve.ensures.len in
    omega (arith, many, within, same)

pub invariant_of-self-in_err-clone : goal.invariant_of-self-in_err-clone
invariant_of-self-in_err-clone c =
    let inside = c.self.inside in
    subst (IsSoundCast (arc_value inside.items) inside.tokens.items) (sym c.reserve.ensures.items) c.self.invariant

pub push_reserved-requires : goal.push_reserved-requires
push_reserved-requires c = let room = c.in_ok-reserve.ensures.ok in omega (arith, room)

pub invariant_of-self-2 : goal.invariant_of-self-2
invariant_of-self-2 c =
    let inside = c.self.inside in
    let many = c.len.ensures ∙ inside.cursors.ok.0 in
    let within = c.if-reader-len.false in
    stands_with (arc_value inside.items) inside.tokens.items inside.cursors.items c.reserve.new.self.items
    c.push_reserved.new.self.items c.args.self.now c.in_ok-clone.clone
    c.self.invariant c.self.view_is c.reserve.ensures.items c.push_reserved.ensures.items c.in_ok-number.ensures.few
    (clone_placed (arc_value inside.items) inside.tokens.items inside.cursors.items c.reserve.new.self.items
    c.args.reader c.index.result.now c.in_ok-clone.clone
    c.self.invariant c.reserve.ensures.items (omega (arith, many, within)) c.index.ensures c.in_ok-clone.ensures)

pub returns-clause-refused : goal.returns-clause-refused
returns-clause-refused c =
    let inside = c.self.inside in
    let many = c.len.ensures ∙ inside.cursors.ok.0 in
    let within = c.if-reader-len.false in
    can_clone c.args.self.now c.args.reader _
    (is_reader (arc_value inside.items) inside.tokens.items inside.cursors.items c.args.self.now c.args.reader
    c.self.view_is (omega (arith, many, within)))
    c.in_ok-number.ensures.refused

pub returns-clause-ok : goal.returns-clause-ok
returns-clause-ok c =
    let inside = c.self.inside in
    let many = c.len.ensures ∙ inside.cursors.ok.0 in
    let within = c.if-reader-len.false in (
      c.in_ok-number.ensures.ok,
      begins (arc_value inside.items) inside.tokens.items inside.cursors.items c.reserve.new.self.items
          c.push_reserved.new.self.items c.args.self.now c.in_ok-clone.clone _
          c.self.view_is c.reserve.ensures.items c.push_reserved.ensures.items
          (clones (arc_value inside.items) inside.tokens.items inside.cursors.items c.reserve.new.self.items
          c.args.self.now c.args.reader c.index.result.now c.in_ok-clone.clone
          c.self.view_is c.reserve.ensures.items (omega (arith, many, within)) c.index.ensures c.in_ok-clone.ensures),
    )
