use Rattle.std.proofs.Common.{◌≡◌, ◌∙◌, ap, List, ◌++◌, reverse, arith, get_or}
use Rattle.std.proofs.lemmas.List.{length-map}
use Rattle.std.specs.Arc.{arc_value}
use Rattle.boxcar.specs.Table.{Where}
use Rattle.txc_base.specs.declared.item.Item.{Item}
use Rattle.txc_cast.specs.Reader.{Reader}
use Rattle.txc_cast.specs.Kept.{items_shown}
use Rattle.txc_cast.proofs.Readers.{read_at}
use Rattle.txc_cast.proofs.Loops.{copies, copied}
use Rattle.txc_cast.proofs.cast.Cast.remaining.Goals as goal

pub loop-position-preserved : goal.loop-position-preserved
loop-position-preserved c =
    let tokens = c.self.inside.tokens in
    let token : c.index.result.now ≡ get_or tokens.items c.loop-position.position c.index.result.now = c.index.ensures
    in
    let room = c.loop-position.invariant.1 in (
      copies tokens.items c.position-position.result c.loop-position.position c.reserve.new.self.items
          c.loop-position.list.items
          c.push_reserved.new.self.items c.index.result.now c.value.result.now
          c.loop-position.auto.position (omega arith) token c.value.ensures c.loop-position.invariant.0
          c.push_reserved.ensures.items,
      omega arith,
    )

pub returns-clause-ok : goal.returns-clause-ok
returns-clause-ok c =
    let inside = c.self.inside in
    let found = c.in-Some.ensures.lookup in
    let reader = read_at (arc_value inside.items) inside.tokens.items inside.cursors.items c.deref.result.now
    c.args.self.now c.args.reader c.in-Some.cursor.now
    c.self.view_is c.deref.ensures.value found.0 found.1 in
    let backs = c.in_ok-reserve.ensures.items ∙ c.reverse.ensures.items
    ∙ ap reverse (c.in_ok-extend_from_slice.ensures.items
    ∙ ap (λ (list : List Item). list ++ c.backs-backs.result.now) c.in_ok-list.ensures.items)
    ∙ c.backs-backs.ensures in
    let many = length-map inside.tokens.items (λ (token : Where Item). token.value) in
    let all = c.len-written.ensures ∙ inside.tokens.ok.0 in
    let past = c.loop-position-test.false in
    copied (items_shown inside.tokens.items) c.in-Some.cursor.now c.position-position.result c.loop-position.position
    c.reserve.new.self.items c.loop-position.list.items
    backs c.position-position.ensures (omega (arith, many, all, past)) c.loop-position.invariant.0
    ∙ ap (λ (r : Reader). r.list) reader
