use Rattle.std.proofs.Common.{◌≡◌, sym, ap, ◌∙◌, arith, Some}
use Rattle.std.specs.Arc.{arc_value}
use Rattle.std.specs.Prelude.{slice_get}
use Rattle.boxcar.specs.Table.{Where}
use Rattle.txc_base.specs.declared.item.Item.{Item}
use Rattle.txc_cast.specs.Broadcast.{Broadcast}
use Rattle.txc_cast.proofs.Tokens.{not_slot_past, not_slot, is_slot, stands_at, shown_at, shown_in}
use Rattle.txc_cast.proofs.cast.Cast.agrees.Goals as goal

pub returns-in_default-clause-slot : goal.returns-in_default-clause-slot
returns-in_default-clause-slot c =
    let inside = c.self.inside in
    not_slot_past (arc_value inside.items) inside.tokens.items inside.cursors.items c.args.self.now c.deref.result.now
    c.args.position c.args.sight.now.slot
    c.self.view_is c.deref.ensures.value c.in_default.ensures.lookup.0

pub returns-then-index-sight-clause-slot : goal.returns-then-index-sight-clause-slot
returns-then-index-sight-clause-slot c =
    let inside = c.self.inside in
    let found = c.in-Some.ensures.lookup in
    not_slot (arc_value inside.items) inside.tokens.items inside.cursors.items c.args.self.now c.deref.result.now
    c.args.position c.in-Some.token.now c.args.sight.now.slot
    c.self.view_is c.deref.ensures.value found.0 found.1 (λ same. c.if-index-sight.true (c.index.ensures ∙ same))

pub agrees-requires : goal.agrees-requires
agrees-requires c =
    let inside = c.self.inside in
    let same : c.index.result ≡ c.args.sight.now.slot = omega arith in
    let found = c.in-Some.ensures.lookup in (
      shown_at (arc_value inside.items) c.deref-2.result.now inside.tokens.items c.deref.result.now c.args.position
          c.in-Some.token.now
          c.deref-2.ensures c.deref.ensures.value found.0 found.1 c.self.invariant.shown,
      shown_in (arc_value inside.items) c.deref-2.result.now inside.tokens.items inside.cursors.items c.args.self.now
          c.args.sight.now.token c.self.view_is c.deref-2.ensures c.requires,
      sym c.index.ensures ∙ same ∙ sym c.args.sight.now.at,
    )

pub returns-clause-slot : goal.returns-clause-slot
returns-clause-slot c =
    let inside = c.self.inside in
    let same : c.index.result ≡ c.args.sight.now.slot = omega arith in
    let found = c.in-Some.ensures.lookup in
    is_slot (arc_value inside.items) inside.tokens.items inside.cursors.items c.args.self.now c.deref.result.now
    c.args.position c.in-Some.token.now c.args.sight.now.slot
    c.self.view_is c.deref.ensures.value found.0 found.1 (sym c.index.ensures ∙ same)

pub returns-clause-item : goal.returns-clause-item
returns-clause-item c _ =
    let found = c.in-Some.ensures.lookup in
    ap (λ (b : Broadcast). slice_get b.items c.args.position) (sym c.self.view_is)
    ∙ stands_at (λ (t : Where Item). t.value) c.self.inside.tokens.items c.deref.result.now c.args.position
    c.in-Some.token.now c.deref.ensures.value found.0 found.1
    ∙ ap Some (c.agrees.ensures ∙ c.args.sight.now.shows)
