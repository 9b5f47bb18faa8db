use Rattle.std.proofs.Common.{sym, ap, ◌∙◌, Some}
use Rattle.std.specs.Arc.{arc_value}
use Rattle.std.specs.Prelude.{slice_get}
use Rattle.boxcar.specs.Table.{Where}
use Rattle.txc_base.specs.declared.item.Item.{Item}
use Rattle.txc_cast.specs.Broadcast.{Broadcast}
use Rattle.txc_cast.proofs.Tokens.{stands_at, none_at, shown_at}
use Rattle.txc_cast.proofs.cast.Cast.item.Goals as goal

pub returns-in_err-token : goal.returns-in_err-token
returns-in_err-token c =
    let past = c.in_err-token.ensures.lookup.0 in
    c.from_residual.ensures
    ∙ sym (none_at (λ (t : Where Item). t.value) c.self.inside.tokens.items c.deref.result.now c.args.position
    c.deref.ensures.value past)
    ∙ ap (λ (b : Broadcast). slice_get b.items c.args.position) c.self.view_is

pub value-requires : goal.value-requires
value-requires c =
    let inside = c.self.inside in
    let found = c.in_ok-token.ensures.lookup in
    shown_at (arc_value inside.items) c.deref-2.result.now inside.tokens.items c.deref.result.now c.args.position
    c.in_ok-token.token.now
    c.deref-2.ensures c.deref.ensures.value found.0 found.1 c.self.invariant.shown

pub returns : goal.returns
returns c =
    let found = c.in_ok-token.ensures.lookup in
    ap Some c.value.ensures
    ∙ sym (stands_at (λ (t : Where Item). t.value) c.self.inside.tokens.items c.deref.result.now c.args.position
    c.in_ok-token.token.now c.deref.ensures.value found.0 found.1)
    ∙ ap (λ (b : Broadcast). slice_get b.items c.args.position) c.self.view_is
