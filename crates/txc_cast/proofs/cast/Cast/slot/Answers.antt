use Rattle.std.proofs.Common.{sym, ap, ◌∙◌, Some}
use Rattle.std.specs.Prelude.{slice_get}
use Rattle.boxcar.specs.Table.{Where}
use Rattle.txc_base.specs.declared.item.Item.{Item}
use Rattle.txc_cast.specs.Broadcast.{Broadcast}
use Rattle.txc_cast.proofs.Tokens.{stands_at, none_at}
use Rattle.txc_cast.proofs.cast.Cast.slot.Goals as goal

pub returns-in_err-get : goal.returns-in_err-get
returns-in_err-get c =
    let past = c.in_err-get.ensures.lookup.0 in
    c.from_residual.ensures
    ∙ sym (none_at (λ (t : Where Item). t.index) c.self.inside.tokens.items c.deref.result.now c.args.position
    c.deref.ensures.value past)
    ∙ ap (λ (b : Broadcast). slice_get b.slots c.args.position) c.self.view_is

pub returns : goal.returns
returns c =
    let found = c.in_ok-get.ensures.lookup in
    ap Some c.index.ensures
    ∙ sym (stands_at (λ (t : Where Item). t.index) c.self.inside.tokens.items c.deref.result.now c.args.position
    c.in_ok-get.field-0.now c.deref.ensures.value found.0 found.1)
    ∙ ap (λ (b : Broadcast). slice_get b.slots c.args.position) c.self.view_is
