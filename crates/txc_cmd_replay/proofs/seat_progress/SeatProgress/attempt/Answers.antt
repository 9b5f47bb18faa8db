use Rattle.std.proofs.Common.{◌≡◌, sym, ◌∙◌, ap, subst, List, slice_get}
use Rattle.std.proofs.lemmas.Result.{IfOk-weaker}
use Rattle.txc_base.specs.declared.kind.Kind.{Kind}
use Rattle.txc_txn.specs.Maps.{kinds_of}
use Rattle.txc_txn.specs.Opening.{HasKinds}
use Rattle.txc_txn.specs.Plain.{chan_in}
use Rattle.txc_txn.specs.Steps.{Fits}
use Rattle.txc_txn.proofs.KindsKept.{kinds_kept}
use Rattle.txc_cmd_replay.specs.Rounds.{ChannelsWithKinds, try}
use Rattle.txc_cmd_replay.proofs.Turns.{tried}
use Rattle.txc_cmd_replay.proofs.seat_progress.SeatProgress.attempt.Goals as goal

pub run_held-tried-requires-clause-fits : goal.run_held-tried-requires-clause-fits
run_held-tried-requires-clause-fits g c =
    let is : c.as_slice.result.now ≡ c.args.channels.now.kinds =
    c.as_slice.ensures.value ∙ ap (λ (x : ChannelsWithKinds). x.kinds) c.channels.view_is in
    let fits : Fits (slice_get c.as_slice.result.now) c.args.checked.now.steps =
    subst (λ (k : List Kind). Fits (slice_get k) c.args.checked.now.steps) (sym is) c.requires.fits in
    let has : HasKinds c.channels.inside.plain c.as_slice.result.now =
    subst (λ (k : List Kind). HasKinds c.channels.inside.plain k) (sym c.as_slice.ensures.value) c.channels.invariant in
    c.show_fits.ensures.others (kinds_of (chan_in c.channels.inside.plain)) fits
    (λ n named. has.same n (c.show_fits.ensures.there fits n named))

pub run_held-tried-requires-clause-held : goal.run_held-tried-requires-clause-held
run_held-tried-requires-clause-held g c n named =
    let is : c.as_slice.result.now ≡ c.args.channels.now.kinds =
    c.as_slice.ensures.value ∙ ap (λ (x : ChannelsWithKinds). x.kinds) c.channels.view_is in
    let fits : Fits (slice_get c.as_slice.result.now) c.args.checked.now.steps =
    subst (λ (k : List Kind). Fits (slice_get k) c.args.checked.now.steps) (sym is) c.requires.fits in
    let has : HasKinds c.channels.inside.plain c.as_slice.result.now =
    subst (λ (k : List Kind). HasKinds c.channels.inside.plain k) (sym c.as_slice.ensures.value) c.channels.invariant in
    has.there n (c.show_fits.ensures.there fits n named)

pub invariant_of-channels : goal.invariant_of-channels
invariant_of-channels g c =
    kinds_kept c.channels.inside.plain c.run_held-tried.new.hold c.channels.inside.kinds.items c.channels.invariant
    c.run_held-tried.ensures.held c.run_held-tried.ensures.kinds

pub returns-clause-ok : goal.returns-clause-ok
returns-clause-ok g c =
    let ran = c.run_held-tried.ensures in
    IfOk-weaker c.note.result _ _ (λ kept noted.
    tried c.args.seat c.args.checked.now (chan_in c.channels.inside.plain) (chan_in c.run_held-tried.new.hold)
    c.args.self.now c.note.new.self c.next_tag-tag.result c.run_held-tried.result kept
    c.next_tag-tag.ensures ran.ran ran.ended.stopped ran.ended.unchanged noted
    ∙ ap (λ (x : ChannelsWithKinds). try c.args.seat c.args.checked.now (chan_in x.held) c.args.self.now)
    c.channels.view_is) c.note.ensures
