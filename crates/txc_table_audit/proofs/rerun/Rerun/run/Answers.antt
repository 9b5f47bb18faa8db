use Rattle.std.proofs.Common.{sym, ◌∙◌, ap, subst, List, length, slice_get, arith}
use Rattle.std.proofs.lemmas.Result.{IfOk-weaker}
use Rattle.txc_base.specs.declared.kind.Kind.{Kind}
use Rattle.txc_chan.specs.ChanView.{ChanView}
use Rattle.txc_txn_check.specs.Steps.{Fits}
use Rattle.txc_txn.specs.Maps.{kinds_of}
use Rattle.txc_txn.specs.Plain.{chan_in}
use Rattle.txc_txn_history.specs.OneOrder.{Happens}
use Rattle.txc_txn.proofs.KindsKept.{kinds_kept}
use Rattle.txc_table_audit.proofs.Running.{happens, happens_not}
use Rattle.txc_table_audit.proofs.rerun.Rerun.run.Goals as goal

pub run_held-ran-requires-clause-fits : goal.run_held-ran-requires-clause-fits
run_held-ran-requires-clause-fits g c =
    let fits : Fits (slice_get c.as_slice.result.now) c.args.checked.now.steps =
    subst (λ (kinds : List Kind). Fits (slice_get kinds) c.args.checked.now.steps)
    (sym (c.as_slice.ensures.value ∙ ap (λ v. v.kinds) c.self.view_is)) c.requires.fits in
    c.show_fits.ensures.others (kinds_of (chan_in c.self.inside.plain)) fits
    (λ n is. c.self.invariant.same n
    (omega (arith, c.show_fits.ensures.there fits n is, ap length c.as_slice.ensures.value))
    ∙ ap (λ kinds. slice_get kinds n) (sym c.as_slice.ensures.value))

pub run_held-ran-requires-clause-held : goal.run_held-ran-requires-clause-held
run_held-ran-requires-clause-held g c n is =
    let fits : Fits (slice_get c.as_slice.result.now) c.args.checked.now.steps =
    subst (λ (kinds : List Kind). Fits (slice_get kinds) c.args.checked.now.steps)
    (sym (c.as_slice.ensures.value ∙ ap (λ v. v.kinds) c.self.view_is)) c.requires.fits in
    c.self.invariant.there n (omega (arith, c.show_fits.ensures.there fits n is, ap length c.as_slice.ensures.value))

pub invariant_of-self : goal.invariant_of-self
invariant_of-self g c = kinds_kept c.self.inside.plain c.run_held-ran.new.hold c.self.inside.kinds.items
    c.self.invariant c.run_held-ran.ensures.held c.run_held-ran.ensures.kinds

pub returns-clause-same : goal.returns-clause-same
returns-clause-same g c = IfOk-weaker c.gave.result _ _ (λ same is so.
    subst (λ (held : List ChanView). Happens (chan_in held) c.args.tag c.args.checked.now c.args.receipt.now
    (chan_in c.run_held-ran.new.hold)) (ap (λ v. v.held) c.self.view_is)
    (happens c.args.tag c.args.checked.now c.run_held-ran.result c.args.receipt.now (chan_in c.self.inside.plain)
    (chan_in c.run_held-ran.new.hold) c.run_held-ran.ensures.ran (is so)))
    c.gave.ensures.same

pub returns-clause-wrong : goal.returns-clause-wrong
returns-clause-wrong g c = IfOk-weaker c.gave.result _ _ (λ same is so left.
    subst (λ (held : List ChanView). ¬ Happens (chan_in held) c.args.tag c.args.checked.now c.args.receipt.now left)
    (ap (λ v. v.held) c.self.view_is)
    (happens_not c.args.tag c.args.checked.now c.run_held-ran.result c.args.receipt.now (chan_in c.self.inside.plain)
    (chan_in c.run_held-ran.new.hold) left c.run_held-ran.ensures.ran
    c.run_held-ran.ensures.ended.stopped (is so).0 (is so).1))
    c.gave.ensures.wrong
