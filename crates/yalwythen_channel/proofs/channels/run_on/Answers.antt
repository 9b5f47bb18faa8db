use Rattle.std.proofs.Common.{refl, subst, Ok, Err, List}
use Rattle.txc_txn_check.specs.declared.step.Step.{Step}
use Rattle.txc_txn_check.specs.Limits.{operations_in}
use Rattle.txc_txn_check.specs.Walk.{Tally}
use Rattle.txc_txn.specs.Maps.{kinds_of}
use Rattle.txc_txn.specs.Plain.{chan_in}
use Rattle.txc_txn.specs.Transaction.{kept_tag, transaction}
use Rattle.txc_txn.proofs.KindsKept.{kinds_kept}
use Rattle.yalwythen_channel.specs.declared.channels.RunError.TheVariants.{Stopped}
use Rattle.yalwythen_channel.specs.Ending.{ComesTo}
use Rattle.yalwythen_channel.proofs.Endings.{comes}
use Rattle.yalwythen_channel.proofs.channels.run_on.Goals as goal

pub run_held_reusing-requires-clause-fits : goal.run_held_reusing-requires-clause-fits
run_held_reusing-requires-clause-fits g c =
    c.show_fits.ensures.others (kinds_of (chan_in c.args.plain.now)) c.in-Ok.ensures.fits
    (λ n named. c.requires.same n (c.show_fits.ensures.there c.in-Ok.ensures.fits n named))

pub run_held_reusing-requires-clause-held : goal.run_held_reusing-requires-clause-held
run_held_reusing-requires-clause-held g c n named =
    c.requires.there n (c.show_fits.ensures.there c.in-Ok.ensures.fits n named)

pub returns-in-Ok-run_held_reusing-clause-kinds : goal.returns-in-Ok-run_held_reusing-clause-kinds
returns-in-Ok-run_held_reusing-clause-kinds g c =
    kinds_kept c.args.plain.now c.run_held_reusing.new.hold c.args.kinds.now c.requires c.run_held_reusing.ensures.held
    c.run_held_reusing.ensures.kinds

pub returns-clause-kinds : goal.returns-clause-kinds
returns-clause-kinds g c =
    kinds_kept c.args.plain.now c.run_held_reusing.new.hold c.args.kinds.now c.requires c.run_held_reusing.ensures.held
    c.run_held_reusing.ensures.kinds

pub returns-in-Ok-run_held_reusing-clause-comes : goal.returns-in-Ok-run_held_reusing-clause-comes
returns-in-Ok-run_held_reusing-clause-comes g c =
    let declared = c.in-Ok.checked.declared in
    let before = chan_in c.args.plain.now in
    let after = chan_in c.run_held_reusing.new.hold in
    let tally : Tally = record { operations = operations_in c.args.steps.items; channels = declared } in
    comes c.args.kinds.now c.args.kinds.now c.args.steps.items tally c.args.tag (Ok c.in-Ok-run_held_reusing.ran)
    before before after refl refl c.in-Ok.ensures.ok
    (subst (λ (s : List Step). ComesTo (transaction before c.args.tag declared s) (kept_tag before c.args.tag declared)
    declared (Ok c.in-Ok-run_held_reusing.ran) before after)
    c.in-Ok.ensures.steps c.in-Ok-run_held_reusing.ensures.ran)

pub returns-clause-comes : goal.returns-clause-comes
returns-clause-comes g c =
    let declared = c.in-Ok.checked.declared in
    let before = chan_in c.args.plain.now in
    let after = chan_in c.run_held_reusing.new.hold in
    let ended = c.in-Err-run_held_reusing.ensures.ended in
    let tally : Tally = record { operations = operations_in c.args.steps.items; channels = declared } in
    comes c.args.kinds.now c.args.kinds.now c.args.steps.items tally c.args.tag
    (Err (Stopped c.in-Err-run_held_reusing.stop))
    before before after refl refl c.in-Ok.ensures.ok
    (subst (λ (s : List Step). ComesTo (transaction before c.args.tag declared s) (kept_tag before c.args.tag declared)
    declared (Err (Stopped c.in-Err-run_held_reusing.stop)) before after)
    c.in-Ok.ensures.steps (ended.stopped, ended.unchanged))
