use Rattle.std.proofs.Common.{sym, ap, ◌∙◌, subst}
use Rattle.std.specs.Prelude.{IfOk}
use Rattle.txc_chan.specs.declared.body.Body.{Body}
use Rattle.txc_chan.specs.declared.body.Body.TheVariants.{Shelved, Fanned}
use Rattle.txc_chan.specs.BodyCalls.{TakesFrom, MoreUndoable}
use Rattle.txc_chan.proofs.BodyLemmas.{if_ok_mapped, on_err_mapped}
use Rattle.txc_chan.proofs.FanoutLemmas.{takes_fed, makes_room_fed}
use Rattle.txc_chan.proofs.TakeLemmas.{takes, makes_room, stays}
use Rattle.txc_chan.proofs.body.Body.take.Goals as goal

pub returns-in-Shelved-clause-ok : goal.returns-in-Shelved-clause-ok
returns-in-Shelved-clause-ok c =
    subst (λ (old : Body). IfOk c.map_err-in-Shelved.result
    (λ t. TakesFrom t old c.args.reader (Shelved c.take.new.self)))
    (sym c.in-Shelved.is)
    (if_ok_mapped (λ t. TakesFrom t (Shelved c.in-Shelved.cast) c.args.reader (Shelved c.take.new.self)) _ c.take.result
    c.map_err-in-Shelved.result c.map_err-in-Shelved.ensures.cases c.map_err-in-Shelved.ensures.variant
    (λ t is. takes c.in-Shelved.cast c.take.new.self c.args.reader t (is ∙ c.take.ensures.value) c.take.ensures.taken))

pub returns-in-Shelved-clause-room : goal.returns-in-Shelved-clause-room
returns-in-Shelved-clause-room c =
    subst (λ (old : Body). IfOk c.map_err-in-Shelved.result
    (λ t. MoreUndoable t old c.args.reader (Shelved c.take.new.self)))
    (sym c.in-Shelved.is)
    (if_ok_mapped (λ t. MoreUndoable t (Shelved c.in-Shelved.cast) c.args.reader (Shelved c.take.new.self)) _
    c.take.result
    c.map_err-in-Shelved.result c.map_err-in-Shelved.ensures.cases c.map_err-in-Shelved.ensures.variant
    (λ t is. makes_room c.in-Shelved.cast c.take.new.self c.args.reader t (is ∙ c.take.ensures.value)
    c.take.ensures.taken))

pub returns-in-Shelved-clause-same : goal.returns-in-Shelved-clause-same
returns-in-Shelved-clause-same c =
    on_err_mapped _ c.take.result c.map_err-in-Shelved.result c.map_err-in-Shelved.ensures.variant
    (λ e is. ap Shelved (stays c.in-Shelved.cast c.take.new.self c.args.reader e (is ∙ c.take.ensures.value)
    c.take.ensures.taken) ∙ sym c.in-Shelved.is)

pub returns-in-Fanned-clause-ok : goal.returns-in-Fanned-clause-ok
returns-in-Fanned-clause-ok c =
    subst (λ (old : Body). IfOk c.take-in-Fanned.result
    (λ t. TakesFrom t old c.args.reader (Fanned c.take-in-Fanned.new.self)))
    (sym c.in-Fanned.is)
    (takes_fed c.in-Fanned.fanout c.take-in-Fanned.new.self c.args.reader c.take-in-Fanned.result
    c.take-in-Fanned.ensures.refused c.take-in-Fanned.ensures.value c.take-in-Fanned.ensures.taken)

pub returns-in-Fanned-clause-room : goal.returns-in-Fanned-clause-room
returns-in-Fanned-clause-room c =
    subst (λ (old : Body). IfOk c.take-in-Fanned.result
    (λ t. MoreUndoable t old c.args.reader (Fanned c.take-in-Fanned.new.self))) (sym c.in-Fanned.is)
    (makes_room_fed c.in-Fanned.fanout c.take-in-Fanned.new.self c.args.reader c.take-in-Fanned.result
    c.take-in-Fanned.ensures.refused c.take-in-Fanned.ensures.value c.take-in-Fanned.ensures.taken)
