use Rattle.std.proofs.Common.{◌≢◌, sym, ◌∙◌, ap, subst, refl, Ok, Err, IfOk}
use Rattle.txc_txn_check.specs.Walk.{walk}
use Rattle.std.proofs.Common.{slice_get}
use Rattle.txc_txn.specs.Plain.{chan_in}
use Rattle.yalwythen_channel.specs.declared.call_result.CallResult.{CallResult}
use Rattle.yalwythen_channel.specs.State.{TxnState}
use Rattle.yalwythen_channel.specs.Ending.{RanInTxn}
use Rattle.yalwythen_channel.specs.Single.{list_of_steps}
use Rattle.yalwythen_channel.proofs.Endings.{as_before, ran_in_txn}
use Rattle.yalwythen_channel.proofs.OpenTransaction.{both_ok}
use Rattle.yalwythen_channel.proofs.state.State.run.Given.{Over}
use Rattle.yalwythen_channel.proofs.state.State.run.Goals as goal

pub returns-in-Ok-run-clause-failed : goal.returns-in-Ok-run-clause-failed
returns-in-Ok-run-clause-failed g c failed =
    let same = c.note.ensures.retried failed in
    rw (sym c.self.view_is) (
      ap (λ (s : TxnState). chan_in s.channels.held) same
          ∙ as_before (walk (slice_get c.self.inside.channels.kinds) (list_of_steps c.in-Ok.steps))
          c.self.inside.tag (list_of_steps c.in-Ok.steps) (Ok c.in-Ok-run.ran) _ _ c.in-Ok-run.ensures.comes
          (subst (λ (s : CallResult). s.code ≢ 0) c.note.ensures.response failed),
      ap (λ (s : TxnState). s.tag) same,
      ap (λ (s : TxnState). s.clock) same,
      ap (λ (s : TxnState). s.last) same,
    )

came : (g : Over) (c : goal.After-response_of_error g)
    → IfOk c.response_of_error.result (λ response. RanInTxn c.args.self.now.tag c.args.raw_steps.now
    c.args.self.now.channels c.run.new.self c.args.self.now.last c.self.inside.last response)
came g c =
    both_ok c.response_of_error.result _ _ _ c.response_of_error.ensures.response
    c.response_of_error.ensures.code (λ response answered code. rw (sym c.self.view_is)
    (ran_in_txn c.self.inside.tag c.self.inside.tag c.args.raw_steps.now (list_of_steps c.in-Ok.steps)
    (Err c.in-Err-run.error)
    c.self.inside.channels c.self.inside.channels c.run.new.self c.self.inside.last c.self.inside.last response
    refl refl c.in-Ok.ensures.written c.in-Err-run.ensures.comes c.in-Err-run.ensures.kinds refl answered))

pub returns-in-Err-run-clause-ran : goal.returns-in-Err-run-clause-ran
returns-in-Err-run-clause-ran g c plain = came g c

pub returns-in-Err-run-clause-ran_any : goal.returns-in-Err-run-clause-ran_any
returns-in-Err-run-clause-ran_any g c = both_ok c.response_of_error.result _ _ _ (came g c)
    c.response_of_error.ensures.code (λ response ran code low. ran)

kept : (g : Over) (c : goal.After-note g)
    → RanInTxn c.args.self.now.tag c.args.raw_steps.now c.args.self.now.channels c.note.new.self.channels
    c.args.self.now.last c.note.new.self.last c.note.result
kept g c =
    rw (sym c.self.view_is, c.note.ensures.channels)
    (ran_in_txn c.self.inside.tag c.self.inside.tag c.args.raw_steps.now (list_of_steps c.in-Ok.steps)
    (Ok c.in-Ok-run.ran)
    c.self.inside.channels c.self.inside.channels c.run.new.self c.self.inside.last c.note.new.self.last c.note.result
    refl refl c.in-Ok.ensures.written c.in-Ok-run.ensures.comes c.in-Ok-run.ensures.kinds c.note.ensures.last
    c.note.ensures.response)

pub returns-in-Ok-run-clause-ran : goal.returns-in-Ok-run-clause-ran
returns-in-Ok-run-clause-ran g c plain = kept g c

pub returns-in-Ok-run-clause-ran_any : goal.returns-in-Ok-run-clause-ran_any
returns-in-Ok-run-clause-ran_any g c low = kept g c
