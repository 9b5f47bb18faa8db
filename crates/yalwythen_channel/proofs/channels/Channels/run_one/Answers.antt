use Rattle.std.proofs.Common.{refl, ◌∙◌, ap, Ok, Err, [], ◌∷◌, slice_get}
use Rattle.txc_txn_check.specs.declared.step.Step.TheVariants.{Do}
use Rattle.txc_txn.specs.Plain.{chan_in}
use Rattle.txc_txn.proofs.KindsKept.{kinds_kept}
use Rattle.yalwythen_channel.specs.declared.channels.RunError.TheVariants.{Stopped}
use Rattle.yalwythen_channel.specs.Channels.{TxnChannels}
use Rattle.yalwythen_channel.proofs.SingleStep.{faulty_one, walk_one}
use Rattle.yalwythen_channel.proofs.Endings.{comes}
use Rattle.yalwythen_channel.proofs.channels.Channels.run_one.Goals as goal
use Rattle.yalwythen_channel.proofs.channels.Channels.run_one.Goals.{in-Ok, in-Err-run_one}

pub returns-in-Err-clause-comes : goal.returns-in-Err-clause-comes
returns-in-Err-clause-comes g c = faulty_one c.args.self.now.kinds c.args.op.now c.in-Err.fault c.args.tag
    (chan_in c.args.self.now.held) c.in-Err.ensures.err

pub invariant_of-self : goal.invariant_of-self
invariant_of-self g c = record {
  known = kinds_kept c.self.inside.plain c.run_one.new.hold c.self.inside.kinds.items c.self.invariant.known
      c.run_one.ensures.held c.run_one.ensures.kinds;
  as_many = c.run_one.ensures.fixed ∙ c.self.invariant.as_many;
  touched = λ n t. c.run_one.ensures.held n (c.self.invariant.touched n t);
  marks = c.self.invariant.marks;
}

pub returns-clause-comes : goal.returns-clause-comes
returns-clause-comes g c =
    let fine = walk_one (slice_get c.args.self.now.kinds) c.args.op.now _ c.in_default.ensures.fine in
    elim c.match-run_one.branch [
      | in-Ok w ↦ rw w.result-is (comes c.args.self.now.kinds c.args.self.now.kinds (Do c.args.op.now ∷ []) _
          c.args.tag (Ok w.in-Ok.ended) (chan_in c.self.inside.plain) (chan_in c.args.self.now.held)
          (chan_in c.run_one.new.hold) refl (ap (λ (x : TxnChannels). chan_in x.held) c.self.view_is) fine
          w.in-Ok.ensures.ran)
      | in-Err-run_one w ↦ rw w.result-is (comes c.args.self.now.kinds c.args.self.now.kinds
          (Do c.args.op.now ∷ []) _ c.args.tag (Err (Stopped w.in-Err-run_one.why)) (chan_in c.self.inside.plain)
          (chan_in c.args.self.now.held) (chan_in c.run_one.new.hold)
          refl (ap (λ (x : TxnChannels). chan_in x.held) c.self.view_is) fine
          (w.in-Err-run_one.ensures.stopped, w.in-Err-run_one.ensures.unchanged))
    ]
