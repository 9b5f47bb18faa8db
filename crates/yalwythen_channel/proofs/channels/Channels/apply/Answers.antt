use Rattle.std.proofs.Common.{◌∙◌, ap, ◌<◌, length, subst, sym, []}
use Rattle.txc_base.specs.Op.{chan_of}
use Rattle.txc_txn.specs.OpenTransaction.{IsMarkedSince}
use Rattle.txc_txn.specs.Plain.{chan_in}
use Rattle.txc_txn.specs.Run.{ending_of, state_of}
use Rattle.txc_txn.proofs.Growing.{kinds_stay}
use Rattle.yalwythen_channel.specs.Channels.{TxnChannels}
use Rattle.yalwythen_channel.specs.Opened.{IsOpenAt, IsSavedAt}
use Rattle.yalwythen_channel.proofs.OpenTransaction.{goes_on, still_saved}
use Rattle.yalwythen_channel.proofs.Consistency.{still_sound}
use Rattle.yalwythen_channel.proofs.channels.Channels.apply.Goals as goal
use Rattle.yalwythen_channel.proofs.channels.Channels.apply.Goals.{in-Ok, in-Err-apply}

pub apply-requires-clause-held : goal.apply-requires-clause-held
apply-requires-clause-held g c = c.self.invariant.known.there (chan_of c.args.op.now)
    (subst (λ (x : TxnChannels). chan_of c.args.op.now < length x.kinds) (sym c.self.view_is)
    c.in_default.ensures.there)

pub invariant_of-self : goal.invariant_of-self
invariant_of-self g c =
    still_sound c.self.inside.plain c.apply.new.hold c.self.inside.kinds.items c.self.inside.txn
    c.apply.new.self c.self.invariant c.apply.ensures.held c.apply.ensures.fixed
    (kinds_stay c.self.inside.txn.tag (chan_in c.self.inside.plain) (chan_in c.apply.new.hold) c.apply.ensures.grows)
    (c.apply.ensures.touched c.self.invariant.touched) (c.apply.ensures.marks c.self.invariant.marks)

pub returns-clause-marked : goal.returns-clause-marked
returns-clause-marked g c began k = c.apply.ensures.marked [] began
    (subst (λ (x : TxnChannels). IsMarkedSince [] x.txn began (chan_in x.held)) (sym c.self.view_is) k)

pub returns-clause-goes_on : goal.returns-clause-goes_on
returns-clause-goes_on g c began ops opened = elim c.match-apply.branch [
  | in-Ok w ↦ rw w.result-is (λ done. goes_on began ops c.args.op.now
      (record {
        held = c.self.inside.plain;
        kinds = c.self.inside.kinds.items;
        txn = c.self.inside.txn;
        savepoints = c.self.inside.savepoints.items;
      })
      (record {
        held = c.apply.new.hold;
        kinds = c.self.inside.kinds.items;
        txn = c.apply.new.self;
        savepoints = c.self.inside.savepoints.items;
      })
      (subst (λ (x : TxnChannels). IsOpenAt began ops x) (sym c.self.view_is) opened)
      (w.in-Ok.ensures.ok
      ∙ ap (λ flow. ending_of flow (state_of (chan_in c.apply.new.hold) c.apply.new.self.trace)) done)
      c.apply.ensures.tag
      (c.apply.ensures.marked [] began
      (subst (λ (x : TxnChannels). IsOpenAt began ops x) (sym c.self.view_is) opened).marked))
  | in-Err-apply w ↦ rw w.result-is tt
]

pub returns-clause-saved : goal.returns-clause-saved
returns-clause-saved g c savepoint at trace saved = still_saved savepoint at trace
    (record {
      held = c.self.inside.plain;
      kinds = c.self.inside.kinds.items;
      txn = c.self.inside.txn;
      savepoints = c.self.inside.savepoints.items;
    })
    _ c.apply.ensures.keeps (c.apply.ensures.marked savepoint.marks.items at)
    (subst (λ (x : TxnChannels). IsSavedAt savepoint at trace x) (sym c.self.view_is) saved)
