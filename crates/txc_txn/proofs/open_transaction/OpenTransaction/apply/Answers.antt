use Rattle.std.proofs.Common.{subst, ℕ, Contains}
use Rattle.txc_base.specs.Op.{chan_of}
use Rattle.txc_txn.specs.OpenTransaction.{marks_since}
use Rattle.txc_txn.proofs.Touching.{marked_after}
use Rattle.txc_txn.proofs.open_transaction.OpenTransaction.apply.Goals as goal

pub returns-clause-marked : goal.returns-clause-marked
returns-clause-marked g c saved before k =
    let t = c.touch.ensures.marked saved before k in (
      t.0,
      marked_after c.touch.new.self.tag c.touch.new.self.touched.items
          (marks_since saved c.touch.new.self.marks.items) before
          (g.H.Hold.chans c.touch.new.hold) (g.H.Hold.chans c.op.new.hold) (chan_of c.args.op.now)
          (g.H.Hold.chans c.op.new.hold (chan_of c.args.op.now))
          (subst (λ (n : ℕ). Contains c.touch.new.self.touched.items n) c.chan.ensures c.in_ok-touch.ensures.there)
          c.op.ensures.others c.op.ensures.grows (rw c.touch.ensures.same t.1),
    )

pub returns-in_err-touch-clause-marked : goal.returns-in_err-touch-clause-marked
returns-in_err-touch-clause-marked g c saved before k = rw c.touch.ensures.same (c.touch.ensures.marked saved before k)
