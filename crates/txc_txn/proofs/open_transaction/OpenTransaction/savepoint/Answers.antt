use Rattle.std.proofs.Common.{subst, ◌≡◌, ℕ, List, All, IfOk}
use Rattle.txc_chan.specs.Logged.{MatchesLog}
use Rattle.txc_txn.specs.Growth.{marks_of}
use Rattle.txc_txn.proofs.Touching.{if_ok_then, saved_here}
use Rattle.txc_txn.proofs.open_transaction.OpenTransaction.savepoint.Goals as goal

pub returns-clause-marked : goal.returns-clause-marked
returns-clause-marked g c before k =
    let now = g.H.Hold.chans c.args.hold.now in
    if_ok_then c.of.result _ _ (λ point m. saved_here c.args.self.now.tag c.args.self.now.touched.items
    c.args.self.now.marks.items point.marks.items before now k.1 m.0 m.1)
    (subst (λ (l : List ℕ). IfOk c.of.result
    (λ point. (point.marks.items ≡ marks_of now l) × All (λ n. MatchesLog (now n)) l))
    c.as_slice.ensures.value c.of.ensures.marks)
