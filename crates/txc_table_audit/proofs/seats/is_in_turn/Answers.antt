use Rattle.std.proofs.Common.{refl, ◌-◌, arith}
use Rattle.txc_table_audit.proofs.InTurn.{none_yet, all_in_turn, first_more, next_more, other_seat, not_next}
use Rattle.txc_table_audit.proofs.Testing.{accepted, refused}
use Rattle.txc_table_audit.proofs.seats.is_in_turn.Goals.{then-nth-gt0+else-not-follows, else-nth-gt0}
use Rattle.txc_table_audit.proofs.seats.is_in_turn.Goals as goal

pub loop-nth-init : goal.loop-nth-init
loop-nth-init c = none_yet c.args.seat c.args.receipts.now

pub returns-then-tag-seat : goal.returns-then-tag-seat
returns-then-tag-seat c =
    refused _ refl (other_seat c.args.seat c.args.receipts.now c.loop-nth.nth c.index-receipts-nth.result
    c.loop-nth-test.true c.if-tag-seat.true)

pub returns-then-not-follows : goal.returns-then-not-follows
returns-then-not-follows c = refused _ refl
    (not_next c.args.seat c.args.receipts.now (c.loop-nth.nth - 1) c.loop-nth.nth
    c.index-receipts-nth-then-nth-gt0.result c.index-receipts-nth.result (omega arith)
    c.loop-nth-test.true (λ follows. absurd (cc (c.follows.ensures.1 follows, c.if-not-follows.true))))

pub loop-nth-preserved : goal.loop-nth-preserved
loop-nth-preserved c = elim c.if-nth-gt0.branch [
  | then-nth-gt0+else-not-follows w ↦ next_more c.args.seat c.args.receipts.now (c.loop-nth.nth - 1) c.loop-nth.nth
      w.index-receipts-nth-then-nth-gt0.result
      c.index-receipts-nth.result (omega arith) c.loop-nth-test.true c.if-tag-seat.false
      (w.follows.ensures.0 w.if-not-follows.false) c.loop-nth.invariant
  | else-nth-gt0 w ↦ first_more c.args.seat c.args.receipts.now c.loop-nth.nth c.index-receipts-nth.result
      w.if-nth-gt0.false c.loop-nth-test.true
      c.if-tag-seat.false c.loop-nth.invariant
]

pub returns : goal.returns
returns c = accepted (all_in_turn c.args.seat c.args.receipts.now c.loop-nth.nth c.loop-nth-test.false
    c.loop-nth.invariant)
