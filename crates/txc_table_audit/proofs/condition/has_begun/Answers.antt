use Rattle.std.proofs.Common.{refl, ap, length, arith}
use Rattle.txc_table_audit.proofs.Testing.{refused}
use Rattle.txc_table_audit.proofs.Turning.{has_most, own_is}
use Rattle.txc_table_audit.proofs.condition.has_begun.Goals as goal

pub returns-then-receipts-seats : goal.returns-then-receipts-seats
returns-then-receipts-seats g c = refused _ refl (λ begun. absurd (omega (arith, begun.each)))

pub returns-then-as_slice-count : goal.returns-then-as_slice-count
returns-then-as_slice-count g c =
    refused _ refl (λ begun. absurd (omega (
      arith,
      has_most c.args.receipts.now _ c.loop-seat.seat begun c.loop-seat-test.true,
      ap length (own_is c.args.receipts.now c.loop-seat.seat c.index-receipts-seat.result c.as_slice.result.now
          c.loop-seat-test.true c.index-receipts-seat.is c.as_slice.ensures),
      c.count.ensures,
    )))
