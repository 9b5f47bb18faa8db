-- What the type of a session keeps.
use Rattle.std.proofs.Common.{◌≡◌, ◌∙◌, sym, ap, [], ◌∷◌, ◌++◌}
use Rattle.txc_txn_check.specs.Limits.{CheckedView}
use Rattle.txc_table_seat.specs.Seated.{SeatCommits, with_receipt}
use Rattle.txc_table.specs.Seat.{SeatView}
use Rattle.txc_table.specs.Table.{TableView}
use Rattle.txc_txn.specs.declared.receipt.Receipt.{Receipt}
use Rattle.yalwythen_work.specs.Session.{IsSession}
use Rattle.yalwythen_work.specs.Plans.{PlansView, noted}
use Rattle.yalwythen_work.specs.SeatWithPlans.{SeatWithPlansView}

-- a transaction that the seat committed was noted
pub keeps_noted : (first : SeatWithPlansView) (table : TableView) (seat after : SeatView) (plans plans' : PlansView)
    (plan : CheckedView)
    (receipt : Receipt) → IsSession first table seat plans → after.commits ≡ with_receipt seat.commits plan receipt
    → after.lines ≡ seat.lines → plans'.kept ≡ noted plans.audited plans.kept plan → plans'.prepared
    ≡ plans.prepared
    → plans'.audited ≡ plans.audited → IsSession first table after plans'
keeps_noted first table seat after plans plans' plan receipt was committed lines kept prepared same = record {
  of = lines ∙ was.of;
  fit = rw prepared was.fit;
  back = record {
    number = ap (λ (s : SeatCommits). s.number) committed ∙ was.back.number;
    lines = lines ∙ was.back.lines;
    audited = same ∙ was.back.audited;
    noted = λ is.
        kept ∙ ap (λ b. noted b plans.kept plan) (sym same ∙ is)
        ∙ ap (λ ps. ps ++ plan ∷ []) (was.back.noted (sym same ∙ is))
        ∙ ap (λ (s : SeatCommits). s.plans) (sym committed);
  };
}

-- the seat committed nothing, and nothing was noted
pub keeps_same : (first : SeatWithPlansView) (table : TableView) (seat after : SeatView) (plans plans' : PlansView)
    → IsSession first table seat plans → after ≡ seat → plans'.kept ≡ plans.kept → plans'.prepared ≡ plans.prepared
    → plans'.audited ≡ plans.audited → IsSession first table after plans'
keeps_same first table seat after plans plans' was same kept prepared audited = record {
  of = ap (λ (s : SeatView). s.lines) same ∙ was.of;
  fit = rw prepared was.fit;
  back = record {
    number = ap (λ (s : SeatView). s.commits.number) same ∙ was.back.number;
    lines = ap (λ (s : SeatView). s.lines) same ∙ was.back.lines;
    audited = audited ∙ was.back.audited;
    noted = λ is.
        kept ∙ was.back.noted (sym audited ∙ is) ∙ ap (λ (s : SeatView). s.commits.plans) (sym same);
  };
}
