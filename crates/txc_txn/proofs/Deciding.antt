-- What `==` says of receipts and reports: it is true exactly where they are equal.
use Rattle.std.proofs.Common.{◌≡◌, refl, ap, rules, Decides}
use Rattle.std.proofs.lemmas.Bool.Decides.{Decides-and, Decides-eqb, Decides-like}
use Rattle.std.proofs.lemmas.Slice.Eq.{slice_eq-Decides}
use Rattle.txc_base.proofs.Deciding.{decides_act, decides_reply, decides_tag}
use Rattle.txc_chan.proofs.Deciding.{decides_account}
use Rattle.txc_txn.specs.declared.deed.Deed.{Deed}
use Rattle.txc_txn.specs.declared.ran.Ran.{Ran}
use Rattle.txc_txn.specs.declared.ran.Ran.TheVariants.{Kept, Retry}
use Rattle.txc_txn.specs.declared.receipt.Receipt.{Receipt}
use Rattle.txc_txn.specs.declared.report.Report.{Report}
use Rattle.txc_txn.specs.contracts.deed.DeedPartialEq.TheImpl as deed
use Rattle.txc_txn.specs.contracts.ran.RanPartialEq.TheImpl as ran
use Rattle.txc_txn.specs.contracts.receipt.ReceiptPartialEq.TheImpl as receipt
use Rattle.txc_txn.specs.contracts.report.ReportPartialEq.TheImpl as report

-- of acts with their places
pub decides_deed : (a b : Deed) → Decides (deed.eq-value.it a b) (a ≡ b)
decides_deed a b =
    Decides-like _ (λ p j. record { chan = p.0 j; place = p.1.0 j; act = p.1.1 j })
    (λ e. (ap (λ (x : Deed). x.chan) e, (ap (λ (x : Deed). x.place) e, ap (λ (x : Deed). x.act) e)))
    (Decides-and _ _ (Decides-eqb a.chan b.chan)
    (Decides-and _ _ (Decides-eqb a.place b.place) (decides_act a.act b.act)))

-- of receipts
pub decides_receipt : (a b : Receipt) → Decides (receipt.eq-value.it a b) (a ≡ b)
decides_receipt a b =
    Decides-like _ (λ p j. record { tag = p.0 j; replies = p.1.0 j; acts = p.1.1 j })
    (λ e. (ap (λ (x : Receipt). x.tag) e, (ap (λ (x : Receipt). x.replies) e, ap (λ (x : Receipt). x.acts) e)))
    (Decides-and _ _ (decides_tag a.tag b.tag)
    (Decides-and _ _ (slice_eq-Decides decides_reply a.replies b.replies _ refl)
    (slice_eq-Decides decides_deed a.acts b.acts _ refl)))

-- of what a run answers
pub decides_ran : (a b : Ran) → Decides (ran.eq-value.it a b) (a ≡ b)
decides_ran (Kept receipt) b = search (rules, decides_receipt)
decides_ran (Retry cause) b = search rules

-- of reports
pub decides_report : (a b : Report) → Decides (report.eq-value.it a b) (a ≡ b)
decides_report a b =
    Decides-like _ (λ p j. record { accounts = p.0 j; receipts = p.1 j })
    (λ e. (ap (λ (x : Report). x.accounts) e, ap (λ (x : Report). x.receipts) e))
    (Decides-and _ _ (slice_eq-Decides decides_account a.accounts b.accounts _ refl)
    (slice_eq-Decides (λ x y. slice_eq-Decides decides_receipt x y _ refl) a.receipts b.receipts _ refl))
