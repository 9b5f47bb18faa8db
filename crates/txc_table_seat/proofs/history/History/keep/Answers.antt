use Rattle.txc_txn_check.specs.Limits.{CheckedView}
use Rattle.std.proofs.Common.{◌≡◌, ◌++◌, ◌∷◌, [], ◌+◌, ◌≤◌, ◌∙◌, ◌<◌, ℕ, sym, subst, ap, length, All, List, drop, take}
use Rattle.std.proofs.Common.{slice_index_or}
use Rattle.std.proofs.Math.Seq.{take-append_seam}
use Rattle.txc_base.specs.declared.limits.TheConstants.{GREATEST_NUMBER}
use Rattle.txc_txn.specs.declared.deed.Deed.{Deed}
use Rattle.txc_txn.specs.declared.receipt.Receipt.{Receipt}
use Rattle.txc_txn.specs.Run.{count_deeds}
use Rattle.txc_table_seat.specs.declared.padded_receipt.PaddedReceipt.{PaddedReceipt}
use Rattle.txc_table_seat.specs.declared.tally.Tally.{Tally}
use Rattle.txc_table_seat.specs.Seated.{count, IsInHistory, HistoryView}
use Rattle.txc_table_seat.specs.Tally.{no_tally, sum, tally_acts, total}
use Rattle.txc_table_seat.proofs.Counting.{few_kept}
use Rattle.txc_table_seat.proofs.Recording.{recorded_push}
use Rattle.txc_table_seat.proofs.history.History.keep.Goals as goal

pub count_acts-requires-clause-inside : goal.count_acts-requires-clause-inside
count_acts-requires-clause-inside g c =
    subst (λ (acts : List Deed). All (λ deed. deed.chan < length c.as_mut_slice.result.now) acts)
    (sym (c.as_slice.ensures ∙ ap (λ (r : PaddedReceipt). r.receipt.acts) c.deref-3.ensures))
    (subst (λ (tallies : List Tally). All (λ deed. deed.chan < length tallies) c.args.draft.now.value.receipt.acts)
    (sym c.as_mut_slice.ensures.value)
    (subst (λ (r : HistoryView). All (λ deed. deed.chan < r.channels) c.args.draft.now.value.receipt.acts)
    (sym c.self.view_is) c.requires.inside))

pub count_acts-requires-clause-few : goal.count_acts-requires-clause-few
count_acts-requires-clause-few g c =
    subst (λ (acts : List Deed). (n : ℕ) → n < length c.as_mut_slice.result.now
    → total (slice_index_or c.as_mut_slice.result.now n no_tally) + count_deeds n acts ≤ GREATEST_NUMBER)
    (sym (c.as_slice.ensures ∙ ap (λ (r : PaddedReceipt). r.receipt.acts) c.deref-3.ensures))
    (subst (λ (tallies : List Tally). (n : ℕ) → n < length tallies
    → total (slice_index_or tallies n no_tally) + count_deeds n c.args.draft.now.value.receipt.acts ≤ GREATEST_NUMBER)
    (sym c.as_mut_slice.ensures.value)
    (few_kept GREATEST_NUMBER c.self.inside.tallies.items
    (g.S.Receipts.all c.self.inside.receipts) c.args.draft.now.value.receipt.acts
    c.self.invariant.tallied
    (subst (λ (r : HistoryView). (n : ℕ) → n < r.channels
    → count n r.commits.receipts + count_deeds n c.args.draft.now.value.receipt.acts ≤ GREATEST_NUMBER)
    (sym c.self.view_is)
    c.requires.few)))

pub invariant_of-self : goal.invariant_of-self
invariant_of-self g c =
    let rest : List Tally = drop (length c.count_acts.new.tallies) c.self.inside.tallies.items in
    let many : c.self.inside.tallies.len ≡ length c.count_acts.new.tallies =
    sym (c.count_acts.auto.tallies ∙ c.as_mut_slice.ensures.len) in
    let whole : take c.self.inside.tallies.len (c.count_acts.new.tallies ++ rest) ≡ c.count_acts.new.tallies =
    ap (λ n. take n (c.count_acts.new.tallies ++ rest)) many ∙ take-append_seam c.count_acts.new.tallies rest in
    subst (λ (r : PaddedReceipt). IsInHistory c.self.inside.number (g.S.Receipts.all c.push_reserved.new.self)
    r.receipt.tag.stamp
    (take c.self.inside.tallies.len (c.count_acts.new.tallies ++ rest)) c.push.new.self) (sym c.deref-2.ensures)
    (subst (λ (tallies : List Tally). IsInHistory c.self.inside.number (g.S.Receipts.all c.push_reserved.new.self)
    c.args.draft.now.value.receipt.tag.stamp tallies c.push.new.self) (sym whole)
    (subst (λ (plans : List CheckedView). IsInHistory c.self.inside.number (g.S.Receipts.all c.push_reserved.new.self)
    c.args.draft.now.value.receipt.tag.stamp c.count_acts.new.tallies plans) (sym c.push.ensures)
    (subst (λ (receipts : List Receipt). IsInHistory c.self.inside.number receipts
    c.args.draft.now.value.receipt.tag.stamp
    c.count_acts.new.tallies (c.self.inside.plans ++ c.args.checked.now ∷ [])) (sym c.push_reserved.ensures)
    (recorded_push c.self.inside.number c.self.inside.stamp (g.S.Receipts.all c.self.inside.receipts)
    c.args.draft.now.value.receipt c.self.inside.tallies.items c.count_acts.new.tallies c.self.inside.plans
    c.args.checked.now c.self.invariant
    (c.requires.seat ∙ ap (λ (r : HistoryView). r.commits.number) (sym c.self.view_is))
    (c.requires.serial ∙ ap (λ (r : HistoryView). length r.commits.receipts) (sym c.self.view_is)) c.requires.rise
    (subst (λ (r : HistoryView). r.commits.stamp < c.args.draft.now.value.receipt.tag.stamp) (sym c.self.view_is)
    c.requires.later)
    (λ n. c.count_acts.ensures n
    ∙ ap (λ (tallies : List Tally). sum (slice_index_or tallies n no_tally) (tally_acts n c.as_slice.result.now))
    c.as_mut_slice.ensures.value
    ∙ ap (λ (acts : List Deed). sum (slice_index_or c.self.inside.tallies.items n no_tally) (tally_acts n acts))
    (c.as_slice.ensures ∙ ap (λ (r : PaddedReceipt). r.receipt.acts) c.deref-3.ensures))))))
