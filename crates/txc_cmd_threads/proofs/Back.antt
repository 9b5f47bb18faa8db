-- Seats that are back.
use Rattle.std.proofs.Common.{◌≡◌, ◌∙◌, subst, sym, ap, ℕ, ◌<◌, Some, List, [], length, slice_get, slice_index_or}
use Rattle.std.proofs.lemmas.List.{length-map}
use Rattle.std.proofs.lemmas.Option.{get_or_from_slice_get, slice_get-get_or, slice_get_within}
use Rattle.txc_chan.specs.declared.decl.Decl.{Decl}
use Rattle.txc_txn_check.specs.Limits.{CheckedView}
use Rattle.txc_table_report.specs.Finished.{AreTheirs}
use Rattle.txc_table_seat.specs.Seated.{SeatCommits, no_commits}
use Rattle.txc_cmd_report.specs.declared.seat_end.SeatEnd.{SeatEnd}
use Rattle.txc_cmd_report.specs.declared.seat_end.SeatEnd.TheVariants.{Finished}
use Rattle.txc_table.proofs.Left.{nobody, commits_at}
use Rattle.txc_table.specs.Seat.{DepartedSeatView, commits_of}
use Rattle.txc_txn.specs.declared.receipt.Receipt.{Receipt}
use Rattle.txc_cmd_threads.specs.Pool.{HaveServed}
use Rattle.txc_cmd_threads.specs.Serves.{AreServed, Serves}
use Rattle.txc_cmd_threads.proofs.Serving.{serves_number}

-- each stands at its number
pub back_number : (decls : List Decl) (seats : List (List CheckedView)) (left : List DepartedSeatView)
    (ends : List SeatEnd)
    → HaveServed decls seats left ends
    → (k : ℕ) (d : DepartedSeatView) → k < length seats → (slice_index_or left k d).commits.number ≡ k
back_number decls seats left ends back k d below =
    serves_number decls (slice_index_or seats k []) (no_commits k) (slice_index_or left k d).commits
    (slice_index_or ends k Finished) (back k d below)

-- a seat that has left, by what it has committed
pub found : (left : List DepartedSeatView) (at : ℕ) (seat : SeatCommits) → slice_get (commits_of left) at ≡ Some seat
    → (at < length left) × ((slice_index_or left at nobody).commits ≡ seat)
found left at seat here =
    let below : at < length left = subst (λ n. at < n) (length-map left (λ (s : DepartedSeatView). s.commits))
    (slice_get_within (commits_of left) at seat here) in (
      below,
      sym (commits_at left at nobody seat below) ∙ get_or_from_slice_get (commits_of left) at seat seat here,
    )

-- and the receipts of each number are what its seat came to
pub all_served : (decls : List Decl) (seats : List (List CheckedView)) (left : List DepartedSeatView)
    (receipts : List (List Receipt)) (ends : List SeatEnd)
    → length left ≡ length seats → length receipts ≡ length seats → HaveServed decls seats left ends
    → AreTheirs (commits_of left) receipts
    → AreServed decls seats receipts ends
all_served decls seats left receipts ends many counted back theirs n below =
    let there : n < length receipts = subst (λ m. n < m) (sym counted) below in
    let of = theirs.each n (slice_index_or receipts n []) (slice_get-get_or receipts n [] there) in
    let is = found left of.at of.seat of.here in
    let within : of.at < length seats = subst (λ m. of.at < m) many is.0 in
    let at_number : of.at ≡ n = sym (back_number decls seats left ends back of.at nobody within)
    ∙ ap (λ (s : SeatCommits). s.number) is.1 ∙ of.its in
    let here : (slice_index_or left n nobody).commits ≡ of.seat =
    subst (λ j. (slice_index_or left j nobody).commits ≡ of.seat) at_number is.1 in
    record {
      after = of.seat;
      its = of.theirs;
      serves = subst (λ (s : SeatCommits). Serves decls (slice_index_or seats n []) (no_commits n) s
          (slice_index_or ends n Finished)) here (back n nobody below);
    }
