-- Seats that are taken out of a list.
use Rattle.std.proofs.Common.{◌≡◌, ◌≢◌, inl, inr, refl, sym, ◌∙◌, ap, subst, ℕ, zero, suc, ◌+◌, ◌<◌, Some, List, []}
use Rattle.std.proofs.Common.{◌∷◌, ◌++◌, length, take, arith, nat_eq, slice_get, slice_index_or, eq-eqb, ne_eqb}
use Rattle.std.specs.List.{remove}
use Rattle.std.proofs.lemmas.Option.{get_or_from_slice_get}
use Rattle.txc_base.specs.declared.limits.TheConstants.{MAX_CHANNELS}
use Rattle.txc_txn.specs.declared.receipt.Receipt.{Receipt}
use Rattle.txc_chan.specs.Reserved.{one_if}
use Rattle.txc_table_report.specs.Finished.{numbered, IsSeatOf, AreTheirs}
use Rattle.txc_table_report.specs.Gathered.{AreReceiptsOfAll, count_all, totals_from}
use Rattle.txc_table_report.specs.Out.{RemovesSeat}
use Rattle.txc_table_seat.specs.Seated.{SeatCommits, AreReceiptsOf, StampsRise, count, counts_from}
use Rattle.txc_table_line.specs.Sums.{sums}
use Rattle.txc_table_line.proofs.Listing.{get_push}

numbered_out : (k at : ℕ) (old : List SeatCommits) (seat : SeatCommits) → slice_get old at ≡ Some seat
    → numbered k old ≡ one_if (nat_eq seat.number k) + numbered k (remove old at)
numbered_out k at [] seat h = cc
numbered_out k zero (s ∷ ss) seat h =
    let is : s ≡ seat = cc in
    ap (λ (t : SeatCommits). one_if (nat_eq t.number k) + numbered k ss) is
numbered_out k (suc at) (s ∷ ss) seat h = let rest = numbered_out k at ss seat h in omega (arith, rest)

length_out : (at : ℕ) (old : List SeatCommits) (seat : SeatCommits) → slice_get old at ≡ Some seat
    → length old ≡ length (remove old at) + 1
length_out at [] seat h = cc
length_out zero (s ∷ ss) seat h = omega arith
length_out (suc at) (s ∷ ss) seat h = omega (arith, length_out at ss seat h)

get_out : (at : ℕ) (old : List SeatCommits) (i : ℕ) (other : SeatCommits) → slice_get (remove old at) i ≡ Some other
    → (j : ℕ)
    × (slice_get old j ≡ Some other)
get_out zero [] i other h = cc
get_out (suc at) [] i other h = cc
get_out zero (s ∷ ss) i other h = (suc i, h)
get_out (suc at) (s ∷ ss) zero other h = (0, h)
get_out (suc at) (s ∷ ss) (suc i) other h = let w = get_out at ss i other h in (suc w.0, w.1)

pub taking_out : (n at : ℕ) (old new : List SeatCommits) (seat result : SeatCommits) → slice_get old at ≡ Some seat
    → seat.number ≡ n → result ≡ slice_index_or old at result → new ≡ remove old at
    → RemovesSeat n old result new
taking_out n at old new seat result here its value items =
    let same : seat ≡ result = sym (value ∙ get_or_from_slice_get old at seat result here) in
    let was : slice_get old at ≡ Some result = here ∙ ap Some same in
    let number : result.number ≡ n = ap (λ (s : SeatCommits). s.number) (sym same) ∙ its in
    subst (λ (ss : List SeatCommits). RemovesSeat n old result ss) (sym items) (record {
      its = number;
      at = at;
      was = was;
      others = λ k. numbered_out k at old result was
          ∙ ap (λ m. one_if (nat_eq m k) + numbered k (remove old at)) number;
      few = length_out at old result was;
      from = λ i other h. get_out at old i other h;
    })

not_one : (a b : ℕ) → a ≢ b → one_if (nat_eq a b) ≡ 0
not_one a b ne = ap one_if (ne_eqb a b ne)

numbered_more : (n at : ℕ) (seats : List SeatCommits) (seat : SeatCommits) → at < length seats
    → slice_index_or seats at seat ≡ seat → seat.number ≢ n
    → numbered n (take at seats) ≡ 0 → numbered n (take (suc at) seats) ≡ 0
numbered_more n at [] seat l is ne h = refl
numbered_more n zero (s ∷ ss) seat l is ne h = let head =
    not_one s.number n (λ e. ne (ap (λ (t : SeatCommits). t.number) (sym is) ∙ e)) in omega (arith, head)
numbered_more n (suc at) (s ∷ ss) seat l is ne h =
    let rest = numbered_more n at ss seat (omega (arith, l)) is ne (omega (arith, h)) in omega (arith, rest, h)

pub numbered_next : (n at : ℕ) (seats : List SeatCommits) (seat : SeatCommits) → at < length seats
    → slice_index_or seats at seat ≡ seat → seat.number ≢ n
    → numbered n (take at seats) ≡ 0 → numbered n (take (at + 1) seats) ≡ 0
numbered_next n at seats seat l is ne h = let same : at + 1 ≡ suc at = omega arith in
    ap (λ m. numbered n (take m seats)) same ∙ numbered_more n at seats seat l is ne h

own_push : (k : ℕ) (seats : List (List Receipt)) (receipts : List Receipt) → AreReceiptsOfAll k seats
    → AreReceiptsOf (k + length seats) 0 receipts → AreReceiptsOfAll k (seats ++ receipts ∷ [])
own_push k [] receipts own its = let at : k + 0 ≡ k = omega arith in
    (subst (λ j. AreReceiptsOf j 0 receipts) at its, tt)
own_push k (rs ∷ seats) receipts own its =
    let at : k + length (rs ∷ seats) ≡ suc k + length seats = omega arith in
    (own.0, own_push (suc k) seats receipts own.1 (subst (λ j. AreReceiptsOf j 0 receipts) at its))

count_all_push : (chan : ℕ) (seats : List (List Receipt)) (receipts : List Receipt)
    → count_all chan (seats ++ receipts ∷ []) ≡ count_all chan seats + count chan receipts
count_all_push chan [] receipts = omega arith
count_all_push chan (rs ∷ seats) receipts = omega (arith, count_all_push chan seats receipts)

totals_push : (k m : ℕ) (seats : List (List Receipt)) (receipts : List Receipt)
    → sums (totals_from k m seats) (counts_from k m receipts) ≡ totals_from k m (seats ++ receipts ∷ [])
totals_push k zero seats receipts = refl
totals_push k (suc m) seats receipts = let x = count_all_push k seats receipts in
    let y = totals_push (suc k) m seats receipts in cc

-- the amounts with one more seat's
pub totals_more : (amounts amounts' stakes : List ℕ) (seats seats' : List (List Receipt)) (receipts : List Receipt)
    → amounts' ≡ sums amounts stakes → amounts ≡ totals_from 0 MAX_CHANNELS seats
    → stakes ≡ counts_from 0 MAX_CHANNELS receipts → seats' ≡ seats ++ receipts ∷ []
    → amounts' ≡ totals_from 0 MAX_CHANNELS seats'
totals_more amounts amounts' stakes seats seats' receipts gain before its push =
    gain ∙ ap (λ (xs : List ℕ). sums xs stakes) before ∙ ap (sums (totals_from 0 MAX_CHANNELS seats)) its
    ∙ totals_push 0 MAX_CHANNELS seats receipts ∙ ap (totals_from 0 MAX_CHANNELS) (sym push)

-- the receipts with one more seat's
pub theirs_more : (left now : List SeatCommits) (seats seats' : List (List Receipt)) (receipts : List Receipt)
    (n m at : ℕ)
    (seat : SeatCommits) → AreTheirs left seats → length seats ≡ n → seats' ≡ seats ++ receipts ∷ []
    → slice_get now at ≡ Some seat
    → ((i : ℕ) (other : SeatCommits) → slice_get now i ≡ Some other → (j : ℕ) × (slice_get left j ≡ Some other))
    → seat.number ≡ n → seat.receipts ≡ receipts → m ≡ n → AreReceiptsOf m 0 receipts → StampsRise 0 seat.stamp receipts
    → AreTheirs left seats'
theirs_more left now seats seats' receipts n m at seat theirs long push here from its has same own stamps =
    let w = from at seat here in
    let of : IsSeatOf left n receipts = record {
      at = w.0;
      seat = seat;
      here = w.1;
      its = its;
      theirs = has;
      stamps = stamps;
    } in
    let place : m ≡ 0 + length seats = omega (arith, same, long) in
    subst (AreTheirs left) (sym push) (record {
      own = own_push 0 seats receipts theirs.own (subst (λ j. AreReceiptsOf j 0 receipts) place own);
      each = λ k rs is.
          elim (get_push seats receipts k rs is) [
            | inl t ↦ theirs.each k rs t
            | inr t ↦
                (let nth : n ≡ k = omega (arith, t.0, long) in
                subst (λ j. IsSeatOf left j rs) nth (subst (λ (x : List Receipt). IsSeatOf left n x) t.1 of))
          ];
    })

pub numbers_left : (n k : ℕ) (old new : List SeatCommits) → n < k → numbered k old ≡ one_if (nat_eq n k)
    + numbered k new
    → 0 < numbered k old → 0 < numbered k new
numbers_left n k old new l others some = omega (arith, others, some, not_one n k (λ e. omega (arith, e, l)))

pub numbered_there : (n at : ℕ) (seats : List SeatCommits) (seat : SeatCommits) → slice_get seats at ≡ Some seat
    → seat.number ≡ n → 0 < numbered n seats
numbered_there n at [] seat h is = cc
numbered_there n zero (s ∷ ss) seat h is =
    let its : s.number ≡ n = (let same : s ≡ seat = cc in ap (λ (t : SeatCommits). t.number) same ∙ is) in
    let one : one_if (nat_eq s.number n) ≡ 1 = ap one_if (eq-eqb s.number n its) in
    omega (arith, one)
numbered_there n (suc at) (s ∷ ss) seat h is = let rest = numbered_there n at ss seat h is in omega (arith, rest)

pub numbered_index : (n at : ℕ) (seats : List SeatCommits) (seat : SeatCommits) → at < length seats
    → slice_index_or seats at seat ≡ seat → seat.number ≡ n → 0 < numbered n seats
numbered_index n at [] seat l h is = absurd (omega (arith, l))
numbered_index n zero (s ∷ ss) seat l h is = numbered_there n zero (s ∷ ss) s refl (ap (λ (t : SeatCommits). t.number) h
    ∙ is)
numbered_index n (suc at) (s ∷ ss) seat l h is = let rest = numbered_index n at ss seat (omega (arith, l)) h is in
    omega (arith, rest)
