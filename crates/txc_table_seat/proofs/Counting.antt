-- Acts that are counted as they come.
use Rattle.std.proofs.Common.{◌≡◌, ◌≢◌, refl, sym, ◌∙◌, ap, subst, inl, inr, ℕ, ◌+◌, ◌≤◌, ◌<◌, Bool, true, false, ◌&&◌}
use Rattle.std.proofs.Common.{List, [], ◌∷◌, ◌++◌, drop, length, nat_eq, slice_index_or, slice_set, arith, eq-eqb}
use Rattle.std.proofs.Common.{ne_eqb}
use Rattle.std.proofs.lemmas.Bool.Decides.{eqb_tells}
use Rattle.std.proofs.lemmas.List.{drop_all, drop_more, get_or_past, get_or-set_same, get_or-set_other}
use Rattle.txc_base.specs.declared.act.Act.{Act}
use Rattle.txc_base.specs.declared.act.Act.TheVariants.{Wrote, Took, PutBack, Closed, Begun, Cloned}
use Rattle.txc_base.specs.Counts.{is_put, is_took, is_other}
use Rattle.txc_txn.specs.declared.deed.Deed.{Deed}
use Rattle.txc_txn.specs.declared.receipt.Receipt.{Receipt}
use Rattle.txc_chan.specs.Reserved.{one_if}
use Rattle.txc_txn.specs.Run.{count_deeds}
use Rattle.txc_table_seat.specs.declared.tally.Tally.{Tally}
use Rattle.txc_table_seat.specs.Seated.{count}
use Rattle.txc_table_seat.specs.Tally.{acts_that, count_that, AreTallied, more, no_tally, sum, tally_acts, done_in}
use Rattle.txc_table_seat.specs.Tally.{total}

sort_of : (b : Bool) (act : Act) → one_if (b && is_put act) + one_if (b && is_took act) + one_if (b && is_other act)
    ≡ one_if b
sort_of true (Wrote item) = refl
sort_of true (Took reader item) = refl
sort_of true (PutBack reader item) = refl
sort_of true Closed = refl
sort_of true (Begun reader) = refl
sort_of true (Cloned source reader) = refl
sort_of false act = refl

pub acts_sorted : (chan : ℕ) (deeds : List Deed)
    → acts_that is_put chan deeds + acts_that is_took chan deeds + acts_that is_other chan deeds
    ≡ count_deeds chan deeds
acts_sorted chan [] = refl
acts_sorted chan (d ∷ ds) = let one = sort_of (nat_eq d.chan chan) d.act in let rest = acts_sorted chan ds in
    omega (arith, one, rest)

-- the three counts of receipts are their share
pub sorted : (chan : ℕ) (receipts : List Receipt)
    → count_that is_put chan receipts + count_that is_took chan receipts + count_that is_other chan receipts
    ≡ count chan receipts
sorted chan [] = refl
sorted chan (r ∷ rs) = let one = acts_sorted chan r.acts in let rest = sorted chan rs in omega (arith, one, rest)

count_that_push : (test : Act → Bool) (n : ℕ) (rs : List Receipt) (r : Receipt)
    → count_that test n (rs ++ r ∷ []) ≡ count_that test n rs + acts_that test n r.acts
count_that_push test n [] r = omega arith
count_that_push test n (x ∷ xs) r = omega (arith, count_that_push test n xs r)

-- the tally of receipts with one more
pub tally_push : (n : ℕ) (rs : List Receipt) (r : Receipt)
    → sum (done_in n rs) (tally_acts n r.acts) ≡ done_in n (rs ++ r ∷ [])
tally_push n rs r = λ i. record {
  put = sym (count_that_push is_put n rs r) i;
  took = sym (count_that_push is_took n rs r) i;
  other = sym (count_that_push is_other n rs r) i;
}

one_here : (b : Bool) (chan n : ℕ) → chan ≡ n → one_if (nat_eq chan n && b) ≡ one_if b
one_here b chan n is = ap (λ (x : Bool). one_if (x && b)) (eq-eqb chan n is)

one_elsewhere : (b : Bool) (chan n : ℕ) → chan ≢ n → one_if (nat_eq chan n && b) ≡ 0
one_elsewhere b chan n not = ap (λ (x : Bool). one_if (x && b)) (ne_eqb chan n not)

-- an act in this channel is one more of its sort
more_here : (n : ℕ) (t : Tally) (d : Deed) (ds : List Deed) → d.chan ≡ n
    → sum (more t d.act) (tally_acts n ds) ≡ sum t (tally_acts n (d ∷ ds))
more_here n t d ds is =
    let p : one_if (nat_eq d.chan n && is_put d.act) ≡ one_if (is_put d.act) = one_here (is_put d.act) d.chan n is in
    let k : one_if (nat_eq d.chan n && is_took d.act) ≡ one_if (is_took d.act) = one_here (is_took d.act) d.chan n is in
    let o : one_if (nat_eq d.chan n && is_other d.act) ≡ one_if (is_other d.act) =
    one_here (is_other d.act) d.chan n is in
    let put : (t.put + one_if (is_put d.act)) + acts_that is_put n ds ≡ t.put + acts_that is_put n (d ∷ ds) =
    omega (arith, p) in
    let took : (t.took + one_if (is_took d.act)) + acts_that is_took n ds ≡ t.took + acts_that is_took n (d ∷ ds) =
    omega (arith, k) in
    let other : (t.other + one_if (is_other d.act)) + acts_that is_other n ds ≡ t.other + acts_that is_other n
    (d ∷ ds) = omega (arith, o) in
    λ i. record { put = put i; took = took i; other = other i }

-- an act in another channel doesn't count
more_elsewhere : (n : ℕ) (t : Tally) (d : Deed) (ds : List Deed) → d.chan ≢ n
    → sum t (tally_acts n ds) ≡ sum t (tally_acts n (d ∷ ds))
more_elsewhere n t d ds not =
    let p = one_elsewhere (is_put d.act) d.chan n not in
    let k = one_elsewhere (is_took d.act) d.chan n not in
    let o = one_elsewhere (is_other d.act) d.chan n not in
    let put : t.put + acts_that is_put n ds ≡ t.put + acts_that is_put n (d ∷ ds) = omega (arith, p) in
    let took : t.took + acts_that is_took n ds ≡ t.took + acts_that is_took n (d ∷ ds) = omega (arith, k) in
    let other : t.other + acts_that is_other n ds ≡ t.other + acts_that is_other n (d ∷ ds) = omega (arith, o) in
    λ i. record { put = put i; took = took i; other = other i }

-- all acts of a tally with more acts
total_sum : (n : ℕ) (t : Tally) (ds : List Deed) → total (sum t (tally_acts n ds)) ≡ total t + count_deeds n ds
total_sum n t ds = let s = acts_sorted n ds in omega (arith, s)

-- the tallies after an act in one of their channels
pub counted_in : (ts : List Tally) (d : Deed) (ds : List Deed) → d.chan < length ts → (n : ℕ)
    → sum (slice_index_or (slice_set ts d.chan (more (slice_index_or ts d.chan no_tally) d.act)) n no_tally)
    (tally_acts n ds) ≡ sum (slice_index_or ts n no_tally) (tally_acts n (d ∷ ds))
counted_in ts d ds below n =
    let new = more (slice_index_or ts d.chan no_tally) d.act in
    elim (eqb_tells d.chan n) [
      | inl t ↦
          ap (λ m. sum (slice_index_or (slice_set ts d.chan new) m no_tally) (tally_acts n ds)) (sym t.1)
          ∙ ap (λ (x : Tally). sum x (tally_acts n ds)) (get_or-set_same ts d.chan new no_tally below)
          ∙ more_here n (slice_index_or ts d.chan no_tally) d ds t.1
          ∙ ap (λ m. sum (slice_index_or ts m no_tally) (tally_acts n (d ∷ ds))) t.1
      | inr t ↦
          ap (λ (x : Tally). sum x (tally_acts n ds)) (get_or-set_other ts d.chan n new no_tally (λ e. t.1 (sym e)))
          ∙ more_elsewhere n (slice_index_or ts n no_tally) d ds t.1
    ]

-- there is room for one more act, where all together are few
pub few_left : (most chan : ℕ) (t t0 : Tally) (d : Deed) (ds acts : List Deed) → d.chan ≡ chan
    → sum t (tally_acts chan (d ∷ ds)) ≡ sum t0 (tally_acts chan acts)
    → total t0 + count_deeds chan acts ≤ most → total t < most
few_left most chan t t0 d ds acts is same few =
    let one : one_if (nat_eq d.chan chan) ≡ 1 = ap one_if (eq-eqb d.chan chan is) in
    let a = total_sum chan t (d ∷ ds) in
    let b = total_sum chan t0 acts in
    let e : total (sum t (tally_acts chan (d ∷ ds))) ≡ total (sum t0 (tally_acts chan acts)) = ap total same in
    omega (arith, one, a, b, e, few)

-- these tallies and the acts that are left come to what the first tallies and all acts come to
abbrev pub Counts : List Tally → List Deed → List Tally → List Deed → Type 0
Counts ts0 acts ts left = (n : ℕ) → sum (slice_index_or ts n no_tally) (tally_acts n left)
    ≡ sum (slice_index_or ts0 n no_tally) (tally_acts n acts)

-- a step of the count
pub counted_step : (ts0 ts ts' : List Tally) (acts : List Deed) (i chan : ℕ) (d : Deed) → i < length acts
    → chan ≡ (slice_index_or acts i d).chan → chan < length ts
    → ts' ≡ slice_set ts chan (more (slice_index_or ts chan no_tally) (slice_index_or acts i d).act)
    → Counts ts0 acts ts (drop i acts) → Counts ts0 acts ts' (drop (i + 1) acts)
counted_step ts0 ts ts' acts i chan d lt is below set before n =
    let e : Deed = slice_index_or acts i d in
    ap (λ (x : List Tally). sum (slice_index_or x n no_tally) (tally_acts n (drop (i + 1) acts))) set
    ∙ ap (λ m. sum (slice_index_or (slice_set ts m (more (slice_index_or ts m no_tally) e.act)) n no_tally)
    (tally_acts n (drop (i + 1) acts))) is
    ∙ counted_in ts e (drop (i + 1) acts) (subst (λ m. m < length ts) is below) n
    ∙ ap (λ (ds : List Deed). sum (slice_index_or ts n no_tally) (tally_acts n ds)) (sym (drop_more acts i d lt))
    ∙ before n

-- the count is done
pub counted_all : (ts0 ts : List Tally) (acts : List Deed) (i : ℕ) → length acts ≤ i → Counts ts0 acts ts (drop i acts)
    → (n : ℕ) → slice_index_or ts n no_tally ≡ sum (slice_index_or ts0 n no_tally) (tally_acts n acts)
counted_all ts0 ts acts i end before n =
    let t = slice_index_or ts n no_tally in
    let none : t ≡ sum t (tally_acts n []) = (
    let p : t.put ≡ t.put + 0 = omega arith in
    let k : t.took ≡ t.took + 0 = omega arith in
    let o : t.other ≡ t.other + 0 = omega arith in
    λ j. record { put = p j; took = k j; other = o j }) in
    none ∙ ap (λ (ds : List Deed). sum t (tally_acts n ds)) (sym (drop_all i acts end)) ∙ before n

-- in the loop there is room for one more act in its channel
pub counted_few : (most : ℕ) (ts0 ts : List Tally) (acts : List Deed) (i chan : ℕ) (d : Deed) → i < length acts
    → chan ≡ (slice_index_or acts i d).chan → chan < length ts0
    → Counts ts0 acts ts (drop i acts)
    → ((n : ℕ) → n < length ts0 → total (slice_index_or ts0 n no_tally) + count_deeds n acts ≤ most)
    → total (slice_index_or ts chan no_tally) < most
counted_few most ts0 ts acts i chan d lt is below before few =
    few_left most chan (slice_index_or ts chan no_tally) (slice_index_or ts0 chan no_tally) (slice_index_or acts i d)
    (drop (i + 1) acts) acts (sym is)
    (ap (λ (ds : List Deed). sum (slice_index_or ts chan no_tally) (tally_acts chan ds)) (sym (drop_more acts i d lt))
    ∙ before chan) (few chan below)

-- tallies of receipts that are few have room for those of one more
pub few_kept : (most : ℕ) (tallies : List Tally) (rs : List Receipt) (acts : List Deed) → AreTallied tallies rs
    → ((n : ℕ) → n < length tallies → count n rs + count_deeds n acts ≤ most) → (n : ℕ) → n < length tallies
    → total (slice_index_or tallies n no_tally) + count_deeds n acts ≤ most
few_kept most tallies rs acts are few n l =
    let is : total (slice_index_or tallies n no_tally) ≡ count n rs = ap total (are n) ∙ sorted n rs in
    let room = few n l in
    omega (arith, is, room)

-- no act of tallied receipts is in a channel past the last tally
pub none_past : (tallies : List Tally) (rs : List Receipt) → AreTallied tallies rs → (chan : ℕ)
    → length tallies ≤ chan → count chan rs ≡ 0
none_past tallies rs are chan past =
    let none : no_tally ≡ done_in chan rs = sym (get_or_past tallies chan no_tally past) ∙ are chan in
    let all : 0 ≡ total (done_in chan rs) = ap total none in
    omega (arith, all, sorted chan rs)
