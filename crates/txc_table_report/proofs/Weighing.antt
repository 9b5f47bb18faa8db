-- Acts of one sort: as many in a gathered log as in the receipts.
use Rattle.std.proofs.Common.{◌≡◌, refl, sym, ◌∙◌, ap, subst, cond, inl, inr, ℕ, zero, suc, ◌+◌, ◌<◌, Bool, true, false}
use Rattle.std.proofs.Common.{◌&&◌, ◌==◌, Option, Some, None, List, [], ◌∷◌, ◌++◌, length, arith, nat_eq, slice_get}
use Rattle.std.proofs.Common.{count_by, if◌then◌else◌}
use Rattle.std.proofs.lemmas.Bool.Decides.{eqb_tells}
use Rattle.std.proofs.lemmas.List.Concat.{flat_map-cons}
use Rattle.std.proofs.lemmas.List.Sums.{sum_by-cons}
use Rattle.txc_base.specs.declared.act.Act.{Act}
use Rattle.txc_base.specs.declared.act.Act.TheVariants.{Wrote, Took, PutBack, Closed, Begun, Cloned}
use Rattle.txc_base.specs.declared.entry.Entry.{Entry}
use Rattle.txc_base.specs.declared.item.Item.{Item}
use Rattle.txc_base.specs.declared.origin.Origin.{Origin}
use Rattle.txc_base.specs.declared.origin.Origin.TheVariants.{Written, Back}
use Rattle.txc_base.specs.declared.tag.Tag.{Tag}
use Rattle.txc_base.specs.Counts.{is_put, is_took, is_other}
use Rattle.txc_base.specs.InOrder.{taken, taken_by}
use Rattle.txc_base.specs.Log.{origin_eq}
use Rattle.txc_base.specs.Once.{IsOnce, times}
use Rattle.txc_chan.specs.declared.account.Account.{Account}
use Rattle.txc_chan.specs.declared.decl.Decl.{Decl}
use Rattle.txc_txn.specs.declared.deed.Deed.{Deed}
use Rattle.txc_txn.specs.declared.receipt.Receipt.{Receipt}
use Rattle.txc_chan.specs.Reserved.{one_if}
use Rattle.txc_table_report.specs.Finished.{IsReport}
use Rattle.txc_table_seat.specs.Seated.{SeatCommits}
use Rattle.txc_txn.specs.InLog.{Logs, ActsAreInLog}
use Rattle.txc_table_report.specs.Gathered.{ReceiptsAreInLogs, SeatsAreInLogs, acts_at, receipts_at, claims_at}
use Rattle.txc_table_report.specs.Gathered.{IsGathered}
use Rattle.txc_table_report.specs.Gathered.{logs_of}
use Rattle.txc_table_report.specs.Gathered.{log_in}
use Rattle.txc_table_seat.specs.Tally.{acts_that, count_that}
use Rattle.txc_table_report.specs.Sorted.{all_that, IsSummed, takes, IsTakenOnce, AreTakenOnce}
use Rattle.txc_table_report.proofs.Gathering.{total_of, total_add, total_none, one_act, get_there}
use Rattle.std.proofs.lemmas.Option.{slice_get_within}

-- how many of these acts that pass a test are at a place of a channel
abbrev deeds_that : (Act → Bool) → ℕ → ℕ → List Deed → ℕ
deeds_that test chan place [] = 0
deeds_that test chan place (d ∷ ds) = one_if ((nat_eq d.chan chan && test d.act) && nat_eq d.place place) + deeds_that
    test chan place ds

abbrev receipts_that : (Act → Bool) → ℕ → ℕ → List Receipt → ℕ
receipts_that test chan place [] = 0
receipts_that test chan place (r ∷ rs) = deeds_that test chan place r.acts + receipts_that test chan place rs

abbrev seats_that : (Act → Bool) → ℕ → ℕ → List (List Receipt) → ℕ
seats_that test chan place [] = 0
seats_that test chan place (rs ∷ seats) = receipts_that test chan place rs + seats_that test chan place seats

-- over all places they are all
deeds_sum : (test : Act → Bool) (logs : Logs) (tag : Tag) (chan : ℕ) (deeds : List Deed) → ActsAreInLog logs tag deeds
    → total_of (λ p. deeds_that test chan p deeds) (length (logs chan)) ≡ acts_that test chan deeds
deeds_sum test logs tag chan [] stand = total_none (λ p. 0) (length (logs chan)) (λ p k. refl)
deeds_sum test logs tag chan (d ∷ ds) stand =
    let below : (nat_eq d.chan chan && test d.act) ≡ true → d.place < length (logs chan) =
    λ is. elim (eqb_tells d.chan chan) [
      | inl t ↦ slice_get_within (logs chan) d.place _ (ap (λ c. slice_get (logs c) d.place) (sym t.1) ∙ stand 0 d refl)
      | inr t ↦ (let bad : false ≡ true = subst (λ b. (b && test d.act) ≡ true) t.0 is in cc)
    ] in
    total_add (λ p. one_if ((nat_eq d.chan chan && test d.act) && nat_eq d.place p)) (λ p. deeds_that test chan p ds)
    (length (logs chan)) _ _
    (one_act (nat_eq d.chan chan && test d.act) d.place (length (logs chan)) below)
    (deeds_sum test logs tag chan ds (λ i deed h. stand (suc i) deed h))

receipts_sum : (test : Act → Bool) (logs : Logs) (chan : ℕ) (receipts : List Receipt) → ReceiptsAreInLogs logs receipts
    → total_of (λ p. receipts_that test chan p receipts) (length (logs chan)) ≡ count_that test chan receipts
receipts_sum test logs chan [] stand = total_none (λ p. 0) (length (logs chan)) (λ p k. refl)
receipts_sum test logs chan (r ∷ rs) stand =
    total_add (λ p. deeds_that test chan p r.acts) (λ p. receipts_that test chan p rs) (length (logs chan)) _ _
    (deeds_sum test logs r.tag chan r.acts (stand 0 r refl))
    (receipts_sum test logs chan rs (λ n receipt h. stand (suc n) receipt h))

seats_sum : (test : Act → Bool) (logs : Logs) (chan : ℕ) (seats : List (List Receipt)) → SeatsAreInLogs logs seats
    → total_of (λ p. seats_that test chan p seats) (length (logs chan)) ≡ all_that test chan seats
seats_sum test logs chan [] stand = total_none (λ p. 0) (length (logs chan)) (λ p k. refl)
seats_sum test logs chan (rs ∷ seats) stand =
    total_add (λ p. receipts_that test chan p rs) (λ p. seats_that test chan p seats) (length (logs chan)) _ _
    (receipts_sum test logs chan rs (stand 0 rs refl))
    (seats_sum test logs chan seats (λ s receipts h. stand (suc s) receipts h))

none : (b : Bool) → ◌≡◌ {A = ℕ} 0 (cond b 0 0)
none true = refl
none false = refl

and_none : (x : Bool) → one_if (x && false) ≡ 0
and_none true = refl
and_none false = refl

here_one : (b : Bool) → one_if ((true && b) && true) ≡ cond b (one_if (true && true)) 0
here_one true = refl
here_one false = refl

keep_add : (b : Bool) (n m : ℕ) → cond b n 0 + cond b m 0 ≡ cond b (n + m) 0
keep_add true n m = refl
keep_add false n m = refl

step_yes : (x y z b : Bool) → x ≡ true → y ≡ b → z ≡ true → one_if ((x && y) && z) ≡ cond b (one_if (x && z)) 0
step_yes x y z b ex ey ez =
    ap (λ w. one_if ((w && y) && z)) ex ∙ ap (λ w. one_if ((true && w) && z)) ey
    ∙ ap (λ w. one_if ((true && b) && w)) ez ∙ here_one b
    ∙ sym (ap (λ w. cond b (one_if (w && z)) 0) ex ∙ ap (λ w. cond b (one_if (true && w)) 0) ez)

step_chan : (x y z b : Bool) → x ≡ false → one_if ((x && y) && z) ≡ cond b (one_if (x && z)) 0
step_chan x y z b ex = ap (λ w. one_if ((w && y) && z)) ex ∙ none b ∙ sym (ap (λ w. cond b (one_if (w && z)) 0) ex)

step_place : (x y z b : Bool) → z ≡ false → one_if ((x && y) && z) ≡ cond b (one_if (x && z)) 0
step_place x y z b ez =
    ap (λ w. one_if ((x && y) && w)) ez ∙ and_none (x && y) ∙ none b
    ∙ sym (ap (λ w. cond b (one_if (x && w)) 0) ez ∙ ap (λ n. cond b n 0) (and_none x))

-- at the place of an entry an act that stands there passes the test where the entry does
deeds_keep : (test : Act → Bool) (logs : Logs) (chan place : ℕ) (entry : Entry)
    → slice_get (logs chan) place ≡ Some entry → (tag : Tag) (deeds : List Deed)
    → ActsAreInLog logs tag deeds → deeds_that test chan place deeds
    ≡ cond (test entry.act) (acts_at chan place deeds) 0
deeds_keep test logs chan place entry here tag [] stand = none (test entry.act)
deeds_keep test logs chan place entry here tag (d ∷ ds) stand =
    let rest = deeds_keep test logs chan place entry here tag ds (λ i deed h. stand (suc i) deed h) in
    let one : one_if ((nat_eq d.chan chan && test d.act) && nat_eq d.place place) ≡ cond (test entry.act)
    (one_if (nat_eq d.chan chan && nat_eq d.place place)) 0 =
    elim (eqb_tells d.chan chan) [
      | inr t ↦ step_chan (nat_eq d.chan chan) (test d.act) (nat_eq d.place place) (test entry.act) t.0
      | inl t ↦
          elim (eqb_tells d.place place) [
            | inr u ↦ step_place (nat_eq d.chan chan) (test d.act) (nat_eq d.place place) (test entry.act) u.0
            | inl u ↦
                (let same : slice_get (logs d.chan) d.place ≡ slice_get (logs chan) place =
                ap (λ c. slice_get (logs c) d.place) t.1 ∙ ap (λ p. slice_get (logs chan) p) u.1 in
                let both : ◌≡◌ {A = Entry} (record { tag = tag; act = d.act }) entry = let s = stand 0 d refl in cc in
                step_yes (nat_eq d.chan chan) (test d.act) (nat_eq d.place place) (test entry.act) t.0
                (ap (λ (e : Entry). test e.act) both) u.0)
          ]
    ] in
    ap (λ n. n + deeds_that test chan place ds) one
    ∙ ap (λ n. cond (test entry.act) (one_if (nat_eq d.chan chan && nat_eq d.place place)) 0 + n) rest
    ∙ keep_add (test entry.act) (one_if (nat_eq d.chan chan && nat_eq d.place place)) (acts_at chan place ds)

receipts_keep : (test : Act → Bool) (logs : Logs) (chan place : ℕ) (entry : Entry)
    → slice_get (logs chan) place ≡ Some entry → (receipts : List Receipt)
    → ReceiptsAreInLogs logs receipts
    → receipts_that test chan place receipts ≡ cond (test entry.act) (receipts_at chan place receipts) 0
receipts_keep test logs chan place entry here [] stand = none (test entry.act)
receipts_keep test logs chan place entry here (r ∷ rs) stand =
    ap (λ n. n + receipts_that test chan place rs)
    (deeds_keep test logs chan place entry here r.tag r.acts (stand 0 r refl))
    ∙ ap (λ n. cond (test entry.act) (acts_at chan place r.acts) 0 + n)
    (receipts_keep test logs chan place entry here rs (λ n receipt h. stand (suc n) receipt h))
    ∙ keep_add (test entry.act) (acts_at chan place r.acts) (receipts_at chan place rs)

seats_keep : (test : Act → Bool) (logs : Logs) (chan place : ℕ) (entry : Entry)
    → slice_get (logs chan) place ≡ Some entry → (seats : List (List Receipt))
    → SeatsAreInLogs logs seats → seats_that test chan place seats
    ≡ cond (test entry.act) (claims_at chan place seats) 0
seats_keep test logs chan place entry here [] stand = none (test entry.act)
seats_keep test logs chan place entry here (rs ∷ seats) stand =
    ap (λ n. n + seats_that test chan place seats) (receipts_keep test logs chan place entry here rs (stand 0 rs refl))
    ∙ ap (λ n. cond (test entry.act) (receipts_at chan place rs) 0 + n)
    (seats_keep test logs chan place entry here seats (λ s receipts h. stand (suc s) receipts h))
    ∙ keep_add (test entry.act) (receipts_at chan place rs) (claims_at chan place seats)

-- 1 for an entry that passes the test
abbrev weigh : (Act → Bool) → Option Entry → ℕ
weigh test None = 0
weigh test (Some entry) = cond (test entry.act) 1 0

total_shift : (f : ℕ → ℕ) (n : ℕ) → total_of f (suc n) ≡ f 0 + total_of (λ p. f (suc p)) n
total_shift f zero = omega arith
total_shift f (suc n) = omega (arith, total_shift f n)

total_same : (f g : ℕ → ℕ) (n : ℕ) → ((p : ℕ) → p < n → f p ≡ g p) → total_of f n ≡ total_of g n
total_same f g zero h = refl
total_same f g (suc n) h = omega (arith, h n (omega arith), total_same f g n (λ p l. h p (omega (arith, l))))

total_list : (test : Act → Bool) (log : List Entry) → total_of (λ p. weigh test (slice_get log p)) (length log)
    ≡ count_by (λ (e : Entry). test e.act) log
total_list test [] = refl
total_list test (e ∷ log) =
    let rest = total_list test log in
    let cons = sum_by-cons (λ (e : Entry). cond (test e.act) 1 0) e log in
    total_shift (λ p. weigh test (slice_get (e ∷ log) p)) (length log) ∙ ap (λ n. cond (test e.act) 1 0 + n) rest
    ∙ sym cons

-- a gathered log has as many entries that pass a test as the receipts have acts
pub weighed : (logs : Logs) (seats : List (List Receipt)) → IsGathered logs seats → (test : Act → Bool) (chan : ℕ)
    → count_by (λ (e : Entry). test e.act) (logs chan) ≡ all_that test chan seats
weighed logs seats is test chan =
    sym (total_list test (logs chan))
    ∙ total_same (λ p. weigh test (slice_get (logs chan) p)) (λ p. seats_that test chan p seats) (length (logs chan))
    (λ p l. let e = get_there (logs chan) p l in
    ap (weigh test) e.1 ∙ ap (λ n. cond (test e.0.act) n 0) (sym (is.once chan p l))
    ∙ sym (seats_keep test logs chan p e.0 e.1 seats is.stands))
    ∙ seats_sum test logs chan seats is.stands

pub summed : (logs : Logs) (seats : List (List Receipt)) → IsGathered logs seats → IsSummed logs seats
summed logs seats is = record {
  puts = λ chan. weighed logs seats is is_put chan;
  tooks = λ chan. weighed logs seats is is_took chan;
  others = λ chan. weighed logs seats is is_other chan;
}

times_append : (origin : Origin) (xs ys : List Item) → times origin (xs ++ ys) ≡ times origin xs + times origin ys
times_append origin [] ys = omega arith
times_append origin (x ∷ xs) ys =
    let whole = sum_by-cons (λ (item : Item). cond (origin_eq item.origin origin) 1 0) x (xs ++ ys) in
    let part = sum_by-cons (λ (item : Item). cond (origin_eq item.origin origin) 1 0) x xs in
    omega (arith, whole, part, times_append origin xs ys)

if_times : (origin : Origin) (item : Item) (b : Bool)
    → times origin (if b then item ∷ [] else []) ≡ cond (b && origin_eq item.origin origin) 1 0
if_times origin item true = let one = sum_by-cons (λ (i : Item). cond (origin_eq i.origin origin) 1 0) item [] in
    omega (arith, one)
if_times origin item false = refl

act_times : (origin : Origin) (act : Act) → times origin (taken_by 0 act) ≡ cond (takes origin act) 1 0
act_times origin (Wrote item) = refl
act_times origin (Took reader item) = if_times origin item (reader == 0)
act_times origin (PutBack reader item) = refl
act_times origin Closed = refl
act_times origin (Begun reader) = refl
act_times origin (Cloned source reader) = refl

-- the items that the reader of a queue took, counted by the entries
times_taken : (origin : Origin) (log : List Entry)
    → times origin (taken 0 log) ≡ count_by (λ (e : Entry). takes origin e.act) log
times_taken origin [] = refl
times_taken origin (e ∷ log) =
    ap (times origin) (flat_map-cons (λ (entry : Entry). taken_by 0 entry.act) e log)
    ∙ times_append origin (taken_by 0 e.act) (taken 0 log)
    ∙ ap (λ n. n + times origin (taken 0 log)) (act_times origin e.act)
    ∙ ap (λ n. cond (takes origin e.act) 1 0 + n) (times_taken origin log)
    ∙ sym (sum_by-cons (λ (entry : Entry). cond (takes origin entry.act) 1 0) e log)

-- so an item was taken as often as the seats' receipts say
times_weighed : (origin : Origin) (log : List Entry) (list : List Item) (seats : List (List Receipt)) (chan : ℕ)
    → count_by (λ (e : Entry). takes origin e.act) log ≡ all_that (takes origin) chan seats
    → all_that (takes origin) chan seats + times origin list ≡ times origin (taken 0 log ++ list)
times_weighed origin log list seats chan same =
    sym (times_append origin (taken 0 log) list ∙ ap (λ n. n + times origin list) (times_taken origin log ∙ same))

taken_once : (log : List Entry) (list : List Item) (seats : List (List Receipt)) (chan : ℕ)
    → ((test : Act → Bool) → count_by (λ (e : Entry). test e.act) log ≡ all_that test chan seats)
    → IsOnce log list → IsTakenOnce log seats chan list
taken_once log list seats chan same once = record {
  each_written = λ n. times_weighed (Written n) log list seats chan (same (takes (Written n))) ∙ once.each_written n;
  each_returned = λ n. times_weighed (Back n) log list seats chan (same (takes (Back n))) ∙ once.each_returned n;
}

pub taken_by_seats : (lines : List Decl) (channels seats : ℕ) (left : List SeatCommits) (accounts : List Account)
    (receipts : List (List Receipt))
    → IsReport lines channels seats left (record { accounts = accounts; receipts = receipts })
    → IsGathered (logs_of accounts) receipts → AreTakenOnce lines (record { accounts = accounts; receipts = receipts })
taken_by_seats lines channels seats left accounts receipts is gathered = λ chan account here queue.
    let once = (is.accounts chan account here).0.laws.once queue in
    let log : logs_of accounts chan ≡ account.log = ap log_in here in
    let same : (test : Act → Bool) → count_by (λ (e : Entry). test e.act) account.log ≡ all_that test chan receipts =
    λ test. ap (λ l. count_by (λ (e : Entry). test e.act) l) (sym log)
    ∙ weighed (logs_of accounts) receipts gathered test chan in
    (once.0, (once.1.0, taken_once account.log once.0 receipts chan same once.1.1))
