-- Acts that stand in logs, as many as entries, and no two at one place: each entry has one.
use Rattle.std.proofs.Common.{◌≡◌, ◌≢◌, refl, sym, ◌∙◌, ap, inl, inr, ℕ, zero, suc, ◌+◌, ◌≤◌, ◌<◌, Bool, true, false}
use Rattle.std.proofs.Common.{◌&&◌, Some, List, [], ◌∷◌, length, arith, nat_eq, slice_get, ne_eqb}
use Rattle.std.proofs.lemmas.Bool.Decides.{eqb_tells}
use Rattle.std.proofs.lemmas.Option.{slice_get_within}
use Rattle.txc_base.specs.declared.entry.Entry.{Entry}
use Rattle.txc_base.specs.declared.tag.Tag.{Tag}
use Rattle.txc_txn.specs.declared.deed.Deed.{Deed}
use Rattle.txc_txn.specs.declared.receipt.Receipt.{Receipt}
use Rattle.txc_chan.specs.Reserved.{one_if}
use Rattle.txc_txn.specs.Run.{count_deeds}
use Rattle.txc_table_seat.specs.Seated.{AreReceiptsOf, count}
use Rattle.txc_txn.specs.InLog.{Logs, ActsAreInLog}
use Rattle.txc_table_report.specs.Gathered.{ReceiptsAreInLogs, SeatsAreInLogs, acts_at, receipts_at, claims_at}
use Rattle.txc_table_report.specs.Gathered.{count_all}
use Rattle.txc_table_report.specs.Gathered.{AreReceiptsOfAll}
use Rattle.txc_table_report.specs.Gathered.{IsGathered}

-- the sum of a function's first values
abbrev pub total_of : (ℕ → ℕ) → ℕ → ℕ
total_of f zero = 0
total_of f (suc n) = f n + total_of f n

-- .. of two functions together
pub total_add : (f g : ℕ → ℕ) (n a b : ℕ) → total_of f n ≡ a → total_of g n ≡ b → total_of (λ p. f p + g p) n ≡ a + b
total_add f g zero a b is also = omega (arith, is, also)
total_add f g (suc n) a b is also = omega (arith, is, also, total_add f g n (total_of f n) (total_of g n) refl refl)

pub total_none : (f : ℕ → ℕ) (n : ℕ) → ((p : ℕ) → p < n → f p ≡ 0) → total_of f n ≡ 0
total_none f zero h = refl
total_none f (suc n) h = omega (arith, h n (omega arith), total_none f n (λ p l. h p (omega (arith, l))))

total_le : (f : ℕ → ℕ) (n : ℕ) → ((p : ℕ) → p < n → f p ≤ 1) → total_of f n ≤ n
total_le f zero h = omega arith
total_le f (suc n) h = omega (arith, h n (omega arith), total_le f n (λ p l. h p (omega (arith, l))))

-- each is 1 where each is at most 1 and the sum is their number
total_full : (f : ℕ → ℕ) (n : ℕ) → ((p : ℕ) → p < n → f p ≤ 1) → total_of f n ≡ n → (p : ℕ) → p < n → f p ≡ 1
total_full f zero h t p l = absurd (omega (arith, l))
total_full f (suc n) h t p l =
    let few : total_of f n ≤ n = total_le f n (λ q k. h q (omega (arith, k))) in
    let head : f n ≡ 1 = omega (arith, few, t, h n (omega arith)) in
    let rest : total_of f n ≡ n = omega (arith, few, t, head) in
    elim (eqb_tells p n) [
      | inl t ↦ ap f t.1 ∙ head
      | inr t ↦ total_full f n (λ q k. h q (omega (arith, k))) rest p
          (omega (arith, l, t.1))
    ]

total_one : (q n : ℕ) → q < n → total_of (λ p. one_if (nat_eq q p)) n ≡ 1
total_one q zero l = absurd (omega (arith, l))
total_one q (suc n) l =
    elim (eqb_tells q n) [
      | inl t ↦
          let head : one_if (nat_eq q n) ≡ 1 = ap one_if t.0 in
          let rest : total_of (λ p. one_if (nat_eq q p)) n ≡ 0 =
          total_none (λ p. one_if (nat_eq q p)) n (λ p k. ap one_if (ne_eqb q p (λ e. omega (arith, e, k, t.1)))) in
          omega (arith, head, rest)
      | inr t ↦
          let head : one_if (nat_eq q n) ≡ 0 = ap one_if t.0 in
          omega (arith, head, total_one q n (omega (arith, l, t.1)))
    ]

-- what stands at a place of a list
pub get_there : {X : Type 0} (xs : List X) (i : ℕ) → i < length xs → (x : X) × (slice_get xs i ≡ Some x)
get_there [] i l = absurd (omega (arith, l))
get_there (y ∷ ys) zero l = (y, refl)
get_there (y ∷ ys) (suc i) l = get_there ys i (omega (arith, l))

-- one act alone, at its place
pub one_act : (b : Bool) (q n : ℕ) → (b ≡ true → q < n) → total_of (λ p. one_if (b && nat_eq q p)) n ≡ one_if b
one_act true q n l = total_one q n (l refl)
one_act false q n l = total_none (λ p. 0) n (λ p k. refl)

acts_total : (logs : Logs) (tag : Tag) (chan : ℕ) (deeds : List Deed) → ActsAreInLog logs tag deeds
    → total_of (λ p. acts_at chan p deeds) (length (logs chan)) ≡ count_deeds chan deeds
acts_total logs tag chan [] stand = total_none (λ p. 0) (length (logs chan)) (λ p k. refl)
acts_total logs tag chan (d ∷ ds) stand =
    let below : nat_eq d.chan chan ≡ true → d.place < length (logs chan) =
    λ is. elim (eqb_tells d.chan chan) [
      | inl t ↦ slice_get_within (logs chan) d.place _ (ap (λ c. slice_get (logs c) d.place) (sym t.1) ∙ stand 0 d refl)
      | inr t ↦ cc
    ] in
    total_add (λ p. one_if (nat_eq d.chan chan && nat_eq d.place p)) (λ p. acts_at chan p ds) (length (logs chan)) _ _
    (one_act (nat_eq d.chan chan) d.place (length (logs chan)) below)
    (acts_total logs tag chan ds (λ i deed h. stand (suc i) deed h))

receipts_total : (logs : Logs) (chan : ℕ) (receipts : List Receipt) → ReceiptsAreInLogs logs receipts
    → total_of (λ p. receipts_at chan p receipts) (length (logs chan)) ≡ count chan receipts
receipts_total logs chan [] stand = total_none (λ p. 0) (length (logs chan)) (λ p k. refl)
receipts_total logs chan (r ∷ rs) stand =
    total_add (λ p. acts_at chan p r.acts) (λ p. receipts_at chan p rs) (length (logs chan)) _ _
    (acts_total logs r.tag chan r.acts (stand 0 r refl))
    (receipts_total logs chan rs (λ n receipt h. stand (suc n) receipt h))

seats_total : (logs : Logs) (chan : ℕ) (seats : List (List Receipt)) → SeatsAreInLogs logs seats
    → total_of (λ p. claims_at chan p seats) (length (logs chan)) ≡ count_all chan seats
seats_total logs chan [] stand = total_none (λ p. 0) (length (logs chan)) (λ p k. refl)
seats_total logs chan (rs ∷ seats) stand =
    total_add (λ p. receipts_at chan p rs) (λ p. claims_at chan p seats) (length (logs chan)) _ _
    (receipts_total logs chan rs (stand 0 rs refl))
    (seats_total logs chan seats (λ s receipts h. stand (suc s) receipts h))

one_none : (chan place : ℕ) (d : Deed) → (d.chan ≡ chan → d.place ≢ place)
    → one_if (nat_eq d.chan chan && nat_eq d.place place) ≡ 0
one_none chan place d ne =
    elim (eqb_tells d.chan chan) [
      | inl t ↦ ap (λ b. one_if (b && nat_eq d.place place)) t.0 ∙ ap one_if (ne_eqb d.place place (ne t.1))
      | inr t ↦ ap (λ b. one_if (b && nat_eq d.place place)) t.0
    ]

one_at_most : (b : Bool) → one_if b ≤ 1
one_at_most true = omega arith
one_at_most false = omega arith

acts_none : (chan place : ℕ) (deeds : List Deed)
    → ((i : ℕ) (deed : Deed) → slice_get deeds i ≡ Some deed → deed.chan ≡ chan → deed.place ≢ place)
    → acts_at chan place deeds ≡ 0
acts_none chan place [] ne = refl
acts_none chan place (d ∷ ds) ne =
    let head = one_none chan place d (ne 0 d refl) in
    let rest = acts_none chan place ds (λ i deed h. ne (suc i) deed h) in
    omega (arith, head, rest)

abbrev Rise : List Deed → Type 0
Rise deeds = (i j : ℕ) (one other : Deed) → i < j → slice_get deeds i ≡ Some one → slice_get deeds j ≡ Some other
    → one.chan ≡ other.chan → one.place < other.place

acts_once : (chan place : ℕ) (deeds : List Deed) → Rise deeds → acts_at chan place deeds ≤ 1
acts_once chan place [] rise = omega arith
acts_once chan place (d ∷ ds) rise =
    let later : acts_at chan place ds ≤ 1 =
    acts_once chan place ds (λ i j one other l. rise (suc i) (suc j) one other (omega (arith, l))) in
    elim (eqb_tells d.chan chan) [
      | inr t ↦ (let head = one_none chan place d (λ e. absurd (t.1 e)) in omega (arith, head, later))
      | inl t ↦
          elim (eqb_tells d.place place) [
            | inr u ↦ (let head = one_none chan place d (λ e. u.1) in omega (arith, head, later))
            | inl u ↦
                let none = acts_none chan place ds
                (λ i deed h is at. omega (
                  arith,
                  rise 0 (suc i) d deed (omega arith) refl h (t.1 ∙ sym is),
                  at,
                  u.1,
                )) in
                omega (arith, one_at_most (nat_eq d.chan chan && nat_eq d.place place), none)
          ]
    ]

-- acts of another tag are not at the place of an entry
acts_other : (logs : Logs) (chan place : ℕ) (entry : Entry) → slice_get (logs chan) place ≡ Some entry
    → (tag : Tag) (deeds : List Deed) → ActsAreInLog logs tag deeds
    → tag ≢ entry.tag → acts_at chan place deeds ≡ 0
acts_other logs chan place entry here tag deeds stand ne =
    acts_none chan place deeds (λ i deed h is at.
    let same : slice_get (logs deed.chan) deed.place ≡ slice_get (logs chan) place =
    ap (λ c. slice_get (logs c) deed.place) is ∙ ap (λ p. slice_get (logs chan) p) at in
    let both : ◌≡◌ {A = Entry} (record { tag = tag; act = deed.act }) entry = let s = stand i deed h in cc in
    ne (ap (λ (e : Entry). e.tag) both))

-- nor are those of later receipts
receipts_later : (logs : Logs) (chan place : ℕ) (entry : Entry) → slice_get (logs chan) place ≡ Some entry
    → (seat serial : ℕ) (receipts : List Receipt)
    → AreReceiptsOf seat serial receipts → ReceiptsAreInLogs logs receipts → entry.tag.serial < serial
    → receipts_at chan place receipts ≡ 0
receipts_later logs chan place entry here seat serial [] own stand l = refl
receipts_later logs chan place entry here seat serial (r ∷ rs) own stand l =
    let head = acts_other logs chan place entry here r.tag r.acts (stand 0 r refl)
    (λ e. omega (arith, ap (λ (t : Tag). t.serial) e, own.1, l)) in
    let rest = receipts_later logs chan place entry here seat (suc serial) rs own.3
    (λ n receipt h. stand (suc n) receipt h) (omega (arith, l)) in
    omega (arith, head, rest)

-- nor are those of another seat
receipts_other : (logs : Logs) (chan place : ℕ) (entry : Entry) → slice_get (logs chan) place ≡ Some entry
    → (seat serial : ℕ) (receipts : List Receipt)
    → AreReceiptsOf seat serial receipts → ReceiptsAreInLogs logs receipts → entry.tag.seat ≢ seat
    → receipts_at chan place receipts ≡ 0
receipts_other logs chan place entry here seat serial [] own stand ne = refl
receipts_other logs chan place entry here seat serial (r ∷ rs) own stand ne =
    let head = acts_other logs chan place entry here r.tag r.acts (stand 0 r refl)
    (λ e. ne (sym (ap (λ (t : Tag). t.seat) e) ∙ own.0)) in
    let rest = receipts_other logs chan place entry here seat (suc serial) rs own.3
    (λ n receipt h. stand (suc n) receipt h) ne in
    omega (arith, head, rest)

receipts_once : (logs : Logs) (chan place : ℕ) (entry : Entry) → slice_get (logs chan) place ≡ Some entry
    → (seat serial : ℕ) (receipts : List Receipt)
    → AreReceiptsOf seat serial receipts → ReceiptsAreInLogs logs receipts → receipts_at chan place receipts ≤ 1
receipts_once logs chan place entry here seat serial [] own stand = omega arith
receipts_once logs chan place entry here seat serial (r ∷ rs) own stand =
    elim (eqb_tells entry.tag.serial serial) [
      | inl t ↦
          let head : acts_at chan place r.acts ≤ 1 = acts_once chan place r.acts own.2 in
          let rest = receipts_later logs chan place entry here seat (suc serial) rs own.3
          (λ n receipt h. stand (suc n) receipt h) (omega (arith, t.1)) in
          omega (arith, head, rest)
      | inr t ↦
          let head = acts_other logs chan place entry here r.tag r.acts (stand 0 r refl)
          (λ e. t.1 (sym (ap (λ (t : Tag). t.serial) e) ∙ own.1)) in
          let rest = receipts_once logs chan place entry here seat (suc serial) rs own.3
          (λ n receipt h. stand (suc n) receipt h) in
          omega (arith, head, rest)
    ]

seats_later : (logs : Logs) (chan place : ℕ) (entry : Entry) → slice_get (logs chan) place ≡ Some entry
    → (seat : ℕ) (seats : List (List Receipt))
    → AreReceiptsOfAll seat seats → SeatsAreInLogs logs seats → entry.tag.seat < seat → claims_at chan place seats ≡ 0
seats_later logs chan place entry here seat [] own stand l = refl
seats_later logs chan place entry here seat (rs ∷ seats) own stand l =
    let head = receipts_other logs chan place entry here seat 0 rs own.0 (stand 0 rs refl) (λ e. omega (arith, e, l)) in
    let rest = seats_later logs chan place entry here (suc seat) seats own.1 (λ s receipts h. stand (suc s) receipts h)
    (omega (arith, l)) in
    omega (arith, head, rest)

seats_once : (logs : Logs) (chan place : ℕ) (entry : Entry) → slice_get (logs chan) place ≡ Some entry
    → (seat : ℕ) (seats : List (List Receipt))
    → AreReceiptsOfAll seat seats → SeatsAreInLogs logs seats → claims_at chan place seats ≤ 1
seats_once logs chan place entry here seat [] own stand = omega arith
seats_once logs chan place entry here seat (rs ∷ seats) own stand =
    elim (eqb_tells entry.tag.seat seat) [
      | inl t ↦
          let head = receipts_once logs chan place entry here seat 0 rs own.0 (stand 0 rs refl) in
          let rest = seats_later logs chan place entry here (suc seat) seats own.1
          (λ s receipts h. stand (suc s) receipts h) (omega (arith, t.1)) in
          omega (arith, head, rest)
      | inr t ↦
          let head = receipts_other logs chan place entry here seat 0 rs own.0 (stand 0 rs refl) t.1 in
          let rest = seats_once logs chan place entry here (suc seat) seats own.1
          (λ s receipts h. stand (suc s) receipts h) in
          omega (arith, head, rest)
    ]

-- where every act stands, and each log is as long as the seats have acts in it, all is gathered
pub gathered : (logs : Logs) (seats : List (List Receipt)) → AreReceiptsOfAll 0 seats → SeatsAreInLogs logs seats
    → ((chan : ℕ) → length (logs chan) ≡ count_all chan seats) → IsGathered logs seats
gathered logs seats own stand long = record {
  stands = stand;
  once = λ chan place l.
      total_full (λ p. claims_at chan p seats) (length (logs chan))
      (λ p k. let e = get_there (logs chan) p k in seats_once logs chan p e.0 e.1 0 seats own stand)
      (seats_total logs chan seats stand ∙ sym (long chan)) place l;
}

-- where there is no log, there are no acts
pub none_there : (logs : Logs) (chan : ℕ) (seats : List (List Receipt)) → SeatsAreInLogs logs seats → length (logs chan)
    ≡ 0
    → length (logs chan) ≡ count_all chan seats
none_there logs chan seats stand none =
    let total : total_of (λ p. claims_at chan p seats) (length (logs chan)) ≡ total_of (λ p. claims_at chan p seats) 0 =
    ap (total_of (λ p. claims_at chan p seats)) none in
    none ∙ sym total ∙ seats_total logs chan seats stand
