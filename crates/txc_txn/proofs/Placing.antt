-- The places of a transaction's acts.
use Rattle.std.proofs.Common.{◌≡◌, refl, sym, ◌∙◌, ap, inl, inr, ◌⊎◌, ⊎_elim, ℕ, zero, suc, ◌<◌, ◌+◌, Some, List, []}
use Rattle.std.proofs.Common.{◌∷◌, ◌++◌, length, arith, slice_get}
use Rattle.std.proofs.lemmas.Option.{slice_get_within}
use Rattle.txc_base.specs.declared.act.Act.{Act}
use Rattle.txc_base.specs.declared.tag.Tag.{Tag}
use Rattle.txc_base.specs.Log.{entries}
use Rattle.txc_txn.specs.declared.deed.Deed.{Deed}
use Rattle.txc_txn.specs.declared.receipt.Receipt.{Receipt}
use Rattle.txc_txn.specs.Growth.{AllGrow}
use Rattle.txc_txn.specs.InLog.{ActsAreInLog, Logs, ReceiptIsInLog, IsInLog}
use Rattle.txc_txn.specs.Maps.{Map, settle_all}
use Rattle.txc_txn.specs.Transaction.{deeds_at}
use Rattle.txc_txn.proofs.Settling.{settle_keeps}

-- an item of two lists together is one of the first or one of the second
get_append : {X : Type 0} (xs ys : List X) (i : ℕ) (x : X) → slice_get (xs ++ ys) i ≡ Some x
    → ((i < length xs) × (slice_get xs i ≡ Some x)) ⊎ ((k : ℕ) × (i ≡ length xs + k) × (slice_get ys k ≡ Some x))
get_append [] ys i x h = inr (i, omega arith, h)
get_append (y ∷ xs) ys zero x h = inl (omega arith, h)
get_append (y ∷ xs) ys (suc i) x h =
    ⊎_elim (λ a. inl (omega (arith, a.0), a.1)) (λ b. inr (b.0, omega (arith, b.1), b.2)) (get_append xs ys i x h)

-- an act that a channel gets from this place of its log on
get_deeds : (chan p : ℕ) (acts : List Act) (i : ℕ) (deed : Deed) → slice_get (deeds_at chan p acts) i ≡ Some deed
    → (deed.chan ≡ chan) × (deed.place ≡ p + i)
get_deeds chan p [] i deed h = cc
get_deeds chan p (act ∷ acts) zero deed h =
    let is : deed ≡ record { chan = chan; place = p; act = act } = cc in
    let at : p ≡ p + 0 = omega arith in
    (ap (λ (d : Deed). d.chan) is, ap (λ (d : Deed). d.place) is ∙ at)
get_deeds chan p (act ∷ acts) (suc i) deed h = let r = get_deeds chan (suc p) acts i deed h in (r.0, omega (arith, r.1))

-- .. and that act
get_act : (chan p : ℕ) (tag : Tag) (acts : List Act) (i : ℕ) (deed : Deed)
    → slice_get (deeds_at chan p acts) i ≡ Some deed
    → slice_get (entries tag acts) i ≡ Some (record { tag = tag; act = deed.act })
get_act chan p tag [] i deed h = cc
get_act chan p tag (a ∷ acts) zero deed h =
    let is : deed ≡ record { chan = chan; place = p; act = a } = cc in
    ap (λ (d : Deed). Some (record { tag = tag; act = d.act })) (sym is)
get_act chan p tag (a ∷ acts) (suc i) deed h = get_act chan (suc p) tag acts i deed h

-- what is in a list stays at its place where more comes after it
pub get_front : {X : Type 0} (xs ys : List X) (i : ℕ) (x : X) → slice_get xs i ≡ Some x
    → slice_get (xs ++ ys) i ≡ Some x
get_front [] ys i x h = cc
get_front (z ∷ xs) ys zero x h = h
get_front (z ∷ xs) ys (suc i) x h = get_front xs ys i x h

-- .. and what is in the second list is behind all of the first
get_behind : {X : Type 0} (xs ys : List X) (i k : ℕ) → i ≡ length xs + k → slice_get (xs ++ ys) i ≡ slice_get ys k
get_behind [] ys i k is = let same : i ≡ k = omega (arith, is) in ap (slice_get ys) same
get_behind (x ∷ xs) ys zero k is = absurd (omega (arith, is))
get_behind (x ∷ xs) ys (suc i) k is = get_behind xs ys i k (omega (arith, is))

-- the logs of these channels
abbrev pub logs_in : Map → Logs
logs_in m chan = (m chan).log

-- of two acts of a transaction in one channel the later has the higher place, and each is the entry at its place
pub record ArePlaced (tag : Tag) (m : Map) (deeds : List Deed) : Type 0 where
  pub rise : (i j : ℕ) (one other : Deed) → i < j → slice_get deeds i ≡ Some one → slice_get deeds j ≡ Some other
      → one.chan ≡ other.chan → one.place < other.place
  pub stand : ActsAreInLog (logs_in m) tag deeds

-- with these acts of one channel more
pub placed_more : (tag : Tag) (m m' : Map) (deeds : List Deed) (chan : ℕ) (acts : List Act)
    → (m' chan).log ≡ (m chan).log ++ entries tag acts
    → AllGrow tag m m' → ArePlaced tag m deeds → ArePlaced tag m' (deeds ++ deeds_at chan (length (m chan).log) acts)
placed_more tag m m' deeds chan acts is grows old = record { rise = rise; stand = stand }
  where
    place : ℕ
    place = length (m chan).log

    new : List Deed
    new = deeds_at chan place acts

    split : (i : ℕ) (deed : Deed) → slice_get (deeds ++ new) i ≡ Some deed
        → ((i < length deeds) × (slice_get deeds i ≡ Some deed)) ⊎ ((k : ℕ) × (i ≡ length deeds + k)
        × (slice_get new k ≡ Some deed))
    split i deed h = get_append deeds new i deed h

    stand_old : (i : ℕ) (deed : Deed) → slice_get deeds i ≡ Some deed → IsInLog (logs_in m') tag deed
    stand_old i deed h =
        ap (λ l. slice_get l deed.place) (grows deed.chan).log
        ∙ get_front (m deed.chan).log (entries tag (grows deed.chan).acts) deed.place
        (record { tag = tag; act = deed.act }) (old.stand i deed h)

    stand_new : (k : ℕ) (deed : Deed) → slice_get new k ≡ Some deed → IsInLog (logs_in m') tag deed
    stand_new k deed h =
        let r = get_deeds chan place acts k deed h in
        ap (λ n. slice_get (m' n).log deed.place) r.0 ∙ ap (λ l. slice_get l deed.place) is
        ∙ get_behind (m chan).log (entries tag acts) deed.place k r.1 ∙ get_act chan place tag acts k deed h

    stand : (i : ℕ) (deed : Deed) → slice_get (deeds ++ new) i ≡ Some deed → IsInLog (logs_in m') tag deed
    stand i deed h = ⊎_elim (λ a. stand_old i deed a.1) (λ b. stand_new b.0 deed b.2) (split i deed h)

    mixed : (i k : ℕ) (one other : Deed) → slice_get deeds i ≡ Some one → slice_get new k ≡ Some other
        → one.chan ≡ other.chan → one.place < other.place
    mixed i k one other hi hk same =
        let r = get_deeds chan place acts k other hk in
        let below : one.place < length (m one.chan).log = slice_get_within (m one.chan).log one.place
        (record { tag = tag; act = one.act }) (old.stand i one hi) in
        omega (arith, below, r.1, ap (λ n. length (m n).log) (same ∙ r.0))

    rise : (i j : ℕ) (one other : Deed) → i < j → slice_get (deeds ++ new) i ≡ Some one
        → slice_get (deeds ++ new) j ≡ Some other
        → one.chan ≡ other.chan → one.place < other.place
    rise i j one other lt hi hj same =
        ⊎_elim
        (λ b. ⊎_elim (λ a. old.rise i j one other lt a.1 b.1 same) (λ a. absurd (omega (arith, lt, a.1, b.0)))
        (split i one hi))
        (λ b. ⊎_elim
        (λ a. mixed i b.0 one other a.1 b.2 same)
        (λ a. omega (
          arith,
          lt,
          a.1,
          b.1,
          (get_deeds chan place acts a.0 one a.2).1,
          (get_deeds chan place acts b.0 other b.2).1,
        ))
        (split i one hi))
        (split j other hj)

-- what stood before some channels were settled stands after it
pub stand_settled : (m : Map) (stamp : ℕ) (ns : List ℕ) (receipt : Receipt) → ReceiptIsInLog (logs_in m) receipt
    → ReceiptIsInLog (logs_in (settle_all m stamp ns)) receipt
stand_settled m stamp ns receipt stand i deed h =
    ap (λ l. slice_get l deed.place) (settle_keeps (λ l. l.log) stamp (λ l. refl) m ns deed.chan) ∙ stand i deed h
