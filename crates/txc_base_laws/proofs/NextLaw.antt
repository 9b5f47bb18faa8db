-- Why what was put back last is taken next.
use Rattle.std.proofs.Common.{◌≡◌, refl, sym, ◌∙◌, ap, ℕ, true, ◌⊎◌, ⊎_elim, Some, List, [], ◌∷◌, ◌++◌, set, slice_get}
use Rattle.std.proofs.Common.{append_assoc, append-nil, if◌then◌else◌, eq-eqb, ne_eqb}
use Rattle.std.proofs.lemmas.Bool.{cases_eq}
use Rattle.std.proofs.lemmas.Option.{same_Some}
use Rattle.txc_base.specs.declared.act.Act.{Act}
use Rattle.txc_base.specs.declared.act.Act.TheVariants.{Wrote, Took, PutBack, Closed, Begun, Cloned}
use Rattle.txc_base.specs.declared.entry.Entry.{Entry}
use Rattle.txc_base.specs.declared.item.Item.{Item}
use Rattle.txc_base.specs.declared.kind.Kind.{Kind}
use Rattle.txc_base.specs.Channel.{Channel, opening, list_of}
use Rattle.txc_base.specs.InOrder.{taken_by, taken}
use Rattle.txc_base.specs.Log.{after, state, IsTrueTo}
use Rattle.txc_base.specs.Next.{returned_by, returned, IsNext}
use Rattle.txc_base.specs.Operation.{with_written, with_left, with_back, with_reader}
use Rattle.txc_base_laws.proofs.Acts.{Leads, leads}
use Rattle.txc_base_laws.proofs.Lists.{at_set_same, at_set_other, at_push_old, at_map}
use Rattle.txc_base_laws.proofs.Truth.{started, between, along}
use Rattle.txc_base_laws.proofs.Words.{taken_push, returned_push}

-- the reader is there, and of what it took since and what remains this item is the first
abbrev Waiting : ℕ → Item → List Item → Channel → Type 0
Waiting reader item taken c = (list : List Item)
    × ((list_of c reader ≡ Some list) × (slice_get (taken ++ list) 0 ≡ Some item))

-- the list of a reader in an equal channel
listed : (c b : Channel) (reader : ℕ) (list : List Item) → c ≡ b → list_of b reader ≡ Some list
    → list_of c reader ≡ Some list
listed c b reader list is e = ap (λ (x : Channel). list_of x reader) is ∙ e

-- the first stays the first
first_stays : (xs ys : List Item) (item : Item) → slice_get xs 0 ≡ Some item → slice_get (xs ++ ys) 0 ≡ Some item
first_stays [] ys item e = cc
first_stays (x ∷ xs) ys item e = e

-- the same items, taken or remaining
first_at : (taken taken' list : List Item) (item : Item) → taken ≡ taken' → slice_get (taken ++ list) 0 ≡ Some item
    → slice_get (taken' ++ list) 0 ≡ Some item
first_at taken taken' list item is e = ap (λ t. slice_get (t ++ list) 0) (sym is) ∙ e

-- an act that left the reader's list alone and took nothing for it
untouched : (reader : ℕ) (item : Item) (taken more : List Item) (c b c' : Channel) → more ≡ []
    → Waiting reader item taken c → c' ≡ b
    → ((list : List Item) → list_of c reader ≡ Some list → list_of b reader ≡ Some list)
    → Waiting reader item (taken ++ more) c'
untouched reader item taken more c b c' none w is same = (
  w.0,
  (
    listed c' b reader w.0 is (same w.0 w.1.0),
    first_at taken (taken ++ more) w.0 item (sym (ap (λ l. taken ++ l) none ∙ append-nil taken)) w.1.1,
  ),
)

-- the reader or another one
taken_other : (reader taker : ℕ) (item : Item) → (taker ≡ reader → ⊥) → taken_by reader (Took taker item) ≡ []
taken_other reader taker item ne = ap (λ b. if b then item ∷ [] else []) (ne_eqb taker reader ne)

-- .. and for this one
taken_same : (reader taker : ℕ) (item : Item) → taker ≡ reader → taken_by reader (Took taker item) ≡ item ∷ []
taken_same reader taker item e = ap (λ b. if b then item ∷ [] else []) (eq-eqb taker reader e)

-- a put-back to this reader
returned_same : (reader taker : ℕ) (item : Item) → taker ≡ reader → returned_by reader (PutBack taker item) ≡ item ∷ []
returned_same reader taker item e = ap (λ b. if b then item ∷ [] else []) (eq-eqb taker reader e)

-- a take, by this reader or another
waits_took : (reader : ℕ) (item : Item) (taken : List Item) (c : Channel) (seat taker : ℕ) (it : Item) (c' : Channel)
    → Waiting reader item taken c → Leads c seat (Took taker it) c' → (taker ≡ reader) ⊎ (taker ≡ reader → ⊥)
    → Waiting reader item (taken ++ taken_by reader (Took taker it)) c'
waits_took reader item taken c seat taker it c' w h which =
    ⊎_elim
    (λ same.
    let is : list_of c reader ≡ Some (it ∷ h.0) = ap (list_of c) (sym same) ∙ h.1.0 in
    let list : w.0 ≡ it ∷ h.0 = same_Some w.0 (it ∷ h.0) (sym w.1.0 ∙ is) in (
      h.0,
      (
        listed c' (with_left c taker h.0) reader h.0 h.1.1 (ap (λ r. slice_get (set c.lists r h.0) reader) same
            ∙ at_set_same c.lists reader (it ∷ h.0) h.0 is),
        first_at (taken ++ it ∷ []) (taken ++ taken_by reader (Took taker it)) h.0 item
            (ap (λ l. taken ++ l) (sym (taken_same reader taker it same)))
            (ap (λ l. slice_get l 0) (append_assoc taken (it ∷ []) h.0) ∙ ap (λ l. slice_get (taken ++ l) 0) (sym list)
            ∙ w.1.1),
      ),
    ))
    (λ other. untouched reader item taken (taken_by reader (Took taker it)) c (with_left c taker h.0) c'
    (taken_other reader taker it other) w h.1.1
    (λ list is. at_set_other c.lists taker reader h.0 (λ e. other (sym e)) ∙ is))
    which

-- a put-back, to another reader
waits_back : (reader : ℕ) (item : Item) (taken : List Item) (c : Channel) (seat taker : ℕ) (it : Item) (c' : Channel)
    → Waiting reader item taken c → Leads c seat (PutBack taker it) c' → (taker ≡ reader → ⊥)
    → Waiting reader item (taken ++ []) c'
waits_back reader item taken c seat taker it c' w h other =
    untouched reader item taken [] c (with_back c taker h.0 it) c' refl w h.1.1.1.1.1
    (λ list is. at_set_other c.lists taker reader (it ∷ h.0) (λ e. other (sym e)) ∙ is)

-- one act that puts nothing back to the reader
waits_act : (reader : ℕ) (item : Item) (taken : List Item) (c : Channel) (seat : ℕ) (act : Act) (c' : Channel)
    → Waiting reader item taken c → Leads c seat act c' → returned_by reader act ≡ []
    → Waiting reader item (taken ++ taken_by reader act) c'
waits_act reader item taken c seat (Wrote it) c' w h none = (
  w.0 ++ it ∷ [],
  (
    listed c' (with_written c it) reader (w.0 ++ it ∷ []) h.1.1.1 (at_map (λ l. l ++ it ∷ []) c.lists reader w.0 w.1.0),
    first_at taken (taken ++ []) (w.0 ++ it ∷ []) item (sym (append-nil taken))
        (ap (λ l. slice_get l 0) (sym (append_assoc taken w.0 (it ∷ [])))
        ∙ first_stays (taken ++ w.0) (it ∷ []) item w.1.1),
  ),
)
waits_act reader item taken c seat (Took taker it) c' w h none = waits_took reader item taken c seat taker it c' w h
    (cases_eq taker reader)
waits_act reader item taken c seat (PutBack taker it) c' w h none =
    waits_back reader item taken c seat taker it c' w h (λ same. let is = returned_same reader taker it same in cc)
waits_act reader item taken c seat Closed c' w h none = untouched reader item taken [] c (record c { closed = true }) c'
    refl w h.1.1 (λ list is. is)
waits_act reader item taken c seat (Begun new) c' w h none =
    untouched reader item taken [] c (with_reader c []) c' refl w h.1.1.1
    (λ list is. at_push_old c.lists reader [] list is)
waits_act reader item taken c seat (Cloned source new) c' w h none =
    untouched reader item taken [] c (with_reader c h.0) c' refl w h.1.1.1.1.1
    (λ list is. at_push_old c.lists reader h.0 list is)

-- nothing joined to something is nothing only where both are
none_of : (xs ys : List Item) → xs ++ ys ≡ [] → (xs ≡ []) × (ys ≡ [])
none_of [] ys e = (refl, e)
none_of (x ∷ xs) ys e = cc

-- all entries since
waits_log : (reader : ℕ) (item : Item) (since : List Entry) (c c' : Channel) → Waiting reader item [] c
    → state (Some c) since ≡ Some c'
    → returned reader since ≡ [] → Waiting reader item (taken reader since) c'
waits_log reader item since c c' w h none =
    along (λ log c. returned reader log ≡ [] → Waiting reader item (taken reader log) c)
    (λ log c entry c' p led none.
    let parts = none_of (returned reader log) (returned_by reader entry.act) (sym (returned_push reader log entry)
    ∙ none) in
    let next = waits_act reader item (taken reader log) c entry.tag.seat entry.act c' (p parts.0) led parts.1 in (
      next.0,
      (
        next.1.0,
        first_at (taken reader log ++ taken_by reader entry.act) (taken reader (log ++ entry ∷ []))
            next.0 item (sym (taken_push reader log entry)) next.1.1,
      ),
    ))
    since [] c c' (λ _. w) h none

-- right after a put-back
put_there : (c c' : Channel) (seat reader : ℕ) (item : Item) → Leads c seat (PutBack reader item) c'
    → Waiting reader item [] c'
put_there c c' seat reader item h = (
  item ∷ h.0,
  (
    listed c' (with_back c reader h.0 item) reader (item ∷ h.0) h.1.1.1.1.1
        (at_set_same c.lists reader h.0 (item ∷ h.0) h.1.0),
    refl,
  ),
)

-- the law
pub next : (kind : Kind) (bound readers : ℕ) (log : List Entry) (channel : Channel)
    → IsTrueTo kind bound readers log channel → IsNext log channel.lists
next kind bound readers log channel h before since tag reader item list is none there =
    let entry : Entry = record { tag = tag; act = PutBack reader item } in
    let b = between (Some (opening kind bound readers)) before (entry ∷ since) channel
    (ap (state (Some (opening kind bound readers))) (sym is) ∙ h) in
    let m = started (after b.0 entry) since channel b.1.1 in
    let back = put_there b.0 m.0 tag.seat reader item (leads b.0 tag.seat (PutBack reader item) m.0 m.1.0) in
    let waits = waits_log reader item since m.0 channel back m.1.1 none in
    ap (λ l. slice_get (taken reader since ++ l) 0) (same_Some list waits.0 (sym there ∙ waits.1.0)) ∙ waits.1.1
