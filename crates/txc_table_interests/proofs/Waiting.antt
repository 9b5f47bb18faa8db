-- An operation that waits waits still, whatever comes that it doesn't await.
use Rattle.std.proofs.Common.{rules, ◌≡◌, refl, sym, ◌∙◌, ap, ℕ, zero, suc, ◌≤◌, Bool, true, false, ◌&&◌, Option, Some}
use Rattle.std.proofs.Common.{None, List, [], ◌∷◌, length, set, slice_get, slice_index_or, nat_eq, nat_le, eq-eqb}
use Rattle.std.proofs.Common.{arith, if◌then◌else◌}
use Rattle.std.proofs.lemmas.Bool.{and_parts, and_from, both_ways, not-true}
use Rattle.std.proofs.lemmas.Bool.Decides.{nat_tests}
use Rattle.std.proofs.lemmas.Option.{cond_some, same_Some}
use Rattle.txc_base.specs.declared.act.Act.{Act}
use Rattle.txc_base.specs.declared.act.Act.TheVariants as act
use Rattle.txc_base.specs.declared.cause.Cause.{Cause}
use Rattle.txc_base.specs.declared.cause.Cause.TheVariants.{Full, Empty}
use Rattle.txc_base.specs.declared.item.Item.{Item}
use Rattle.txc_base.specs.declared.kind.Kind.{Kind}
use Rattle.txc_base.specs.declared.kind.Kind.TheVariants.{Queue, Bounded, Cast, MQueue, BMQueue, MCast}
use Rattle.txc_base.specs.declared.op.Op.TheVariants.{Write, Read, Peek, PutBack}
use Rattle.txc_base.specs.declared.reply.Reply.TheVariants as reply
use Rattle.txc_base.specs.Channel.{Channel, list_of}
use Rattle.txc_base.specs.Kinds.{is_bounded}
use Rattle.txc_base.specs.Operation.{Did, Waits, says, body_of, with_body, with_list, while_open, is_full, with_room}
use Rattle.txc_base.specs.Operation.{is_plain_bounded, next_written, next_back, with_back, wrote, put_back, taking}
use Rattle.txc_base.specs.Operation.{showing}
use Rattle.txc_table_wait.specs.declared.change.Change.TheVariants.{Removed, Added}
use Rattle.txc_table_wait.specs.declared.change.Interest.{Interest}
use Rattle.txc_base_laws.proofs.Acts.{Leads, leads}
use Rattle.txc_base_laws.proofs.Lists.{at_set_other}
use Rattle.txc_table_interests.specs.Missed.{OnlyThoseWait, StillWaits, is_met, names}
use Rattle.txc_table_interests.specs.Interests.{changed_by, has_bound, item_in, room_in, room_awaited}

-- past the test for an open channel
open_waits : (b : Bool) (c : Channel) (d : Did) (cause : Cause) → (if b then says reply.Closed c else d) ≡ Waits cause
    → (b ≡ false) × (d ≡ Waits cause)
open_waits true c d cause e = cc
open_waits false c d cause e = (refl, e)

-- what a read says where it waits
take_waits : (c : Channel) (reader : ℕ) (cause : Cause) (o : Option (List Item))
    → with_list o (taking c reader (Waits Empty)) ≡ Waits cause
    → (o ≡ Some []) × ((c.closed ≡ false) × (cause ≡ Empty))
take_waits c reader cause None e = cc
take_waits c reader cause (Some []) e =
    let p = open_waits c.closed c (Waits Empty) cause e in
    let is : cause ≡ Empty = cc p.1 in
    (refl, (p.0, is))
take_waits c reader cause (Some (item ∷ rest)) e = cc

-- .. and a peek
show_waits : (c : Channel) (cause : Cause) (o : Option (List Item))
    → with_list o (showing c (Waits Empty)) ≡ Waits cause
    → (o ≡ Some []) × ((c.closed ≡ false) × (cause ≡ Empty))
show_waits c cause None e = cc
show_waits c cause (Some []) e =
    let p = open_waits c.closed c (Waits Empty) cause e in
    let is : cause ≡ Empty = cc p.1 in
    (refl, (p.0, is))
show_waits c cause (Some (item ∷ rest)) e = cc

-- a read waits where there is nothing to read and the channel is open
take_still : (c : Channel) (reader : ℕ) → list_of c reader ≡ Some [] → c.closed ≡ false
    → with_list (list_of c reader) (taking c reader (Waits Empty)) ≡ Waits Empty
take_still c reader none unshut =
    ap (λ (o : Option (List Item)). with_list o (taking c reader (Waits Empty))) none
    ∙ ap (λ (b : Bool). if b then says reply.Closed c else Waits Empty) unshut

-- .. and so does a peek
show_still : (c : Channel) (reader : ℕ) → list_of c reader ≡ Some [] → c.closed ≡ false
    → with_list (list_of c reader) (showing c (Waits Empty)) ≡ Waits Empty
show_still c reader none unshut =
    ap (λ (o : Option (List Item)). with_list o (showing c (Waits Empty))) none
    ∙ ap (λ (b : Bool). if b then says reply.Closed c else Waits Empty) unshut

-- nothing but an item that comes gives a reader something to read in an open channel
nothing_stays : (c : Channel) (seat reader : ℕ) (a : Act) (c' : Channel) → Leads c seat a c'
    → is_met Added (changed_by a) ≡ false
    → list_of c reader ≡ Some [] → c.closed ≡ false → (list_of c' reader ≡ Some []) × (c'.closed ≡ false)
nothing_stays c seat reader (act.Wrote item) c' h unmet none unshut = cc
nothing_stays c seat reader (act.Took taker item) c' h unmet none unshut = (
  ap (λ (x : Channel). list_of x reader) h.1.1 ∙ at_set_other c.lists taker reader h.0 (λ same. another same) ∙ none,
  ap (λ (x : Channel). x.closed) h.1.1 ∙ unshut,
)
  where
    another : reader ≡ taker → ⊥
    another same = let e : Some [] ≡ Some (item ∷ h.0) = sym none ∙ ap (slice_get c.lists) same ∙ h.1.0 in cc
nothing_stays c seat reader (act.PutBack taker item) c' h unmet none unshut = cc
nothing_stays c seat reader act.Closed c' h unmet none unshut = cc
nothing_stays c seat reader (act.Begun new) c' h unmet none unshut = cc
nothing_stays c seat reader (act.Cloned source new) c' h unmet none unshut = cc

-- past the test for room
room_waits : (b : Bool) (r : Did) (cause : Cause) → (r ≡ Waits cause → ⊥) → (if b then Waits Full else r) ≡ Waits cause
    → (b ≡ true) × (cause ≡ Full)
room_waits true r cause unmet e = (refl, cc)
room_waits false r cause unmet e = absurd (unmet e)

-- what a write says where it waits
write_waits : (c : Channel) (cause : Cause) (o : Option ℕ) (item : ℕ → Item)
    → with_body o (λ b. while_open c (with_room c (Waits Full) (wrote c (item b)))) ≡ Waits cause
    → (body : ℕ) × ((o ≡ Some body)
    × ((c.closed ≡ false) × (((is_bounded c.kind && is_full c) ≡ true) × (cause ≡ Full))))
write_waits c cause None item e = cc
write_waits c cause (Some b) item e =
    let p = open_waits c.closed c (with_room c (Waits Full) (wrote c (item b))) cause e in
    let q = room_waits (is_bounded c.kind && is_full c) (wrote c (item b)) cause (λ w. cc w) p.1 in
    (b, (refl, (p.0, q)))

-- a write waits where the channel is open and full
write_still : (c : Channel) (o : Option ℕ) (body : ℕ) (item : ℕ → Item) → o ≡ Some body → c.closed ≡ false
    → (is_bounded c.kind && is_full c) ≡ true
    → with_body o (λ b. while_open c (with_room c (Waits Full) (wrote c (item b)))) ≡ Waits Full
write_still c o body item is unshut full =
    ap (λ (x : Option ℕ). with_body x (λ b. while_open c (with_room c (Waits Full) (wrote c (item b))))) is
    ∙ ap (λ (b : Bool). if b then says reply.Closed c else with_room c (Waits Full) (wrote c (item body))) unshut
    ∙ ap (λ (b : Bool). if b then Waits Full else wrote c (item body)) full

-- what a put-back says where it waits
back_waits : (c : Channel) (reader : ℕ) (cause : Cause) (o : Option ℕ) (l : Option (List Item)) (item : ℕ → Item)
    → with_body o (λ b. with_list l
    (λ list. while_open c (if is_plain_bounded c.kind && is_full c then Waits Full else put_back c reader list
    (item b)))) ≡ Waits cause
    → (is_plain_bounded c.kind && is_full c) ≡ true
back_waits c reader cause None l item e = cc
back_waits c reader cause (Some b) None item e = cc
back_waits c reader cause (Some b) (Some list) item e =
    let p = open_waits c.closed c
    (if is_plain_bounded c.kind && is_full c then Waits Full else put_back c reader list (item b)) cause e in
    (room_waits (is_plain_bounded c.kind && is_full c) (put_back c reader list (item b)) cause (λ w. cc w) p.1).0

-- a put-back leaves the first list no shorter
no_shorter : (lists : List (List Item)) (reader : ℕ) (list : List Item) (item : Item)
    → slice_get lists reader ≡ Some list
    → length (slice_index_or lists 0 []) ≤ length (slice_index_or (set lists reader (item ∷ list)) 0 [])
no_shorter [] reader list item e = cc
no_shorter (l ∷ ls) zero list item e = omega (arith, ap length (same_Some l list e))
no_shorter (l ∷ ls) (suc reader) list item e = omega arith

-- what is full is so with more
full_with_more : (bound m n : ℕ) → nat_le bound m ≡ true → m ≤ n → nat_le bound n ≡ true
full_with_more bound m n e le = grind (arith, nat_tests)

-- nothing but an item that is taken gives room in an open channel
full_stays : (c : Channel) (seat : ℕ) (a : Act) (c' : Channel) → Leads c seat a c' → is_met Removed (changed_by a)
    ≡ false
    → c.closed ≡ false → (is_bounded c.kind && is_full c) ≡ true → (c'.closed ≡ false)
    × ((is_bounded c'.kind && is_full c') ≡ true)
full_stays c seat (act.Wrote item) c' h unmet unshut full =
    absurd (both_ways (is_bounded c.kind && is_full c) (not-true (is_bounded c.kind && is_full c) h.1.0) full)
full_stays c seat (act.Took taker item) c' h unmet unshut full = cc
full_stays c seat (act.PutBack reader item) c' h unmet unshut full =
    let parts = and_parts (is_bounded c.kind) (is_full c) full in
    let more : is_full (with_back c reader h.0 item) ≡ true =
    full_with_more c.bound (length (slice_index_or c.lists 0 []))
    (length (slice_index_or (set c.lists reader (item ∷ h.0)) 0 [])) parts.1
    (no_shorter c.lists reader h.0 item h.1.0) in (
      ap (λ (x : Channel). x.closed) h.1.1.1.1.1 ∙ unshut,
      ap (λ (x : Channel). is_bounded x.kind && is_full x) h.1.1.1.1.1
          ∙ and_from (is_bounded c.kind) (is_full (with_back c reader h.0 item)) parts.0 more,
    )
full_stays c seat act.Closed c' h unmet unshut full = cc
full_stays c seat (act.Begun new) c' h unmet unshut full = cc
full_stays c seat (act.Cloned source new) c' h unmet unshut full = cc

-- a plain bound is a bound
plain_is_bounded : (kind : Kind) → is_plain_bounded kind ≡ true → is_bounded kind ≡ true
plain_is_bounded Queue e = cc
plain_is_bounded Bounded e = refl
plain_is_bounded Cast e = cc
plain_is_bounded MQueue e = cc
plain_is_bounded BMQueue e = refl
plain_is_bounded MCast e = cc

-- nothing can be put into a full queue with a plain bound
nothing_goes_in : (c : Channel) (seat : ℕ) (a : Act) (c' : Channel) → Leads c seat a c'
    → is_met Removed (changed_by a) ≡ false
    → (is_plain_bounded c.kind && is_full c) ≡ true → ⊥
nothing_goes_in c seat (act.Wrote item) c' h unmet full =
    let parts = and_parts (is_plain_bounded c.kind) (is_full c) full in
    both_ways (is_bounded c.kind && is_full c) (not-true (is_bounded c.kind && is_full c) h.1.0)
    (and_from (is_bounded c.kind) (is_full c) (plain_is_bounded c.kind parts.0) parts.1)
nothing_goes_in c seat (act.Took taker item) c' h unmet full = cc
nothing_goes_in c seat (act.PutBack reader item) c' h unmet full =
    both_ways (is_plain_bounded c.kind && is_full c) (not-true (is_plain_bounded c.kind && is_full c) h.1.1.1.0) full
nothing_goes_in c seat act.Closed c' h unmet full = cc
nothing_goes_in c seat (act.Begun new) c' h unmet full = cc
nothing_goes_in c seat (act.Cloned source new) c' h unmet full = cc

-- one of two tests holds
second_fails : (a b : Bool) → a ≡ true → (a && b) ≡ false → b ≡ false
second_fails true b is e = e
second_fails false b is e = cc

-- an act in a channel that an interest in that channel doesn't name
not_met : (chan : ℕ) (w interest : Interest) (a : Act) → w ≡ interest → w.chan ≡ chan → names chan a interest ≡ false
    → is_met w.change (changed_by a) ≡ false
not_met chan w interest a same at unmet =
    second_fails (nat_eq w.chan chan) (is_met w.change (changed_by a)) (eq-eqb w.chan chan at) (ap (names chan a) same
    ∙ unmet)

-- what awaits room awaits it in its channel
awaits_room : (kinds : ℕ → Option Kind) (chan : ℕ) (interest : Interest) → room_awaited kinds chan ≡ Some interest
    → room_in chan ≡ interest
awaits_room kinds chan interest e = (cond_some (has_bound (kinds chan)) (room_in chan) interest e).1

-- the law of what waits still
pub still_waits : StillWaits
still_waits kinds c left seat last (Read chan reader) cause interest entry kind awaits waits led unmet =
    let w = take_waits c reader cause (list_of c reader) waits in
    let met = not_met chan (item_in chan) interest entry.act (same_Some (item_in chan) interest awaits) refl unmet in
    let s = nothing_stays c entry.tag.seat reader entry.act left (leads c entry.tag.seat entry.act left led) met w.0
    w.1.0 in
    take_still left reader s.0 s.1 ∙ ap Waits (sym w.1.1)
still_waits kinds c left seat last (Peek chan reader) cause interest entry kind awaits waits led unmet =
    let w = show_waits c cause (list_of c reader) waits in
    let met = not_met chan (item_in chan) interest entry.act (same_Some (item_in chan) interest awaits) refl unmet in
    let s = nothing_stays c entry.tag.seat reader entry.act left (leads c entry.tag.seat entry.act left led) met w.0
    w.1.0 in
    show_still left reader s.0 s.1 ∙ ap Waits (sym w.1.1)
still_waits kinds c left seat last (Write chan body) cause interest entry kind awaits waits led unmet =
    let w = write_waits c cause (body_of last body) (next_written c seat) waits in
    let met = not_met chan (room_in chan) interest entry.act (awaits_room kinds chan interest awaits) refl unmet in
    let s = full_stays c entry.tag.seat entry.act left (leads c entry.tag.seat entry.act left led) met w.1.1.0
    w.1.1.1.0 in
    write_still left (body_of last body) w.0 (next_written left seat) w.1.0 s.0 s.1 ∙ ap Waits (sym w.1.1.1.1)
still_waits kinds c left seat last (PutBack chan reader body) cause interest entry kind awaits waits led unmet =
    let full = back_waits c reader cause (body_of last body) (list_of c reader) (next_back c seat) waits in
    let met = not_met chan (room_in chan) interest entry.act (awaits_room kinds chan interest awaits) refl unmet in
    absurd (nothing_goes_in c entry.tag.seat entry.act left (leads c entry.tag.seat entry.act left led) met full)
still_waits kinds c left seat last op cause interest entry kind awaits waits led unmet = cc

-- the law of what never waits
pub only_those_wait : OnlyThoseWait
only_those_wait = search rules
