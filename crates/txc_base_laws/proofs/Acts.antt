-- What it says of two channels that an act led from one to the other, act by act.
use Rattle.std.proofs.Common.{◌≡◌, refl, sym, ◌∙◌, ap, ℕ, ◌<◌, Bool, true, false, not, ◌&&◌, Some, List, [], ◌∷◌}
use Rattle.std.proofs.Common.{length, drop, eqb-true, eq-eqb, ltb-true}
use Rattle.std.proofs.lemmas.Bool.{and_parts, and_from, not-true}
use Rattle.std.proofs.lemmas.Option.{cond_some, option_and_then_some}
use Rattle.txc_base.specs.declared.act.Act.{Act}
use Rattle.txc_base.specs.declared.act.Act.TheVariants.{Wrote, Took, PutBack, Closed, Begun, Cloned}
use Rattle.txc_base.specs.declared.item.Item.{Item}
use Rattle.txc_base.specs.declared.origin.Origin.{Origin}
use Rattle.txc_base.specs.declared.origin.Origin.TheVariants.{Written, Back}
use Rattle.txc_base.specs.Channel.{Channel, list_of}
use Rattle.txc_base.specs.declared.limits.TheConstants.{MAX_READERS}
use Rattle.txc_base.specs.Kinds.{is_broadcast, is_closable}
use Rattle.txc_base.specs.Operation.{next_written, next_back, with_written, with_left, with_back, with_reader}
use Rattle.txc_base.specs.Log.{origin_eq, item_eq, begins_with, takes_write, takes_back, is_next_back, is_next_reader}
use Rattle.txc_base.specs.Log.{provided, after_act}

-- equal origins are the same
pub origin_is : (one other : Origin) → origin_eq one other ≡ true → one ≡ other
origin_is (Written m) (Written n) e = ap Written (eqb-true m n e)
origin_is (Back m) (Back n) e = ap Back (eqb-true m n e)
origin_is (Written m) (Back n) e = cc
origin_is (Back m) (Written n) e = cc

-- an origin is equal to itself
pub origin_same : (origin : Origin) → origin_eq origin origin ≡ true
origin_same (Written n) = eq-eqb n n refl
origin_same (Back n) = eq-eqb n n refl

-- equal items are the same
pub item_is : (one other : Item) → item_eq one other ≡ true → one ≡ other
item_is one other e =
    let parts = and_parts _ _ e in
    let rest = and_parts _ _ parts.1 in
    let o : one.origin ≡ other.origin = origin_is one.origin other.origin parts.0 in
    let s : one.seat ≡ other.seat = eqb-true one.seat other.seat rest.0 in
    let b : one.body ≡ other.body = eqb-true one.body other.body rest.1 in
    λ j. record { origin = o j; seat = s j; body = b j }

-- an item is equal to itself
pub item_same : (item : Item) → item_eq item item ≡ true
item_same item =
    and_from _ _ (origin_same item.origin)
    (and_from _ _ (eq-eqb item.seat item.seat refl) (eq-eqb item.body item.body refl))

-- a list that begins with an item
pub begins_is : (list : List Item) (item : Item) → begins_with list item ≡ true → list ≡ item ∷ drop 1 list
begins_is [] item e = cc
begins_is (first ∷ rest) item e = ap (λ x. x ∷ rest) (item_is first item e)

-- what a lawful act says of the channel before it and the channel after it
abbrev pub Leads : Channel → ℕ → Act → Channel → Type 0
Leads c seat (Wrote item) c' =
    (c.closed ≡ false) × ((takes_write c ≡ true)
    × ((item ≡ next_written c seat item.body) × (c' ≡ with_written c item)))
Leads c seat (Took reader item) c' =
    (rest : List Item) × ((list_of c reader ≡ Some (item ∷ rest)) × (c' ≡ with_left c reader rest))
Leads c seat (PutBack reader item) c' =
    (list : List Item) × ((list_of c reader ≡ Some list) × ((c.closed ≡ false) × ((takes_back c ≡ true)
    × ((item ≡ next_back c seat item.body) × (c' ≡ with_back c reader list item)))))
Leads c seat Closed c' = (is_closable c.kind ≡ true) × ((c.closed ≡ false) × (c' ≡ record c { closed = true }))
Leads c seat (Begun reader) c' =
    (is_broadcast c.kind ≡ true) × ((reader ≡ length c.lists)
    × ((length c.lists < MAX_READERS) × (c' ≡ with_reader c [])))
Leads c seat (Cloned source reader) c' =
    (list : List Item) × ((list_of c source ≡ Some list) × ((is_broadcast c.kind ≡ true) × ((reader ≡ length c.lists)
    × ((length c.lists < MAX_READERS) × (c' ≡ with_reader c list)))))

-- a channel is given only where the test holds
given : (test : Bool) (c c' : Channel) → provided test c ≡ Some c' → (test ≡ true) × (c' ≡ c)
given test c c' e = let t = cond_some test c c' e in (t.0, sym t.1)

-- the number of the next reader
next_reader : (c : Channel) (reader : ℕ) → is_next_reader c reader ≡ true
    → (is_broadcast c.kind ≡ true) × ((reader ≡ length c.lists) × (length c.lists < MAX_READERS))
next_reader c reader e =
    let parts = and_parts _ _ e in
    let rest = and_parts _ _ parts.1 in
    (parts.0, (eqb-true reader (length c.lists) rest.0, ltb-true (length c.lists) MAX_READERS rest.1))

-- what a lawful write says
wrote : (c : Channel) (seat : ℕ) (item : Item) (c' : Channel) → after_act c seat (Wrote item) ≡ Some c'
    → Leads c seat (Wrote item) c'
wrote c seat item c' e =
    let t = given _ (with_written c item) c' e in
    let parts = and_parts _ _ t.0 in
    let rest = and_parts _ _ parts.1 in
    (not-true c.closed parts.0, (rest.0, (item_is item (next_written c seat item.body) rest.1, t.1)))

-- what a lawful take says
took : (c : Channel) (seat reader : ℕ) (item : Item) (c' : Channel) → after_act c seat (Took reader item) ≡ Some c'
    → Leads c seat (Took reader item) c'
took c seat reader item c' e =
    option_and_then_some {P = Leads c seat (Took reader item) c'} _ (list_of c reader) c' e
    (λ list is next.
    let t = given (begins_with list item) (with_left c reader (drop 1 list)) c' next in
    (drop 1 list, (is ∙ ap Some (begins_is list item t.0), t.1)))

-- what a lawful put-back says
put_back : (c : Channel) (seat reader : ℕ) (item : Item) (c' : Channel)
    → after_act c seat (PutBack reader item) ≡ Some c' → Leads c seat (PutBack reader item) c'
put_back c seat reader item c' e =
    option_and_then_some {P = Leads c seat (PutBack reader item) c'} _ (list_of c reader) c' e
    (λ list is next.
    let t = given (not c.closed && (takes_back c && is_next_back c seat item)) (with_back c reader list item) c' next in
    let parts = and_parts _ _ t.0 in
    let rest = and_parts _ _ parts.1 in
    (list, (is, (not-true c.closed parts.0, (rest.0, (item_is item (next_back c seat item.body) rest.1, t.1))))))

-- what a lawful closing says
closed : (c : Channel) (seat : ℕ) (c' : Channel) → after_act c seat Closed ≡ Some c' → Leads c seat Closed c'
closed c seat c' e =
    let t = given _ (record c { closed = true }) c' e in
    let parts = and_parts _ _ t.0 in
    (parts.0, (not-true c.closed parts.1, t.1))

-- what a lawful duplicate says
begun : (c : Channel) (seat reader : ℕ) (c' : Channel) → after_act c seat (Begun reader) ≡ Some c'
    → Leads c seat (Begun reader) c'
begun c seat reader c' e =
    let t = given _ (with_reader c []) c' e in
    let next = next_reader c reader t.0 in
    (next.0, (next.1.0, (next.1.1, t.1)))

-- what a lawful clone says
cloned : (c : Channel) (seat source reader : ℕ) (c' : Channel) → after_act c seat (Cloned source reader) ≡ Some c'
    → Leads c seat (Cloned source reader) c'
cloned c seat source reader c' e =
    option_and_then_some {P = Leads c seat (Cloned source reader) c'} _ (list_of c source) c' e
    (λ list is next.
    let t = given (is_next_reader c reader) (with_reader c list) c' next in
    let number = next_reader c reader t.0 in
    (list, (is, (number.0, (number.1.0, (number.1.1, t.1))))))

-- what a lawful act says
pub leads : (c : Channel) (seat : ℕ) (act : Act) (c' : Channel) → after_act c seat act ≡ Some c' → Leads c seat act c'
leads c seat (Wrote item) c' e = wrote c seat item c' e
leads c seat (Took reader item) c' e = took c seat reader item c' e
leads c seat (PutBack reader item) c' e = put_back c seat reader item c' e
leads c seat Closed c' e = closed c seat c' e
leads c seat (Begun reader) c' e = begun c seat reader c' e
leads c seat (Cloned source reader) c' e = cloned c seat source reader c' e
