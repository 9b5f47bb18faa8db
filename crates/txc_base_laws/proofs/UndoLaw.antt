-- Why what a channel was before an entry can be told from what it is after.
use Rattle.std.proofs.Common.{◌≡◌, refl, sym, ◌∙◌, ap, ℕ, ◌+◌, ◌-◌, Some, List, [], ◌∷◌, ◌++◌, length, length-append}
use Rattle.std.proofs.Common.{map, take, drop, set, slice_get, slice_index_or, arith}
use Rattle.std.proofs.lemmas.List.{take_at, set-set}
use Rattle.std.proofs.lemmas.Option.{get_or_from_slice_get}
use Rattle.txc_base.specs.declared.act.Act.{Act}
use Rattle.txc_base.specs.declared.act.Act.TheVariants.{Wrote, Took, PutBack, Closed, Begun, Cloned}
use Rattle.txc_base.specs.declared.item.Item.{Item}
use Rattle.txc_base.specs.Channel.{Channel, opening, list_of}
use Rattle.txc_base.specs.Operation.{with_written, with_left, with_back, with_reader}
use Rattle.txc_base_laws.proofs.Acts.{Leads, leads}
use Rattle.txc_base_laws.proofs.Lists.{at_set_same, set_there}
use Rattle.txc_base_laws.proofs.Truth.{between}
use Rattle.txc_base_laws.specs.Undone.{front_of, undone}
use Rattle.txc_base_laws.specs.Laws.{TakesBack, StaysTrueBack}

-- a list without what was added at its end
pub front_push : {X : Type 0} (xs : List X) (x : X) → front_of (xs ++ x ∷ []) ≡ xs
front_push xs x =
    let n : length (xs ++ x ∷ []) - 1 ≡ length xs = omega (arith, length-append xs (x ∷ [])) in
    ap (λ k. take k (xs ++ x ∷ [])) n ∙ take_at xs (x ∷ []) (length xs) refl

-- each list without it
fronts : (lists : List (List Item)) (item : Item) → map front_of (map (λ (l : List Item). l ++ item ∷ []) lists) ≡ lists
fronts [] item = refl
fronts (list ∷ lists) item = ap (λ l. l ∷ map front_of (map (λ (l : List Item). l ++ item ∷ []) lists))
    (front_push list item) ∙ ap (λ l. list ∷ l) (fronts lists item)

-- one less than one more
less : (n : ℕ) → n + 1 - 1 ≡ n
less n = omega arith

-- a list that is put in the place of what took its place
back_in_place : (lists : List (List Item)) (reader : ℕ) (old new : List Item) → slice_get lists reader ≡ Some old
    → set (set lists reader new) reader old ≡ lists
back_in_place lists reader old new is = set-set lists reader new old ∙ set_there lists reader old is

-- what is read at that place
in_place : (lists : List (List Item)) (reader : ℕ) (old new : List Item) → slice_get lists reader ≡ Some old
    → slice_index_or (set lists reader new) reader [] ≡ new
in_place lists reader old new is = get_or_from_slice_get (set lists reader new) reader new []
    (at_set_same lists reader old new is)

-- before a write
before_wrote : (c : Channel) (item : Item) → undone (with_written c item) (Wrote item) ≡ c
before_wrote c item = λ j. record c { written = less c.written j; lists = fronts c.lists item j }

-- before a take
before_took : (c : Channel) (reader : ℕ) (item : Item) (rest : List Item) → list_of c reader ≡ Some (item ∷ rest)
    → undone (with_left c reader rest) (Took reader item) ≡ c
before_took c reader item rest is =
    ap (λ l. record c { lists = set (set c.lists reader rest) reader (item ∷ l) })
    (in_place c.lists reader (item ∷ rest) rest is)
    ∙ ap (λ l. record c { lists = l }) (back_in_place c.lists reader (item ∷ rest) rest is)

-- before a put-back
before_back : (c : Channel) (reader : ℕ) (item : Item) (list : List Item) → list_of c reader ≡ Some list
    → undone (with_back c reader list item) (PutBack reader item) ≡ c
before_back c reader item list is =
    ap (λ l. record c { backs = c.backs + 1 - 1; lists = set (set c.lists reader (item ∷ list)) reader (drop 1 l) })
    (in_place c.lists reader list (item ∷ list) is)
    ∙ (λ j. record c { backs = less c.backs j; lists = back_in_place c.lists reader list (item ∷ list) is j })

-- before a new reader
before_reader : (c : Channel) (list : List Item)
    → record (with_reader c list) { lists = front_of (with_reader c list).lists } ≡ c
before_reader c list = ap (λ l. record c { lists = l }) (front_push c.lists list)

-- before any act
before_act : (c : Channel) (seat : ℕ) (act : Act) (c' : Channel) → Leads c seat act c' → undone c' act ≡ c
before_act c seat (Wrote item) c' h = ap (λ x. undone x (Wrote item)) h.1.1.1 ∙ before_wrote c item
before_act c seat (Took reader item) c' h = ap (λ x. undone x (Took reader item)) h.1.1
    ∙ before_took c reader item h.0 h.1.0
before_act c seat (PutBack reader item) c' h = ap (λ x. undone x (PutBack reader item)) h.1.1.1.1.1
    ∙ before_back c reader item h.0 h.1.0
before_act c seat Closed c' h = ap (λ x. undone x Closed) h.1.1 ∙ ap (λ b. record c { closed = b }) (sym h.1.0)
before_act c seat (Begun reader) c' h = ap (λ x. undone x (Begun reader)) h.1.1.1 ∙ before_reader c []
before_act c seat (Cloned source reader) c' h = ap (λ x. undone x (Cloned source reader)) h.1.1.1.1.1
    ∙ before_reader c h.0

-- the law
pub before : TakesBack
before channel left entry e = before_act channel entry.tag.seat entry.act left
    (leads channel entry.tag.seat entry.act left e)

-- .. for the truth of the channel
pub stays_true_back : StaysTrueBack
stays_true_back kind bound readers log entry left h =
    let b = between (Some (opening kind bound readers)) log (entry ∷ []) left h in
    b.1.0 ∙ ap Some (sym (before b.0 left entry b.1.1))
