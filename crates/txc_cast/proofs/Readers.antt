-- How one reader is found, and how its change shows in the list.
use Rattle.std.proofs.Common.{◌≡◌, refl, sym, ◌∙◌, ap, subst, ℕ, ◌<◌, ◌≤◌, List, [], ◌∷◌, ◌++◌, drop, length, set}
use Rattle.std.proofs.Common.{get_or, ⊎_elim, arith, Option, Some, None, Result, Ok, Err}
use Rattle.std.specs.Prelude.{slice_get, option_map, true, nat_lt, IsSomeAnd}
use Rattle.std.proofs.lemmas.Bool.{cases_lt, ltb-true}
use Rattle.std.proofs.lemmas.List.{map-set, get_or-map, length-map, set_past, set-get_or, drop_more, drop_all}
use Rattle.std.proofs.lemmas.Option.{slice_get-get_or, slice_get-map, slice_get_past, slice_get_cases}
use Rattle.boxcar.specs.Table.{Shelves, Where}
use Rattle.txc_base.specs.declared.item.Item.{Item}
use Rattle.txc_cast.specs.declared.fault.CastFault.{CastFault}
use Rattle.txc_cast.specs.declared.fault.CastFault.TheVariants.{NoReader}
use Rattle.txc_cast.specs.Reader.{Reader, fresh}
use Rattle.txc_cast.specs.Standing.{ReaderState, reader_standing, readers_standing}
use Rattle.txc_cast.specs.Broadcast.{Broadcast, with_reader_at, reader_at, first_in, first_of, taken_at}
use Rattle.txc_cast.specs.Kept.{broadcast, items_shown}
use Rattle.txc_cast.proofs.Steps.{takes_nothing}

-- a reader by its number
pub found : (items : List Item) (standings : List ReaderState) (n : ℕ) (standing : ReaderState)
    → n < length standings → standing ≡ get_or standings n standing
    → slice_get (readers_standing items standings) n ≡ Some (reader_standing items standing)
found items standings n standing within is =
    slice_get-map (reader_standing items) standings n
    ∙ ap (option_map (reader_standing items)) (slice_get-get_or standings n standing within ∙ ap Some (sym is))

-- the same, past the end too
pub found_at : (items : List Item) (standings : List ReaderState) (n : ℕ) (standing : ReaderState)
    → n < length standings → standing ≡ get_or standings n standing
    → get_or (readers_standing items standings) n fresh ≡ reader_standing items standing
found_at items standings n standing within is =
    get_or-map (reader_standing items) standings n standing fresh within ∙ ap (reader_standing items) (sym is)

-- one reader changed, among the readers
one : (items : List Item) (standings : List ReaderState) (n : ℕ) (old new : ReaderState) (f : Reader → Reader)
    → n < length standings → old ≡ get_or standings n old → reader_standing items new ≡ f (reader_standing items old)
    → readers_standing items (set standings n new) ≡ set (readers_standing items standings) n
    (f (get_or (readers_standing items standings) n fresh))
one items standings n old new f within is step =
    map-set (reader_standing items) standings n new
    ∙ ap (set (readers_standing items standings) n) (step ∙ ap f (sym (found_at items standings n old within is)))

-- one reader changed, in the list
pub changed : (shelf : Shelves) (tokens : List (Where Item)) (standings : List ReaderState) (n : ℕ)
    (old new : ReaderState) (f : Reader → Reader)
    → n < length standings → old ≡ get_or standings n old
    → reader_standing (items_shown tokens) new ≡ f (reader_standing (items_shown tokens) old)
    → broadcast shelf tokens (set standings n new)
    ≡ with_reader_at (broadcast shelf tokens standings) n (f (reader_at (broadcast shelf tokens standings) n))
changed shelf tokens standings n old new f within is step =
    ap (λ (readers : List Reader). record (broadcast shelf tokens standings) { readers = readers })
    (one (items_shown tokens) standings n old new f within is step)

-- a call that answered found its reader
pub there : (readers : List Reader) (n : ℕ) (answer : Option Item) → Ok answer ≡ first_in (slice_get readers n)
    → n < length readers
there readers n answer is = ⊎_elim (λ within. within) (λ past.
    let none : slice_get readers n ≡ None = slice_get_past readers n past in
    let bad : ◌≡◌ {A = Result (Option Item) CastFault} (Ok answer) (Err NoReader) = is ∙ ap first_in none in
    absurd (let no : ⊥ = cc in no)) (cases_lt n (length readers))

-- a call that refused found none
pub not_there : (readers : List Reader) (n : ℕ) (fault : CastFault) → Err fault ≡ first_in (slice_get readers n)
    → length readers ≤ n
not_there readers n fault is = ⊎_elim (λ within.
    let some : slice_get readers n ≡ Some (get_or readers n fresh) = slice_get-get_or readers n fresh within in
    let bad : ◌≡◌ {A = Result (Option Item) CastFault} (Err fault) (Ok (slice_get (get_or readers n fresh).list 0)) = is
    ∙ ap first_in some in
    absurd (let no : ⊥ = cc in no)) (λ past. past) (cases_lt n (length readers))

-- what a call that answered found
pub first_at : (readers : List Reader) (n : ℕ) (answer : Option Item) → Ok answer ≡ first_in (slice_get readers n)
    → slice_get (get_or readers n fresh).list 0 ≡ answer
first_at readers n answer is =
    let some : slice_get readers n ≡ Some (get_or readers n fresh) =
    slice_get-get_or readers n fresh (there readers n answer is) in
    let same : ◌≡◌ {A = Result (Option Item) CastFault} (Ok answer) (Ok (slice_get (get_or readers n fresh).list 0)) =
    is ∙ ap first_in some in
    cc

-- a list as its tokens and readers give it
abbrev pub IsAs : Shelves → List (Where Item) → List ReaderState → Broadcast → Type 0
IsAs shelf tokens standings cast = broadcast shelf tokens standings ≡ cast

-- a call that answered found its reader among the readers
pub finds : (shelf : Shelves) (tokens : List (Where Item)) (standings : List ReaderState) (cast : Broadcast) (n : ℕ)
    (answer : Option Item)
    → IsAs shelf tokens standings cast → Ok answer ≡ first_of cast n → n < length standings
finds shelf tokens standings cast n answer viewed is =
    let within : n < length (readers_standing (items_shown tokens) standings) =
    there (readers_standing (items_shown tokens) standings) n answer (is ∙ ap (λ b. first_of b n) (sym viewed)) in
    let same = length-map standings (reader_standing (items_shown tokens)) in
    omega arith

-- and answered what is in front of its list
pub finds_first : (shelf : Shelves) (tokens : List (Where Item)) (standings : List ReaderState) (cast : Broadcast)
    (n : ℕ) (answer : Option Item) (standing : ReaderState)
    → IsAs shelf tokens standings cast → Ok answer ≡ first_of cast n → standing ≡ get_or standings n standing
    → slice_get (reader_standing (items_shown tokens) standing).list 0 ≡ answer
finds_first shelf tokens standings cast n answer standing viewed is found =
    ap (λ (reader : Reader). slice_get reader.list 0)
    (sym (found_at (items_shown tokens) standings n standing (finds shelf tokens standings cast n answer viewed is)
    found))
    ∙ first_at (readers_standing (items_shown tokens) standings) n answer (is ∙ ap (λ b. first_of b n) (sym viewed))

holds_within : (P : Reader → Type 0) (readers : List Reader) (n : ℕ) → IsSomeAnd (slice_get readers n) P
    → n < length readers
holds_within P readers n holds = ⊎_elim (λ within. within) (λ past.
    absurd (subst (λ o. IsSomeAnd o P) (slice_get_past readers n past) holds)) (cases_lt n (length readers))

-- a reader of which something is required is there
pub is_there : (P : Reader → Type 0) (shelf : Shelves) (tokens : List (Where Item)) (standings : List ReaderState)
    (cast : Broadcast) (n : ℕ)
    → IsAs shelf tokens standings cast → IsSomeAnd (slice_get cast.readers n) P → n < length standings
is_there P shelf tokens standings cast n viewed holds =
    let within : n < length (readers_standing (items_shown tokens) standings) =
    holds_within P (readers_standing (items_shown tokens) standings) n
    (subst (λ (b : Broadcast). IsSomeAnd (slice_get b.readers n) P) (sym viewed) holds) in
    let same = length-map standings (reader_standing (items_shown tokens)) in
    omega arith

-- what is required of a reader, at that reader
pub at_reader : (P : Reader → Type 0) (shelf : Shelves) (tokens : List (Where Item)) (standings : List ReaderState)
    (cast : Broadcast) (n : ℕ) (standing : ReaderState)
    → IsAs shelf tokens standings cast → standing ≡ get_or standings n standing
    → IsSomeAnd (slice_get cast.readers n) P → P (reader_standing (items_shown tokens) standing)
at_reader P shelf tokens standings cast n standing viewed is holds =
    let here : slice_get cast.readers n ≡ Some (reader_standing (items_shown tokens) standing) =
    ap (λ (b : Broadcast). slice_get b.readers n) (sym viewed)
    ∙ found (items_shown tokens) standings n standing (is_there P shelf tokens standings cast n viewed holds) is in
    subst (λ o. IsSomeAnd o P) here holds

-- a take with no such reader changes nothing
pub takes_none : (cast : Broadcast) (n : ℕ) (fault : CastFault) → Err fault ≡ first_of cast n → cast ≡ taken_at cast n
takes_none cast n fault is =
    ap (λ (readers : List Reader). record cast { readers = readers })
    (sym (set_past cast.readers n _ (not_there cast.readers n fault is)))

-- nor does one where there is nothing to read
pub takes_empty : (cast : Broadcast) (n : ℕ) → Ok None ≡ first_of cast n → cast ≡ taken_at cast n
takes_empty cast n is =
    ap (λ (readers : List Reader). record cast { readers = readers })
    (sym (ap (set cast.readers n) (takes_nothing (get_or cast.readers n fresh) (first_at cast.readers n None is))
    ∙ set-get_or cast.readers n fresh))

-- the reader that stands where a cursor was found
pub read_at : (shelf : Shelves) (tokens : List (Where Item)) (standings got : List ReaderState) (cast : Broadcast)
    (n : ℕ) (standing : ReaderState)
    → IsAs shelf tokens standings cast → got ≡ standings → true ≡ nat_lt n (length got)
    → standing ≡ get_or got n standing
    → reader_standing (items_shown tokens) standing ≡ reader_at cast n
read_at shelf tokens standings got cast n standing viewed same within at =
    let inside : n < length standings = subst (λ (list : List ReaderState). n < length list) same
    (ltb-true n (length got) (sym within)) in
    sym (found_at (items_shown tokens) standings n standing inside
    (at ∙ ap (λ (list : List ReaderState). get_or list n standing) same))
    ∙ ap (λ (b : Broadcast). reader_at b n) viewed

-- what stands first behind a place
head_behind : (position : ℕ) (items : List Item) → slice_get (drop position items) 0 ≡ slice_get items position
head_behind position items = ⊎_elim (λ found.
    let x : Item = found.0 in
    ap (λ (list : List Item). slice_get list 0) (drop_more items position x found.1) ∙ ap Some found.3 ∙ sym found.2)
    (λ past.
    ap (λ (list : List Item). slice_get list 0) (drop_all position items past.0) ∙ sym past.1)
    (slice_get_cases items position).1

front_of : (backs rest : List Item) (item : Item) → slice_get backs 0 ≡ Some item
    → slice_get (backs ++ rest) 0 ≡ Some item
front_of [] rest item first = cc
front_of (back ∷ backs) rest item first = first

no_front_of : (backs rest : List Item) → slice_get backs 0 ≡ None → slice_get (backs ++ rest) 0 ≡ slice_get rest 0
no_front_of [] rest none = refl
no_front_of (back ∷ backs) rest none = cc

-- there is no such reader
pub answers_none : (cast : Broadcast) (n : ℕ) → slice_get cast.readers n ≡ None → Err NoReader ≡ first_of cast n
answers_none cast n none = sym (ap first_in none)

-- a reader with a put-back reads it next
pub answers_back : (items : List Item) (cast : Broadcast) (n : ℕ) (standing : ReaderState) (item : Item)
    → slice_get cast.readers n ≡ Some (reader_standing items standing)
    → slice_get standing.backs 0 ≡ Some item → Ok (Some item) ≡ first_of cast n
answers_back items cast n standing item here first =
    sym (ap first_in here ∙ ap Ok (front_of standing.backs (drop standing.position items) item first))

-- and one without what is written at its place
pub answers_written : (items : List Item) (cast : Broadcast) (n : ℕ) (standing : ReaderState) (answer : Option Item)
    → slice_get cast.readers n ≡ Some (reader_standing items standing)
    → slice_get standing.backs 0 ≡ None → answer ≡ slice_get items standing.position → Ok answer ≡ first_of cast n
answers_written items cast n standing answer here none is =
    sym (ap first_in here ∙ ap Ok (no_front_of standing.backs (drop standing.position items) none
    ∙ head_behind standing.position items ∙ sym is))
