-- The lists of a broadcast list, and its room for undoing, call by call.
use Rattle.std.proofs.Common.{◌≡◌, refl, sym, ◌∙◌, ap, subst, ℕ, zero, suc, true, false, Result, Ok, Err, List, [], ◌∷◌}
use Rattle.std.proofs.Common.{◌++◌, map, set, slice_index_or, replicate}
use Rattle.std.specs.Prelude.{IfOk, OnOk, OnErr}
use Rattle.std.specs.Result.{MatchResult, is_ok}
use Rattle.std.proofs.lemmas.List.{map-set, map-append, take-map, length-map}
use Rattle.std.proofs.lemmas.Option.{slice_get-map, slice_get-get_or, slice_get_past, slice_get_within}
use Rattle.txc_base.specs.declared.item.Item.{Item}
use Rattle.txc_cast.specs.Broadcast.{Broadcast, Appends, reader_at, read_of, with_reader_at, with_new_reader}
use Rattle.txc_cast.specs.Reader.{Reader, fresh, with_last, without_last_item, settled_reader}
use Rattle.txc_queue_fanout.specs.Fanout.{unread_of}
use Rattle.txc_queue.specs.Queue.{Queue, empty, with_nothing_undoable}
use Rattle.txc_base_laws.specs.Undone.{front_of}

abbrev pub read : Reader → List Item
read reader = reader.list

pub map_map : {X Y Z : Type 0} (f : X → Y) (g : Y → Z) (h : X → Z) → ((x : X) → g (f x) ≡ h x) → (xs : List X)
    → map g (map f xs) ≡ map h xs
map_map f g h e [] = refl
map_map f g h e (x ∷ xs) = ap (λ y. y ∷ map g (map f xs)) (e x) ∙ ap (λ l. h x ∷ l) (map_map f g h e xs)

-- an append reaches every reader's list
pub read_of-append : (before after : Broadcast) (item : Item) → Appends before item after
    → read_of after ≡ map (λ list. list ++ item ∷ []) (read_of before)
read_of-append before after item h =
    ap read_of h.1 ∙ map_map (with_last item) read (λ (r : Reader). r.list ++ item ∷ []) (λ r. refl) before.readers
    ∙ sym (map_map read (λ (l : List Item). l ++ item ∷ []) (λ (r : Reader). r.list ++ item ∷ []) (λ r. refl)
    before.readers)

-- .. and its undo too
pub read_of-unappend : (readers : List Reader)
    → map read (map without_last_item readers) ≡ map front_of (map read readers)
read_of-unappend readers =
    map_map without_last_item read (λ (r : Reader). front_of r.list) (λ r. refl) readers
    ∙ sym (map_map read front_of (λ (r : Reader). front_of r.list) (λ r. refl) readers)

pub read_of-settle : (readers : List Reader) → map read (map settled_reader readers) ≡ map read readers
read_of-settle readers = map_map settled_reader read read (λ r. refl) readers

-- a change of one reader
pub read_of-set : (cast : Broadcast) (reader : ℕ) (changed : Reader)
    → read_of (with_reader_at cast reader changed) ≡ set (read_of cast) reader changed.list
read_of-set cast reader changed = map-set read cast.readers reader changed

-- one reader more
pub read_of-more : (cast : Broadcast) (reader : Reader)
    → read_of (with_new_reader cast reader) ≡ read_of cast ++ reader.list ∷ []
read_of-more cast reader = map-append read cast.readers (reader ∷ [])

-- what a reader has to read
abbrev pub read_at : Broadcast → ℕ → List Item
read_at cast reader = slice_index_or (read_of cast) reader []

pub read_at-is : (cast : Broadcast) (reader : ℕ) → read_at cast reader ≡ (reader_at cast reader).list
read_at-is cast reader = at_map cast.readers reader
  where
    at_map : (readers : List Reader) (k : ℕ)
        → slice_index_or (map read readers) k [] ≡ (slice_index_or readers k fresh).list
    at_map [] k = refl
    at_map (r ∷ rs) zero = refl
    at_map (r ∷ rs) (suc k) = at_map rs k

-- ---- a call whose error is mapped to another one

true_not_false : {P : Type 0} → true ≡ false → P
true_not_false e = absurd (let no : ⊥ = cc in no)

-- what holds where it was done
pub on_ok_mapped : {A E F : Type 0} (P R : Type 0) (from : Result A E) (to : Result A F) → is_ok to ≡ is_ok from
    → (P → R) → OnOk from P → OnOk to R
on_ok_mapped P R (Ok x) (Ok y) same f h = f h
on_ok_mapped P R (Ok x) (Err e) same f h = tt
on_ok_mapped P R (Err e) (Ok y) same f h = true_not_false same
on_ok_mapped P R (Err e) (Err g) same f h = tt

-- .. of its answer
pub if_ok_mapped : {A E F : Type 0} (R : A → Type 0) (Q : E → Type 0) (from : Result A E) (to : Result A F)
    → MatchResult from (λ x. to ≡ Ok x) Q
    → is_ok to ≡ is_ok from → ((x : A) → Ok x ≡ from → R x) → IfOk to R
if_ok_mapped R Q (Ok x) (Ok y) cases same f = let is : x ≡ y = cc in subst R is (f x refl)
if_ok_mapped R Q (Ok x) (Err e) cases same f = tt
if_ok_mapped R Q (Err e) (Ok y) cases same f = true_not_false same
if_ok_mapped R Q (Err e) (Err g) cases same f = tt

-- .. and where it was refused
pub on_err_mapped : {A E F : Type 0} (R : Type 0) (from : Result A E) (to : Result A F) → is_ok to ≡ is_ok from
    → ((e : E) → Err e ≡ from → R) → OnErr to R
on_err_mapped R (Ok x) (Ok y) same f = tt
on_err_mapped R (Ok x) (Err e) same f = true_not_false (sym same)
on_err_mapped R (Err e) (Ok y) same f = tt
on_err_mapped R (Err e) (Err g) same f = f e refl

pub ruleset place_rules = (slice_get-get_or, slice_get_past, slice_get_within)

-- the lists of a broadcast list as it is made
pub read_of-opening : (count : ℕ) → map read (replicate count fresh) ≡ replicate count []
read_of-opening zero = refl
read_of-opening (suc count) = ap (λ l. [] ∷ l) (read_of-opening count)

-- .. and of one of queues
pub unread_of-opening : (count : ℕ) → unread_of (replicate count empty) ≡ replicate count []
unread_of-opening zero = refl
unread_of-opening (suc count) = ap (λ l. [] ∷ l) (unread_of-opening count)

-- no reader has room to undo a take where all are new ..
pub room-opening : (count reader : ℕ) → (slice_index_or (replicate count fresh) reader fresh).undoable ≡ 0
room-opening zero reader = refl
room-opening (suc count) zero = refl
room-opening (suc count) (suc reader) = room-opening count reader

pub appended_room-opening : (count reader : ℕ) → (slice_index_or (replicate count empty) reader empty).undoable ≡ 0
appended_room-opening zero reader = refl
appended_room-opening (suc count) zero = refl
appended_room-opening (suc count) (suc reader) = appended_room-opening count reader

-- .. and none once all are settled
pub room-settle : (readers : List Reader) (reader : ℕ)
    → (slice_index_or (map settled_reader readers) reader fresh).undoable ≡ 0
room-settle [] reader = refl
room-settle (r ∷ rs) zero = refl
room-settle (r ∷ rs) (suc reader) = room-settle rs reader

pub appended_room-settle : (fanout : List Queue) (reader : ℕ)
    → (slice_index_or (map with_nothing_undoable fanout) reader empty).undoable ≡ 0
appended_room-settle [] reader = refl
appended_room-settle (q ∷ qs) zero = refl
appended_room-settle (q ∷ qs) (suc reader) = appended_room-settle qs reader

pub ruleset opening_rules = (read_of-opening, unread_of-opening, room-opening, appended_room-opening)

pub ruleset cast_rules = (
  read_of-append,
  read_of-unappend,
  read_of-settle,
  room-settle,
  appended_room-settle,
  read_of-set,
  read_of-more,
  read_at-is,
  map-set,
  map-append,
  take-map,
  length-map,
  slice_get-map,
)

pub ruleset reader_rules = (place_rules, cast_rules)
