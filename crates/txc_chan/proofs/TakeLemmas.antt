-- What a take of a broadcast list's reader gives and leaves.
use Rattle.std.proofs.Common.{◌≡◌, ◌≢◌, ◌||◌, if◌then◌else◌, subst, eqb-true, eq-eqb, refl, sym, ◌∙◌, ap, ℕ, zero, suc}
use Rattle.std.proofs.Common.{◌+◌, ◌==◌, Bool, true, false, ◌&&◌, List, [], ◌∷◌, set, Option, Some, None, Ok, Err}
use Rattle.std.proofs.Common.{option_map, slice_get, slice_index_or, add-zero}
use Rattle.std.proofs.lemmas.List.{get_or-set_other}
use Rattle.std.proofs.lemmas.Option.{slice_get-map, get_or_from_slice_get}
use Rattle.txc_base.specs.declared.item.Item.{Item}
use Rattle.txc_cast.specs.declared.fault.CastFault.{CastFault}
use Rattle.txc_cast.specs.Broadcast.{Broadcast, reader_at, with_reader_at, first_in, first_of, read_of, taken_at}
use Rattle.txc_cast.specs.Reader.{Reader, fresh, with_taken, after_take, back_count, is_back}
use Rattle.txc_chan.proofs.BodyLemmas.{read, read_at, read_of-set, read_at-is}
use Rattle.txc_base_laws.proofs.Lists.{set_there, at_set_same}
use Rattle.txc_base.specs.declared.act.Act.TheVariants.{Took}
use Rattle.txc_chan.specs.declared.body.Body.TheVariants.{Shelved}
use Rattle.txc_chan.specs.BodyCalls.{TakesFrom, MoreUndoable}
use Rattle.txc_chan.specs.Reserved.{needs_room, one_if}

-- what a take gave, of a broadcast list alone
abbrev TakesAt : Option Item → Broadcast → ℕ → Broadcast → Type 0
TakesAt None old k new = (slice_get (read_of old) k ≡ Some []) × (new ≡ old)
TakesAt (Some item) old k new =
    (slice_get (read_of old) k ≡ Some (item ∷ read_at new k)) × (read_of new ≡ set (read_of old) k (read_at new k))

-- .. and the room that it made
abbrev MakesRoom : Option Item → Broadcast → ℕ → Broadcast → Type 0
MakesRoom None old k new = Unit {0}
MakesRoom (Some item) old k new = (j : ℕ)
    → (reader_at new j).undoable ≡ (reader_at old j).undoable + one_if (needs_room true j (Took k item))

-- a reader that is there
abbrev There : Broadcast → ℕ → Reader → Type 0
There cast k reader = slice_get cast.readers k ≡ Some reader

is_there : (cast : Broadcast) (k : ℕ) (reader : Reader) → There cast k reader → reader_at cast k ≡ reader
is_there cast k reader h = get_or_from_slice_get cast.readers k reader fresh h

listed : (cast : Broadcast) (k : ℕ) (reader : Reader) → There cast k reader
    → slice_get (read_of cast) k ≡ Some reader.list
listed cast k reader h = slice_get-map read cast.readers k ∙ ap (option_map read) h

-- the readers after one was changed
changed_at : (readers : List Reader) (k : ℕ) (old new : Reader) → slice_get readers k ≡ Some old
    → slice_index_or (set readers k new) k fresh ≡ new
changed_at readers k old new h = get_or_from_slice_get (set readers k new) k new fresh (at_set_same readers k old new h)

unchanged : (old : Broadcast) (k : ℕ) (reader : Reader) → There old k reader → reader.list ≡ [] → taken_at old k ≡ old
unchanged old k reader h e =
    let same : with_taken (reader_at old k) ≡ reader = ap with_taken (is_there old k reader h)
    ∙ ap (λ l. after_take l reader.undoable) e
    ∙ ap (λ l. record { list = l; undoable = reader.undoable }) (sym e) in
    ap (λ r. with_reader_at old k r) same ∙ ap (λ rs. record old { readers = rs }) (set_there old.readers k reader h)

some_is : {X : Type 0} (x y : X) → Some x ≡ Some y → x ≡ y
some_is x y e = cc

took : (old : Broadcast) (k : ℕ) (reader : Reader) (item : Item) (rest : List Item) → There old k reader
    → reader.list ≡ item ∷ rest
    → TakesAt (Some item) old k (taken_at old k)
took old k reader item rest h e =
    let left : with_taken (reader_at old k) ≡ record { list = rest; undoable = reader.undoable + back_count item } =
    ap with_taken (is_there old k reader h) ∙ ap (λ l. after_take l reader.undoable) e in
    let at : read_at (taken_at old k) k ≡ rest =
    read_at-is (taken_at old k) k ∙ ap read (changed_at old.readers k reader (with_taken (reader_at old k)) h)
    ∙ ap read left in (
      listed old k reader h ∙ ap Some e ∙ ap (λ l. Some (item ∷ l)) (sym at),
      read_of-set old k (with_taken (reader_at old k)) ∙ ap (λ l. set (read_of old) k l) (ap read left ∙ sym at),
    )

-- .. by what was found there
took_what : (old : Broadcast) (k : ℕ) (t : Option Item) (reader : Reader) (list : List Item) → There old k reader
    → reader.list ≡ list
    → t ≡ slice_get list 0 → TakesAt t old k (taken_at old k)
took_what old k None reader [] h e is = (listed old k reader h ∙ ap Some e, unchanged old k reader h e)
took_what old k (Some item) reader [] h e is = cc
took_what old k None reader (x ∷ rest) h e is = cc
took_what old k (Some item) reader (x ∷ rest) h e is =
    took old k reader item rest h (e ∙ ap (λ y. y ∷ rest) (sym (some_is item x is)))

found : (old : Broadcast) (k : ℕ) (t : Option Item) (o : Option Reader) → slice_get old.readers k ≡ o
    → Ok t ≡ first_in o → TakesAt t old k (taken_at old k)
found old k t None h is = cc
found old k t (Some reader) h is = let e : t ≡ slice_get reader.list 0 = cc in
    took_what old k t reader reader.list h refl e

takes_in : (old new : Broadcast) (k : ℕ) (t : Option Item) → TakesAt t old k new
    → TakesFrom t (Shelved old) k (Shelved new)
takes_in old new k None h = (h.0, ap Shelved h.1)
takes_in old new k (Some item) h = h

pub takes : (old new : Broadcast) (k : ℕ) (t : Option Item) → Ok t ≡ first_of old k → new ≡ taken_at old k
    → TakesFrom t (Shelved old) k (Shelved new)
takes old new k t is e = takes_in old new k t
    (subst (TakesAt t old k) (sym e) (found old k t (slice_get old.readers k) refl is))

room_test : (readers : List Reader) (k j : ℕ) (old new : Reader) (more b : Bool) → slice_get readers k ≡ Some old
    → new.undoable ≡ old.undoable + one_if more → (k == j) ≡ b
    → (slice_index_or (set readers k new) j fresh).undoable ≡ (slice_index_or readers j fresh).undoable + one_if
    (b && more)
room_test readers k j old new more true h e is =
    let same : k ≡ j = eqb-true k j is in
    ap (λ i. (slice_index_or (set readers k new) i fresh).undoable) (sym same)
    ∙ ap (λ (r : Reader). r.undoable) (changed_at readers k old new h) ∙ e
    ∙ ap (λ (r : Reader). r.undoable + one_if more) (sym (get_or_from_slice_get readers k old fresh h))
    ∙ ap (λ i. (slice_index_or readers i fresh).undoable + one_if more) same
room_test readers k j old new more false h e is =
    let other : j ≢ k = λ same. let test = eq-eqb k j (sym same) in cc in
    ap (λ (r : Reader). r.undoable) (get_or-set_other readers k j new fresh other)
    ∙ sym (add-zero (slice_index_or readers j fresh).undoable)

counts : (item : Item) (b : Bool) → is_back item ≡ b → back_count item ≡ one_if (false || b)
counts item true e = ap (λ t. if t then 1 else 0) e
counts item false e = ap (λ t. if t then 1 else 0) e

room_took : (old : Broadcast) (k : ℕ) (reader : Reader) (item : Item) (rest : List Item) → There old k reader
    → reader.list ≡ item ∷ rest
    → MakesRoom (Some item) old k (taken_at old k)
room_took old k reader item rest h e = λ j.
    let left : with_taken (reader_at old k) ≡ record { list = rest; undoable = reader.undoable + back_count item } =
    ap with_taken (is_there old k reader h) ∙ ap (λ l. after_take l reader.undoable) e in
    room_test old.readers k j reader (with_taken (reader_at old k)) (false || is_back item) (k == j) h
    (ap (λ (r : Reader). r.undoable) left ∙ ap (λ n. reader.undoable + n) (counts item (is_back item) refl)) refl

room_what : (old : Broadcast) (k : ℕ) (t : Option Item) (reader : Reader) (list : List Item) → There old k reader
    → reader.list ≡ list
    → t ≡ slice_get list 0 → MakesRoom t old k (taken_at old k)
room_what old k None reader list h e is = tt
room_what old k (Some item) reader [] h e is = cc
room_what old k (Some item) reader (x ∷ rest) h e is =
    room_took old k reader item rest h (e ∙ ap (λ y. y ∷ rest) (sym (some_is item x is)))

room_found : (old : Broadcast) (k : ℕ) (t : Option Item) (o : Option Reader) → slice_get old.readers k ≡ o
    → Ok t ≡ first_in o → MakesRoom t old k (taken_at old k)
room_found old k t None h is = cc
room_found old k t (Some reader) h is = let e : t ≡ slice_get reader.list 0 = cc in
    room_what old k t reader reader.list h refl e

room_in : (old new : Broadcast) (k : ℕ) (t : Option Item) → MakesRoom t old k new
    → MoreUndoable t (Shelved old) k (Shelved new)
room_in old new k None h = tt
room_in old new k (Some item) h = h

pub makes_room : (old new : Broadcast) (k : ℕ) (t : Option Item) → Ok t ≡ first_of old k → new ≡ taken_at old k
    → MoreUndoable t (Shelved old) k (Shelved new)
makes_room old new k t is e =
    room_in old new k t (subst (MakesRoom t old k) (sym e) (room_found old k t (slice_get old.readers k) refl is))

-- where there is no such reader
past_end : {X : Type 0} (xs : List X) (k : ℕ) (v : X) → slice_get xs k ≡ None → set xs k v ≡ xs
past_end [] k v h = refl
past_end (x ∷ xs) zero v h = cc
past_end (x ∷ xs) (suc k) v h = ap (λ l. x ∷ l) (past_end xs k v h)

missing : (old : Broadcast) (k : ℕ) (o : Option Reader) (fault : CastFault) → slice_get old.readers k ≡ o
    → Err fault ≡ first_in o → taken_at old k ≡ old
missing old k None fault h is =
    ap (λ rs. record old { readers = rs }) (past_end old.readers k (with_taken (reader_at old k)) h)
missing old k (Some reader) fault h is = cc

pub stays : (old new : Broadcast) (k : ℕ) (fault : CastFault) → Err fault ≡ first_of old k → new ≡ taken_at old k
    → new ≡ old
stays old new k fault is e = e ∙ missing old k (slice_get old.readers k) fault refl is
