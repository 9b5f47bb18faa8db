-- The act of the last entry can be taken back.
use Rattle.std.proofs.Common.{◌≡◌, refl, sym, ◌∙◌, ap, subst, ℕ, zero, suc, ◌==◌, ◌≤◌, ◌<◌, true, false, ◌&&◌, ◌||◌}
use Rattle.std.proofs.Common.{Some, None, Option, option_map, List, [], ◌∷◌, ◌++◌, length, length-append, length-set}
use Rattle.std.proofs.Common.{map, set, slice_get, slice_index_or, eq-eqb, IsSomeAnd, arith}
use Rattle.std.specs.List.{All}
use Rattle.std.proofs.lemmas.List.Elements.{All-cons}
use Rattle.std.proofs.lemmas.Option.{slice_get-map, get_or_from_slice_get}
use Rattle.txc_base.specs.declared.act.Act.TheVariants.{Took}
use Rattle.txc_base.specs.declared.item.Item.{Item}
use Rattle.txc_base.specs.declared.origin.Origin.{Origin}
use Rattle.txc_base.specs.declared.origin.Origin.TheVariants.{Written, Back}
use Rattle.txc_base.specs.InOrder.{is_written}
use Rattle.txc_cast.specs.Broadcast.{Broadcast, CanUnappend, CanUntakeAt, CanUngiveAt, reader_at, read_of}
use Rattle.txc_cast.specs.Reader.{Reader, fresh, is_back, is_back_from, IsWritten, IsBack, HasWritten, BeginsWithBack}
use Rattle.txc_cast.specs.Reader.{CanUntakeFrom}
use Rattle.txc_chan.proofs.BodyLemmas.{read}
use Rattle.txc_base_laws.proofs.Lists.{at_set_same}
use Rattle.txc_chan.specs.declared.body.Body.{Body}
use Rattle.txc_chan.specs.declared.body.Body.TheVariants.{Queue as PlainQueue, Bounded, Shelved, Fanned}
use Rattle.txc_queue_fanout.specs.Fanout.{queue_at, unread_of}
use Rattle.txc_queue.specs.Queue.{Queue}
use Rattle.txc_chan.specs.Body.{lists_of, HasWrittenAll, is_shelved, undoable_at}
use Rattle.txc_chan.specs.Reserved.{needs_room, one_if}
use Rattle.txc_chan.specs.BodyCalls.{CanUndoWrite, CanUndoTake, CanUndoPutBack}

-- ---- a write

some_items : (items : List Item) (lists : List (List Item)) (item : Item)
    → items ∷ [] ≡ map (λ (l : List Item). l ++ item ∷ []) lists → 0 < length items
some_items items [] item e = cc
some_items items (list ∷ lists) item e =
    let same : items ≡ list ++ item ∷ [] = cc in
    omega (arith, ap length same ∙ length-append list (item ∷ []))

at_end : (list : List Item) (item : Item) → slice_index_or (list ++ item ∷ []) (length list) item ≡ item
at_end [] item = refl
at_end (x ∷ list) item = at_end list item

has_written : (reader : Reader) (list : List Item) (item : Item) → reader.list ≡ list ++ item ∷ [] → IsWritten item
    → HasWritten reader
has_written reader list item e new = (
  length list,
  item,
  omega (arith, ap length e ∙ length-append list (item ∷ [])),
  ap (λ l. slice_index_or l (length list) item) e ∙ at_end list item,
  new,
)

all_written : (readers : List Reader) (lists : List (List Item)) (item : Item)
    → map read readers ≡ map (λ (l : List Item). l ++ item ∷ []) lists → IsWritten item
    → All HasWritten readers
all_written [] lists item e new = λ k d h. absurd (omega arith)
all_written (reader ∷ readers) [] item e new = cc
all_written (reader ∷ readers) (list ∷ lists) item e new =
    let first : reader.list ≡ list ++ item ∷ [] = cc in
    let rest : map read readers ≡ map (λ (l : List Item). l ++ item ∷ []) lists = cc in
    All-cons HasWritten reader readers (has_written reader list item first new)
    (all_written readers lists item rest new)

unappends : (cast : Broadcast) (lists : List (List Item)) (before : List Item) (item : Item)
    → read_of cast ≡ map (λ (l : List Item). l ++ item ∷ []) lists
    → cast.items ≡ before ++ item ∷ [] → IsWritten item → CanUnappend cast
unappends cast lists before item e items new =
    (omega (arith, ap length items ∙ length-append before (item ∷ [])), all_written cast.readers lists item e new)

all_filled : (fanout : List Queue) (lists : List (List Item)) (item : Item)
    → unread_of fanout ≡ map (λ (l : List Item). l ++ item ∷ []) lists
    → All (λ (q : Queue). 0 < length q.items) fanout
all_filled [] lists item e = λ k d h. absurd (omega arith)
all_filled (q ∷ queues) [] item e = cc
all_filled (q ∷ queues) (list ∷ lists) item e =
    let first : q.items ≡ list ++ item ∷ [] = cc in
    let rest : unread_of queues ≡ map (λ (l : List Item). l ++ item ∷ []) lists = cc in
    All-cons (λ (x : Queue). 0 < length x.items) q queues
    (omega (arith, ap length first ∙ length-append list (item ∷ []))) (all_filled queues lists item rest)

pub can_unwrite : (body : Body) (lists : List (List Item)) (before : List Item) (item : Item)
    → lists_of body ≡ map (λ (l : List Item). l ++ item ∷ []) lists
    → HasWrittenAll body (before ++ item ∷ []) → IsWritten item → CanUndoWrite body
can_unwrite (PlainQueue queue) lists before item e stocked new = some_items queue.items lists item e
can_unwrite (Bounded queue) lists before item e stocked new = some_items queue.queue.items lists item e
can_unwrite (Shelved cast) lists before item e stocked new = unappends cast lists before item e stocked new
can_unwrite (Fanned fanout) lists before item e stocked new = all_filled fanout lists item e

-- ---- a take, and a put-back

-- the one list of a queue, at the reader whose list was changed
only : (lists : List (List Item)) (reader : ℕ) (old new items : List Item) → slice_get lists reader ≡ Some old
    → items ∷ [] ≡ set lists reader new
    → (reader ≡ 0) × (items ≡ new)
only [] reader old new items h e = cc
only (list ∷ lists) zero old new items h e = (refl, cc)
only (list ∷ []) (suc reader) old new items h e = absurd (let none : None ≡ Some old = h in cc)
only (list ∷ more ∷ lists) (suc reader) old new items h e =
    absurd (omega (arith, ap length e, length-set (more ∷ lists) reader new))

room_first : (reader count : ℕ) (item : Item) → reader ≡ 0 → one_if (needs_room false 0 (Took reader item)) ≤ count
    → 0 < count
room_first reader count item first h =
    let one : needs_room false 0 (Took reader item) ≡ true = ap (λ r. needs_room false 0 (Took r item)) first in
    let n : one_if (needs_room false 0 (Took reader item)) ≡ 1 = ap one_if one in
    omega (arith, h)

-- the reader of a broadcast list whose list was changed
changed : (cast : Broadcast) (lists : List (List Item)) (k : ℕ) (old new : List Item) → slice_get lists k ≡ Some old
    → read_of cast ≡ set lists k new
    → (o : Option Reader) → slice_get cast.readers k ≡ o → (reader : Reader) × ((o ≡ Some reader) × (reader.list ≡ new))
changed cast lists k old new h e None none =
    let is : None ≡ Some new = ap (option_map read) (sym none) ∙ sym (slice_get-map read cast.readers k)
    ∙ ap (λ l. slice_get l k) e ∙ at_set_same lists k old new h in
    cc
changed cast lists k old new h e (Some reader) found =
    let is : Some reader.list ≡ Some new = ap (option_map read) (sym found) ∙ sym (slice_get-map read cast.readers k)
    ∙ ap (λ l. slice_get l k) e ∙ at_set_same lists k old new h in
    (reader, (refl, cc))

untakes_from : (origin : Origin) (items rest : List Item) (item : Item) (reader : Reader) → item.origin ≡ origin
    → reader.list ≡ rest
    → (is_written item.origin ≡ true → (front : List Item) × (items ≡ front ++ item ∷ rest))
    → (is_back item ≡ true → 0 < reader.undoable) → CanUntakeFrom origin items item reader
untakes_from (Written n) items rest item reader is list order room =
    let found = order (ap is_written is) in
    (found.0, found.1 ∙ ap (λ l. found.0 ++ item ∷ l) (sym list))
untakes_from (Back n) items rest item reader is list order room = room (ap is_back_from is)

room_there : (cast : Broadcast) (k : ℕ) (reader : Reader) (item : Item) → slice_get cast.readers k ≡ Some reader
    → one_if (needs_room true k (Took k item)) ≤ (reader_at cast k).undoable → is_back item ≡ true → 0 < reader.undoable
room_there cast k reader item found h back =
    let at : (reader_at cast k).undoable ≡ reader.undoable =
    ap (λ (r : Reader). r.undoable) (get_or_from_slice_get cast.readers k reader fresh found) in
    let same : (k == k) ≡ true = eq-eqb k k refl in
    let one : one_if (needs_room true k (Took k item)) ≡ 1 = ap (λ b. one_if (b && (false || is_back item))) same
    ∙ ap (λ b. one_if (false || b)) back in
    omega (arith, h)

untakes_at : (cast : Broadcast) (k : ℕ) (item : Item) (rest : List Item) (reader : Reader)
    → slice_get cast.readers k ≡ Some reader → reader.list ≡ rest
    → (is_written item.origin ≡ true → (front : List Item) × (cast.items ≡ front ++ item ∷ rest))
    → one_if (needs_room true k (Took k item)) ≤ (reader_at cast k).undoable → CanUntakeAt cast k item
untakes_at cast k item rest reader found list order room =
    subst (λ o. IsSomeAnd o (λ r. CanUntakeFrom item.origin cast.items item r)) (sym found)
    (untakes_from item.origin cast.items rest item reader refl list order (room_there cast k reader item found room))

untakes_cast : (cast : Broadcast) (lists : List (List Item)) (k : ℕ) (item : Item) (rest : List Item)
    → slice_get lists k ≡ Some (item ∷ rest)
    → read_of cast ≡ set lists k rest
    → (is_written item.origin ≡ true → (front : List Item) × (cast.items ≡ front ++ item ∷ rest))
    → one_if (needs_room true k (Took k item)) ≤ (reader_at cast k).undoable → CanUntakeAt cast k item
untakes_cast cast lists k item rest h e order room =
    let found = changed cast lists k (item ∷ rest) rest h e (slice_get cast.readers k) refl in
    untakes_at cast k item rest found.0 found.1.0 found.1.1 order room

untakes_queue : (items : List Item) (lists : List (List Item)) (k count : ℕ) (item : Item) (rest : List Item)
    → slice_get lists k ≡ Some (item ∷ rest)
    → items ∷ [] ≡ set lists k rest → one_if (needs_room false 0 (Took k item)) ≤ count → (k ≡ 0) × (0 < count)
untakes_queue items lists k count item rest h e room =
    let first = (only lists k (item ∷ rest) rest items h e).0 in
    (first, room_first k count item first room)

-- a queue that is there, of whose reader the list was changed
there_fed : (fanout : List Queue) (lists : List (List Item)) (k : ℕ) (old new : List Item) → slice_get lists k
    ≡ Some old
    → unread_of fanout ≡ set lists k new
    → (k < length fanout) × ((queue_at fanout k).items ≡ new)
there_fed [] [] k old new h e = cc
there_fed [] (list ∷ lists) zero old new h e = cc
there_fed [] (list ∷ lists) (suc k) old new h e = cc
there_fed (q ∷ queues) [] k old new h e = cc
there_fed (q ∷ queues) (list ∷ lists) zero old new h e = (omega arith, cc)
there_fed (q ∷ queues) (list ∷ lists) (suc k) old new h e =
    let rest : unread_of queues ≡ set lists k new = cc in
    let found = there_fed queues lists k old new h rest in
    (omega (arith, found.0), found.1)

untakes_fed : (fanout : List Queue) (lists : List (List Item)) (k : ℕ) (item : Item) (rest : List Item)
    → slice_get lists k ≡ Some (item ∷ rest)
    → unread_of fanout ≡ set lists k rest → one_if (needs_room false k (Took k item)) ≤ (queue_at fanout k).undoable
    → (k < length fanout) × (0 < (queue_at fanout k).undoable)
untakes_fed fanout lists k item rest h e room =
    let same : (k == k) ≡ true = eq-eqb k k refl in
    let one : one_if (needs_room false k (Took k item)) ≡ 1 = ap (λ b. one_if (b && (true || is_back item))) same in
    ((there_fed fanout lists k (item ∷ rest) rest h e).0, omega (arith, room, one))

-- the order of a broadcast list's items, and the room for the undo
abbrev pub Order : Body → List Item → Item → List Item → Type 0
Order body items item rest = is_written item.origin ≡ true → (front : List Item) × (items ≡ front ++ item ∷ rest)

pub can_untake : (body : Body) (lists : List (List Item)) (items : List Item) (k : ℕ) (item : Item) (rest : List Item)
    → slice_get lists k ≡ Some (item ∷ rest)
    → lists_of body ≡ set lists k rest → HasWrittenAll body items → Order body items item rest
    → ((j : ℕ) → one_if (needs_room (is_shelved body) j (Took k item)) ≤ undoable_at body j) → CanUndoTake body k item
can_untake (PlainQueue queue) lists items k item rest h e stocked order room =
    untakes_queue queue.items lists k queue.undoable item rest h e (room 0)
can_untake (Bounded queue) lists items k item rest h e stocked order room =
    untakes_queue queue.queue.items lists k queue.queue.undoable item rest h e (room 0)
can_untake (Shelved cast) lists items k item rest h e stocked order room =
    untakes_cast cast lists k item rest h e (λ new. let f = order new in (f.0, stocked ∙ f.1)) (room k)
can_untake (Fanned fanout) lists items k item rest h e stocked order room =
    untakes_fed fanout lists k item rest h e (room k)

unputs_queue : (items : List Item) (lists : List (List Item)) (k : ℕ) (item : Item) (list : List Item)
    → slice_get lists k ≡ Some list
    → items ∷ [] ≡ set lists k (item ∷ list) → (k ≡ 0) × (0 < length items)
unputs_queue items lists k item list h e =
    let first = only lists k list (item ∷ list) items h e in
    (first.0, omega (arith, ap length first.1))

begins_with_back : (reader : Reader) (item : Item) (list : List Item) → reader.list ≡ item ∷ list → IsBack item
    → BeginsWithBack reader
begins_with_back reader item list e back = subst (λ l. IsSomeAnd (slice_get l 0) IsBack) (sym e) back

unputs_cast : (cast : Broadcast) (lists : List (List Item)) (k : ℕ) (item : Item) (list : List Item)
    → slice_get lists k ≡ Some list
    → read_of cast ≡ set lists k (item ∷ list) → IsBack item → CanUngiveAt cast k
unputs_cast cast lists k item list h e back =
    let found = changed cast lists k list (item ∷ list) h e (slice_get cast.readers k) refl in
    subst (λ o. IsSomeAnd o BeginsWithBack) (sym found.1.0) (begins_with_back found.0 item list found.1.1 back)

pub can_unput : (body : Body) (lists : List (List Item)) (k : ℕ) (item : Item) (list : List Item)
    → slice_get lists k ≡ Some list
    → lists_of body ≡ set lists k (item ∷ list) → IsBack item → CanUndoPutBack body k
can_unput (PlainQueue queue) lists k item list h e back = unputs_queue queue.items lists k item list h e
can_unput (Bounded queue) lists k item list h e back = unputs_queue queue.queue.items lists k item list h e
can_unput (Shelved cast) lists k item list h e back = unputs_cast cast lists k item list h e back
can_unput (Fanned fanout) lists k item list h e back =
    let found = there_fed fanout lists k list (item ∷ list) h e in
    (found.0, omega (arith, ap length found.1))
