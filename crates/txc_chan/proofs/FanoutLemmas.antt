-- The queues of a broadcast list, and their room for undoing, call by call.
use Rattle.std.proofs.Common.{◌≡◌, ◌≢◌, refl, sym, ◌∙◌, ap, subst, ℕ, zero, suc, ◌+◌, ◌<◌, ◌==◌, Bool, true, false}
use Rattle.std.proofs.Common.{◌&&◌, ◌||◌, List, [], ◌∷◌, ◌++◌, length, map, set, Option, Some, None, Result, Ok}
use Rattle.std.proofs.Common.{Err, option_map, slice_get, slice_index_or, add-zero, eqb-true, eq-eqb, inl, inr, rules}
use Rattle.std.proofs.Common.{arith}
use Rattle.std.specs.Prelude.{IfOk, OnOk, nat_lt}
use Rattle.std.proofs.lemmas.Bool.{cases_lt}
use Rattle.std.proofs.lemmas.List.{map-set, map-append, get_or-set_other}
use Rattle.std.proofs.lemmas.Option.{slice_get-map, get_or_from_slice_get}
use Rattle.txc_base.specs.declared.item.Item.{Item}
use Rattle.txc_base.specs.declared.stop.Stop.{Stop}
use Rattle.txc_cast.specs.Reader.{is_back}
use Rattle.txc_queue_fanout.specs.Fanout.{after_pop, at_rest_all, appended_to_all, no_queue, popped, popped_at}
use Rattle.txc_queue_fanout.specs.Fanout.{queue_at, unread_of}
use Rattle.txc_queue_fanout.specs.Fanout.{why_refused, with_queue, with_queue_at, without_backs}
use Rattle.txc_queue.specs.Queue.{Queue, empty, pushed_back, with_nothing_undoable, without_back}
use Rattle.txc_base_laws.specs.Undone.{front_of}
use Rattle.txc_base_laws.proofs.Lists.{set_there, at_set_same}
use Rattle.txc_chan.proofs.BodyLemmas.{map_map}
use Rattle.txc_chan.specs.declared.body.Body.TheVariants.{Fanned}
use Rattle.txc_chan.specs.Reserved.{one_if}
use Rattle.txc_chan.specs.BodyCalls.{TakesFrom, MoreUndoable}

abbrev items_of : Queue → List Item
items_of queue = queue.items

-- an append reaches every reader's list
pub unread_of-appended_to_all : (fanout : List Queue) (item : Item)
    → unread_of (appended_to_all fanout item) ≡ map (λ list. list ++ item ∷ []) (unread_of fanout)
unread_of-appended_to_all fanout item =
    map_map (λ (q : Queue). pushed_back q item) items_of (λ (q : Queue). q.items ++ item ∷ []) (λ q. refl) fanout
    ∙ sym (map_map items_of (λ (l : List Item). l ++ item ∷ []) (λ (q : Queue). q.items ++ item ∷ []) (λ q. refl)
    fanout)

-- .. and its undo too
pub unread_of-backs : (fanout : List Queue) → unread_of (without_backs fanout) ≡ map front_of (unread_of fanout)
unread_of-backs fanout =
    map_map without_back items_of (λ (q : Queue). front_of q.items) (λ q. refl) fanout
    ∙ sym (map_map items_of front_of (λ (q : Queue). front_of q.items) (λ q. refl) fanout)

pub unread_of-rest : (fanout : List Queue) → unread_of (at_rest_all fanout) ≡ unread_of fanout
unread_of-rest fanout = map_map with_nothing_undoable items_of items_of (λ q. refl) fanout

-- a change of one queue
pub unread_of-set : (fanout : List Queue) (reader : ℕ) (changed : Queue)
    → unread_of (with_queue_at fanout reader changed) ≡ set (unread_of fanout) reader changed.items
unread_of-set fanout reader changed = map-set items_of fanout reader changed

-- one queue more
pub unread_of-more : (fanout : List Queue) (queue : Queue)
    → unread_of (with_queue fanout queue) ≡ unread_of fanout ++ queue.items ∷ []
unread_of-more fanout queue = map-append items_of fanout (queue ∷ [])

-- what a reader has to read
pub unread_at-is : (fanout : List Queue) (reader : ℕ)
    → slice_index_or (unread_of fanout) reader [] ≡ (queue_at fanout reader).items
unread_at-is [] k = refl
unread_at-is (q ∷ qs) zero = refl
unread_at-is (q ∷ qs) (suc k) = unread_at-is qs k

-- the room stays, of each queue that is changed so
pub room-appended_to_all : (fanout : List Queue) (item : Item) (k : ℕ)
    → (queue_at (appended_to_all fanout item) k).undoable ≡ (queue_at fanout k).undoable
room-appended_to_all [] item k = refl
room-appended_to_all (q ∷ qs) item zero = refl
room-appended_to_all (q ∷ qs) item (suc k) = room-appended_to_all qs item k

pub room-backs : (fanout : List Queue) (k : ℕ) → (queue_at (without_backs fanout) k).undoable
    ≡ (queue_at fanout k).undoable
room-backs [] k = refl
room-backs (q ∷ qs) zero = refl
room-backs (q ∷ qs) (suc k) = room-backs qs k

pub ruleset fanout_rules = (
  unread_of-appended_to_all,
  unread_of-backs,
  unread_of-rest,
  unread_of-set,
  unread_of-more,
  unread_at-is,
  room-appended_to_all,
  room-backs,
)

-- ---- a take

-- a queue that is there
found : (fanout : List Queue) (k : ℕ) → k < length fanout → slice_get fanout k ≡ Some (queue_at fanout k)
found [] k below = absurd (omega (arith, below))
found (q ∷ qs) zero below = refl
found (q ∷ qs) (suc k) below = found qs k (omega (arith, below))

listed : (fanout : List Queue) (k : ℕ) → k < length fanout → slice_get (unread_of fanout) k
    ≡ Some (queue_at fanout k).items
listed fanout k below = slice_get-map items_of fanout k ∙ ap (option_map items_of) (found fanout k below)

changed_at : (fanout : List Queue) (k : ℕ) (new : Queue) → k < length fanout → queue_at (with_queue_at fanout k new) k
    ≡ new
changed_at fanout k new below = get_or_from_slice_get (set fanout k new) k new empty
    (at_set_same fanout k (queue_at fanout k) new (found fanout k below))

some_is : {X : Type 0} (x y : X) → Some x ≡ Some y → x ≡ y
some_is x y e = cc

took_what : (fanout : List Queue) (k : ℕ) (t : Option Item) (items : List Item) → k < length fanout
    → (queue_at fanout k).items ≡ items → t ≡ slice_get items 0
    → TakesFrom t (Fanned fanout) k (Fanned (popped_at fanout k))
took_what fanout k None [] below e is =
    let same : popped (queue_at fanout k) ≡ queue_at fanout k =
    ap (λ l. after_pop l (queue_at fanout k).undoable) e
    ∙ ap (λ l. record { items = l; undoable = (queue_at fanout k).undoable }) (sym e) in (
      listed fanout k below ∙ ap Some e,
      ap Fanned (ap (with_queue_at fanout k) same ∙ set_there fanout k (queue_at fanout k) (found fanout k below)),
    )
took_what fanout k (Some item) [] below e is = cc
took_what fanout k None (x ∷ rest) below e is = cc
took_what fanout k (Some item) (x ∷ rest) below e is =
    let left : popped (queue_at fanout k) ≡ record { items = rest; undoable = (queue_at fanout k).undoable + 1 } =
    ap (λ l. after_pop l (queue_at fanout k).undoable) e in
    let at : slice_index_or (unread_of (popped_at fanout k)) k [] ≡ rest =
    unread_at-is (popped_at fanout k) k ∙ ap items_of (changed_at fanout k (popped (queue_at fanout k)) below)
    ∙ ap items_of left in (
      listed fanout k below ∙ ap Some (e ∙ ap (λ y. y ∷ rest) (sym (some_is item x is)))
          ∙ ap (λ l. Some (item ∷ l)) (sym at),
      unread_of-set fanout k (popped (queue_at fanout k)) ∙ ap (λ l. set (unread_of fanout) k l)
          (ap items_of left ∙ sym at),
    )

room_test : (fanout : List Queue) (k j : ℕ) (new : Queue) (b : Bool) → k < length fanout
    → new.undoable ≡ (queue_at fanout k).undoable + 1 → (k == j) ≡ b
    → (queue_at (with_queue_at fanout k new) j).undoable ≡ (queue_at fanout j).undoable + one_if b
room_test fanout k j new true below e is =
    let same : k ≡ j = eqb-true k j is in
    ap (λ i. (queue_at (with_queue_at fanout k new) i).undoable) (sym same)
    ∙ ap (λ (q : Queue). q.undoable) (changed_at fanout k new below) ∙ e
    ∙ ap (λ i. (queue_at fanout i).undoable + 1) same
room_test fanout k j new false below e is =
    let other : j ≢ k = λ same. let test = eq-eqb k j (sym same) in cc in
    ap (λ (q : Queue). q.undoable) (get_or-set_other fanout k j new empty other)
    ∙ sym (add-zero (queue_at fanout j).undoable)

and_true : (b : Bool) (item : Item) → one_if b ≡ one_if (b && (true || is_back item))
and_true true item = refl
and_true false item = refl

room_what : (fanout : List Queue) (k : ℕ) (t : Option Item) (items : List Item) → k < length fanout
    → (queue_at fanout k).items ≡ items → t ≡ slice_get items 0
    → MoreUndoable t (Fanned fanout) k (Fanned (popped_at fanout k))
room_what fanout k None items below e is = tt
room_what fanout k (Some item) [] below e is = cc
room_what fanout k (Some item) (x ∷ rest) below e is = λ j.
    let left : popped (queue_at fanout k) ≡ record { items = rest; undoable = (queue_at fanout k).undoable + 1 } =
    ap (λ l. after_pop l (queue_at fanout k).undoable) e in
    room_test fanout k j (popped (queue_at fanout k)) (k == j) below (ap (λ (q : Queue). q.undoable) left) refl
    ∙ ap (λ n. (queue_at fanout j).undoable + n) (and_true (k == j) item)

-- a reader that is answered is there
is_there : (fanout : List Queue) (k : ℕ) → None ≡ no_queue fanout k → k < length fanout
is_there fanout k is =
    elim (cases_lt k (length fanout)) [
      | inl low ↦ low
      | inr high ↦ (let test : nat_lt k (length fanout) ≡ false = grind (arith, rules) in cc)
    ]

pub takes_fed : (old new : List Queue) (k : ℕ) (result : Result (Option Item) Stop)
    → why_refused result ≡ no_queue old k
    → IfOk result (λ t. t ≡ slice_get (queue_at old k).items 0) → OnOk result (new ≡ popped_at old k)
    → IfOk result (λ t. TakesFrom t (Fanned old) k (Fanned new))
takes_fed old new k (Ok t) refused value taken =
    subst (λ fanout. TakesFrom t (Fanned old) k (Fanned fanout)) (sym taken)
    (took_what old k t (queue_at old k).items (is_there old k refused) refl value)
takes_fed old new k (Err e) refused value taken = tt

pub makes_room_fed : (old new : List Queue) (k : ℕ) (result : Result (Option Item) Stop)
    → why_refused result ≡ no_queue old k
    → IfOk result (λ t. t ≡ slice_get (queue_at old k).items 0) → OnOk result (new ≡ popped_at old k)
    → IfOk result (λ t. MoreUndoable t (Fanned old) k (Fanned new))
makes_room_fed old new k (Ok t) refused value taken =
    subst (λ fanout. MoreUndoable t (Fanned old) k (Fanned fanout)) (sym taken)
    (room_what old k t (queue_at old k).items (is_there old k refused) refl value)
makes_room_fed old new k (Err e) refused value taken = tt
