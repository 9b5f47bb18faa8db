-- What takes a change back gives the list from before it.
use Rattle.std.proofs.Common.{◌≡◌, refl, sym, ◌∙◌, ap, subst, ℕ, ◌+◌, ◌-◌, ◌<◌, ◌≤◌, List, [], ◌∷◌, ◌++◌, length}
use Rattle.std.proofs.Common.{take, drop, set, get_or, ⊎_elim, arith}
use Rattle.std.specs.Prelude.{All, slice_index_or, slice_get, Some, None}
use Rattle.std.proofs.lemmas.List.{take_at, drop_at, length_push, length-map, length-append, length-take-le, append-nil}
use Rattle.std.proofs.lemmas.List.{take-append-drop, take_all, drop_all, set-set, set-get_or, get_or-set_same}
use Rattle.std.proofs.lemmas.List.{get_or_past, get_or_default}
use Rattle.std.proofs.lemmas.Bool.{cases_lt}
use Rattle.std.proofs.lemmas.List.Elements.{All-map}
use Rattle.txc_base.specs.declared.item.Item.{Item}
use Rattle.txc_queue.specs.Queue.{Queue, empty, pushed_back, pushed_front, unpopped, without_back, without_first_item}
use Rattle.txc_queue_fanout.specs.Fanout.{queue_at, after_pop, popped, appended_to_all, without_backs, unpopped_at}
use Rattle.txc_queue_fanout.specs.Fanout.{without_front_at}
use Rattle.txc_queue_fanout.specs.Fanout.{UndoesAppendToAll, UndoesPop, UndoesPushFront}

abbrev HasItem : Queue → Type 0
HasItem queue = 0 < length queue.items

-- with this item at its back
abbrev with_item : Item → Queue → Queue
with_item item queue = pushed_back queue item

-- a queue with one item more, and then without it
same_again : (queue : Queue) (item : Item) → without_back (pushed_back queue item) ≡ queue
same_again queue item =
    ap (λ (items : List Item). record queue { items = items })
    (take_at queue.items (item ∷ []) (length (queue.items ++ item ∷ []) - 1)
    (let more = length_push queue.items item in omega arith))

-- and all queues
pub all_again : (fanout : List Queue) (item : Item) → without_backs (appended_to_all fanout item) ≡ fanout
all_again [] item = refl
all_again (queue ∷ fanout) item =
    ap (λ (first : Queue). first ∷ without_backs (appended_to_all fanout item)) (same_again queue item)
    ∙ ap (λ (rest : List Queue). queue ∷ rest) (all_again fanout item)

-- each queue has what was appended
pub have_some : (fanout : List Queue) (item : Item) → All (λ (queue : Queue). 0 < length queue.items)
    (appended_to_all fanout item)
have_some fanout item =
    All-map HasItem (with_item item) fanout
    (λ k other within. let more = length_push (slice_index_or fanout k other).items item in omega arith)

-- the first queues have one item more, the others are as they were
abbrev pub AreFed : List Queue → ℕ → Item → List Queue → Type 0
AreFed fanout count item new = new ≡ appended_to_all (take count fanout) item ++ drop count fanout

-- how many queues an item was appended to
appended_count : (fanout : List Queue) (count : ℕ) (item : Item) → count ≤ length fanout
    → length (appended_to_all (take count fanout) item) ≡ count
appended_count fanout count item few = length-map (take count fanout) (with_item item) ∙ length-take-le count fanout few

first_fed : (fanout new : List Queue) (count : ℕ) (item : Item) → count ≤ length fanout → AreFed fanout count item new
    → take count new ≡ appended_to_all (take count fanout) item
first_fed fanout new count item few is =
    ap (take count) is ∙ take_at (appended_to_all (take count fanout) item) (drop count fanout) count
    (appended_count fanout count item few)

-- as many queues as before
pub same_count : (fanout new : List Queue) (count : ℕ) (item : Item) → AreFed fanout count item new
    → length new ≡ length fanout
same_count fanout new count item is =
    ap length is
    ∙ length-append (appended_to_all (take count fanout) item) (drop count fanout)
    ∙ ap (λ n. n + length (drop count fanout)) (length-map (take count fanout) (with_item item))
    ∙ sym (length-append (take count fanout) (drop count fanout))
    ∙ ap length (take-append-drop count fanout)

-- so each of the first can lose one
pub can_lose : (fanout new : List Queue) (count : ℕ) (item : Item) → count ≤ length fanout
    → AreFed fanout count item new
    → All (λ (queue : Queue). 0 < length queue.items) (take count new)
can_lose fanout new count item few is =
    subst (All HasItem) (sym (first_fed fanout new count item few is)) (have_some (take count fanout) item)

-- and all are as before when they did
pub as_before : (fanout new left : List Queue) (count : ℕ) (item : Item) → count ≤ length fanout
    → AreFed fanout count item new → left ≡ without_backs (take count new) ++ drop count new → left ≡ fanout
as_before fanout new left count item few is back =
    let behind : drop count new ≡ drop count fanout =
    ap (drop count) is ∙ drop_at (appended_to_all (take count fanout) item) (drop count fanout) count
    (appended_count fanout count item few) in
    back
    ∙ ap (λ (first : List Queue). without_backs first ++ drop count new) (first_fed fanout new count item few is)
    ∙ ap (λ (first : List Queue). first ++ drop count new) (all_again (take count fanout) item)
    ∙ ap (λ (rest : List Queue). take count fanout ++ rest) behind
    ∙ take-append-drop count fanout

pub undoes_fed : (old new : List Queue) → new ≡ without_backs old → UndoesAppendToAll old new
undoes_fed old new is before item was = is ∙ ap without_backs was ∙ all_again before item

-- a queue changed and changed back
back_again : (fanout : List Queue) (n : ℕ) (f g : Queue → Queue) → n < length fanout
    → g (f (get_or fanout n empty)) ≡ get_or fanout n empty
    → set (set fanout n (f (get_or fanout n empty))) n
    (g (get_or (set fanout n (f (get_or fanout n empty))) n empty)) ≡ fanout
back_again fanout n f g within same =
    let changed : Queue = f (get_or fanout n empty) in
    set-set fanout n changed (g (get_or (set fanout n changed) n empty))
    ∙ ap (λ (queue : Queue). set fanout n (g queue)) (get_or-set_same fanout n changed empty within)
    ∙ ap (set fanout n) same
    ∙ set-get_or fanout n empty

-- a queue with an item is there
is_there : (fanout : List Queue) (n : ℕ) (item : Item) → slice_get (queue_at fanout n).items 0 ≡ Some item
    → n < length fanout
is_there fanout n item first = ⊎_elim (λ within. within) (λ past.
    let none : slice_get (queue_at fanout n).items 0 ≡ None =
    ap (λ (queue : Queue). slice_get queue.items 0) (get_or_past fanout n empty past) in
    absurd (let no : ⊥ = cc in no)) (cases_lt n (length fanout))

-- an item taken and put in front again
taken_again : (items : List Item) (undoable : ℕ) (item : Item) → slice_get items 0 ≡ Some item
    → unpopped (after_pop items undoable) item ≡ record { items = items; undoable = undoable }
taken_again [] undoable item first = cc
taken_again (other ∷ items) undoable item first =
    let same : item ≡ other = cc in
    ap (λ (i : Item). unpopped (after_pop (other ∷ items) undoable) i) same
    ∙ ap (λ (n : ℕ). record { items = other ∷ items; undoable = n }) (omega arith)

pub undoes_pop : (old new : List Queue) (n : ℕ) (item : Item) → new ≡ unpopped_at old n item → UndoesPop old n item new
undoes_pop old new n item is before first was =
    let queue : Queue = queue_at before n in
    is ∙ ap (λ (fanout : List Queue). unpopped_at fanout n item) was
    ∙ back_again before n popped (λ (queue : Queue). unpopped queue item)
    (is_there before n item first) (taken_again queue.items queue.undoable item first)

pub undoes_push_front : (old new : List Queue) (n : ℕ) → new ≡ without_front_at old n → UndoesPushFront old n new
undoes_push_front old new n is before item within was =
    is ∙ ap (λ (fanout : List Queue). without_front_at fanout n) was
    ∙ back_again before n (λ (queue : Queue). pushed_front queue item) without_first_item within refl

-- a queue that was found by its number is changed
pub changes : (queues fanout : List Queue) (n : ℕ) (f : Queue → Queue) (got new : Queue) → queues ≡ fanout
    → n < length fanout
    → got ≡ get_or queues n got → new ≡ f got → set queues n new ≡ set fanout n (f (get_or fanout n empty))
changes queues fanout n f got new same within is step =
    let here = is ∙ ap (λ (list : List Queue). get_or list n got) same ∙ get_or_default fanout n got empty within in
    ap (λ (list : List Queue). set list n new) same ∙ ap (set fanout n) (step ∙ ap f here)

-- all queues lose their last item
pub all_lose : (queues fanout got new rest : List Queue) (count len : ℕ) → queues ≡ fanout → len ≡ length queues
    → got ≡ queues → count ≡ len → new ≡ without_backs (take count got) ++ drop count got
    → take len (new ++ rest) ≡ without_backs fanout
all_lose queues fanout got new rest count len same many slice all lost =
    let here = ap length slice in
    let past : length got ≤ count = omega arith in
    let is : new ≡ without_backs got =
    lost ∙ ap (λ (behind : List Queue). without_backs (take count got) ++ behind) (drop_all count got past)
    ∙ append-nil (without_backs (take count got)) ∙ ap without_backs (take_all count got past) in
    let each = length-map got without_back in
    let left = ap length is in
    take_at new rest len (omega arith) ∙ is ∙ ap without_backs (slice ∙ same)
