-- What a step of a reader does to its list.
use Rattle.std.proofs.Common.{◌≡◌, refl, sym, ◌∙◌, ap, subst, ℕ, ◌+◌, ◌-◌, ◌<◌, ◌≤◌, Bool, if◌then◌else◌, List, [], ◌∷◌}
use Rattle.std.proofs.Common.{◌++◌, length, get_or, drop, ⊎_elim, add-zero, arith, Some, None}
use Rattle.std.specs.Prelude.{slice_get, All, IsSomeAnd}
use Rattle.std.proofs.lemmas.Bool.{cases_lt}
use Rattle.std.proofs.lemmas.List.{drop_more, drop_all, drop_at, length-append, length-drop}
use Rattle.std.proofs.lemmas.List.Elements.{All-head, All-tail, All-drop, All-get_or, All-same}
use Rattle.txc_base.specs.declared.item.Item.{Item}
use Rattle.txc_base.specs.declared.origin.Origin.TheVariants.{Written, Back}
use Rattle.txc_cast.specs.Reader.{Reader, is_back_from, IsBack, IsWritten, IsTail, after_take, with_taken, with_untaken}
use Rattle.txc_cast.specs.Reader.{without_front, back_count, BeginsWithBack, CanUntake, CanUntakeFrom}
use Rattle.txc_cast.specs.Standing.{ReaderState, IsPlaced, reader_standing, step_from, stepped}

abbrev reader_with : List Item → ℕ → Reader
reader_with list undoable = record { list = list; undoable = undoable }

-- no item is both
not_both : (item : Item) → IsBack item → IsWritten item → ⊥
not_both item back written = cc

written_front : (list : List Item) → All IsWritten list → IsSomeAnd (slice_get list 0) IsBack → ⊥
written_front [] written begins = begins
written_front (item ∷ list) written begins = not_both item begins (All-head IsWritten item list written)

-- a list that begins with a put-back has one in front of all that is written
ungiven_of : (items : List Item) (position : ℕ) (backs : List Item) (undoable : ℕ) → All IsWritten items
    → IsSomeAnd (slice_get (backs ++ drop position items) 0) IsBack
    → reader_with (drop 1 backs ++ drop position items) undoable ≡ reader_with (drop 1 (backs ++ drop position items))
    undoable
ungiven_of items position [] undoable written begins =
    absurd (written_front (drop position items) (All-drop IsWritten position items written) begins)
ungiven_of items position (back ∷ backs) undoable written begins = refl

-- the latest put-back is taken off
pub ungives : (items : List Item) (standing : ReaderState) → All IsWritten items
    → BeginsWithBack (reader_standing items standing)
    → reader_standing items (record standing { backs = drop 1 standing.backs })
    ≡ without_front (reader_standing items standing)
ungives items standing written begins = ungiven_of items standing.position standing.backs standing.undoable written
    begins

back_counts : (item : Item) → IsBack item → back_count item ≡ 1
back_counts item back = ap (λ (b : Bool). if b then 1 else 0) back

written_counts : (item : Item) → IsWritten item → back_count item ≡ 0
written_counts item written = ap (λ (b : Bool). if b then 1 else 0) written

-- a reader without put-backs that has a first item stands before a written one
before_written : (items : List Item) (position : ℕ) (item : Item) → slice_get (drop position items) 0 ≡ Some item
    → position < length items
before_written items position item first = ⊎_elim (λ within. within) (λ past.
    let none : slice_get (drop position items) 0 ≡ None = ap (λ (list : List Item). slice_get list 0)
    (drop_all position items past) in
    absurd (let no : ⊥ = cc in no)) (cases_lt position (length items))

step_on : (items : List Item) (position : ℕ) (backs : List Item) (undoable : ℕ) (item : Item) → All IsWritten items
    → All IsBack backs
    → slice_get (backs ++ drop position items) 0 ≡ Some item
    → reader_standing items (step_from position backs undoable) ≡ after_take (backs ++ drop position items) undoable
step_on items position [] undoable item written put first =
    let within : position < length items = before_written items position item first in
    let none : back_count (get_or items position item) ≡ 0 = written_counts (get_or items position item)
    (All-get_or IsWritten items position item within written) in
    sym (ap (λ list. after_take list undoable) (drop_more items position item within)
    ∙ ap (λ n. reader_with (drop (position + 1) items) (undoable + n)) none
    ∙ ap (reader_with (drop (position + 1) items)) (add-zero undoable))
step_on items position (back ∷ backs) undoable item written put first =
    ap (λ n. reader_with (backs ++ drop position items) (undoable + n))
    (sym (back_counts back (All-head IsBack back backs put)))

-- a step takes the first item of the list
pub steps : (items : List Item) (standing : ReaderState) (item : Item) → All IsWritten items → All IsBack standing.backs
    → slice_get (reader_standing items standing).list 0 ≡ Some item
    → reader_standing items (stepped standing) ≡ with_taken (reader_standing items standing)
steps items standing item written put first = step_on items standing.position standing.backs standing.undoable item
    written
    put first

stays_on : (items : List Item) (n position : ℕ) (backs : List Item) (undoable : ℕ) (item : Item) → n ≡ length items
    → position ≤ n → All IsBack backs
    → slice_get (backs ++ drop position items) 0 ≡ Some item → IsPlaced n (step_from position backs undoable)
stays_on items n position [] undoable item is within put first =
    let more : position < length items = before_written items position item first in
    record { within = omega arith; backs = put }
stays_on items n position (back ∷ backs) undoable item is within put first =
    record { within = within; backs = All-tail IsBack back backs put }

-- a step that takes an item stays among the items
pub stays : (items : List Item) (n : ℕ) (standing : ReaderState) (item : Item) → n ≡ length items → IsPlaced n standing
    → slice_get (reader_standing items standing).list 0 ≡ Some item → IsPlaced n (stepped standing)
stays items n standing item is placed first = stays_on items n standing.position standing.backs standing.undoable item
    is
    placed.within placed.backs first

nothing_of : (list : List Item) (undoable : ℕ) → slice_get list 0 ≡ None
    → after_take list undoable ≡ reader_with list undoable
nothing_of [] undoable none = refl
nothing_of (item ∷ list) undoable none = cc

-- a reader that has nothing to read takes nothing
pub takes_nothing : (reader : Reader) → slice_get reader.list 0 ≡ None → with_taken reader ≡ reader
takes_nothing reader none = nothing_of reader.list reader.undoable none

-- the written items from a place inside them on, after some that are all written
unread_of : (items front : List Item) (backs : List Item) (position : ℕ) (item : Item) → All IsWritten items
    → All IsBack backs → position ≤ length items
    → items ≡ front ++ (item ∷ (backs ++ drop position items)) → (0 < position)
    × (backs ++ drop (position - 1) items ≡ item ∷ (backs ++ drop position items))
unread_of items front [] position item written put within is =
    let rest : List Item = drop position items in
    let all : length items ≡ length front + (1 + (length items - position)) =
    ap length is ∙ length-append front (item ∷ rest) ∙ (let n = length-drop position items in omega arith) in
    (omega arith, ap (drop (position - 1)) is ∙ drop_at front (item ∷ rest) (position - 1) (omega arith))
unread_of items front (back ∷ backs) position item written put within is =
    let rest : List Item = back ∷ (backs ++ drop position items) in
    let ends : drop (length front) items ≡ item ∷ rest = ap (drop (length front)) is
    ∙ drop_at front (item ∷ rest) (length front) refl in
    let all : All IsWritten (item ∷ rest) = All-same IsWritten (item ∷ rest) (drop (length front) items) (sym ends)
    (All-drop IsWritten (length front) items written) in
    absurd (not_both back (All-head IsBack back backs put)
    (All-head IsWritten back (backs ++ drop position items) (All-tail IsWritten item rest all)))

-- a written item is in front again
pub unreads : (items : List Item) (n : ℕ) (standing : ReaderState) (item : Item) (number : ℕ)
    → item.origin ≡ Written number → n ≡ length items → All IsWritten items → IsPlaced n standing
    → CanUntake items item (reader_standing items standing)
    → (0 < standing.position) × (reader_standing items (record standing { position = standing.position - 1 })
    ≡ with_untaken item (reader_standing items standing))
unreads items n standing item number is all written placed can =
    let ends : IsTail items (item ∷ (reader_standing items standing).list) =
    subst (λ origin. CanUntakeFrom origin items item (reader_standing items standing)) is can in
    let within : standing.position ≤ n = placed.within in
    let back = unread_of items ends.0 standing.backs standing.position item written placed.backs (omega arith) ends.1 in
    let none : back_count item ≡ 0 = written_counts item (ap is_back_from is) in (
      back.0,
      ap (λ list. reader_with list standing.undoable) back.1
          ∙ sym (ap (λ k. reader_with (item ∷ (reader_standing items standing).list) (standing.undoable - k)) none
          ∙ ap (reader_with (item ∷ (reader_standing items standing).list)) (omega arith)),
    )

-- a put-back is in front again
pub unreads_back : (items : List Item) (standing : ReaderState) (item : Item) (number : ℕ) → item.origin ≡ Back number
    → CanUntake items item (reader_standing items standing)
    → (0 < standing.undoable) × (reader_standing items
    (record standing { backs = item ∷ standing.backs; undoable = standing.undoable - 1 }) ≡ with_untaken item
    (reader_standing items standing))
unreads_back items standing item number is can = (
  subst (λ origin. CanUntakeFrom origin items item (reader_standing items standing)) is can,
  ap (λ n. reader_with (item ∷ (reader_standing items standing).list) (standing.undoable - n))
      (sym (back_counts item (ap is_back_from is))),
)
