-- Each undo gives the list from before.
use Rattle.std.proofs.Common.{◌≡◌, refl, sym, ◌∙◌, ap, subst, ℕ, ◌<◌, List, [], ◌∷◌, length, get_or, set, arith, Some}
use Rattle.std.specs.Prelude.{slice_get}
use Rattle.std.proofs.lemmas.List.{set-set, get_or-set_same, set-get_or, take_at, length_push}
use Rattle.txc_base.specs.declared.item.Item.{Item}
use Rattle.txc_cast.specs.Reader.{Reader, fresh, after_take, with_front, without_front, with_taken, with_untaken}
use Rattle.txc_cast.specs.Broadcast.{Broadcast, unappended, untaken, ungiven, unbegun, UndoesAppend, UndoesTake}
use Rattle.txc_cast.specs.Broadcast.{UndoesPutBack, UndoesReader}
use Rattle.txc_cast.proofs.Readers.{there, first_at}
use Rattle.txc_cast.proofs.Appends.{shrinks}

pub undoes_append : (old new : Broadcast) → new ≡ unappended old → UndoesAppend old new
undoes_append old new is before item slot was = is ∙ ap unappended was ∙ shrinks before item slot

-- a reader changed and changed back
back_again : (readers : List Reader) (n : ℕ) (f g : Reader → Reader) → n < length readers
    → g (f (get_or readers n fresh)) ≡ get_or readers n fresh
    → set (set readers n (f (get_or readers n fresh))) n
    (g (get_or (set readers n (f (get_or readers n fresh))) n fresh)) ≡ readers
back_again readers n f g within same =
    let changed : Reader = f (get_or readers n fresh) in
    set-set readers n changed (g (get_or (set readers n changed) n fresh))
    ∙ ap (λ reader. set readers n (g reader)) (get_or-set_same readers n changed fresh within)
    ∙ ap (set readers n) same
    ∙ set-get_or readers n fresh

again : (item : Item) (list : List Item) (undoable : ℕ) → with_untaken item (after_take (item ∷ list) undoable)
    ≡ record { list = item ∷ list; undoable = undoable }
again item list undoable = ap (λ n. record { list = item ∷ list; undoable = n }) (omega arith)

-- an item taken and put in front again
taken_again : (list : List Item) (undoable : ℕ) (item : Item) → slice_get list 0 ≡ Some item
    → with_untaken item (after_take list undoable) ≡ record { list = list; undoable = undoable }
taken_again [] undoable item first = cc
taken_again (other ∷ list) undoable item first =
    let same : other ≡ item = cc in
    subst (λ i. with_untaken i (after_take (other ∷ list) undoable)
    ≡ record { list = other ∷ list; undoable = undoable }) same (again other list undoable)

pub undoes_take : (old new : Broadcast) (n : ℕ) (item : Item) → new ≡ untaken old n item → UndoesTake old n item new
undoes_take old new n item is before first was =
    let within : n < length before.readers = there before.readers n (Some item) (sym first) in
    let reader : Reader = get_or before.readers n fresh in
    let front : slice_get reader.list 0 ≡ Some item = first_at before.readers n (Some item) (sym first) in
    is ∙ ap (λ b. untaken b n item) was
    ∙ ap (λ (readers : List Reader). record before { readers = readers })
    (back_again before.readers n with_taken (with_untaken item) within
    (taken_again reader.list reader.undoable item front))

pub undoes_put_back : (old new : Broadcast) (n : ℕ) → new ≡ ungiven old n → UndoesPutBack old n new
undoes_put_back old new n is before item within was =
    is ∙ ap (λ b. ungiven b n) was
    ∙ ap (λ (readers : List Reader). record before { readers = readers })
    (back_again before.readers n (with_front item) without_front within refl)

pub undoes_reader : (old new : Broadcast) → new ≡ unbegun old → UndoesReader old new
undoes_reader old new is before reader was =
    is ∙ ap unbegun was
    ∙ ap (λ (readers : List Reader). record before { readers = readers })
    (take_at before.readers (reader ∷ []) _ (let e = length_push before.readers reader in omega arith))
