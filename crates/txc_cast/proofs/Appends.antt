-- An append and its undo.
use Rattle.std.proofs.Common.{◌≡◌, refl, sym, ◌∙◌, ap, subst, ℕ, ◌+◌, ◌-◌, ◌<◌, ◌≤◌, true, List, [], ◌∷◌, ◌++◌, length}
use Rattle.std.proofs.Common.{get_or, take, drop, map, ⊎_elim, arith, Option, Some, None}
use Rattle.std.specs.Prelude.{All, Any, is_some, option_to_list}
use Rattle.std.proofs.lemmas.Bool.{cases_lt}
use Rattle.std.proofs.lemmas.List.{append-nil, append_assoc, drop-append-le, drop_all, map_push, take_at, length_push}
use Rattle.std.proofs.lemmas.List.{length-map, get_or-map}
use Rattle.std.proofs.lemmas.List.Elements.{All-head, All-tail, All-weaker, All-pop}
use Rattle.boxcar.specs.Table.{Shelves, Where, Shows}
use Rattle.txc_base.specs.declared.item.Item.{Item}
use Rattle.txc_cast.specs.Reader.{Reader, IsBack, IsWritten, HasWritten, with_last, without_last_item}
use Rattle.txc_cast.specs.Standing.{ReaderState, IsPlaced, reader_standing, readers_standing}
use Rattle.txc_cast.specs.Broadcast.{Broadcast, appended, unappended, CanUnappend}
use Rattle.txc_cast.specs.Kept.{broadcast, items_shown, slots_shown, IsSoundCast}

abbrev reader_with : List Item → ℕ → Reader
reader_with list undoable = record { list = list; undoable = undoable }

abbrev IsWithin : ℕ → ReaderState → Type 0
IsWithin n standing = standing.position ≤ n

longer : (items : List Item) (item : Item) (standing : ReaderState) → standing.position ≤ length items
    → reader_standing (items ++ item ∷ []) standing ≡ with_last item (reader_standing items standing)
longer items item standing within =
    ap (λ list. reader_with (standing.backs ++ list) standing.undoable)
    (drop-append-le standing.position items (item ∷ []) within)
    ∙ ap (λ list. reader_with list standing.undoable)
    (sym (append_assoc standing.backs (drop standing.position items) (item ∷ [])))

-- every reader gets an item that is written behind all others
all_longer : (items : List Item) (item : Item) (standings : List ReaderState) → All (IsWithin (length items)) standings
    → readers_standing (items ++ item ∷ []) standings ≡ map (with_last item) (readers_standing items standings)
all_longer items item [] placed = refl
all_longer items item (standing ∷ standings) placed =
    ap (λ reader. reader ∷ readers_standing (items ++ item ∷ []) standings)
    (longer items item standing (All-head (IsWithin (length items)) standing standings placed))
    ∙ ap (λ readers. with_last item (reader_standing items standing) ∷ readers)
    (all_longer items item standings (All-tail (IsWithin (length items)) standing standings placed))

-- one more token is one more item
pub grows : (shelf : Shelves) (tokens tokens' : List (Where Item)) (standings : List ReaderState) (token : Where Item)
    → All (IsPlaced (length tokens)) standings → tokens' ≡ tokens ++ token ∷ []
    → broadcast shelf tokens' standings ≡ appended (broadcast shelf tokens standings) token.value token.index
grows shelf tokens tokens' standings token placed is =
    let within : All (IsWithin (length (items_shown tokens))) standings =
    All-weaker (IsPlaced (length tokens)) (IsWithin (length (items_shown tokens)))
    (λ standing p. let e = length-map tokens (λ (t : Where Item). t.value) in
    let w : standing.position ≤ length tokens = p.within in omega arith) standings placed in
    ap (λ (ts : List (Where Item)). broadcast shelf ts standings) is
    ∙ ap (λ (items : List Item). record {
      items = items;
      slots = slots_shown (tokens ++ token ∷ []);
      readers = readers_standing items standings;
      shelf = shelf;
    })
    (map_push (λ (t : Where Item). t.value) tokens token)
    ∙ ap (λ (slots : List ℕ). record {
      items = items_shown tokens ++ token.value ∷ [];
      slots = slots;
      readers = readers_standing (items_shown tokens ++ token.value ∷ []) standings;
      shelf = shelf;
    })
    (map_push (λ (t : Where Item). t.index) tokens token)
    ∙ ap (λ (readers : List Reader). record {
      items = items_shown tokens ++ token.value ∷ [];
      slots = slots_shown tokens ++ token.index ∷ [];
      readers = readers;
      shelf = shelf;
    })
    (all_longer (items_shown tokens) token.value standings within)

shorter : {X : Type 0} (list : List X) (last : X) → take (length (list ++ last ∷ []) - 1) (list ++ last ∷ []) ≡ list
shorter list last = take_at list (last ∷ []) _ (let e = length_push list last in omega arith)

all_shorter : (item : Item) (readers : List Reader) → map without_last_item (map (with_last item) readers) ≡ readers
all_shorter item [] = refl
all_shorter item (reader ∷ readers) =
    ap (λ list. reader_with list reader.undoable ∷ map without_last_item (map (with_last item) readers))
    (shorter reader.list item)
    ∙ ap (λ rest. reader ∷ rest) (all_shorter item readers)

-- what was appended is taken off
pub shrinks : (before : Broadcast) (item : Item) (slot : ℕ) → unappended (appended before item slot) ≡ before
shrinks before item slot =
    ap (λ (items : List Item). record (unappended (appended before item slot)) { items = items })
    (shorter before.items item)
    ∙ ap (λ (slots : List ℕ). record {
      items = before.items;
      slots = slots;
      readers = map without_last_item (map (with_last item) before.readers);
      shelf = before.shelf;
    })
    (shorter before.slots slot)
    ∙ ap (λ (readers : List Reader). record before { readers = readers }) (all_shorter item before.readers)

-- a reader that has a written item stands before it
before_last : (items : List Item) (standing : ReaderState) → All IsBack standing.backs
    → HasWritten (reader_standing items standing) → standing.position < length items
before_last items standing put has = ⊎_elim (λ within. within) (λ past.
    let same : standing.backs ++ drop standing.position items ≡ standing.backs =
    ap (λ rest. standing.backs ++ rest) (drop_all standing.position items past) ∙ append-nil standing.backs in
    let some : Any IsWritten standing.backs = subst (Any IsWritten) same has in
    let back : IsBack (get_or standing.backs some.0 some.1) = put some.0 some.1 some.2 in
    let written : IsWritten (get_or standing.backs some.0 some.1) = subst IsWritten (sym some.3) some.4 in
    absurd (let no : ⊥ = cc in no)) (cases_lt standing.position (length items))

-- where every reader has a written item, all stand before the last
pub all_before_last : (items : List Item) (n m : ℕ) (standings : List ReaderState) → n ≡ length items → n ≡ m + 1
    → All (IsPlaced n) standings → All HasWritten (readers_standing items standings)
    → All (IsPlaced m) standings
all_before_last items n m standings is less placed has k default within =
    let standing : ReaderState = get_or standings k default in
    let put : IsPlaced n standing = placed k default within in
    let written : HasWritten (reader_standing items standing) =
    subst HasWritten (get_or-map (reader_standing items) standings k default (reader_standing items default) within)
    (has k (reader_standing items default) (let e = length-map standings (reader_standing items) in omega arith)) in
    let before = before_last items standing put.backs written in
    record { within = omega arith; backs = put.backs }

popped : (shelf : Shelves) (tokens tokens' : List (Where Item)) (standings : List ReaderState) (token : Where Item)
    (cast : Broadcast)
    → tokens ≡ tokens' ++ token ∷ [] → IsSoundCast shelf tokens standings → broadcast shelf tokens standings ≡ cast
    → CanUnappend cast
    → IsSoundCast shelf tokens' standings × (broadcast shelf tokens' standings ≡ unappended cast)
popped shelf tokens tokens' standings token cast is kept viewed can =
    let less : length tokens ≡ length tokens' + 1 = ap length is ∙ length_push tokens' token in
    let same : length tokens ≡ length (items_shown tokens) = sym (length-map tokens (λ (t : Where Item). t.value)) in
    let has : All HasWritten (readers_standing (items_shown tokens) standings) =
    subst (λ (b : Broadcast). All HasWritten b.readers) (sym viewed) can.1 in
    let placed : All (IsPlaced (length tokens')) standings = all_before_last (items_shown tokens) (length tokens)
    (length tokens') standings same less kept.placed has in
    let items : items_shown tokens ≡ items_shown tokens' ++ token.value ∷ [] = ap items_shown is
    ∙ map_push (λ (t : Where Item). t.value) tokens' token in (
      record {
        shown = (All-pop (λ t. Shows shelf t) tokens tokens' (Some token) is kept.shown).0;
        written = (All-pop IsWritten (items_shown tokens) (items_shown tokens') (Some token.value) items
            kept.written).0;
        placed = placed;
        few = kept.few;
      },
      sym (ap unappended (sym viewed ∙ grows shelf tokens' tokens standings token placed is)
          ∙ shrinks (broadcast shelf tokens' standings) token.value token.index),
    )

-- the last token is let go
pub unappends : (shelf : Shelves) (tokens tokens' : List (Where Item)) (standings : List ReaderState)
    (token : Option (Where Item)) (cast : Broadcast)
    → is_some token ≡ true → tokens ≡ tokens' ++ option_to_list token → IsSoundCast shelf tokens standings
    → broadcast shelf tokens standings ≡ cast → CanUnappend cast
    → IsSoundCast shelf tokens' standings × (broadcast shelf tokens' standings ≡ unappended cast)
unappends shelf tokens tokens' standings None cast some is kept viewed can = cc
unappends shelf tokens tokens' standings (Some token) cast some is kept viewed can =
    popped shelf tokens tokens' standings token cast is kept viewed can

-- where an append can be taken back there is a token
pub some_token : (shelf : Shelves) (tokens : List (Where Item)) (standings : List ReaderState) (cast : Broadcast)
    → broadcast shelf tokens standings ≡ cast → CanUnappend cast → 0 < length tokens
some_token shelf tokens standings cast viewed can =
    let some : 0 < length (items_shown tokens) = subst (λ (b : Broadcast). 0 < length b.items) (sym viewed) can.0 in
    let same = length-map tokens (λ (t : Where Item). t.value) in
    omega arith
