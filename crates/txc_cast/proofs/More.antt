-- One reader more.
use Rattle.std.proofs.Common.{◌≡◌, sym, ◌∙◌, ap, subst, ℕ, ◌<◌, List, [], ◌∷◌, ◌++◌, length, get_or, arith}
use Rattle.std.proofs.lemmas.List.{length-map, length_push, map_push, drop_all}
use Rattle.std.proofs.lemmas.List.Elements.{All-push, All-nil}
use Rattle.boxcar.specs.Table.{Shelves, Where}
use Rattle.txc_base.specs.declared.item.Item.{Item}
use Rattle.txc_base.specs.declared.limits.TheConstants.{MAX_READERS}
use Rattle.txc_cast.specs.Reader.{Reader, fresh, clone_of, IsBack}
use Rattle.txc_cast.specs.Standing.{ReaderState, IsPlaced, reader_standing, readers_standing, standing_at, at_rest}
use Rattle.txc_cast.specs.Broadcast.{Broadcast, with_new_reader, reader_at}
use Rattle.txc_cast.specs.Kept.{broadcast, items_shown, IsSoundCast}
use Rattle.txc_cast.proofs.Readers.{found_at}
use Rattle.txc_cast.proofs.Calls.{is_placed}

-- the list with one reader more
pub begins : (shelf : Shelves) (tokens : List (Where Item)) (standings left new : List ReaderState) (cast : Broadcast)
    (standing : ReaderState) (reader : Reader)
    → broadcast shelf tokens standings ≡ cast → left ≡ standings → new ≡ left ++ standing ∷ []
    → reader_standing (items_shown tokens) standing ≡ reader
    → broadcast shelf tokens new ≡ with_new_reader cast reader
begins shelf tokens standings left new cast standing reader viewed same more is =
    ap (broadcast shelf tokens) (more ∙ ap (λ (list : List ReaderState). list ++ standing ∷ []) same)
    ∙ ap (λ (readers : List Reader). record (broadcast shelf tokens standings) { readers = readers })
    (map_push (reader_standing (items_shown tokens)) standings standing
    ∙ ap (λ (last : Reader). readers_standing (items_shown tokens) standings ++ last ∷ []) is)
    ∙ ap (λ (b : Broadcast). with_new_reader b reader) viewed

-- it stands among the items, as the others do
pub stands_with : (shelf : Shelves) (tokens : List (Where Item)) (standings left new : List ReaderState)
    (cast : Broadcast) (standing : ReaderState)
    → IsSoundCast shelf tokens standings → broadcast shelf tokens standings ≡ cast → left ≡ standings
    → new ≡ left ++ standing ∷ []
    → length cast.readers < MAX_READERS → IsPlaced (length tokens) standing → IsSoundCast shelf tokens new
stands_with shelf tokens standings left new cast standing kept viewed same more few placed =
    subst (IsSoundCast shelf tokens) (sym (more ∙ ap (λ (list : List ReaderState). list ++ standing ∷ []) same))
    (record {
      shown = kept.shown;
      written = kept.written;
      placed = All-push (IsPlaced (length tokens)) standings standing kept.placed placed;
      few = (
          let many = ap (λ (b : Broadcast). length b.readers) viewed in
          let each = length-map standings (reader_standing (items_shown tokens)) in
          let last = length_push standings standing in
          omega arith
          );
    })

-- a reader that begins behind all that is written
pub behind_all : (tokens : List (Where Item)) (position : ℕ) (standing : ReaderState) → length tokens ≡ position
    → standing ≡ standing_at position
    → reader_standing (items_shown tokens) standing ≡ fresh
behind_all tokens position standing all is =
    ap (reader_standing (items_shown tokens)) is
    ∙ ap (λ (list : List Item). record { list = list; undoable = 0 })
    (drop_all position (items_shown tokens) (let many = length-map tokens (λ (t : Where Item). t.value) in omega arith))

-- there are as many items as tokens
pub all_of : (shelf : Shelves) (tokens : List (Where Item)) (standings : List ReaderState) (cast : Broadcast) (n : ℕ)
    → broadcast shelf tokens standings ≡ cast
    → n ≡ length cast.items → length tokens ≡ n
all_of shelf tokens standings cast n viewed is =
    sym (is ∙ sym (ap (λ (b : Broadcast). length b.items) viewed) ∙ length-map tokens (λ (t : Where Item). t.value))

-- it may stand behind them all
pub last_placed : (tokens : List (Where Item)) (position : ℕ) (standing : ReaderState) → length tokens ≡ position
    → standing ≡ standing_at position → IsPlaced (length tokens) standing
last_placed tokens position standing all is =
    subst (IsPlaced (length tokens)) (sym is) (record { within = omega arith; backs = All-nil IsBack })

-- a clone has what its reader has to read
pub clones : (shelf : Shelves) (tokens : List (Where Item)) (standings left : List ReaderState) (cast : Broadcast)
    (n : ℕ) (standing clone : ReaderState)
    → broadcast shelf tokens standings ≡ cast → left ≡ standings → n < length standings
    → standing ≡ get_or left n standing → clone ≡ at_rest standing
    → reader_standing (items_shown tokens) clone ≡ clone_of (reader_at cast n)
clones shelf tokens standings left cast n standing clone viewed same within at is =
    let found = found_at (items_shown tokens) standings n standing within
    (at ∙ ap (λ (list : List ReaderState). get_or list n standing) same) in
    ap (reader_standing (items_shown tokens)) is
    ∙ ap clone_of (sym found ∙ ap (λ (b : Broadcast). reader_at b n) viewed)

-- and stands where it stands
pub clone_placed : (shelf : Shelves) (tokens : List (Where Item)) (standings left : List ReaderState) (n : ℕ)
    (standing clone : ReaderState)
    → IsSoundCast shelf tokens standings → left ≡ standings → n < length standings → standing ≡ get_or left n standing
    → clone ≡ at_rest standing
    → IsPlaced (length tokens) clone
clone_placed shelf tokens standings left n standing clone kept same within at is =
    let placed = is_placed shelf tokens standings n standing kept within
    (at ∙ ap (λ (list : List ReaderState). get_or list n standing) same) in
    subst (IsPlaced (length tokens)) (sym is) (record { within = placed.within; backs = placed.backs })
