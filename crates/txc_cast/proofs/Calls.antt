-- What each call that changes one reader leaves.
use Rattle.std.proofs.Common.{◌≡◌, sym, ◌∙◌, ap, subst, ℕ, ◌-◌, ◌<◌, List, ◌∷◌, length, set, get_or, take, drop, Some}
use Rattle.std.proofs.Common.{Ok, arith}
use Rattle.std.proofs.lemmas.List.{length-map, length-set, take-map}
use Rattle.std.proofs.lemmas.List.Elements.{All-set, All-get_or}
use Rattle.boxcar.specs.Table.{Shelves, Where}
use Rattle.txc_base.specs.declared.item.Item.{Item}
use Rattle.txc_base.specs.declared.origin.Origin.TheVariants.{Written, Back}
use Rattle.txc_cast.specs.Reader.{Reader, CanUntake, BeginsWithBack, with_taken, with_untaken, without_front}
use Rattle.txc_cast.specs.Standing.{ReaderState, IsPlaced, reader_standing, readers_standing, stepped}
use Rattle.txc_cast.specs.Broadcast.{Broadcast, first_of, taken_at, untaken, ungiven, unbegun, CanUntakeAt, CanUngiveAt}
use Rattle.txc_cast.specs.Kept.{broadcast, items_shown, IsSoundCast}
use Rattle.txc_cast.proofs.Readers.{IsAs, changed, finds, finds_first, is_there, at_reader}
use Rattle.txc_cast.proofs.Steps.{steps, stays, ungives, unreads, unreads_back}

-- as many items as tokens
many : (tokens : List (Where Item)) → length tokens ≡ length (items_shown tokens)
many tokens = sym (length-map tokens (λ (token : Where Item). token.value))

-- a reader stands among the items
pub is_placed : (shelf : Shelves) (tokens : List (Where Item)) (standings : List ReaderState) (n : ℕ)
    (standing : ReaderState) → IsSoundCast shelf tokens standings
    → n < length standings → standing ≡ get_or standings n standing → IsPlaced (length tokens) standing
is_placed shelf tokens standings n standing kept within is =
    subst (IsPlaced (length tokens)) (sym is)
    (All-get_or (IsPlaced (length tokens)) standings n standing within kept.placed)

-- one reader stands elsewhere, among the items
stands : (shelf : Shelves) (tokens : List (Where Item)) (standings : List ReaderState) (n : ℕ) (new : ReaderState)
    → IsSoundCast shelf tokens standings
    → IsPlaced (length tokens) new → IsSoundCast shelf tokens (set standings n new)
stands shelf tokens standings n new kept placed = record {
  shown = kept.shown;
  written = kept.written;
  placed = All-set (IsPlaced (length tokens)) standings n new placed kept.placed;
  few = (let same = length-set standings n new in let few = kept.few in omega arith);
}

-- a take leaves the list without its first item
pub takes : (shelf : Shelves) (tokens : List (Where Item)) (standings : List ReaderState) (cast : Broadcast) (n : ℕ)
    (item : Item) (standing new : ReaderState)
    → IsSoundCast shelf tokens standings → IsAs shelf tokens standings cast → standing ≡ get_or standings n standing
    → Ok (Some item) ≡ first_of cast n → new ≡ stepped standing
    → IsSoundCast shelf tokens (set standings n new) × (broadcast shelf tokens (set standings n new) ≡ taken_at cast n)
takes shelf tokens standings cast n item standing new kept viewed is first step =
    let within = finds shelf tokens standings cast n (Some item) viewed first in
    let placed = is_placed shelf tokens standings n standing kept within is in
    let front = finds_first shelf tokens standings cast n (Some item) standing viewed first is in (
      stands shelf tokens standings n new kept
          (subst (IsPlaced (length tokens)) (sym step)
          (stays (items_shown tokens) (length tokens) standing item (many tokens) placed front)),
      changed shelf tokens standings n standing new with_taken within is
          (ap (reader_standing (items_shown tokens)) step
          ∙ steps (items_shown tokens) standing item kept.written placed.backs front)
          ∙ ap (λ (b : Broadcast). taken_at b n) viewed,
    )

-- the undo of a put-back leaves the list without its first item
pub undoes_put : (shelf : Shelves) (tokens : List (Where Item)) (standings : List ReaderState) (cast : Broadcast)
    (n : ℕ) (standing new : ReaderState)
    → IsSoundCast shelf tokens standings → IsAs shelf tokens standings cast → standing ≡ get_or standings n standing
    → CanUngiveAt cast n → new ≡ record standing { backs = drop 1 standing.backs }
    → broadcast shelf tokens (set standings n new) ≡ ungiven cast n
undoes_put shelf tokens standings cast n standing new kept viewed is can step =
    changed shelf tokens standings n standing new without_front
    (is_there BeginsWithBack shelf tokens standings cast n viewed can) is
    (ap (reader_standing (items_shown tokens)) step
    ∙ ungives (items_shown tokens) standing kept.written
    (at_reader BeginsWithBack shelf tokens standings cast n standing viewed is can))
    ∙ ap (λ (b : Broadcast). ungiven b n) viewed

-- a reader of which a take can be taken back is there
pub can_be_untaken : (shelf : Shelves) (tokens : List (Where Item)) (standings : List ReaderState) (cast : Broadcast)
    (n : ℕ) (item : Item) (standing : ReaderState)
    → IsAs shelf tokens standings cast → standing ≡ get_or standings n standing → CanUntakeAt cast n item
    → (n < length standings) × CanUntake (items_shown tokens) item (reader_standing (items_shown tokens) standing)
can_be_untaken shelf tokens standings cast n item standing viewed is can = (
  is_there (CanUntake cast.items item) shelf tokens standings cast n viewed can,
  subst (λ (b : Broadcast). CanUntake b.items item (reader_standing (items_shown tokens) standing)) (sym viewed)
      (at_reader (CanUntake cast.items item) shelf tokens standings cast n standing viewed is can),
)

-- the undo of a take leaves the list with the item in front: a written one
pub untakes_written : (shelf : Shelves) (tokens : List (Where Item)) (standings : List ReaderState) (cast : Broadcast)
    (n : ℕ) (item : Item) (number : ℕ) (standing : ReaderState)
    → IsSoundCast shelf tokens standings → IsAs shelf tokens standings cast → standing ≡ get_or standings n standing
    → CanUntakeAt cast n item → item.origin ≡ Written number
    → (0 < standing.position) × (broadcast shelf tokens (set standings n
    (record standing { position = standing.position - 1 }))
    ≡ untaken cast n item)
untakes_written shelf tokens standings cast n item number standing kept viewed is can origin =
    let here = can_be_untaken shelf tokens standings cast n item standing viewed is can in
    let placed = is_placed shelf tokens standings n standing kept here.0 is in
    let step = unreads (items_shown tokens) (length tokens) standing item number origin (many tokens) kept.written
    placed here.1 in (
      step.0,
      changed shelf tokens standings n standing _ (with_untaken item) here.0 is step.1
          ∙ ap (λ (b : Broadcast). untaken b n item) viewed,
    )

-- or one that was put back
pub untakes_back : (shelf : Shelves) (tokens : List (Where Item)) (standings : List ReaderState) (cast : Broadcast)
    (n : ℕ) (item : Item) (number : ℕ) (standing : ReaderState)
    → IsAs shelf tokens standings cast → standing ≡ get_or standings n standing
    → CanUntakeAt cast n item → item.origin ≡ Back number
    → (0 < standing.undoable) × (broadcast shelf tokens
    (set standings n (record standing { backs = item ∷ standing.backs; undoable = standing.undoable - 1 }))
    ≡ untaken cast n item)
untakes_back shelf tokens standings cast n item number standing viewed is can origin =
    let here = can_be_untaken shelf tokens standings cast n item standing viewed is can in
    let step = unreads_back (items_shown tokens) standing item number origin here.1 in (
      step.0,
      changed shelf tokens standings n standing _ (with_untaken item) here.0 is step.1
          ∙ ap (λ (b : Broadcast). untaken b n item) viewed,
    )

-- the last reader is let go
pub lets_go : (shelf : Shelves) (tokens : List (Where Item)) (standings new : List ReaderState) (cast : Broadcast)
    → IsAs shelf tokens standings cast → new ≡ take (length standings - 1) standings
    → broadcast shelf tokens new ≡ unbegun cast
lets_go shelf tokens standings new cast viewed is =
    let readers : List Reader = readers_standing (items_shown tokens) standings in
    ap (broadcast shelf tokens) is
    ∙ ap (λ (left : List Reader). record (broadcast shelf tokens standings) { readers = left })
    (sym (take-map (reader_standing (items_shown tokens)) (length standings - 1) standings)
    ∙ ap (λ n. take (n - 1) readers) (sym (length-map standings (reader_standing (items_shown tokens)))))
    ∙ ap unbegun viewed
