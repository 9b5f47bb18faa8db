-- The loop that settles all readers, and the one that copies what remains.
use Rattle.std.proofs.Common.{◌≡◌, refl, sym, ◌∙◌, ap, subst, ℕ, ◌+◌, ◌-◌, ◌<◌, ◌≤◌, List, [], ◌∷◌, ◌++◌, length}
use Rattle.std.proofs.Common.{get_or, take, drop, map, arith}
use Rattle.std.proofs.lemmas.List.{append-nil, append_assoc, take_all, drop_all, take_at, take_more, get_or-drop}
use Rattle.std.proofs.lemmas.List.{get_or-map, length-map, length-drop}
use Rattle.std.proofs.lemmas.List.Elements.{All-map, All-weaker}
use Rattle.boxcar.specs.Table.{Shelves, Where}
use Rattle.txc_base.specs.declared.item.Item.{Item}
use Rattle.txc_cast.specs.Reader.{Reader, settled_reader}
use Rattle.txc_cast.specs.Standing.{ReaderState, IsPlaced, reader_standing, readers_standing, at_rest}
use Rattle.txc_cast.specs.Broadcast.{Broadcast, all_settled}
use Rattle.txc_cast.specs.Kept.{broadcast, items_shown, IsSoundCast}

-- at the end of the loop all are at rest
pub all_rest : (len : ℕ) (standings entered rested : List ReaderState) (i : ℕ) → len ≡ length standings
    → entered ≡ standings → length entered ≤ i
    → rested ≡ map at_rest (take i entered) ++ drop i entered
    → take len (rested ++ drop (length rested) standings) ≡ map at_rest standings
all_rest len standings entered rested i many same past is =
    let all : rested ≡ map at_rest standings =
    is ∙ ap (λ rest. map at_rest (take i entered) ++ rest) (drop_all i entered past)
    ∙ append-nil (map at_rest (take i entered)) ∙ ap (map at_rest) (take_all i entered past ∙ same) in
    let count : length rested ≡ len = ap length all ∙ length-map standings at_rest ∙ sym many in
    take_at rested (drop (length rested) standings) len count ∙ all

readers_rest : (items : List Item) (standings : List ReaderState)
    → readers_standing items (map at_rest standings) ≡ map settled_reader (readers_standing items standings)
readers_rest items [] = refl
readers_rest items (standing ∷ standings) = ap (λ readers. settled_reader (reader_standing items standing) ∷ readers)
    (readers_rest items standings)

-- what the loop leaves
pub settles : (shelf : Shelves) (tokens : List (Where Item)) (standings new : List ReaderState) (cast : Broadcast)
    → IsSoundCast shelf tokens standings → broadcast shelf tokens standings ≡ cast → new ≡ map at_rest standings
    → IsSoundCast shelf tokens new × (broadcast shelf tokens new ≡ all_settled cast)
settles shelf tokens standings new cast kept viewed is = (
  subst (IsSoundCast shelf tokens) (sym is) (record {
    shown = kept.shown;
    written = kept.written;
    placed = All-map (IsPlaced (length tokens)) at_rest standings
        (All-weaker (IsPlaced (length tokens)) (λ (s : ReaderState). IsPlaced (length tokens) (at_rest s))
        (λ s p. record { within = p.within; backs = p.backs }) standings kept.placed);
    few = (let same = length-map standings at_rest in let few = kept.few in omega arith);
  }),
  ap (broadcast shelf tokens) is
      ∙ ap (λ (readers : List Reader). record (broadcast shelf tokens standings) { readers = readers })
      (readers_rest (items_shown tokens) standings)
      ∙ ap all_settled viewed,
)

-- one item more is copied
pub copies : (tokens : List (Where Item)) (from position : ℕ) (front list new : List Item) (token : Where Item)
    (item : Item)
    → from ≤ position → position < length tokens → token ≡ get_or tokens position token → item ≡ token.value
    → list ≡ front ++ take (position - from) (drop from (items_shown tokens)) → new ≡ list ++ item ∷ []
    → new ≡ front ++ take (position + 1 - from) (drop from (items_shown tokens))
copies tokens from position front list new token item after within is value so_far more =
    let items : List Item = items_shown tokens in
    let many = length-map tokens (λ (t : Where Item). t.value) in
    let left = length-drop from items in
    let here : get_or (drop from items) (position - from) item ≡ item =
    get_or-drop from items (position - from) item
    ∙ ap (λ n. get_or items n item) (let there : from + (position - from) ≡ position = omega arith in there)
    ∙ get_or-map (λ (t : Where Item). t.value) tokens position token item within
    ∙ ap (λ (t : Where Item). t.value) (sym is) ∙ sym value in
    let next : take (position - from + 1) (drop from items) ≡ take (position - from) (drop from items) ++ item ∷ [] =
    take_more (drop from items) (position - from) item (omega arith)
    ∙ ap (λ i. take (position - from) (drop from items) ++ i ∷ []) here in
    more ∙ ap (λ l. l ++ item ∷ []) so_far ∙ append_assoc front (take (position - from) (drop from items)) (item ∷ [])
    ∙ ap (λ l. front ++ l) (sym next)
    ∙ ap (λ n. front ++ take n (drop from items)) (let count : position - from + 1 ≡ position
    + 1 - from = omega arith in
    count)

-- when all is copied
pub copied : (items : List Item) (standing : ReaderState) (from position : ℕ) (front list : List Item)
    → front ≡ standing.backs → from ≡ standing.position
    → length items ≤ position → list ≡ front ++ take (position - from) (drop from items)
    → list ≡ (reader_standing items standing).list
copied items standing from position front list backs at past is =
    let left = length-drop from items in
    is ∙ ap (λ rest. front ++ rest) (take_all (position - from) (drop from items) (omega arith))
    ∙ ap (λ l. l ++ drop from items) backs ∙ ap (λ n. standing.backs ++ drop n items) at
