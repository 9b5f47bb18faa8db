-- What every broadcast list shows.
use Rattle.std.proofs.Common.{◌≡◌, refl, sym, ◌∙◌, subst, ℕ, ◌≤◌, List, length, take, drop}
use Rattle.std.proofs.lemmas.List.{length-map, take-append-drop}
use Rattle.std.proofs.lemmas.List.Elements.{All-map, All-weaker}
use Rattle.boxcar.specs.Table.{Shelves, Where}
use Rattle.txc_base.specs.declared.item.Item.{Item}
use Rattle.txc_base.specs.declared.limits.TheConstants.{MAX_READERS}
use Rattle.txc_cast.specs.Standing.{ReaderState, IsPlaced, reader_standing}
use Rattle.txc_cast.specs.Broadcast.{Broadcast, IsReaderOf, IsWell}
use Rattle.txc_cast.specs.Kept.{broadcast, items_shown, IsSoundCast}

reads : (items : List Item) (n : ℕ) (standing : ReaderState) → IsPlaced n standing
    → IsReaderOf items (reader_standing items standing)
reads items n standing placed = record {
  backs = standing.backs;
  rest = drop standing.position items;
  put = placed.backs;
  end = (take standing.position items, sym (take-append-drop standing.position items));
  list = refl;
}

pub shows : (shelf : Shelves) (tokens : List (Where Item)) (standings : List ReaderState) (cast : Broadcast)
    → IsSoundCast shelf tokens standings → broadcast shelf tokens standings ≡ cast → IsWell cast
shows shelf tokens standings cast kept viewed = subst IsWell viewed (record {
  written = kept.written;
  slots = length-map tokens (λ (t : Where Item). t.index) ∙ sym (length-map tokens (λ (t : Where Item). t.value));
  readers = All-map (IsReaderOf (items_shown tokens)) (reader_standing (items_shown tokens)) standings
      (All-weaker (IsPlaced (length tokens))
      (λ (s : ReaderState). IsReaderOf (items_shown tokens) (reader_standing (items_shown tokens) s))
      (reads (items_shown tokens) (length tokens)) standings kept.placed);
  few = subst (λ n. n ≤ MAX_READERS) (sym (length-map standings (reader_standing (items_shown tokens)))) kept.few;
})
