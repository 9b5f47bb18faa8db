-- The model of a store.
use Rattle.std.specs.Prelude.{◌≡◌, ◌≢◌, ℕ, List, Option, map}
use Rattle.std.specs.BTreeMap.{is_at}
use Rattle.std.specs.Map.{lookup}
use Rattle.std.specs.Ordering.{nat_cmp}
use Rattle.std.specs.List.Sorted.{IsStrictlySortedBy}

module _ {T : Type 0} where
  -- the value under a key, among these keys and values
  abbrev pub at : List (ℕ × T) → ℕ → Option T
  at entries key = lookup (is_at (nat_cmp key)) entries

  -- under this key there is now `now`; under each other key the value is unchanged
  pub record ChangesOnly (old new : List (ℕ × T)) (key : ℕ) (now : Option T) : Type 0 where
    pub this_key : at new key ≡ now
    pub other_keys : (q : ℕ) → q ≢ key → at new q ≡ at old q

  -- each key is greater than the one before it, so the values are in the order in which they were put
  abbrev pub AreRising : List (ℕ × T) → Type 0
  AreRising entries = IsStrictlySortedBy nat_cmp (map (λ entry. entry.0) entries)

-- a store: the next key, and the stored keys and values by rising keys
pub record PayloadsView (T : Type 0) : Type 0 where
  pub next : ℕ
  pub entries : List (ℕ × T)
