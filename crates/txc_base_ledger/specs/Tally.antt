-- What a `Ledger` and a `Share` own: a row of an algebra in which rows add up.
use Rattle.std.specs.Prelude.{◌≡◌, ℕ, ◌+◌, ◌≤◌}
use mathlib.Core.Path.{refl, sym, ap, ◌∙◌, subst}
use mathlib.Core.Option.{Option, none, some}
use mathlib.Core.HLevel.{Π_prop, ×_prop, ×₃_prop, Σ_prop_path, Unit-prop}
use native.Mathlib.Bridge.{le_prop}
use base.Stored.{coded_ℕ}
use base.Fml.{Fml, fex, fown}
use base.Algebra.{SetCoded, Algebra}
use base.Graph.{Graph}
use base.SetCodes.{SetCoded-set, coded, pair, option, part, via}
use base.Algebras.{drawn}
use base.Ledger.{or, Off, Off-prop, Off-sym, or_comm, or_assoc, Off-assoc}
use Rattle.txc_base_ledger.specs.Sums.{rest_below, rest_whole, sum_backed, sum_comm, sum_assoc}

-- the sum of some shares, with or without the ledger: the total if the ledger is included, the parts, and the amount
abbrev pub Row : Type 0
Row = Option ℕ × ℕ × ℕ

-- a row is stored as plain numbers
pub rows : SetCoded Row
rows = via (pair (option (coded coded_ℕ)) (pair (coded coded_ℕ) (coded coded_ℕ))) (λ (x : Row). (x.0, (x.1, x.2)))
    (λ x y e i. ((e i).0, (e i).1.0, (e i).1.1))

-- an amount fits the total, if the ledger is included: it is at most the total, and equal to it for all parts
abbrev pub FitsWhole : ℕ → ℕ → ℕ → Option ℕ → Type 0
FitsWhole whole parts amount none = Unit {0}
FitsWhole whole parts amount (some total) = (amount ≤ total) × (parts ≡ whole → amount ≡ total)

-- the parts are at most all parts of the ledger, without a part there is no amount, and the amount fits
abbrev pub Valid : ℕ → Row → Type 0
Valid whole x = (x.1 ≤ whole) × (x.1 ≡ 0 → x.2 ≡ 0) × FitsWhole whole x.1 x.2 x.0

-- two proofs that two numbers are equal are equal
pub numbers : IsSet ℕ
numbers = SetCoded-set (coded coded_ℕ)

-- there is at most one proof that an amount fits
pub fits_prop : (whole parts amount : ℕ) (ledger : Option ℕ) → IsProp (FitsWhole whole parts amount ledger)
fits_prop whole parts amount none = Unit-prop
fits_prop whole parts amount (some total) = ×_prop le_prop (Π_prop (λ _. numbers amount total))

-- there is at most one proof that a row is valid
pub valid_prop : (whole : ℕ) (x : Row) → IsProp (Valid whole x)
valid_prop whole x = ×₃_prop le_prop (Π_prop (λ _. numbers x.2 0)) (fits_prop whole x.1 x.2 x.0)

-- the sum of two rows
abbrev pub ◌⊕◌ : Row → Row → Row
x ⊕ y = (or x.0 y.0, x.1 + y.1, x.2 + y.2)

infixr 60 ◌⊕◌
module _ (whole : ℕ) where
  -- a valid row
  abbrev pub El : Type 0
  El = (x : Row) × Valid whole x

  -- the third row is the sum of the first two, and at most one of these includes the ledger
  abbrev pub Sum : El → El → El → Type 0
  Sum x y z = Off x.0.0 y.0.0 × (x.0 ⊕ y.0 ≡ z.0)

  -- there is at most one proof that a row is a sum
  pub sum_prop : (x y z : El) → IsProp (Sum x y z)
  sum_prop x y z = ×_prop (Off-prop x.0.0 y.0.0) (SetCoded-set rows (x.0 ⊕ y.0) z.0)

  -- two rows have at most one sum
  pub sum_one : (x y z w : El) → Sum x y z → Sum x y w → z ≡ w
  sum_one x y z w h k = Σ_prop_path (valid_prop whole) (sym h.1 ∙ k.1)

  -- the sum of two rows is the same in either order
  pub turned : (x y : El) → Off x.0.0 y.0.0 → x.0 ⊕ y.0 ≡ y.0 ⊕ x.0
  turned x y h i = (or_comm x.0.0 y.0.0 h i, sum_comm x.0.1 y.0.1 i, sum_comm x.0.2 y.0.2 i)

  -- `Sum` holds in either order
  pub sum_comms : (x y z : El) → Sum x y z → Sum y x z
  sum_comms x y z h = (Off-sym x.0.0 y.0.0 h.0, sym (turned x y h.0) ∙ h.1)

  -- if the sum of a valid row and a second row is valid, the amount of the second row fits
  pub rest_fits : (x : El) (ledger : Option ℕ) (p a : ℕ) → Off x.0.0 ledger → Valid whole (x.0 ⊕ (ledger, p, a)) →
      FitsWhole whole p a ledger
  rest_fits x none p a h v = tt
  rest_fits ((none, q, b), w) (some total) p a h v = (
    rest_below b a total v.2.0,
    rest_whole q p b a whole total v.0 w.1 v.2.1,
  )
  rest_fits ((some t, q, b), w) (some total) p a h v = absurd h

  -- the sum of three rows is the same however it is grouped
  pub grouped : (x y z : Row) → x ⊕ (y ⊕ z) ≡ (x ⊕ y) ⊕ z
  grouped x y z i = (or_assoc x.0 y.0 z.0 i, sum_assoc x.1 y.1 z.1 i, sum_assoc x.2 y.2 z.2 i)

  -- `Sum` of three holds however it is grouped
  pub sum_assocs : (x y z xy w : El) → Sum x y xy → Sum xy z w → ∥ ((yz : El) × Sum y z yz × Sum x yz w) ∥₁
  sum_assocs x y z xy w h k =
      let off = Off-assoc x.0.0 y.0.0 z.0.0 h.0 (subst (λ (u : Row). Off u.0 z.0.0) (sym h.1) k.0) in
      let same : x.0 ⊕ (y.0 ⊕ z.0) ≡ w.0 = grouped x.0 y.0 z.0 ∙ (ap (λ (u : Row). u ⊕ z.0) h.1 ∙ k.1) in
      let all : Valid whole (x.0 ⊕ (y.0 ⊕ z.0)) = subst (Valid whole) (sym same) w.1 in
      let yz = y.0 ⊕ z.0 in
      ∣ (
        (
          yz,
          (
            rest_below x.0.1 yz.1 whole all.0,
            sum_backed y.0.1 z.0.1 y.0.2 z.0.2 y.1.1 z.1.1,
            rest_fits x yz.0 yz.1 yz.2 off.1 all,
          ),
        ),
        (off.0, refl),
        (off.1, same),
      ) ∣₁

  -- the valid rows, with their sums
  abbrev pub graph : Graph El
  graph = record {
    set = SetCoded-set (part rows (Valid whole) (valid_prop whole));
    sum = Sum;
    prop = sum_prop;
    one = sum_one;
    comm = sum_comms;
    assoc = sum_assocs;
  }

  -- the algebra of these sums
  abbrev pub tally : Algebra
  tally = drawn graph (part rows (Valid whole) (valid_prop whole))

  -- this row is owned under this name, and is valid
  abbrev pub holds : ℕ → Row → Fml
  holds name x = fex (Valid whole x) (λ v. fown tally name (x, v))

-- the ledger of this name has this number of parts and this total
unfoldable pub ledger_owns : ℕ → ℕ → ℕ → Fml
ledger_owns name whole total = holds whole name (some total, 0, 0)

-- a share of this name has this number of parts and counts this amount
unfoldable pub share_owns : ℕ → ℕ → ℕ → ℕ → Fml
share_owns name whole parts amount = holds whole name (none, parts, amount)
