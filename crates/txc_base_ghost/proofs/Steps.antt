-- The ghost side of each call. Assumes `Logic`.
use Rattle.std.proofs.Common.{◌≡◌, ℕ, ◌≤◌, List, [], ◌∷◌, ◌++◌, map, length, sym, refl, ap, ◌∙◌, arith}
use Rattle.std.proofs.Common.{le_of_suc-le-suc}
use mathlib.Core.List.{IsPrefix, cons≢nil}
use seplogic.Ra.Ura.{Ura}
use base.Fraction.{full_share}
use base.Stored.{Gv, Coded}
use base.Logic.{SProp, ent, sep, ex, guard, emp, via}
use base.Fml.{Fml}
use base.Growing.{Least}
use types.Logic.{Logic, sem}
use types.Owned.{basic}
use types.Growing.{latest_new, latest_grows, latest_shows, latest_bounds, at_least_dup, at_least_join}
use types.Kit.{‵, raw, ◌⊛◌, some, given, ◌$◌, ◌∵◌, !, qed, move, drop, split, learn, check, pick, done, use2}
use Rattle.txc_base_ghost.specs.ListAuth.{logs, stands, reached}

module _ {E : Type 0} (cv : Coded E) where
  abbrev head : Gv → List Gv → Gv
  head d [] = d
  head d (g ∷ gs) = g

  abbrev tail : List Gv → List Gv
  tail [] = []
  tail (g ∷ gs) = gs

  -- the codes of a list are those of no other
  uncoded : (xs ys : List E) (t : List Gv) → map cv.code xs ++ t ≡ map cv.code ys → IsPrefix xs ys
  uncoded [] ys t e = (ys, refl)
  uncoded (x ∷ xs) [] t e = absurd (cons≢nil e)
  uncoded (x ∷ xs) (y ∷ ys) t e = let r = uncoded xs ys t (ap tail e) in
      (r.0, λ i. cv.inj x y (ap (head (cv.code x)) e) i ∷ r.1 i)

  pub prefix_out : (xs ys : List E) → IsPrefix (map cv.code xs) (map cv.code ys) → IsPrefix xs ys
  prefix_out xs ys p = uncoded xs ys p.0 p.1

  joined_codes : (xs t : List E) → map cv.code xs ++ map cv.code t ≡ map cv.code (xs ++ t)
  joined_codes [] t = refl
  joined_codes (x ∷ xs) t = ap (λ (gs : List Gv). cv.code x ∷ gs) (joined_codes xs t)

  pub prefix_in : (xs ys : List E) → IsPrefix xs ys → IsPrefix (map cv.code xs) (map cv.code ys)
  prefix_in xs ys p = (map cv.code p.0, joined_codes xs p.0 ∙ ap (map cv.code) p.1)

  -- of two lists that begin one list, the longer begins with the shorter
  both_begin : (xs ys : List E) (s t c : List Gv) → map cv.code xs ++ s ≡ c → map cv.code ys ++ t ≡ c
      → length xs ≤ length ys → IsPrefix xs ys
  both_begin [] ys s t c p q h = (ys, refl)
  both_begin (x ∷ xs) [] s t c p q h = absurd (omega (arith, h))
  both_begin (x ∷ xs) (y ∷ ys) s t c p q h = let e : cv.code x ∷ (map cv.code xs ++ s)
      ≡ cv.code y ∷ (map cv.code ys ++ t) = p ∙ sym q in
      let r = both_begin xs ys s t (map cv.code ys ++ t) (ap tail e) refl (le_of_suc-le-suc h) in
      (r.0, λ i. cv.inj x y (ap (head (cv.code x)) e) i ∷ r.1 i)

  module _ {M : Type 1} {𝓤 : Ura M} (𝓛 : Logic 𝓤) where
    open 𝓛 use {H}

    abbrev ◌⊢◌ : SProp 𝓤 → SProp 𝓤 → Type 1
    P ⊢ Q = ent 𝓤 P Q

    abbrev ◌∗◌ : SProp 𝓤 → SProp 𝓤 → SProp 𝓤
    P ∗ Q = sep 𝓤 P Q

    abbrev ⟦◌⟧ : Fml → SProp 𝓤
    ⟦ P ⟧ = sem 𝓛 P

    infix 26 ◌⊢◌
    infixr 35 ◌∗◌
    abbrev pub now : ℕ → List E → Fml
    now η log = stands cv.code η log

    abbrev pub had : ℕ → List E → Fml
    had η log = reached cv.code η log

    pub begins : emp 𝓤 ⊢ H.⇛ (ex 𝓤 (λ (η : ℕ). ⟦ now η [] ⟧))
    unfolding stands
    begins = via 𝓤 _ (latest_new logs 𝓛 []) (basic 𝓛 _)

    pub grown : (η : ℕ) (xs ys : List E) → IsPrefix xs ys → ⟦ now η xs ⟧ ⊢ H.⇛ ⟦ now η ys ⟧
    unfolding stands
    grown η xs ys p = via 𝓤 _ (latest_grows logs 𝓛 η (map cv.code xs) (map cv.code ys) (prefix_in xs ys p)) (basic 𝓛 _)

    pub shown : (η : ℕ) (log : List E) → ⟦ now η log ⟧ ⊢ ⟦ now η log ⟧ ∗ ⟦ had η log ⟧
    unfolding stands reached
    shown η log = latest_shows logs 𝓛 full_share η (map cv.code log) (map cv.code log) (logs.same (map cv.code log))

    pub under : (η : ℕ) (log l : List E) → ⟦ now η log ⟧ ∗ ⟦ had η l ⟧ ⊢ guard 𝓤 (IsPrefix l log) ⟦ now η log ⟧
    unfolding stands reached
    under η log l = qed 𝓛 (‵ (now η log) ∷ ‵ (had η l) ∷ []) ∵
        use2 𝓛 (given (IsPrefix (map cv.code l) (map cv.code log)) (‵ (now η log) ⊛ ‵ (had η l)))
        (latest_bounds logs 𝓛 full_share η (map cv.code log) (map cv.code l)) $
        learn ! (λ p. check ! (prefix_out l log p) $ split ! $ move ! (1 ∷ []) $ drop ! $ done !)

    pub twice : (η : ℕ) (log : List E) → ⟦ had η log ⟧ ⊢ ⟦ had η log ⟧ ∗ ⟦ had η log ⟧
    unfolding reached
    twice η log = at_least_dup logs 𝓛 η (map cv.code log)

    pub ordered : (η : ℕ) (xs ys : List E)
        → ⟦ had η xs ⟧ ∗ ⟦ had η ys ⟧ ⊢ guard 𝓤 (length xs ≤ length ys → IsPrefix xs ys) (emp 𝓤)
    unfolding reached
    ordered η xs ys = let Goal : Type 0 = length xs ≤ length ys → IsPrefix xs ys in
        qed 𝓛 (‵ (had η xs) ∷ ‵ (had η ys) ∷ []) ∵
        use2 𝓛 (some (λ (c : List Gv). given (Least logs.le (map cv.code xs) (map cv.code ys) c)
        (raw (sem 𝓛 (base.Growing.at_least logs η c)))))
        (at_least_join logs 𝓛 η (map cv.code xs) (map cv.code ys)) $
        pick ! (λ c. learn ! (λ least. drop ! $
        check ! (λ (h : length xs ≤ length ys). both_begin xs ys least.0.0 least.1.0 c least.0.1 least.1.1 h) $
        done !))
