-- The ghost side of each call. Assumes `Logic`.
use Rattle.std.proofs.Common.{◌≡◌, ℕ, ◌+◌, ◌≤◌, [], ◌∷◌, refl, sym, subst, arith}
use mathlib.Core.Option.{none, some}
use native.Mathlib.Nat.{zero-add, add-zero}
use seplogic.Ra.Pcs.{OpDef}
use seplogic.Ra.Ura.{Ura}
use base.Logic.{SProp, ent, sep, ex, guard, emp, via}
use base.Fml.{Fml, fsep, fown}
use base.Graph.{sum_in, sum_out}
use base.Ledger.{Off}
use types.Logic.{Logic, sem}
use types.Owned.{basic, own_new, own_glued, own_step}
use types.Kit.{‵, ◌⊛◌, some as exists, given, later, ◌$◌, ◌∵◌, !, qed, by, move, split, fjoin, fpick, fpack, pick}
use types.Kit.{learn, check, show, use0, use1, use2, await, updating, now, done}
use Rattle.txc_base_ledger.specs.Tally.{Row, Valid, ◌⊕◌, El, graph, tally, holds, ledger_owns, share_owns}

-- how a share stands to the total
abbrev pub Audited : ℕ → ℕ → ℕ → ℕ → Type 0
Audited whole total parts amount = (amount ≤ total) × (parts ≡ whole → amount ≡ total) × (parts ≡ 0 → amount ≡ 0)

module _ (whole : ℕ) where
  -- a ledger of nothing but its total
  ledger_valid : (total parts amount : ℕ) → Valid whole (some total, parts, amount) → Valid whole (some total, 0, 0)
  ledger_valid total parts amount v =
      let below = v.0 in let backed = v.1 in let within = v.2.0 in let all = v.2.1 in (
        omega arith,
        (λ _. refl),
        (
          omega arith,
          λ (e : 0 ≡ whole). let p : parts ≡ 0 = omega (arith, below, e) in
              let a = backed p in let t = all (omega (arith, p, e)) in omega (arith, a, t),
        ),
      )

  -- a share of a valid row is valid by itself
  share_valid : (total parts amount : ℕ) → Valid whole (some total, parts, amount) → Valid whole (none, parts, amount)
  share_valid total parts amount v = (v.0, v.1, tt)

  -- the row of nothing is valid
  none_valid : Valid whole (none, 0, 0)
  none_valid = (omega arith, (λ _. refl), tt)

  -- the total and a share move by as much
  moved : (t t' p a a' : ℕ) (v : Valid whole (some t, p, a)) (w : Valid whole (some t', p, a')) → t' + a ≡ t + a' →
      (f : El whole)
      → OpDef (tally whole).op ((some t, p, a), v) f → OpDef (tally whole).op ((some t', p, a'), w) f
  moved t t' p a a' v w e ((some u, q, b), fv) d = absurd d.1.0
  moved t t' p a a' v w e ((none, q, b), fv) d =
      let all : Valid whole (some t, p + q, a + b) = subst (Valid whole) (sym d.1.1) d.0.1 in
      let bounds = all.0 in let within = all.2.0 in let full = all.2.1 in let backed = w.1 in let his = fv.1 in (
        (
          (some t', p + q, a' + b),
          (
            bounds,
            (λ nothing. let x = backed (omega (arith, nothing)) in let z = his (omega (arith, nothing)) in
                omega (arith, x, z)),
            (omega (arith, within, e), λ have. let u = full have in omega (arith, u, e)),
          ),
        ),
        (tt, refl),
      )

  module _ {M : Type 1} {𝓤 : Ura M} (𝓛 : Logic 𝓤) where
    open 𝓛 use {H}

    abbrev ◌⊢◌ : SProp 𝓤 → SProp 𝓤 → Type 1
    P ⊢ Q = ent 𝓤 P Q

    abbrev ◌∗◌ : SProp 𝓤 → SProp 𝓤 → SProp 𝓤
    P ∗ Q = sep 𝓤 P Q

    abbrev ⟦◌⟧ : Fml → SProp 𝓤
    ⟦ P ⟧ = sem 𝓛 P

    infix 26 ◌⊢◌
    infixr 35 ◌∗◌
    abbrev has : ℕ → Row → Fml
    has = holds whole

    -- a valid row that is owned is held
    held : (γ : ℕ) (x : Row) (v : Valid whole x) → ⟦ fown (tally whole) γ (x, v) ⟧ ⊢ ⟦ has γ x ⟧
    held γ x v = qed 𝓛 (‵ (fown (tally whole) γ (x, v)) ∷ []) ∵ fpack ! (Valid whole x) (λ u. fown (tally whole) γ (
      x,
      u,
    )) v $ done !

    -- what is held apart is held together
    glued : (γ : ℕ) (x y : Row) → ⟦ has γ x ⟧ ∗ ⟦ has γ y ⟧ ⊢ ⟦ has γ (x ⊕ y) ⟧
    glued γ x y = qed 𝓛 (‵ (has γ x) ∷ ‵ (has γ y) ∷ []) ∵ fpick ! (λ v. move ! (1 ∷ []) $ fpick ! (λ w. move ! (1 ∷
        0 ∷ []) $
        by ! (own_glued 𝓛 (tally whole) γ (x, v) (y, w) ⟦ has γ (x ⊕ y) ⟧ (λ c m. let s = sum_out (graph whole) (
          x,
          v,
        ) (y, w) c m in
        subst (λ (z : Row). ⟦ fown (tally whole) γ c ⟧ ⊢ ⟦ has γ z ⟧) (sym s.1) (held γ c.0 c.1)))))

    -- and the other way round
    cut : (γ : ℕ) (x y : Row) → Off x.0 y.0 → Valid whole x → Valid whole y → ⟦ has γ (x ⊕ y) ⟧ ⊢
        ⟦ has γ x ⟧ ∗ ⟦ has γ y ⟧
    cut γ x y off v w = qed 𝓛 (‵ (has γ (x ⊕ y)) ∷ []) ∵ fpick ! (λ u.
        use1 𝓛 (‵ (fown (tally whole) γ (x, v)) ⊛ ‵ (fown (tally whole) γ (y, w))) (𝓛.algebras.own_cut (tally whole) γ
        (x, v) (y, w) (x ⊕ y, u) (sum_in (graph whole) (x, v) (y, w) (x ⊕ y, u) (off, refl))) $ split ! $
        use1 𝓛 (‵ (has γ x)) (held γ x v) $ move ! (1 ∷ []) $ use1 𝓛 (‵ (has γ y)) (held γ y w) $ move ! (1 ∷ 0 ∷ []) $
        done !)

    -- what is held fits
    sound : (γ : ℕ) (x : Row) → ⟦ has γ x ⟧ ⊢ guard 𝓤 (Valid whole x) ⟦ has γ x ⟧
    sound γ x = qed 𝓛 (‵ (has γ x) ∷ []) ∵ fpick ! (λ v. check ! v $ use1 𝓛 (‵ (has γ x)) (held γ x v) $ done !)

    -- a ledger and a share of it are one row
    joined : (γ t p a : ℕ) → ⟦ has γ (some t, 0, 0) ⟧ ∗ ⟦ has γ (none, p, a) ⟧ ⊢ ⟦ has γ (some t, p, a) ⟧
    joined γ t p a = subst (λ (z : Row). ⟦ has γ (some t, 0, 0) ⟧ ∗ ⟦ has γ (none, p, a) ⟧ ⊢
        ⟦ has γ z ⟧) (λ i. (some t, zero-add p i, zero-add a i)) (glued γ (some t, 0, 0) (none, p, a))

    -- and that row is a ledger and a share
    parted : (γ t p a : ℕ) → Valid whole (some t, p, a) → ⟦ has γ (some t, p, a) ⟧ ⊢ ⟦ has γ (
      some t,
      0,
      0,
    ) ⟧ ∗ ⟦ has γ (none, p, a) ⟧
    parted γ t p a v = subst (λ (z : Row). ⟦ has γ z ⟧ ⊢ ⟦ has γ (some t, 0, 0) ⟧ ∗ ⟦ has γ (
      none,
      p,
      a,
    ) ⟧) (λ i. (some t, zero-add p i, zero-add a i))
        (cut γ (some t, 0, 0) (none, p, a) tt (ledger_valid t p a v) (share_valid t p a v))

    -- a new ledger, and the share of all its parts
    pub begins : emp 𝓤 ⊢ H.⇛ (ex 𝓤 (λ (γ : ℕ). ⟦ fsep (ledger_owns γ whole 0) (share_owns γ whole whole 0) ⟧))
    unfolding ledger_owns share_owns
    begins =
        let first : Row = (some 0, whole, 0) in
        let v : Valid whole first = (omega arith, (λ _. refl), (omega arith, λ _. refl)) in
        let Z : ℕ → SProp 𝓤 = λ γ. ⟦ fsep (has γ (some 0, 0, 0)) (has γ (none, whole, 0)) ⟧ in
        qed 𝓛 [] {P = H.⇛ (ex 𝓤 Z)} ∵ updating ! $
        use0 𝓛 (later (exists (λ (γ : ℕ). ‵ (fown (tally whole) γ (first, v))))) (via 𝓤 _ (own_new 𝓛 (tally whole)
        (first, v)) (basic 𝓛 _)) $ await ! tt $ pick ! (λ γ.
        use1 𝓛 (‵ (has γ first)) (held γ first v) $ use1 𝓛 (‵ (has γ (some 0, 0, 0)) ⊛ ‵ (has γ (
          none,
          whole,
          0,
        ))) (parted γ 0 whole 0 v) $
        split ! $ fjoin ! $ now ! $ show ! Z γ $ done !)

    -- the ledger and a share change by the same amount
    pub records : (γ total total' parts amount amount' : ℕ) → (parts ≡ 0 → amount ≡ 0 → amount' ≡ 0) →
        (amount ≤ total → total' + amount ≡ total + amount')
        → ⟦ ledger_owns γ whole total ⟧ ∗ ⟦ share_owns γ whole parts amount ⟧
        ⊢ H.⇛ (guard 𝓤 (Audited whole total parts amount) (⟦ ledger_owns γ whole total' ⟧ ∗ ⟦ share_owns γ whole parts
        amount' ⟧))
    unfolding ledger_owns share_owns
    records γ t t' p a a' backs moves =
        qed 𝓛 (‵ (has γ (some t, 0, 0)) ∷ ‵ (has γ (none, p, a)) ∷
        []) {P = H.⇛ (guard 𝓤 (Audited whole t p a) (⟦ has γ (some t', 0, 0) ⟧ ∗ ⟦ has γ (none, p, a') ⟧))} ∵
        updating ! $
        use2 𝓛 (‵ (has γ (some t, p, a))) (joined γ t p a) $ fpick ! (λ v.
        let seen : Audited whole t p a = (v.2.0, v.2.1, v.1) in
        let within = v.2.0 in let all = v.2.1 in let backed = v.1 in
        let e = moves within in
        let w : Valid whole (some t', p, a') = (
          v.0,
          (λ none'. backs none' (backed none')),
          (omega (arith, within, e), λ have. let u = all have in omega (arith, u, e)),
        ) in
        use1 𝓛 (later (‵ (fown (tally whole) γ ((some t', p, a'), w)))) (via 𝓤 _ (own_step 𝓛 (tally whole) γ (
          (some t, p, a),
          v,
        ) ((some t', p, a'), w) (moved t t' p a a' v w e)) (basic 𝓛 _)) $ await ! tt $
        use1 𝓛 (‵ (has γ (some t', p, a'))) (held γ (some t', p, a') w) $ use1 𝓛 (‵ (has γ (
          some t',
          0,
          0,
        )) ⊛ ‵ (has γ (none, p, a'))) (parted γ t' p a' w) $
        now ! $ check ! seen $ done !)

    -- two shares change, and keep their sums
    pub shifts : (γ p a q b p' a' q' b' : ℕ) → p' + q' ≡ p + q → a' + b' ≡ a + b → ((p ≡ 0 → a ≡ 0) → (q ≡ 0 → b ≡ 0) →
        (p' ≡ 0 → a' ≡ 0) × (q' ≡ 0 → b' ≡ 0))
        → ⟦ share_owns γ whole p a ⟧ ∗ ⟦ share_owns γ whole q b ⟧ ⊢
        guard 𝓤 (p + q ≤ whole) (⟦ share_owns γ whole p' a' ⟧ ∗ ⟦ share_owns γ whole q' b' ⟧)
    unfolding share_owns
    shifts γ p a q b p' a' q' b' parts amounts backs =
        qed 𝓛 (‵ (has γ (none, p, a)) ∷ ‵ (has γ (none, q, b)) ∷ []) {P = guard 𝓤 (p + q ≤ whole) (⟦ has γ (
          none,
          p',
          a',
        ) ⟧ ∗ ⟦ has γ (none, q', b') ⟧)} ∵
        use1 𝓛 (given (Valid whole (none, p, a)) (‵ (has γ (none, p, a)))) (sound γ (none, p, a)) $
        learn ! (λ v. move ! (1 ∷ []) $
        use1 𝓛 (given (Valid whole (none, q, b)) (‵ (has γ (none, q, b)))) (sound γ (none, q, b)) $
        learn ! (λ w. move ! (1 ∷ 0 ∷ []) $
        use2 𝓛 (‵ (has γ (none, p + q, a + b))) (glued γ (none, p, a) (none, q, b)) $
        use1 𝓛 (given (Valid whole (none, p + q, a + b)) (‵ (has γ (none, p + q, a + b)))) (sound γ (
          none,
          p + q,
          a + b,
        )) $ learn ! (λ u.
        let both = backs v.1 w.1 in let few = u.0 in
        check ! few $
        use1 𝓛 (‵ (has γ (none, p', a')) ⊛ ‵ (has γ (none, q', b')))
        (subst (λ (z : Row). ⟦ has γ z ⟧ ⊢ ⟦ has γ (none, p', a') ⟧ ∗ ⟦ has γ (none, q', b') ⟧) (λ i. (
          none,
          parts i,
          amounts i,
        ))
        (cut γ (none, p', a') (none, q', b') tt (omega (arith, few, parts), both.0, tt) (
          omega (arith, few, parts),
          both.1,
          tt,
        ))) $ done !)))

    -- a share of no part can be cut off any share
    pub empties : (γ parts amount : ℕ) → ⟦ share_owns γ whole parts amount ⟧ ⊢
        ⟦ share_owns γ whole parts amount ⟧ ∗ ⟦ share_owns γ whole 0 0 ⟧
    unfolding share_owns
    empties γ p a = qed 𝓛 (‵ (has γ (none, p, a)) ∷ []) {P = ⟦ has γ (none, p, a) ⟧ ∗ ⟦ has γ (none, 0, 0) ⟧} ∵
        use1 𝓛 (given (Valid whole (none, p, a)) (‵ (has γ (none, p, a)))) (sound γ (none, p, a)) $ learn ! (λ v.
        use1 𝓛 (‵ (has γ (none, p, a)) ⊛ ‵ (has γ (none, 0, 0)))
        (subst (λ (z : Row). ⟦ has γ z ⟧ ⊢ ⟦ has γ (none, p, a) ⟧ ∗ ⟦ has γ (none, 0, 0) ⟧) (λ i. (
          none,
          add-zero p i,
          add-zero a i,
        ))
        (cut γ (none, p, a) (none, 0, 0) tt v none_valid)) $ done !)
