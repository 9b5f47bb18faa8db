-- What settling leaves.
use Rattle.std.proofs.Common.{◌≡◌, refl, sym, ◌∙◌, ap, inl, inr, ℕ, Some, List, [], ◌∷◌, Contains, arith, if◌then◌else◌}
use Rattle.std.proofs.lemmas.Bool.Decides.{eqb_tells}
use Rattle.txc_base.specs.declared.tag.Tag.{Tag}
use Rattle.txc_chan.specs.Logged.{Logged, settled}
use Rattle.txc_txn_check.proofs.Containing.{contains_later, contains_none, contains_tail}
use Rattle.txc_txn.specs.Growth.{AllGrow, SameOutside}
use Rattle.txc_txn.specs.Maps.{Map, put_at, kinds_of, settle_all}
use Rattle.txc_txn.proofs.Growing.{kinds_stay}

-- the channels that are not settled are the same
pub settle_others : (m : Map) (stamp : ℕ) (ns : List ℕ) → SameOutside ns m (settle_all m stamp ns)
settle_others m stamp [] n none = refl
settle_others m stamp (d ∷ ds) n none =
    settle_others (put_at m d (settled stamp (m d))) stamp ds n (λ c. none (contains_later n d ds c))
    ∙ elim (eqb_tells n d) [
      | inl t ↦ absurd (none (0, omega arith, sym t.1))
      | inr t ↦ ap (λ b. if b then settled stamp (m d) else m n) t.0
    ]

-- a channel that has been settled with a stamp stays as it is where more are
settle_again : (m : Map) (stamp : ℕ) (ns : List ℕ) (n : ℕ) → settled stamp (m n) ≡ m n → settle_all m stamp ns n ≡ m n
settle_again m stamp [] n done = refl
settle_again m stamp (d ∷ ds) n done =
    let here : put_at m d (settled stamp (m d)) n ≡ m n = elim (eqb_tells n d) [
      | inl t ↦ ap (λ b. if b then settled stamp (m d) else m n) t.0 ∙ ap (λ k. settled stamp (m k)) (sym t.1) ∙ done
      | inr t ↦ ap (λ b. if b then settled stamp (m d) else m n) t.0
    ] in
    settle_again (put_at m d (settled stamp (m d))) stamp ds n (ap (settled stamp) here ∙ done ∙ sym here) ∙ here

-- each of the channels that are settled is
pub settle_inside : (m : Map) (stamp : ℕ) (ns : List ℕ) (n : ℕ) → Contains ns n
    → settle_all m stamp ns n ≡ settled stamp (m n)
settle_inside m stamp [] n is = absurd (contains_none n is)
settle_inside m stamp (d ∷ ds) n is =
    elim (eqb_tells n d) [
      | inl t ↦
          (let here : put_at m d (settled stamp (m d)) n ≡ settled stamp (m n) =
          ap (λ b. if b then settled stamp (m d) else m n) t.0 ∙ ap (λ k. settled stamp (m k)) (sym t.1) in
          settle_again (put_at m d (settled stamp (m d))) stamp ds n (ap (settled stamp) here ∙ sym here) ∙ here)
      | inr t ↦
          settle_inside (put_at m d (settled stamp (m d))) stamp ds n (contains_tail n d ds t.1 is)
          ∙ ap (λ b. settled stamp (if b then settled stamp (m d) else m n)) t.0
    ]

-- what settling one channel leaves of it, settling some leaves of each
pub settle_keeps : {X : Type 0} (f : Logged → X) (stamp : ℕ) → ((l : Logged) → f (settled stamp l) ≡ f l)
    → (m : Map) (ns : List ℕ) (n : ℕ) → f (settle_all m stamp ns n) ≡ f (m n)
settle_keeps f stamp keeps m [] n = refl
settle_keeps f stamp keeps m (d ∷ ds) n =
    settle_keeps f stamp keeps (put_at m d (settled stamp (m d))) ds n
    ∙ elim (eqb_tells n d) [
      | inl t ↦ ap (λ b. f (if b then settled stamp (m d) else m n)) t.0 ∙ keeps (m d) ∙ ap (λ k. f (m k)) (sym t.1)
      | inr t ↦ ap (λ b. f (if b then settled stamp (m d) else m n)) t.0
    ]

-- what was declared stays, where the channels only grew before they were settled
pub settle_kinds : (tag : Tag) (m now : Map) (stamp : ℕ) (ns : List ℕ) → AllGrow tag m now
    → kinds_of (settle_all now stamp ns) ≡ kinds_of m
settle_kinds tag m now stamp ns grows = (λ j n. Some (settle_keeps (λ l. l.decl) stamp (λ l. refl) now ns n j).kind)
    ∙ kinds_stay tag m now grows
