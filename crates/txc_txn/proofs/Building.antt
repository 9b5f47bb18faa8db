-- A list of channels that is made of their declarations, one after another.
use Rattle.std.proofs.Common.{◌≡◌, sym, ◌∙◌, ap, ℕ, ◌<◌, ◌≤◌, ◌+◌, None, List, [], ◌∷◌, ◌++◌, map, length, take, drop}
use Rattle.std.proofs.Common.{get_or}
use Rattle.std.proofs.lemmas.List.{drop_all, drop_more, map-append, take_all, take_more}
use Rattle.txc_base.specs.declared.kind.Kind.TheVariants.{Queue}
use Rattle.txc_chan.specs.declared.decl.Decl.{Decl}
use Rattle.txc_chan.specs.Limits.{declared_fault, fault_or, first_fault}
use Rattle.txc_chan.specs.Logged.{Logged, opened}

-- the declaration at a place
abbrev pub decl_at : List Decl → ℕ → Decl
decl_at decls i = get_or decls i (record { kind = Queue; bound = 0; readers = 0 })

-- one channel more
pub made_more : {A : Type 0} (logged : A → Logged) (chans pushed : List A) (chan : A) (decls : List Decl) (i : ℕ)
    → i < length decls
    → pushed ≡ chans ++ chan ∷ [] → map logged chans ≡ map opened (take i decls)
    → logged chan ≡ opened (decl_at decls i)
    → map logged pushed ≡ map opened (take (i + 1) decls)
made_more logged chans pushed chan decls i lt push before is =
    ap (map logged) push ∙ map-append logged chans (chan ∷ []) ∙ (λ j. before j ++ is j ∷ [])
    ∙ sym (map-append opened (take i decls) (decl_at decls i ∷ []))
    ∙ ap (map opened) (sym (take_more decls i (decl_at [] 0) lt))

-- .. which has no fault
pub fine_more : (decls : List Decl) (i : ℕ) → i < length decls
    → declared_fault (decl_at decls i).kind (decl_at decls i).bound (decl_at decls i).readers ≡ None
    → first_fault decls ≡ first_fault (drop i decls) → first_fault decls ≡ first_fault (drop (i + 1) decls)
fine_more decls i lt none before =
    before ∙ ap first_fault (drop_more decls i (decl_at [] 0) lt)
    ∙ ap (λ f. fault_or f (first_fault (drop (i + 1) decls))) none

-- all of them
pub made_all : (made : List Logged) (decls : List Decl) (i : ℕ) → length decls ≤ i → made ≡ map opened (take i decls)
    → made ≡ map opened decls
made_all made decls i le before = before ∙ ap (map opened) (take_all i decls le)

pub fine_all : (decls : List Decl) (i : ℕ) → length decls ≤ i → first_fault decls ≡ first_fault (drop i decls)
    → first_fault decls ≡ None
fine_all decls i le before = before ∙ ap first_fault (drop_all i decls le)
