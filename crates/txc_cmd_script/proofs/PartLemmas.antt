-- The parts of a step and of a channel: a number, a body, a reader, a kind.
use Rattle.std.proofs.Common.{◌≡◌, refl, sym, ◌∙◌, ap, ℕ, ◌<◌, ◌≤◌, ◌⊎◌, inl, inr, true, false, nat_le, nat_lt, List}
use Rattle.std.proofs.Common.{[], ◌∷◌, map, length, slice_index_or, codes, Some, None, option_and_then, Result, Ok, Err}
use Rattle.std.proofs.Common.{if◌then◌else◌, arith}
use Rattle.std.proofs.lemmas.Bool.Decides.{nat_tests}
use Rattle.std.specs.Result.{OkIff, result_ok}
use Rattle.serde_json.specs.Data.{Data}
use Rattle.serde_json.specs.View.{view}
use Rattle.serde_json.specs.declared.value.Value.{Value}
use Rattle.txc_base.specs.declared.kind.Kind.{Kind}
use Rattle.txc_base.specs.declared.kind.Kind.TheVariants.{Bounded, Cast, BMQueue, MCast}
use Rattle.txc_base.specs.declared.op.Op.{Op}
use Rattle.txc_base.specs.declared.source.Source.TheVariants.{Last}
use Rattle.txc_base.specs.declared.limits.TheConstants.{MAX_READERS}
use Rattle.txc_chan.specs.declared.decl.Decl.{Decl}
use Rattle.txc_chan.specs.Limits.{max_bound, declared_fault}
use Rattle.txc_cmd_script.specs.declared.fault.ScriptFault.TheVariants.{Shape}
use Rattle.txc_cmd_script.specs.Operations.{within_most, number_in, lit_or, source_in, op_with_reader, by_reader}
use Rattle.txc_base.specs.Kinds.{kind_named}
use Rattle.txc_cmd_script.specs.Reading.{text_at, decl_of, declared_in, unless_faulty, decl_in}
use Rattle.txc_cmd_script.specs.Steps.{or_fault, then_reads}
use Rattle.txc_cmd_script.specs.Tree.{whole, is_text}

-- a whole number, where it fits 16 bits
within_most-from : {E : Type 0} (n : ℕ) (r : Result ℕ E) → OkIff r (n < 65536) n → result_ok r ≡ within_most n
within_most-from n (Ok x) h =
    let p : (n < 65536) × (x ≡ n) = h in
    let within : nat_le n 65535 ≡ true = grind (arith, nat_tests) in
    rw (within, p.1) refl
within_most-from n (Err e) h =
    let past : nat_le n 65535 ≡ false = grind (arith, nat_tests) in
    rw past refl

pub number_in-from : {E : Type 0} (tree : Data) (n : ℕ) (r : Result ℕ E) → Some n ≡ whole tree → OkIff r (n < 65536) n
    → result_ok r ≡ number_in tree
number_in-from tree n r found h = within_most-from n r h ∙ ap (option_and_then within_most) found

-- `last`, which is no number
pub source_in-last : (tree : Data) → None ≡ whole tree → true ≡ is_text (codes "last") tree → Some Last ≡ source_in tree
source_in-last tree none last =
    ap (λ b. lit_or (if b then Some Last else None) None) last
    ∙ ap (lit_or (if is_text (codes "last") tree then Some Last else None)) none

-- a channel alone: its reader is 0
pub by_reader-first : (vs : List Value) (v : Value) (n : ℕ) → 1 ≤ length vs → length vs < 2 → v ≡ slice_index_or vs 0 v
    → Some n ≡ number_in (view v)
    → (op : ℕ → ℕ → Op) → Some (op n 0) ≡ by_reader op (map view vs)
by_reader-first [] v n some few is found op = absurd (omega arith)
by_reader-first (w ∷ []) v n some few is found op =
    ap (λ c. op_with_reader op c (Some 0)) (found ∙ ap (λ u. number_in (view u)) is)
by_reader-first (w ∷ u ∷ ws) v n some few is found op = absurd (omega arith)

-- a channel of this kind
pub declared_in-kind : (tree : Data) (name : List ℕ) (found kind : Kind) → Some name ≡ text_at (codes "kind") tree
    → Some found ≡ kind_named name → found ≡ kind
    → declared_in tree ≡ decl_of tree kind
declared_in-kind tree name found kind text named is =
    ap (λ t. option_and_then (decl_of tree) (option_and_then kind_named t)) (sym text)
    ∙ ap (option_and_then (decl_of tree)) (sym named) ∙ ap (decl_of tree) is

-- a channel within its limit
bounded-fine : (kind : Kind) (bound readers : ℕ) → (kind ≡ Bounded) ⊎ (kind ≡ BMQueue) → bound ≤ max_bound
    → declared_fault kind bound readers ≡ None
bounded-fine kind bound readers is few =
    let within : nat_lt max_bound bound ≡ false = grind (arith, nat_tests) in
    elim is [ inl e ↦ rw (e, within) refl | inr e ↦ rw (e, within) refl ]

broadcast-fine : (kind : Kind) (bound readers : ℕ) → (kind ≡ Cast) ⊎ (kind ≡ MCast) → readers ≤ MAX_READERS
    → declared_fault kind bound readers ≡ None
broadcast-fine kind bound readers is few =
    let within : nat_lt MAX_READERS readers ≡ false = grind (arith, nat_tests) in
    elim is [ inl e ↦ rw (e, within) refl | inr e ↦ rw (e, within) refl ]

decl_in-fine : (chan : ℕ) (tree : Data) (decl : Decl) → Some decl ≡ declared_in tree
    → declared_fault decl.kind decl.bound decl.readers ≡ None → Ok decl ≡ decl_in chan tree
decl_in-fine chan tree decl found fine =
    ap (unless_faulty chan decl) (sym fine)
    ∙ ap (λ o. then_reads (or_fault Shape o) (λ d. unless_faulty chan d (declared_fault d.kind d.bound d.readers)))
    found

pub decl_in-bounded : (chan : ℕ) (tree : Data) (decl : Decl) → Some decl ≡ declared_in tree
    → (decl.kind ≡ Bounded) ⊎ (decl.kind ≡ BMQueue) → decl.bound ≤ max_bound → Ok decl ≡ decl_in chan tree
decl_in-bounded chan tree decl found is few =
    decl_in-fine chan tree decl found (bounded-fine decl.kind decl.bound decl.readers is few)

pub decl_in-broadcast : (chan : ℕ) (tree : Data) (decl : Decl) → Some decl ≡ declared_in tree
    → (decl.kind ≡ Cast) ⊎ (decl.kind ≡ MCast) → decl.readers ≤ MAX_READERS → Ok decl ≡ decl_in chan tree
decl_in-broadcast chan tree decl found is few =
    decl_in-fine chan tree decl found (broadcast-fine decl.kind decl.bound decl.readers is few)
