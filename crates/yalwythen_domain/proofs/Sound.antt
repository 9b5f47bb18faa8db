-- The channels of a domain, their kinds and its open transaction go together.
use Rattle.std.proofs.Common.{◌≡◌, refl, sym, ◌∙◌, ap, subst, inl, inr, ℕ, zero, suc, ◌<◌, ◌≤◌, ◌+◌, arith}
use Rattle.std.proofs.Common.{Some, List, [], ◌∷◌, ◌++◌, length, map, take, slice_get, get_or, Contains}
use Rattle.std.proofs.lemmas.Bool.Decides.{eqb_tells}
use Rattle.std.proofs.lemmas.List.{get_or-take, length-append, length-map}
use Rattle.txc_base.specs.declared.kind.Kind.{Kind}
use Rattle.txc_base.specs.declared.tag.Tag.{Tag}
use Rattle.txc_chan.specs.declared.decl.Decl.{Decl}
use Rattle.txc_chan.specs.ChanView.{ChanView}
use Rattle.txc_chan.specs.Logged.{opened}
use Rattle.txc_txn_check.proofs.Containing.{contains_none}
use Rattle.txc_txn.specs.declared.open_transaction.OpenTransaction.{OpenTransaction}
use Rattle.txc_txn.specs.Growth.{IsMarked}
use Rattle.txc_txn.specs.Maps.{Map, kinds_of}
use Rattle.txc_txn.specs.Opening.{HasKinds}
use Rattle.txc_txn.specs.Plain.{chan_in, missing}
use Rattle.txc_txn.specs.Run.{state_of}
use Rattle.txc_txn.specs.Transaction.{Kept, start}
use Rattle.txc_txn.proofs.KindsKept.{kinds_kept}
use Rattle.yalwythen_domain.specs.Channels.{DomainChannels}
use Rattle.yalwythen_domain.specs.Opened.{IsOpenAt, IsConsistent}

-- a transaction that has touched nothing goes with any channels
pub none_touched : (held : List ChanView) (kinds : List Kind) (txn : OpenTransaction) → HasKinds held kinds
    → txn.touched.items ≡ [] → txn.marks.items ≡ [] → IsConsistent held kinds txn
none_touched held kinds txn has touched marks = record {
  known = has;
  touched = λ n t. absurd (contains_none n (subst (λ (l : List ℕ). Contains l n) touched t));
  marks = ap length marks ∙ sym (ap length touched);
}

-- channels that are there and have their kinds still, with what the transaction has touched
pub still_sound : (held held' : List ChanView) (kinds : List Kind) (txn txn' : OpenTransaction)
    → IsConsistent held kinds txn → ((n : ℕ) → n < length held → n < length held')
    → kinds_of (chan_in held') ≡ kinds_of (chan_in held)
    → ((n : ℕ) → Contains txn'.touched.items n → n < length held')
    → length txn'.marks.items ≡ length txn'.touched.items → IsConsistent held' kinds txn'
still_sound held held' kinds txn txn' sound there same touched marks = record {
  known = kinds_kept held held' kinds sound.known there same;
  touched = touched;
  marks = marks;
}

-- what is below one number is below the other
pub at_most : (a b : ℕ) → ((n : ℕ) → n < a → n < b) → a ≤ b
at_most zero b h = omega arith
at_most (suc a) b h = let last = h a (omega arith) in omega (arith, last)

get_last : {A : Type 0} (xs : List A) (x : A) → slice_get (xs ++ x ∷ []) (length xs) ≡ Some x
get_last [] x = refl
get_last (y ∷ ys) x = get_last ys x

get_front : {A : Type 0} (xs ys : List A) (n : ℕ) → n < length xs → slice_get (xs ++ ys) n ≡ slice_get xs n
get_front [] ys n lt = absurd (omega arith)
get_front (x ∷ xs) ys zero lt = refl
get_front (x ∷ xs) ys (suc n) lt = get_front xs ys n (omega arith)

-- one channel more makes the list longer
pub longer : (held held' : List ChanView) (decl : Decl)
    → map (λ (h : ChanView). h.logged) held' ≡ map (λ (h : ChanView). h.logged) held ++ opened decl ∷ []
    → length held' ≡ length held + 1
longer held held' decl is =
    let a = length-map held' (λ (h : ChanView). h.logged) in
    let b = length-map held (λ (h : ChanView). h.logged) in
    let c = length-append (map (λ (h : ChanView). h.logged) held) (opened decl ∷ []) in
    let d = ap length is in
    omega (arith, a, b, c, d)

-- one channel more, with its kind
pub one_more : (held held' : List ChanView) (kinds : List Kind) (kind : Kind) (decl : Decl) (txn : OpenTransaction)
    → IsConsistent held kinds txn
    → map (λ (h : ChanView). h.logged) held' ≡ map (λ (h : ChanView). h.logged) held ++ opened decl ∷ []
    → take (length held) held' ≡ held → kind ≡ (chan_in held' (length kinds)).decl.kind
    → IsConsistent held' (kinds ++ kind ∷ []) txn
one_more held held' kinds kind decl txn sound is front of = record {
  known = record { there = there; same = same };
  touched = λ n t. let lt = sound.touched n t in omega (arith, lt, long);
  marks = sound.marks;
}
  where
    long : length held' ≡ length held + 1
    long = longer held held' decl is

    few : length kinds ≤ length held
    few = at_most (length kinds) (length held) sound.known.there

    there : (n : ℕ) → n < length (kinds ++ kind ∷ []) → n < length held'
    there n lt = let c = length-append kinds (kind ∷ []) in omega (arith, lt, c, few, long)

    at : (n : ℕ) → n < length held → kinds_of (chan_in held') n ≡ kinds_of (chan_in held) n
    at n lt = ap (λ (h : ChanView). Some h.logged.decl.kind)
        (sym (get_or-take (length held) held' n missing lt) ∙ ap (λ (l : List ChanView). get_or l n missing) front)

    same : (n : ℕ) → n < length (kinds ++ kind ∷ []) → kinds_of (chan_in held') n ≡ slice_get (kinds ++ kind ∷ []) n
    same n lt = elim (eqb_tells n (length kinds)) [
      | inl t ↦ ap (kinds_of (chan_in held')) t.1 ∙ ap Some (sym of) ∙ sym (get_last kinds kind)
          ∙ ap (slice_get (kinds ++ kind ∷ [])) (sym t.1)
      | inr t ↦ let c = length-append kinds (kind ∷ []) in
          let below : n < length kinds = omega (arith, lt, c, t.1) in
          at n (omega (arith, below, few)) ∙ sound.known.same n below ∙ sym (get_front kinds (kind ∷ []) n below)
    ]

-- a transaction that just began: nothing ran yet
pub open_first : (c : DomainChannels) (m : Map) (tag : Tag) → m ≡ chan_in c.held → c.txn.tag ≡ tag
    → ((m : Map) → state_of m c.txn.trace ≡ start m)
    → ((m : Map) → IsMarked tag c.txn.touched.items c.txn.marks.items m m) → IsOpenAt m [] c
open_first c m tag same is starts marked = record {
  runs = ap Kept (sym (starts m) ∙ ap (λ (x : Map). state_of x c.txn.trace) same);
  marked = (
    omega arith,
    subst (λ (t : Tag). IsMarked t c.txn.touched.items c.txn.marks.items m (chan_in c.held)) (sym is)
        (subst (λ (x : Map). IsMarked tag c.txn.touched.items c.txn.marks.items m x) same (marked m)),
  );
}
