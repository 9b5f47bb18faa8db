-- Transactions of seats whose receipts are in turn have tags of their own.
use Rattle.std.proofs.Common.{◌≡◌, refl, sym, ◌∙◌, ap, subst, inl, inr, ◌⊎◌, ⊎_elim, ℕ, suc, ◌+◌, ◌<◌, ◌≤◌, Some}
use Rattle.std.proofs.Common.{zero-add, List, [], ◌∷◌, ◌++◌, map, slice_get, arith}
use Rattle.std.proofs.lemmas.List.{map-append}
use Rattle.std.proofs.lemmas.List.Elements.{All-tail}
use Rattle.txc_base.specs.declared.tag.Tag.{Tag}
use Rattle.txc_txn_check.specs.Limits.{CheckedView}
use Rattle.txc_txn.specs.declared.receipt.Receipt.{Receipt}
use Rattle.txc_txn_history.specs.Commits.{Has, Once}
use Rattle.txc_txn_history.specs.Events.{AreInTurn, Event, IsInTurn, events_from, events_of}

abbrev tag : Event → Tag
tag e = e.receipt.tag

-- what stands in two lists, one after the other, stands in one of them
pub has_either : {X : Type 0} (xs ys : List X) (x : X) → Has (xs ++ ys) x → Has xs x ⊎ Has ys x
has_either [] ys x h = inr h
has_either (z ∷ xs) ys x (inl e) = inl (inl e)
has_either (z ∷ xs) ys x (inr h) = ⊎_elim (λ a. inl (inr a)) (λ b. inr b) (has_either xs ys x h)

once_both : {X : Type 0} (xs ys : List X) → Once xs → Once ys → ((x : X) → Has xs x → Has ys x → ⊥) → Once (xs ++ ys)
once_both [] ys a b apart = b
once_both (x ∷ xs) ys a b apart = (
  (λ h. ⊎_elim (λ (l : Has xs x). a.0 l) (λ (r : Has ys x). apart x (inl refl) r) (has_either xs ys x h)),
  once_both xs ys a.1 b (λ z l r. apart z (inr l) r),
)

tail_turn : (seat : ℕ) (one : Receipt) (receipts : List Receipt) → IsInTurn seat (one ∷ receipts)
    → IsInTurn seat receipts
tail_turn seat one receipts turn = record {
  own = All-tail (λ (receipt : Receipt). receipt.tag.seat ≡ seat) one receipts turn.own;
  serials = λ n a b at at'. turn.serials (suc n) a b at (next n b at');
  stamps = λ n a b at at'. turn.stamps (suc n) a b at (next n b at');
}
  where
    next : (n : ℕ) (b : Receipt) → slice_get receipts (n + 1) ≡ Some b
        → slice_get (one ∷ receipts) (suc n + 1) ≡ Some b
    next n b at = let e : suc n + 1 ≡ suc (n + 1) = omega arith in ap (slice_get (one ∷ receipts)) e ∙ at

later_tags : (seat before : ℕ) (plans : List CheckedView) (one : Receipt) (receipts : List Receipt)
    → IsInTurn seat (one ∷ receipts) → (g : Tag) → Has (map tag (events_of seat before plans receipts)) g
    → one.tag.serial < g.serial
later_tags seat before [] one receipts turn g h = absurd h
later_tags seat before (plan ∷ plans) one [] turn g h = absurd h
later_tags seat before (plan ∷ plans) one (receipt ∷ receipts) turn g (inl e) =
    omega (arith, turn.serials 0 one receipt refl refl, ap (λ (t : Tag). t.serial) e)
later_tags seat before (plan ∷ plans) one (receipt ∷ receipts) turn g (inr h) =
    omega (
      arith,
      turn.serials 0 one receipt refl refl,
      later_tags seat receipt.tag.stamp plans receipt receipts (tail_turn seat one (receipt ∷ receipts) turn) g h,
    )

seat_tags : (seat before : ℕ) (plans : List CheckedView) (receipts : List Receipt) → IsInTurn seat receipts
    → (g : Tag) → Has (map tag (events_of seat before plans receipts)) g → g.seat ≡ seat
seat_tags seat before [] receipts turn g h = absurd h
seat_tags seat before (plan ∷ plans) [] turn g h = absurd h
seat_tags seat before (plan ∷ plans) (receipt ∷ receipts) turn g (inl e) =
    sym (ap (λ (t : Tag). t.seat) e) ∙ turn.own 0 receipt (omega arith)
seat_tags seat before (plan ∷ plans) (receipt ∷ receipts) turn g (inr h) =
    seat_tags seat receipt.tag.stamp plans receipts (tail_turn seat receipt receipts turn) g h

seat_once : (seat before : ℕ) (plans : List CheckedView) (receipts : List Receipt) → IsInTurn seat receipts
    → Once (map tag (events_of seat before plans receipts))
seat_once seat before [] receipts turn = tt
seat_once seat before (plan ∷ plans) [] turn = tt
seat_once seat before (plan ∷ plans) (receipt ∷ receipts) turn = (
  (λ h. let less = later_tags seat receipt.tag.stamp plans receipt receipts turn receipt.tag h in
      absurd (omega (arith, less))),
  seat_once seat receipt.tag.stamp plans receipts (tail_turn seat receipt receipts turn),
)

-- the receipts of seats from this one on are in turn
abbrev InTurnFrom : ℕ → List (List Receipt) → Type 0
InTurnFrom seat receipts = (n : ℕ) (own : List Receipt) → slice_get receipts n ≡ Some own → IsInTurn (seat + n) own

later_turn : (seat : ℕ) (own : List Receipt) (receipts : List (List Receipt)) → InTurnFrom seat (own ∷ receipts)
    → InTurnFrom (suc seat) receipts
later_turn seat own receipts turn n one at =
    let e : seat + suc n ≡ suc seat + n = omega arith in subst (λ k. IsInTurn k one) e (turn (suc n) one at)

first_turn : (seat : ℕ) (own : List Receipt) (receipts : List (List Receipt)) → InTurnFrom seat (own ∷ receipts)
    → IsInTurn seat own
first_turn seat own receipts turn =
    let e : seat + 0 ≡ seat = omega arith in subst (λ k. IsInTurn k own) e (turn 0 own refl)

from_tags : (seat : ℕ) (seats : List (List CheckedView)) (receipts : List (List Receipt)) → InTurnFrom seat receipts
    → (g : Tag) → Has (map tag (events_from seat seats receipts)) g → seat ≤ g.seat
from_tags seat [] receipts turn g h = absurd h
from_tags seat (plans ∷ seats) [] turn g h = absurd h
from_tags seat (plans ∷ seats) (own ∷ receipts) turn g h =
    ⊎_elim
    (λ (l : Has (map tag (events_of seat 0 plans own)) g).
    omega (arith, seat_tags seat 0 plans own (first_turn seat own receipts turn) g l))
    (λ (r : Has (map tag (events_from (suc seat) seats receipts)) g).
    omega (arith, from_tags (suc seat) seats receipts (later_turn seat own receipts turn) g r))
    (has_either (map tag (events_of seat 0 plans own)) (map tag (events_from (suc seat) seats receipts)) g
    (subst (λ (l : List Tag). Has l g) (map-append tag (events_of seat 0 plans own)
    (events_from (suc seat) seats receipts)) h))

from_once : (seat : ℕ) (seats : List (List CheckedView)) (receipts : List (List Receipt)) → InTurnFrom seat receipts
    → Once (map tag (events_from seat seats receipts))
from_once seat [] receipts turn = tt
from_once seat (plans ∷ seats) [] turn = tt
from_once seat (plans ∷ seats) (own ∷ receipts) turn =
    subst (λ (l : List Tag). Once l)
    (sym (map-append tag (events_of seat 0 plans own) (events_from (suc seat) seats receipts)))
    (once_both (map tag (events_of seat 0 plans own)) (map tag (events_from (suc seat) seats receipts))
    (seat_once seat 0 plans own (first_turn seat own receipts turn))
    (from_once (suc seat) seats receipts (later_turn seat own receipts turn))
    (λ g l r. absurd (omega (
      arith,
      seat_tags seat 0 plans own (first_turn seat own receipts turn) g l,
      from_tags (suc seat) seats receipts (later_turn seat own receipts turn) g r,
    ))))

-- each transaction with a receipt has a tag of its own
pub tags_once : (seats : List (List CheckedView)) (receipts : List (List Receipt)) → AreInTurn receipts
    → Once (map tag (events_from 0 seats receipts))
tags_once seats receipts turn = from_once 0 seats receipts
    (λ n own at. subst (λ k. IsInTurn k own) (sym (zero-add n)) (turn n own at))
