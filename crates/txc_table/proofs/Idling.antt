-- What was found out about the channels of a table that all its seats have left.
use Rattle.std.proofs.Common.{◌≡◌, ◌∙◌, ◌<◌, ◌+◌, ℕ, zero, suc, nat_eq, List, [], ◌∷◌, Option, Some, None, Result}
use Rattle.std.proofs.Common.{Ok, Err, IfOk, IfSome, ap, arith, refl, subst, sym, length, slice_index_or, slice_set}
use Rattle.std.proofs.Math.ListN.{get_or-map}
use Rattle.std.proofs.lemmas.List.{get_or-set_other, get_or_default, length-set}
use Rattle.std.specs.List.{insert, remove}
use mathlib.Core.List.{IsPrefix}
use Rattle.txc_base.specs.declared.tag.Tag.{Tag}
use Rattle.txc_chan.specs.ChanView.{ChanView}
use Rattle.txc_chan.specs.Logged.{Logged}
use Rattle.txc_chan.specs.Reserved.{one_if}
use Rattle.txc_table_report.specs.Finished.{numbered}
use Rattle.txc_table_line.specs.Known.{IsKnown}
use Rattle.txc_txn.specs.Plain.{chan_in}
use Rattle.txc_table_line.specs.LineChan.{LineChanView, no_channel}
use Rattle.txc_table_line.specs.SeatShare.{SeatShareView}
use Rattle.txc_table_lines.specs.Lines.{share_at}
use Rattle.txc_table_lines.specs.Locked.{IsLineSeen, channel_at, helds_of}
use Rattle.txc_table_lines.specs.OneOperation.{AreKnown}
use Rattle.txc_table.specs.IdleTableView.{IdleTableView, OthersStay}
use Rattle.txc_table.specs.Refused.{AreAllSeats}
use Rattle.txc_table.specs.Seat.{AreOf, DepartedSeatView, commits_of}
use Rattle.txc_table.specs.Table.{TableLines}
use Rattle.txc_table.proofs.Gathering.{seen_all}

-- what is so of some channels and of a tag is so of those that they are
pub carried : (F : List ChanView → Tag → Type 0) (helds helds' : List ChanView) (tag tag' : Tag) → helds ≡ helds'
    → tag ≡ tag'
    → F helds tag → F helds' tag'
carried F helds helds' tag tag' same also holds = subst (F helds') also (subst (λ hs. F hs tag) same holds)

-- a seat that was found at a place is the one there
pub at_place : (inside now : IdleTableView) (at : ℕ) (seat found d : DepartedSeatView) → inside ≡ now
    → at < length now.left
    → seat ≡ found → found ≡ slice_index_or inside.left at found → seat ≡ slice_index_or now.left at d
at_place inside now at seat found d is below same here =
    same ∙ here
    ∙ get_or_default inside.left at found d (omega (arith, below, ap (λ (i : IdleTableView). length i.left) is))
    ∙ ap (λ (i : IdleTableView). slice_index_or i.left at d) is

-- what is so is so for each result
pub whatever : {T E : Type 0} (X : Type 0) (result : Result (Option T) E) → X
    → IfOk result (λ found. IfSome found (λ t. X))
whatever X (Ok (Some t)) x = x
whatever X (Ok None) x = tt
whatever X (Err e) x = tt

-- a channel by its number
held_in : (channels : List LineChanView) (n : ℕ)
    → chan_in (helds_of channels) n ≡ (channel_at channels n).held.logged
held_in channels n = ap (λ (h : ChanView). h.logged) (get_or-map (λ (c : LineChanView). c.held) channels n no_channel)

-- a seat knows channels that it was shown
pub known_in : (shares : List SeatShareView) (channels : List LineChanView) → length shares ≡ length channels
    → ((n : ℕ) → n < length channels → IsLineSeen (share_at shares n) (channel_at channels n))
    → AreKnown shares (chan_in (helds_of channels))
known_in shares channels long seen = record {
  known = λ n below. subst (λ (l : Logged). IsKnown (share_at shares n).line.decl (share_at shares n).amount l)
      (sym (held_in channels n)) (seen n (omega (arith, below, long))).known;
  since = λ n. subst (λ (l : Logged). IsPrefix (share_at shares n).log l.log) (sym (held_in channels n))
      (seen_all shares channels long seen n);
}

replaced : (seats : List DepartedSeatView) (at : ℕ) (seat : DepartedSeatView) → at < length seats
    → insert (remove seats at) at seat ≡ slice_set seats at seat
replaced [] at seat below = absurd (omega (arith, below))
replaced (s ∷ ss) zero seat below = refl
replaced (s ∷ ss) (suc at) seat below = ap (λ rest. s ∷ rest) (replaced ss at seat (omega (arith, below)))

-- a seat that is taken out and put back takes its old place
pub put_back_at : (seats without left : List DepartedSeatView) (at : ℕ) (seat : DepartedSeatView) → without
    ≡ remove seats at
    → left ≡ insert without at seat → at < length seats → left ≡ slice_set seats at seat
put_back_at seats without left at seat took put below =
    put ∙ ap (λ (ss : List DepartedSeatView). insert ss at seat) took ∙ replaced seats at seat below

numbered_set : (n : ℕ) (seats : List DepartedSeatView) (at : ℕ) (seat d : DepartedSeatView) → at < length seats
    → seat.commits.number ≡ (slice_index_or seats at d).commits.number
    → numbered n (commits_of (slice_set seats at seat)) ≡ numbered n (commits_of seats)
numbered_set n [] at seat d below same = absurd (omega (arith, below))
numbered_set n (s ∷ ss) zero seat d below same = ap (λ m. one_if (nat_eq m n) + numbered n (commits_of ss)) same
numbered_set n (s ∷ ss) (suc at) seat d below same =
    ap (λ m. one_if (nat_eq s.commits.number n) + m) (numbered_set n ss at seat d (omega (arith, below)) same)

set_of : (lines : TableLines) (seats : List DepartedSeatView) (at : ℕ) (seat : DepartedSeatView) → AreOf lines seats
    → at < length seats → seat.lines ≡ lines → AreOf lines (slice_set seats at seat)
set_of lines [] at seat are there is k d below = absurd (omega (arith, there))
set_of lines (s ∷ ss) zero seat are there is zero d below = is
set_of lines (s ∷ ss) zero seat are there is (suc k) d below = are (suc k) d (omega (arith, below))
set_of lines (s ∷ ss) (suc at) seat are there is zero d below = are zero d (omega arith)
set_of lines (s ∷ ss) (suc at) seat are there is (suc k) d below =
    set_of lines ss at seat (λ j e lt. are (suc j) e (omega (arith, lt))) (omega (arith, there)) is k d
    (omega (arith, below))

-- .. so all seats are still back, if its number and its table are the same
pub back_still : (lines : TableLines) (many : ℕ) (seats : List DepartedSeatView) (at : ℕ) (seat d : DepartedSeatView)
    → at < length seats → seat.commits.number ≡ (slice_index_or seats at d).commits.number → seat.lines ≡ lines
    → AreAllSeats lines many seats → AreAllSeats lines many (slice_set seats at seat)
back_still lines many seats at seat d below same its back = record {
  of = set_of lines seats at seat back.of below its;
  all = λ n there. subst (λ m. 0 < m) (sym (numbered_set n seats at seat d below same)) (back.all n there);
}

-- .. and the other seats stay
pub others_stay : (seats : List DepartedSeatView) (at : ℕ) (seat : DepartedSeatView)
    → OthersStay at seats (slice_set seats at seat)
others_stay seats at seat = record {
  many = length-set seats at seat;
  same = λ k d other. get_or-set_other seats at k seat d other;
}
