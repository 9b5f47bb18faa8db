-- A change of one line, among lines that are all locked.
use Rattle.std.proofs.Common.{◌≡◌, ◌∙◌, refl, sym, ap, subst, inl, inr, ℕ, zero, suc, ◌<◌, ◌≤◌, Option, Some}
use Rattle.std.proofs.Common.{List, [], ◌∷◌, length, map, slice_index_or, slice_set, All, if◌then◌else◌, arith}
use Rattle.std.proofs.Common.{get_or-set_same}
use Rattle.std.proofs.lemmas.Bool.Decides.{eqb_tells}
use Rattle.std.proofs.lemmas.List.{get_or-set_other, length-set}
use Rattle.std.proofs.Math.Seq.{map-set_same}
use Rattle.std.specs.List.{refill}
use Rattle.txc_chan.specs.ChanView.{ChanView}
use Rattle.txc_chan.specs.Logged.{Logged}
use Rattle.txc_txn.specs.Maps.{put_at}
use Rattle.txc_txn.specs.Plain.{chan_in, missing}
use Rattle.txc_table_line.specs.LineChan.{LineChanView, no_channel}
use Rattle.txc_table_lines.specs.Guards.{channel_in}
use Rattle.txc_table_lines.specs.Locked.{IsLineThere, channel_at, helds_of, lines_of}
use Rattle.txc_table_lines.proofs.Placing.{refilled}
use Rattle.txc_table_lines.proofs.Settling.{channel_at as guarded_at}
use Rattle.txc_table_lines.proofs.Sharing.{map_long}

map_set : {X Y : Type 0} (f : X → Y) (xs : List X) (n : ℕ) (x : X)
    → map f (slice_set xs n x) ≡ slice_set (map f xs) n (f x)
map_set f [] n x = refl
map_set f (y ∷ ys) zero x = refl
map_set f (y ∷ ys) (suc n) x = ap (λ rest. f y ∷ rest) (map_set f ys n x)

-- as many channels, of which the one at a place is written back
abbrev pub put_back : ℕ → List (Option LineChanView) → List (Option LineChanView) → ℕ → LineChanView
    → List (Option LineChanView)
put_back many items slice at x = refill many items (slice_set slice at (Some x))

-- .. are the channels with that one
put_back_is : {many : ℕ} (items slice : List (Option LineChanView)) (at : ℕ) (x : LineChanView)
    → many ≡ length items → slice ≡ items → put_back many items slice at x ≡ slice_set items at (Some x)
put_back_is items slice at x long same =
    ap (λ n. refill n items (slice_set slice at (Some x))) long ∙ refilled items slice at (Some x) same

-- the channels after one of them is written back
pub written : {many : ℕ} (items slice : List (Option LineChanView)) (now : List LineChanView) (at : ℕ) (x :
    LineChanView)
    → many ≡ length items → map channel_in items ≡ now → slice ≡ items → map channel_in (put_back many items slice at x)
    ≡ slice_set now at x
written {many} items slice now at x long view same =
    ap (map channel_in) (put_back_is items slice at x long same) ∙ map_set channel_in items at (Some x)
    ∙ ap (λ (cs : List LineChanView). slice_set cs at x) view

-- a line is there for each channel
pub all_long : (items : List (Option LineChanView)) (now : List LineChanView) → map channel_in items ≡ now
    → length items ≡ length now
all_long items now view = sym (map_long channel_in items) ∙ ap length view

-- the channel of a line
pub read : (items slice : List (Option LineChanView)) (now : List LineChanView) (at : ℕ)
    (d : Option LineChanView) (channel : LineChanView) → map channel_in items ≡ now → slice ≡ items
    → at < length now → slice_index_or slice at d ≡ Some channel → channel_at now at ≡ channel
read items slice now at d channel view same below is =
    subst (λ (cs : List LineChanView). channel_at cs at ≡ channel) view
    (guarded_at items at d channel (omega (arith, below, all_long items now view))
    (subst (λ (os : List (Option LineChanView)). slice_index_or os at d ≡ Some channel) same is))

-- the channel of a line that was written back
pub read_new : {many : ℕ} (items slice : List (Option LineChanView)) (now : List LineChanView) (at : ℕ) (x :
    LineChanView)
    → many ≡ length items → map channel_in items ≡ now → slice ≡ items → at < length now
    → channel_at (map channel_in (put_back many items slice at x)) at ≡ x
read_new {many} items slice now at x long view same below =
    ap (λ (cs : List LineChanView). channel_at cs at) (written items slice now at x long view same)
    ∙ get_or-set_same now at x no_channel below

-- only that channel is another
pub only_that : {many : ℕ} (items slice : List (Option LineChanView)) (now : List LineChanView) (at : ℕ)
    (x : LineChanView) → many ≡ length items → map channel_in items ≡ now → slice ≡ items → at < length now
    → map channel_in (put_back many items slice at x)
    ≡ slice_set now at (channel_at (map channel_in (put_back many items slice at x)) at)
only_that {many} items slice now at x long view same below =
    written items slice now at x long view same
    ∙ ap (slice_set now at) (sym (read_new items slice now at x long view same below))

pub set_same : {X : Type 0} (xs : List X) (n : ℕ) (x d : X) → n < length xs → slice_index_or xs n d ≡ x
    → slice_set xs n x ≡ xs
set_same [] n x d below is = refl
set_same (y ∷ ys) zero x d below is = ap (λ z. z ∷ ys) (sym is)
set_same (y ∷ ys) (suc n) x d below is = ap (λ rest. y ∷ rest) (set_same ys n x d (omega (arith, below)) is)

-- what is written back as it was changes nothing
pub same_written : {many : ℕ} (items slice : List (Option LineChanView)) (now : List LineChanView) (at : ℕ)
    (d : Option LineChanView) (channel x : LineChanView) → many ≡ length items → map channel_in items ≡ now →
    slice ≡ items
    → at < length now → slice_index_or slice at d ≡ Some channel → x ≡ channel
    → map channel_in (put_back many items slice at x) ≡ now
same_written {many} items slice now at d channel x long view same below is still =
    written items slice now at x long view same
    ∙ set_same now at x no_channel below (read items slice now at d channel view same below is ∙ sym still)

-- a channel of the same line leaves the lines
pub lines_written : {many : ℕ} (items slice : List (Option LineChanView)) (now : List LineChanView) (at : ℕ)
    (d : Option LineChanView) (channel x : LineChanView) → many ≡ length items → map channel_in items ≡ now →
    slice ≡ items
    → at < length now → slice_index_or slice at d ≡ Some channel → x.line ≡ channel.line
    → lines_of (map channel_in (put_back many items slice at x)) ≡ lines_of now
lines_written {many} items slice now at d channel x long view same below is line =
    ap lines_of (written items slice now at x long view same)
    ∙ map-set_same (λ (c : LineChanView). c.line) now at x no_channel
    (line ∙ ap (λ (c : LineChanView). c.line) (sym (read items slice now at d channel view same below is)))

set_there : (items : List (Option LineChanView)) (n : ℕ) (x : LineChanView) → All IsLineThere items
    → (k : ℕ) (d : Option LineChanView) → k < length (slice_set items n (Some x))
    → IsLineThere (slice_index_or (slice_set items n (Some x)) k d)
set_there [] n x are k d below = are k d below
set_there (o ∷ items) zero x are zero d below = tt
set_there (o ∷ items) zero x are (suc k) d below = are (suc k) d below
set_there (o ∷ items) (suc n) x are zero d below = are 0 d (omega arith)
set_there (o ∷ items) (suc n) x are (suc k) d below =
    set_there items n x (λ i e lt. are (suc i) e (omega (arith, lt))) k d (omega (arith, below))

-- all lines are still there
pub there_written : {many : ℕ} (items slice : List (Option LineChanView)) (at cap : ℕ) (x : LineChanView)
    → many ≡ length items → All IsLineThere items → length items ≤ cap → slice ≡ items
    → All IsLineThere (put_back many items slice at x) × (length (put_back many items slice at x) ≤ cap)
there_written {many} items slice at cap x long all room same =
    subst (λ (os : List (Option LineChanView)). All IsLineThere os × (length os ≤ cap))
    (sym (put_back_is items slice at x long same))
    (set_there items at x all, omega (arith, room, length-set items at (Some x)))

-- the channel with a number, without its line and marks
pub held_at : (now : List LineChanView) (n : ℕ) → slice_index_or (helds_of now) n missing ≡ (channel_at now n).held
held_at [] n = refl
held_at (c ∷ cs) zero = refl
held_at (c ∷ cs) (suc n) = held_at cs n

-- .. and its log, told of the line with that number
pub chan_is : (items slice : List (Option LineChanView)) (now : List LineChanView) (at n : ℕ)
    (d : Option LineChanView) (channel : LineChanView) → map channel_in items ≡ now → slice ≡ items → at ≡ n
    → n < length now → slice_index_or slice at d ≡ Some channel → chan_in (helds_of now) n ≡ channel.held.logged
chan_is items slice now at n d channel view same place below is =
    ap (λ (h : ChanView). h.logged) (held_at now n)
    ∙ ap (λ (c : LineChanView). c.held.logged) (read items slice now n d channel view same below
    (subst (λ k. slice_index_or slice k d ≡ Some channel) place is))

chan_new : {many : ℕ} (items slice : List (Option LineChanView)) (now : List LineChanView) (at n : ℕ) (x :
    LineChanView)
    → many ≡ length items → map channel_in items ≡ now → slice ≡ items → at ≡ n → n < length now
    → chan_in (helds_of (map channel_in (put_back many items slice at x))) n ≡ x.held.logged
chan_new {many} items slice now at n x long view same place below =
    ap (λ (h : ChanView). h.logged) (held_at (map channel_in (put_back many items slice at x)) n)
    ∙ ap (λ (c : LineChanView). c.held.logged)
    (subst (λ k. channel_at (map channel_in (put_back many items slice at x)) k ≡ x) place
    (read_new items slice now at x long view same (omega (arith, below, place))))

-- what is true of a line before and after is true of the channel with its number
pub chan_step : {many : ℕ} (F : Logged → Logged → Type 0) (items slice : List (Option LineChanView))
    (now : List LineChanView) (at n : ℕ) (d : Option LineChanView) (channel x : LineChanView)
    → many ≡ length items → map channel_in items ≡ now → slice ≡ items → at ≡ n → n < length now → slice_index_or slice
    at d ≡ Some channel
    → F channel.held.logged x.held.logged
    → F (chan_in (helds_of now) n) (chan_in (helds_of (map channel_in (put_back many items slice at x))) n)
chan_step {many} F items slice now at n d channel x long view same place below is holds =
    subst (λ (l : Logged). F l (chan_in (helds_of (map channel_in (put_back many items slice at x))) n))
    (sym (chan_is items slice now at n d channel view same place below is))
    (subst (F channel.held.logged) (sym (chan_new items slice now at n x long view same place below)) holds)

put_set : (now : List LineChanView) (n : ℕ) (x : LineChanView) (m : ℕ) → n < length now
    → chan_in (helds_of (slice_set now n x)) m ≡ put_at (chan_in (helds_of now)) n x.held.logged m
put_set now n x m below =
    ap (λ (h : ChanView). h.logged) (held_at (slice_set now n x) m)
    ∙ elim (eqb_tells m n) [
      | inl t ↦
          ap (λ k. (channel_at (slice_set now n x) k).held.logged) t.1
          ∙ ap (λ (c : LineChanView). c.held.logged) (get_or-set_same now n x no_channel below)
          ∙ sym (ap (λ b. if b then x.held.logged else chan_in (helds_of now) m) t.0)
      | inr t ↦
          ap (λ (c : LineChanView). c.held.logged) (get_or-set_other now n m x no_channel t.1)
          ∙ ap (λ (h : ChanView). h.logged) (sym (held_at now m))
          ∙ sym (ap (λ b. if b then x.held.logged else chan_in (helds_of now) m) t.0)
    ]

-- only that channel changes with its line
pub chan_others : {many : ℕ} (items slice : List (Option LineChanView)) (now : List LineChanView) (at n : ℕ)
    (x : LineChanView) → many ≡ length items → map channel_in items ≡ now → slice ≡ items → at ≡ n → n < length now
    → chan_in (helds_of (map channel_in (put_back many items slice at x)))
    ≡ put_at (chan_in (helds_of now)) n (chan_in (helds_of (map channel_in (put_back many items slice at x))) n)
chan_others {many} items slice now at n x long view same place below =
    subst (λ (l : Logged). chan_in (helds_of (map channel_in (put_back many items slice at x)))
    ≡ put_at (chan_in (helds_of now)) n l) (sym (chan_new items slice now at n x long view same place below))
    (subst (λ k. chan_in (helds_of (map channel_in (put_back many items slice k x)))
    ≡ put_at (chan_in (helds_of now)) n x.held.logged) (sym place)
    (subst (λ (cs : List LineChanView). chan_in (helds_of cs) ≡ put_at (chan_in (helds_of now)) n x.held.logged)
    (sym (written items slice now n x long view same)) (λ i m. put_set now n x m below i)))
