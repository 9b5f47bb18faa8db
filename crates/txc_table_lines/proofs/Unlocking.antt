-- Lines that are locked one after another, and unlocked.
use Rattle.std.proofs.Common.{◌≡◌, ◌∙◌, sym, ap, subst, zero, suc, ◌+◌, Option, Some, List, [], ◌∷◌, ◌++◌, length}
use Rattle.std.proofs.Common.{map, All, append_assoc, arith, slice_index_or, ◌<◌, ◌-◌}
use Rattle.std.proofs.lemmas.List.{get_or-reverse, length-reverse, length_push, reverse-append, reverse-reverse}
use Rattle.std.proofs.Math.ListN.{get_or-append}
use Rattle.std.specs.Prelude.{reverse}
use Rattle.txc_chan.specs.ChanView.{ChanView}
use Rattle.txc_table_line.specs.LineChan.{LineChanView}
use Rattle.txc_table_line.specs.Line.{LineId}
use Rattle.txc_table_lines.specs.Guards.{channel_in}
use Rattle.txc_table_lines.specs.Locked.{AreClean, IsLineThere, helds_of, lines_of}
use Rattle.txc_table_lines.proofs.Mapping.{map_push}

-- a list with one more item is longer by one
pub one_longer : {X : Type 0} (xs ys : List X) (x : X) → ys ≡ xs ++ x ∷ [] → length ys ≡ length xs + 1
one_longer xs ys x push = ap length push ∙ length_push xs x

-- what is true of all items and of one more is true of all
pub all_push : {X : Type 0} (P : X → Type 0) (xs : List X) (x : X) → All P xs → P x → All P (xs ++ x ∷ [])
all_push P [] x are is zero d below = is
all_push P [] x are is (suc k) d below = absurd (omega (arith, below))
all_push P (y ∷ ys) x are is zero d below = are 0 d (omega arith)
all_push P (y ∷ ys) x are is (suc k) d below =
    all_push P ys x (λ i e lt. are (suc i) e (omega (arith, lt))) is k d (omega (arith, below))

-- .. also of what a function makes of them
pub line_more : {L : Type 0} (of : L → LineId) (P : LineId → Type 0) (locks locks' : List L) (lock : L)
    → All P (map of locks) → locks' ≡ locks ++ lock ∷ [] → P (of lock) → All P (map of locks')
line_more of P locks locks' lock are push is =
    subst (All P) (sym (ap (map of) push ∙ map_push of locks lock)) (all_push P (map of locks) (of lock) are is)

-- the channels of lines and of one more
pub channels_push : (items items' : List (Option LineChanView)) (x : LineChanView) → items' ≡ items ++ Some x ∷ []
    → map channel_in items' ≡ map channel_in items ++ x ∷ []
channels_push items items' x push = ap (map channel_in) push ∙ map_push channel_in items (Some x)

lines_push : (items items' : List (Option LineChanView)) (x : LineChanView) → items' ≡ items ++ Some x ∷ []
    → lines_of (map channel_in items') ≡ lines_of (map channel_in items) ++ x.line ∷ []
lines_push items items' x push =
    ap lines_of (channels_push items items' x push)
    ∙ map_push (λ (c : LineChanView). c.line) (map channel_in items) x

-- one more line is locked
pub one_locked : {L : Type 0} (of : L → LineId) (locks locks' : List L) (lock : L)
    (items items' : List (Option LineChanView)) (x : LineChanView) (all : List LineId)
    → lines_of (map channel_in items) ++ map of (reverse locks) ≡ all → locks ≡ locks' ++ lock ∷ []
    → items' ≡ items ++ Some x ∷ [] → x.line ≡ of lock
    → lines_of (map channel_in items') ++ map of (reverse locks') ≡ all
one_locked {L} of locks locks' lock items items' x all are pop push line =
    ap (λ ls. ls ++ map of (reverse locks')) (lines_push items items' x push)
    ∙ append_assoc (lines_of (map channel_in items)) (x.line ∷ []) (map of (reverse locks'))
    ∙ ap (λ l. lines_of (map channel_in items) ++ l ∷ map of (reverse locks')) line
    ∙ ap (λ (ls : List L). lines_of (map channel_in items) ++ map of ls)
    (sym (ap reverse pop ∙ reverse-append locks' (lock ∷ [])))
    ∙ are

-- .. in which nothing can be undone
pub one_clean : (items items' : List (Option LineChanView)) (x : LineChanView)
    → AreClean (helds_of (map channel_in items)) → items' ≡ items ++ Some x ∷ [] → x.held.logged.pending ≡ 0
    → AreClean (helds_of (map channel_in items'))
one_clean items items' x are push clean =
    subst AreClean (sym (ap helds_of (channels_push items items' x push)
    ∙ map_push (λ (c : LineChanView). c.held) (map channel_in items) x))
    (all_push (λ (h : ChanView). h.logged.pending ≡ 0) (helds_of (map channel_in items)) x.held are clean)

-- .. and is there
pub one_there : (items items' : List (Option LineChanView)) (x : LineChanView) → All IsLineThere items
    → items' ≡ items ++ Some x ∷ [] → All IsLineThere items'
one_there items items' x are push = subst (All IsLineThere) (sym push) (all_push IsLineThere items (Some x) are tt)

-- one more line is unlocked
pub one_unlocked : {L : Type 0} (of : L → LineId) (locks locks' : List L) (lock : L)
    (items items' : List (Option LineChanView)) (x : LineChanView) (all : List LineId)
    → map of locks ++ lines_of (map channel_in (reverse items)) ≡ all → items ≡ items' ++ Some x ∷ []
    → locks' ≡ locks ++ lock ∷ [] → of lock ≡ x.line
    → map of locks' ++ lines_of (map channel_in (reverse items')) ≡ all
one_unlocked of locks locks' lock items items' x all are pop push line =
    ap (λ ls. ls ++ lines_of (map channel_in (reverse items'))) (ap (map of) push ∙ map_push of locks lock)
    ∙ append_assoc (map of locks) (of lock ∷ []) (lines_of (map channel_in (reverse items')))
    ∙ ap (λ l. map of locks ++ l ∷ lines_of (map channel_in (reverse items'))) line
    ∙ ap (λ (os : List (Option LineChanView)). map of locks ++ lines_of (map channel_in os))
    (sym (ap reverse pop ∙ reverse-append items' (Some x ∷ [])))
    ∙ are

-- what is true of all items is true of them in reverse
pub all_reverse : {X : Type 0} (P : X → Type 0) (xs ys : List X) → ys ≡ reverse xs → All P xs → All P ys
all_reverse {X} P xs ys back are k d below =
    let within : k < length xs = omega (arith, below, ap length back, length-reverse xs) in
    subst P (sym (ap (λ (zs : List X). slice_index_or zs k d) back ∙ get_or-reverse xs k d within))
    (are (length xs - 1 - k) d (omega (arith, within)))

-- .. also of all but the last one
pub all_front : {X : Type 0} (P : X → Type 0) (xs ys : List X) (x : X) → xs ≡ ys ++ x ∷ [] → All P xs → All P ys
all_front {X} P xs ys x push are k d below =
    subst P (ap (λ (zs : List X). slice_index_or zs k d) push ∙ get_or-append ys (x ∷ []) d k below)
    (are k d (omega (arith, below, ap length push, length_push ys x)))

-- no line is unlocked yet
pub none_unlocked : {L : Type 0} (of : L → LineId) (locks : List L) (items items' : List (Option LineChanView))
    (now : List LineChanView) → locks ≡ [] → items' ≡ reverse items → map channel_in items ≡ now
    → map of locks ++ lines_of (map channel_in (reverse items')) ≡ lines_of now
none_unlocked {L} of locks items items' now none back view =
    ap (λ (ls : List L). map of ls ++ lines_of (map channel_in (reverse items'))) none
    ∙ ap (λ (os : List (Option LineChanView)). lines_of (map channel_in os))
    (ap reverse back ∙ reverse-reverse items)
    ∙ ap lines_of view
