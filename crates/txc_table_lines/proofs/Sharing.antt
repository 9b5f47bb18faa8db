-- What a seat has of lines, where what it has of one line changes.
use Rattle.std.proofs.Common.{◌≡◌, ◌∙◌, refl, sym, ap, subst, append-nil, append_assoc, ℕ, zero, suc, ◌<◌, List, []}
use Rattle.std.proofs.Common.{◌∷◌}
use Rattle.std.proofs.Common.{◌++◌, length, map, slice_index_or, slice_set, arith}
use Rattle.std.proofs.lemmas.List.{get_or_default}
use mathlib.Core.List.{IsPrefix}
use Rattle.txc_base.specs.declared.entry.Entry.{Entry}
use Rattle.txc_table_line.specs.LineChan.{no_channel}
use Rattle.txc_table_line.specs.Line.{LineId}
use Rattle.txc_table_line.specs.SeatShare.{IsValidShare, SeatShareView}
use Rattle.txc_table_lines.specs.Lines.{AreValidShares, OnlyGrew, line_ids, no_share, share_at}

-- an item of a list of what a function makes of another's items
pub map_at : {X Y : Type 0} (f : X → Y) (xs : List X) (n : ℕ) (d : X) (e : Y) → n < length xs
    → slice_index_or (map f xs) n e ≡ f (slice_index_or xs n d)
map_at f [] n d e below = absurd (omega (arith, below))
map_at f (x ∷ xs) zero d e below = refl
map_at f (x ∷ xs) (suc n) d e below = map_at f xs n d e (omega (arith, below))

pub map_long : {X Y : Type 0} (f : X → Y) (xs : List X) → length (map f xs) ≡ length xs
map_long f [] = refl
map_long f (x ∷ xs) = ap suc (map_long f xs)

-- what an index gave, told with another default
pub indexed : {X : Type 0} (xs ys : List X) (i n : ℕ) (x d : X) → xs ≡ ys → i ≡ n → n < length ys
    → x ≡ slice_index_or xs i x → x ≡ slice_index_or ys n d
indexed {X} xs ys i n x d same at below is =
    subst (λ k. x ≡ slice_index_or ys k x) at (subst (λ (zs : List X). x ≡ slice_index_or zs i x) same is)
    ∙ get_or_default ys n x d below

-- the line that a share is of
pub line_at : (shares : List SeatShareView) (n : ℕ) → slice_index_or (line_ids shares) n no_channel.line
    ≡ (share_at shares n).line
line_at [] n = refl
line_at (share ∷ shares) zero = refl
line_at (share ∷ shares) (suc n) = line_at shares n

-- shares of the same lines are as many
pub same_long : (shares others : List SeatShareView) → line_ids shares ≡ line_ids others → length shares ≡ length others
same_long shares others same =
    sym (map_long (λ (s : SeatShareView). s.line) shares) ∙ ap length same
    ∙ map_long (λ (s : SeatShareView). s.line) others

pub same_line : (shares others : List SeatShareView) (n : ℕ) → line_ids shares ≡ line_ids others
    → (share_at shares n).line ≡ (share_at others n).line
same_line shares others n same =
    sym (line_at shares n) ∙ ap (λ (ls : List LineId). slice_index_or ls n no_channel.line) same ∙ line_at others n

-- the share of a line that is there is there
pub there : (items shares : List SeatShareView) (lines : List LineId) (at chan : ℕ) → items ≡ shares
    → line_ids shares ≡ lines
    → at ≡ chan → chan < length lines → at < length items
there items shares lines at chan same of is below =
    omega (arith, below, is, ap length same, ap length of, map_long (λ (s : SeatShareView). s.line) shares)

-- a share and a lock with the same number are of one line
pub same_lock : {L : Type 0} (of : L → LineId) (items shares : List SeatShareView) (locks : List L)
    (lines : List LineId)
    (at chan : ℕ) (share : SeatShareView) (lock : L) → items ≡ shares → map of locks ≡ lines → line_ids shares ≡ lines
    → at ≡ chan → chan < length lines → share ≡ slice_index_or items at share → lock ≡ slice_index_or locks at lock
    → share.line ≡ of lock
same_lock of items shares locks lines at chan share lock same labels seat is below share_is lock_is =
    let long : length shares ≡ length lines = sym (map_long (λ (s : SeatShareView). s.line) shares) ∙ ap length seat in
    let many : length locks ≡ length lines = sym (map_long of locks) ∙ ap length labels in
    let found = indexed items shares at chan share no_share same is (omega (arith, below, long)) share_is in
    let label : slice_index_or lines chan no_channel.line ≡ of lock
    = subst (λ n. slice_index_or lines n no_channel.line ≡ of lock) is
    (subst (λ (ls : List LineId). slice_index_or ls at no_channel.line ≡ of lock) labels
    (map_at of locks at lock no_channel.line (omega (arith, below, many, is)) ∙ ap of (sym lock_is))) in
    ap (λ (s : SeatShareView). s.line) found ∙ sym (line_at shares chan)
    ∙ ap (λ (ls : List LineId). slice_index_or ls chan no_channel.line) seat ∙ label

-- a log begins with itself
pub begins_itself : (log : List Entry) → IsPrefix log log
begins_itself log = ([], append-nil log)

-- a log that begins with another one begins with what that begins with
pub begins_more : (log more added all : List Entry) → IsPrefix log more → all ≡ more ++ added → IsPrefix log all
begins_more log more added all p is =
    (p.0 ++ added, sym (append_assoc log p.0 added) ∙ ap (λ (l : List Entry). l ++ added) p.1 ∙ sym is)

-- a true share in the place of another leaves all true
pub true_set : (shares : List SeatShareView) (n : ℕ) (share : SeatShareView) → AreValidShares shares → n < length shares
    → IsValidShare share
    → AreValidShares (slice_set shares n share)
true_set [] n share are below is m lt = absurd (omega (arith, below))
true_set (s ∷ shares) zero share are below is zero lt = is
true_set (s ∷ shares) zero share are below is (suc m) lt = are (suc m) (omega (arith, lt))
true_set (s ∷ shares) (suc n) share are below is zero lt = are zero (omega arith)
true_set (s ∷ shares) (suc n) share are below is (suc m) lt =
    true_set shares n share (λ k b. are (suc k) (omega (arith, b))) (omega (arith, below)) is m (omega (arith, lt))

-- a share of the same line in its place leaves the lines as they were
pub lines_set : (shares : List SeatShareView) (n : ℕ) (share : SeatShareView) → n < length shares
    → share.line ≡ (share_at shares n).line → line_ids (slice_set shares n share) ≡ line_ids shares
lines_set [] n share below same = absurd (omega (arith, below))
lines_set (s ∷ shares) zero share below same = ap (λ line. line ∷ line_ids shares) same
lines_set (s ∷ shares) (suc n) share below same = ap (λ lines. s.line ∷ lines)
    (lines_set shares n share (omega (arith, below)) same)

-- if more is seen of one log, what was seen of all only grew
pub grew_set : (shares : List SeatShareView) (n : ℕ) (share : SeatShareView) → n < length shares
    → IsPrefix (share_at shares n).log share.log → OnlyGrew shares (slice_set shares n share)
grew_set [] n share below more m = absurd (omega (arith, below))
grew_set (s ∷ shares) zero share below more zero = more
grew_set (s ∷ shares) zero share below more (suc m) = begins_itself (share_at shares m).log
grew_set (s ∷ shares) (suc n) share below more zero = begins_itself s.log
grew_set (s ∷ shares) (suc n) share below more (suc m) = grew_set shares n share (omega (arith, below)) more m

-- one more true share leaves all true
pub true_push : (shares : List SeatShareView) (share : SeatShareView) → AreValidShares shares → IsValidShare share
    → AreValidShares (shares ++ share ∷ [])
true_push [] share are is zero below = is
true_push [] share are is (suc n) below = absurd (omega (arith, below))
true_push (s ∷ shares) share are is zero below = are zero (omega arith)
true_push (s ∷ shares) share are is (suc n) below =
    true_push shares share (λ k b. are (suc k) (omega (arith, b))) is n (omega (arith, below))
