-- The lines of a new table, and what its seats have of them.
use Rattle.std.proofs.Common.{◌≡◌, ◌∙◌, refl, sym, ap, ℕ, zero, suc, ◌<◌, ◌≤◌, List, [], ◌∷◌, ◌++◌}
use Rattle.std.proofs.Common.{length, map}
use Rattle.std.proofs.Common.{take, drop, replicate, slice_index_or, slice_set, arith}
use Rattle.txc_chan.specs.declared.decl.Decl.{Decl}
use Rattle.txc_chan.specs.Logged.{Logged, opened}
use Rattle.txc_table_line.specs.LineChan.{LineChanView}
use Rattle.txc_table_line.specs.Line.{LineId}
use Rattle.txc_table_line.specs.SeatShare.{SeatShareView}
use Rattle.txc_table_lines.specs.Lines.{fresh_share}

-- a list with a function applied to its first items
pub mapped : {X : Type 0} (f : X → X) (at : ℕ) (xs : List X) → List X
mapped f at xs = map f (take at xs) ++ drop at xs

-- one more of them
pub mapped_more : {X : Type 0} (f : X → X) (xs : List X) (at : ℕ) (d x : X) → at < length xs
    → x ≡ f (slice_index_or (mapped f at xs) at d) → slice_set (mapped f at xs) at x ≡ mapped f (suc at) xs
unfolding mapped
mapped_more f [] at d x below is = absurd (omega (arith, below))
mapped_more f (y ∷ xs) zero d x below is = ap (λ z. z ∷ xs) is
mapped_more f (y ∷ xs) (suc at) d x below is = ap (λ rest. f y ∷ rest)
    (mapped_more f xs at d x (omega (arith, below)) is)

pub mapped_long : {X : Type 0} (f : X → X) (xs : List X) (at : ℕ) → length (mapped f at xs) ≡ length xs
unfolding mapped
mapped_long f [] zero = refl
mapped_long f [] (suc at) = refl
mapped_long f (y ∷ xs) zero = refl
mapped_long f (y ∷ xs) (suc at) = ap suc (mapped_long f xs at)

-- all of them
pub mapped_all : {X : Type 0} (f : X → X) (xs : List X) (at : ℕ) → length xs ≤ at → mapped f at xs ≡ map f xs
unfolding mapped
mapped_all f [] zero all = refl
mapped_all f [] (suc at) all = refl
mapped_all f (y ∷ xs) zero all = absurd (omega (arith, all))
mapped_all f (y ∷ xs) (suc at) all = ap (λ rest. f y ∷ rest) (mapped_all f xs at (omega (arith, all)))

-- none of them
pub mapped_none : {X : Type 0} (f : X → X) (xs : List X) → mapped f 0 xs ≡ xs
unfolding mapped
mapped_none f xs = refl

-- what a new seat has of a new channel
pub fresh_share_is : (share : SeatShareView) (channel : LineChanView) → channel.held.logged ≡ opened channel.line.decl
    → channel.marks ≡ [] → share.line ≡ channel.line → (share.amount ≡ 0) × (share.made ≡ 0)
    → share.log ≡ channel.held.logged.log → share.marks ≡ channel.marks → share.known ≡ channel.held.logged
    → share ≡ fresh_share channel.line
fresh_share_is share channel new unmarked line none log marks known =
    let no_log : share.log ≡ [] = log ∙ ap (λ (l : Logged). l.log) new in
    let no_marks : share.marks ≡ [] = marks ∙ unmarked in
    let is_new : share.known ≡ opened channel.line.decl = known ∙ new in
    λ i. record {
      line = line i;
      amount = none.0 i;
      log = no_log i;
      made = none.1 i;
      marks = no_marks i;
      known = is_new i;
    }

-- what a function makes of a list with one more item
pub map_push : {X Y : Type 0} (f : X → Y) (xs : List X) (x : X) → map f (xs ++ x ∷ []) ≡ map f xs ++ f x ∷ []
map_push f [] x = refl
map_push f (y ∷ ys) x = ap (λ rest. f y ∷ rest) (map_push f ys x)

-- .. of equal items
pub map_replicate : {X Y : Type 0} (f : X → Y) (n : ℕ) (x : X) → map f (replicate n x) ≡ replicate n (f x)
map_replicate f zero x = refl
map_replicate f (suc n) x = ap (λ rest. f x ∷ rest) (map_replicate f n x)

-- one more line, and one more share of each seat
pub one_more : {L : Type 0} (of : L → LineId) (locks locks' : List L) (lock : L) (count : ℕ)
    (seats seats' : List (List SeatShareView)) → seats ≡ replicate count (map fresh_share (map of locks))
    → locks' ≡ locks ++ lock ∷ [] → seats' ≡ map (λ shares. shares ++ fresh_share (of lock) ∷ []) seats
    → seats' ≡ replicate count (map fresh_share (map of locks'))
one_more of locks locks' lock count seats seats' are push give =
    give ∙ ap (map (λ (shares : List SeatShareView). shares ++ fresh_share (of lock) ∷ [])) are
    ∙ map_replicate (λ (shares : List SeatShareView). shares ++ fresh_share (of lock) ∷ []) count
    (map fresh_share (map of
    locks))
    ∙ ap (replicate count) (sym (map_push fresh_share (map of locks) (of lock)) ∙ ap (map fresh_share) (sym (map_push
    of locks lock))
    ∙ ap (λ ls. map fresh_share (map of ls)) (sym push))

-- .. and one more declaration
pub decl_more : {L H : Type 0} (of : L → LineId) (decl_of : H → Decl) (locks locks' : List L) (lock : L) (helds : List
    H)
    (held : H) → map (λ line. line.decl) (map of locks) ≡ map decl_of helds → locks' ≡ locks ++ lock ∷ []
    → (of lock).decl ≡ decl_of held
    → map (λ line. line.decl) (map of locks') ≡ map decl_of (helds ++ held ∷ [])
decl_more of decl_of locks locks' lock helds held are push same =
    ap (λ ls. map (λ (line : LineId). line.decl) (map of ls)) push
    ∙ ap (map (λ (line : LineId). line.decl)) (map_push of locks lock)
    ∙ map_push (λ (line : LineId). line.decl) (map of locks) (of lock)
    ∙ ap (λ rest. rest ++ (of lock).decl ∷ []) are ∙ ap (λ d. map decl_of helds ++ d ∷ []) same
    ∙ sym (map_push decl_of helds held)
