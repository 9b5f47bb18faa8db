-- What one more seat has of the lines, added to collected shares.
use Rattle.std.proofs.Common.{◌≡◌, ◌∙◌, refl, sym, ap, subst, append_assoc, ℕ, zero, suc, ◌<◌, ◌+◌, List, [], ◌∷◌}
use Rattle.std.proofs.Common.{◌++◌, length, slice_index_or, slice_set, length-append, arith}
use Rattle.txc_table_line.specs.Sums.{sums}
use Rattle.txc_table_line.specs.LineChan.{no_channel}
use Rattle.txc_table_line.specs.Line.{Books, LedgerSharesView}
use Rattle.txc_table_line.specs.SeatShare.{SeatShareView}
use Rattle.txc_table_lines.specs.Lines.{line_ids, share_at}
use Rattle.txc_table_lines.specs.Locked.{HaveParts, amounts_in, amounts_of, ledgers_in, ledgers_of, collected_at}
use Rattle.txc_table_lines.specs.Locked.{made_in, made_of, with_share, with_shares}

here_is : {X : Type 0} (before rest : List X) (x d : X) → slice_index_or (before ++ x ∷ rest) (length before) d ≡ x
here_is [] rest x d = refl
here_is (y ∷ before) rest x d = here_is before rest x d

-- the next item of a list is at the place after those before it
pub next_is : {X : Type 0} (before rest rest' all : List X) (x : X) (n : ℕ) (d : X) → before ++ rest ≡ all
    → rest ≡ x ∷ rest' → n ≡ length before → slice_index_or all n d ≡ x
next_is before rest rest' all x n d are is at =
    subst (λ k. slice_index_or all k d ≡ x) (sym at)
    (subst (λ xs. slice_index_or xs (length before) d ≡ x) (sym (ap (λ r. before ++ r) is) ∙ are)
    (here_is before rest' x d))

-- .. and is there
pub next_below : {X : Type 0} (before rest rest' all : List X) (x : X) (n : ℕ) → before ++ rest ≡ all
    → rest ≡ x ∷ rest' → n ≡ length before → n < length all
next_below before rest rest' all x n are is at =
    omega (arith, at, ap length are, ap length is, length-append before rest)

-- .. the items before it and itself are before the rest
pub next_all : {X : Type 0} (before rest rest' all : List X) (x : X) → before ++ rest ≡ all → rest ≡ x ∷ rest'
    → (before ++ x ∷ []) ++ rest' ≡ all
next_all before rest rest' all x are is =
    append_assoc before (x ∷ []) rest' ∙ ap (λ r. before ++ r) (sym is) ∙ are

-- the shares of the next line are as they were
pub next_shares : (lines : List LedgerSharesView) (shares : List SeatShareView) (n : ℕ) (d : LedgerSharesView)
    → n ≡ length shares
    → slice_index_or (with_shares lines shares) n d ≡ slice_index_or lines n d
next_shares [] shares n d at = refl
next_shares (l ∷ lines) [] n d at = refl
next_shares (l ∷ lines) (s ∷ shares) zero d at = absurd (omega (arith, at))
next_shares (l ∷ lines) (s ∷ shares) (suc n) d at = next_shares lines shares n d (omega (arith, at))

-- no share changes nothing
pub with_none : (lines : List LedgerSharesView) → lines ≡ with_shares lines []
with_none [] = refl
with_none (l ∷ lines) = refl

-- one more share is added
pub gained_more : (lines : List LedgerSharesView) (shares : List SeatShareView) (share : SeatShareView) (n : ℕ)
    (d x : LedgerSharesView)
    → n ≡ length shares → n < length lines → x ≡ with_share (slice_index_or lines n d) share
    → slice_set (with_shares lines shares) n x ≡ with_shares lines (shares ++ share ∷ [])
gained_more [] shares share n d x at below is = absurd (omega (arith, below))
gained_more (l ∷ lines) [] share zero d x at below is = ap (λ y. y ∷ lines) is ∙ ap (λ rest. with_share l share ∷ rest)
    (with_none lines)
gained_more (l ∷ lines) [] share (suc n) d x at below is = absurd (omega (arith, at))
gained_more (l ∷ lines) (s ∷ shares) share zero d x at below is = absurd (omega (arith, at))
gained_more (l ∷ lines) (s ∷ shares) share (suc n) d x at below is =
    ap (λ rest. with_share l s ∷ rest)
    (gained_more lines shares share n d x (omega (arith, at)) (omega (arith, below)) is)

-- what the merged shares of one line are
pub merged_is : (old new other : LedgerSharesView) (share : SeatShareView) → new.ledgers ≡ old.ledgers
    → new.parts ≡ old.parts + other.parts → new.amount ≡ old.amount + other.amount → new.made ≡ old.made + other.made
    → other.parts ≡ 1 → other.amount ≡ share.amount → other.made ≡ share.made → new ≡ with_share old share
merged_is old new other share ledgers parts amount made part its its_made =
    let more : new.parts ≡ old.parts + 1 = parts ∙ ap (λ n. old.parts + n) part in
    let sum : new.amount ≡ old.amount + share.amount = amount ∙ ap (λ n. old.amount + n) its in
    let sum_made : new.made ≡ old.made + share.made = made ∙ ap (λ n. old.made + n) its_made in
    λ i. record { ledgers = ledgers i; parts = more i; amount = sum i; made = sum_made i }

-- there are as many shares with what one more seat has
pub with_many : (lines : List LedgerSharesView) (shares : List SeatShareView)
    → length (with_shares lines shares) ≡ length lines
with_many [] shares = refl
with_many (l ∷ lines) [] = refl
with_many (l ∷ lines) (s ∷ shares) = ap suc (with_many lines shares)

-- the ledgers, parts, amounts and marks of shares with what one more seat has
pub ledgers_with : (lines : List LedgerSharesView) (shares : List SeatShareView)
    → ledgers_in (with_shares lines shares) ≡ ledgers_in lines
ledgers_with [] shares = refl
ledgers_with (l ∷ lines) [] = refl
ledgers_with (l ∷ lines) (s ∷ shares) = ap (λ rest. l.ledgers ∷ rest) (ledgers_with lines shares)

pub parts_with : (n : ℕ) (lines : List LedgerSharesView) (shares : List SeatShareView) → length shares ≡ length lines
    → HaveParts n lines → HaveParts (n + 1) (with_shares lines shares)
parts_with n [] shares many are k d below = absurd (omega (arith, below))
parts_with n (l ∷ lines) [] many are k d below = absurd (omega (arith, many))
parts_with n (l ∷ lines) (s ∷ shares) many are zero d below = ap (λ m. m + 1) (are 0 d (omega arith))
parts_with n (l ∷ lines) (s ∷ shares) many are (suc k) d below =
    parts_with n lines shares (omega (arith, many)) (λ i e lt. are (suc i) e (omega (arith, lt))) k d
    (omega (arith, below))

pub amounts_with : (lines : List LedgerSharesView) (shares : List SeatShareView)
    → amounts_in (with_shares lines shares) ≡ sums (amounts_in lines) (amounts_of shares)
amounts_with [] shares = refl
amounts_with (l ∷ lines) [] = refl
amounts_with (l ∷ lines) (s ∷ shares) = ap (λ rest. (l.amount + s.amount) ∷ rest) (amounts_with lines shares)

pub made_with : (lines : List LedgerSharesView) (shares : List SeatShareView)
    → made_in (with_shares lines shares) ≡ sums (made_in lines) (made_of shares)
made_with [] shares = refl
made_with (l ∷ lines) [] = refl
made_with (l ∷ lines) (s ∷ shares) = ap (λ rest. (l.made + s.made) ∷ rest) (made_with lines shares)

ledgers_of_share : (shares : List SeatShareView) (n : ℕ)
    → slice_index_or (ledgers_of (line_ids shares)) n no_channel.line.ledgers ≡ (share_at shares n).line.ledgers
ledgers_of_share [] n = refl
ledgers_of_share (s ∷ shares) zero = refl
ledgers_of_share (s ∷ shares) (suc n) = ledgers_of_share shares n

ledgers_of_collected : (lines : List LedgerSharesView) (n : ℕ)
    → slice_index_or (ledgers_in lines) n no_channel.line.ledgers ≡ (collected_at lines n).ledgers
ledgers_of_collected [] n = refl
ledgers_of_collected (l ∷ lines) zero = refl
ledgers_of_collected (l ∷ lines) (suc n) = ledgers_of_collected lines n

-- shares with the same number are of the same ledgers
pub same_ledgers : (lines : List LedgerSharesView) (shares : List SeatShareView) (n : ℕ)
    → ledgers_in lines ≡ ledgers_of (line_ids shares)
    → (share_at shares n).line.ledgers ≡ (collected_at lines n).ledgers
same_ledgers lines shares n of =
    sym (ledgers_of_share shares n) ∙ ap (λ (bs : List Books). slice_index_or bs n no_channel.line.ledgers) (sym of)
    ∙ ledgers_of_collected lines n
