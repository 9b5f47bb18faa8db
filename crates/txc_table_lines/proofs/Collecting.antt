-- What is true of each of all locked lines, and the shares of seats that are back.
use Rattle.std.proofs.Common.{◌≡◌, ◌∙◌, refl, sym, ap, subst, inl, inr, ◌⊎◌, ℕ, zero, suc, ◌<◌, ◌+◌, Option, None, List}
use Rattle.std.proofs.Common.{[], ◌∷◌, length, map, slice_index_or, All, replicate, ◌≤◌, arith}
use Rattle.std.specs.List.{AllZip}
use Rattle.txc_chan.specs.ChanView.{ChanView}
use Rattle.txc_table_line.specs.Marks.{AreMarks}
use Rattle.txc_table_line.specs.declared.mark.Mark.{Mark}
use Rattle.txc_txn.specs.Plain.{missing}
use Rattle.txc_table_line.specs.LineChan.{LineChanView, no_channel}
use Rattle.txc_table_line.specs.Line.{Books, LineId, LedgerSharesView}
use Rattle.txc_table_line.specs.SeatShare.{SeatShareView}
use Rattle.txc_table_lines.specs.Lines.{line_ids, share_at}
use Rattle.txc_table_lines.specs.Locked.{AllMarked, AreClean, HaveParts, IsLineCounted, IsLineSeen, IsLineThere}
use Rattle.txc_table_lines.specs.Locked.{LogsCount}
use Rattle.txc_table_lines.specs.Locked.{MarksCount, amounts_in, ledgers_in, ledgers_of, channel_at, collected_at}
use Rattle.txc_table_lines.specs.Locked.{helds_of}
use Rattle.txc_table_lines.specs.Locked.{lines_of, made_in, line_marks_of, no_part}
use Rattle.txc_table_lines.proofs.Sharing.{line_at as line_of_share, map_long}

-- no line is missing
pub never : (items slice : List (Option LineChanView)) (at : ℕ) (d : Option LineChanView) → All IsLineThere items
    → slice ≡ items → at < length items → slice_index_or slice at d ≡ None → ⊥
never items slice at d all same below none = subst IsLineThere none
    (subst (λ (os : List (Option LineChanView)). IsLineThere (slice_index_or os at d)) (sym same) (all at d below))

below_or : (k m : ℕ) → k < suc m → (k < m) ⊎ (k ≡ m)
below_or zero zero lt = inr refl
below_or zero (suc m) lt = inl (omega arith)
below_or (suc k) zero lt = absurd (omega (arith, lt))
below_or (suc k) (suc m) lt = elim (below_or k m (omega (arith, lt))) [
  | inl t ↦ inl (omega (arith, t))
  | inr t ↦ inr (ap suc t)
]

-- what is true of all numbers below one and of that one is true of all up to it
pub up_to : (P : ℕ → Type 0) (at : ℕ) → ((n : ℕ) → n < at → P n) → P at → (n : ℕ) → n < at + 1 → P n
up_to P at before is n below = elim (below_or n at (omega (arith, below))) [
  | inl t ↦ before n t
  | inr t ↦ subst P (sym t) is
]

-- nothing in the channel with a number can be undone
pub clean_at : (now : List LineChanView) (n : ℕ) → AreClean (helds_of now) → n < length now
    → (channel_at now n).held.logged.pending ≡ 0
clean_at [] n are below = absurd (omega (arith, below))
clean_at (c ∷ cs) zero are below = are 0 missing (omega arith)
clean_at (c ∷ cs) (suc n) are below =
    clean_at cs n (λ k d lt. are (suc k) d (omega (arith, lt))) (omega (arith, below))

line_of_channel : (now : List LineChanView) (n : ℕ)
    → slice_index_or (lines_of now) n no_channel.line ≡ (channel_at now n).line
line_of_channel [] n = refl
line_of_channel (c ∷ cs) zero = refl
line_of_channel (c ∷ cs) (suc n) = line_of_channel cs n

-- a share and a channel with the same number are of one line
pub one_line : (shares : List SeatShareView) (now : List LineChanView) (n : ℕ) → line_ids shares ≡ lines_of now
    → (share_at shares n).line ≡ (channel_at now n).line
one_line shares now n of =
    sym (line_of_share shares n) ∙ ap (λ (ls : List LineId). slice_index_or ls n no_channel.line) of
    ∙ line_of_channel now n

-- there are as many shares as channels
pub as_many : (shares : List SeatShareView) (now : List LineChanView) → line_ids shares ≡ lines_of now
    → length shares ≡ length now
as_many shares now of =
    sym (map_long (λ (s : SeatShareView). s.line) shares) ∙ ap length of ∙ map_long (λ (c : LineChanView). c.line) now

-- .. also of collected shares
pub collected_many : (shares : List LedgerSharesView) (lines : List LineId) → ledgers_in shares ≡ ledgers_of lines
    → length shares ≡ length lines
collected_many shares lines of =
    sym (map_long (λ (s : LedgerSharesView). s.ledgers) shares) ∙ ap length of
    ∙ map_long (λ (l : LineId). l.ledgers) lines

ledgers_at : (shares : List LedgerSharesView) (n : ℕ)
    → slice_index_or (ledgers_in shares) n no_channel.line.ledgers ≡ (collected_at shares n).ledgers
ledgers_at [] n = refl
ledgers_at (s ∷ shares) zero = refl
ledgers_at (s ∷ shares) (suc n) = ledgers_at shares n

ledgers_of_channel : (now : List LineChanView) (n : ℕ)
    → slice_index_or (ledgers_of (lines_of now)) n no_channel.line.ledgers ≡ (channel_at now n).line.ledgers
ledgers_of_channel [] n = refl
ledgers_of_channel (c ∷ cs) zero = refl
ledgers_of_channel (c ∷ cs) (suc n) = ledgers_of_channel cs n

-- collected shares and a channel with the same number are of the same ledgers
pub one_ledger : (shares : List LedgerSharesView) (now : List LineChanView) (n : ℕ)
    → ledgers_in shares ≡ ledgers_of (lines_of now) → (collected_at shares n).ledgers ≡ (channel_at now n).line.ledgers
one_ledger shares now n of =
    sym (ledgers_at shares n) ∙ ap (λ (bs : List Books). slice_index_or bs n no_channel.line.ledgers) of
    ∙ ledgers_of_channel now n

-- what is true at each place of two lists is true of what two functions make of them
pub zip_maps : {X Y A B : Type 0} (R : A → B → Type 0) (f : X → A) (g : Y → B) (xs : List X) (ys : List Y) (d : X)
    (e : Y) → length xs ≡ length ys
    → ((n : ℕ) → n < length xs → R (f (slice_index_or xs n d)) (g (slice_index_or ys n e)))
    → AllZip R (map f xs) (map g ys)
zip_maps R f g [] [] d e long each = tt
zip_maps R f g [] (y ∷ ys) d e long each = absurd (omega (arith, long))
zip_maps R f g (x ∷ xs) [] d e long each = absurd (omega (arith, long))
zip_maps R f g (x ∷ xs) (y ∷ ys) d e long each =
    (each 0 (omega arith), zip_maps R f g xs ys d e (omega (arith, long)) (λ n lt. each (suc n) (omega (arith, lt))))

-- what is seen of a channel, told of an equal share and channel
pub seen_same : (share share' : SeatShareView) (channel channel' : LineChanView) → share ≡ share' → channel' ≡ channel
    → IsLineSeen share channel → IsLineSeen share' channel'
seen_same share share' channel channel' same is seen =
    subst (λ (s : SeatShareView). IsLineSeen s channel') same (subst (IsLineSeen share) (sym is) seen)

-- channels of the same lines are as many
pub same_many : (now others : List LineChanView) → lines_of now ≡ lines_of others → length now ≡ length others
same_many now others same =
    sym (map_long (λ (c : LineChanView). c.line) now) ∙ ap length same
    ∙ map_long (λ (c : LineChanView). c.line) others

-- the marks are those of the channels if those of each channel are
pub all_marked : (now : List LineChanView) (at : ℕ) → length now ≤ at
    → ((n : ℕ) → n < at → AreMarks (channel_at now n).held.logged (channel_at now n).marks)
    → AllMarked (helds_of now) (line_marks_of now)
all_marked now at all each = zip_maps (λ (h : ChanView) (ms : List Mark). AreMarks h.logged ms) (λ c. c.held)
    (λ c. c.marks)
    now now no_channel no_channel refl (λ n below. each n (omega (arith, below, all)))

-- the shares count all logs and all marks if they count those of each channel
pub logs_counted : (now : List LineChanView) (shares : List LedgerSharesView) (at : ℕ) → length now ≤ at
    → length now ≡ length shares → ((n : ℕ) → n < at → IsLineCounted (channel_at now n) (collected_at shares n))
    → LogsCount (helds_of now) (amounts_in shares)
logs_counted now shares at all many each = zip_maps (λ (h : ChanView) amount. length h.logged.log ≡ amount)
    (λ c. c.held)
    (λ s. s.amount) now shares no_channel (no_part no_channel.line.ledgers) many
    (λ n below. (each n (omega (arith, below, all))).log)

pub marks_counted : (now : List LineChanView) (shares : List LedgerSharesView) (at : ℕ) → length now ≤ at
    → length now ≡ length shares → ((n : ℕ) → n < at → IsLineCounted (channel_at now n) (collected_at shares n))
    → MarksCount (line_marks_of now) (made_in shares)
marks_counted now shares at all many each = zip_maps (λ (ms : List Mark) amount. length ms ≡ amount) (λ c. c.marks)
    (λ s. s.made) now shares no_channel (no_part no_channel.line.ledgers) many
    (λ n below. (each n (omega (arith, below, all))).marks)

-- shares without a part count nothing
pub ledgers_nothing : (now : List LineChanView)
    → ledgers_in (map (λ channel. no_part channel.line.ledgers) now) ≡ ledgers_of (lines_of now)
ledgers_nothing [] = refl
ledgers_nothing (c ∷ cs) = ap (λ rest. c.line.ledgers ∷ rest) (ledgers_nothing cs)

pub parts_nothing : (now : List LineChanView) → HaveParts 0 (map (λ channel. no_part channel.line.ledgers) now)
parts_nothing [] k d below = absurd (omega (arith, below))
parts_nothing (c ∷ cs) zero d below = refl
parts_nothing (c ∷ cs) (suc k) d below = parts_nothing cs k d (omega (arith, below))

pub amounts_nothing : (now : List LineChanView)
    → amounts_in (map (λ channel. no_part channel.line.ledgers) now) ≡ replicate (length now) 0
amounts_nothing [] = refl
amounts_nothing (c ∷ cs) = ap (λ rest. 0 ∷ rest) (amounts_nothing cs)

pub made_nothing : (now : List LineChanView)
    → made_in (map (λ channel. no_part channel.line.ledgers) now) ≡ replicate (length now) 0
made_nothing [] = refl
made_nothing (c ∷ cs) = ap (λ rest. 0 ∷ rest) (made_nothing cs)
