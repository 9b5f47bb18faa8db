-- Lines that are locked one after another.
use Rattle.std.proofs.Common.{◌≡◌, refl, sym, ap, subst, ℕ, zero, suc, ◌<◌, ◌+◌, Option}
use Rattle.std.proofs.Common.{Some, None, List, [], ◌∷◌, ◌++◌, length, map, take, slice_index_or, All, arith}
use Rattle.std.proofs.Common.{if◌then◌else◌, inl, inr}
use Rattle.std.proofs.lemmas.Bool.Decides.{eqb_tells}
use Rattle.std.specs.List.{AllZip}
use mathlib.Core.List.{IsPrefix}
use Rattle.txc_chan.specs.Logged.{Logged}
use Rattle.txc_table_line.specs.Known.{IsKnown}
use Rattle.txc_txn.specs.Maps.{Map}
use Rattle.txc_table_line.specs.LineChan.{LineChanView}
use Rattle.txc_table_line.specs.SeatShare.{SeatShareView}
use Rattle.txc_table_lines.specs.Guards.{AreLocked, AreTaken, IsFound, IsLocked, IsTaken, chan_at}
use Rattle.txc_table_lines.specs.Guards.{channel_in, known_of}
use Rattle.txc_table_lines.specs.Lines.{AreValidShares, share_at}
use Rattle.txc_table_lines.proofs.Sharing.{begins_itself}

-- one more item of a list, and one more of another that goes with it
pub zip_more : {A B : Type 0} (R : A → B → Type 0) (xs : List A) (ys : List B) (i : ℕ) (d : A) (y : B) → i < length xs
    → AllZip R (take i xs) ys → R (slice_index_or xs i d) y → AllZip R (take (suc i) xs) (ys ++ y ∷ [])
zip_more R [] ys i d y below are is = absurd (omega (arith, below))
zip_more R (x ∷ xs) [] zero d y below are is = (is, tt)
zip_more R (x ∷ xs) (z ∷ ys) zero d y below are is = absurd are
zip_more R (x ∷ xs) [] (suc i) d y below are is = absurd are
zip_more R (x ∷ xs) (z ∷ ys) (suc i) d y below are is =
    (are.0, zip_more R xs ys i d y (omega (arith, below)) are.1 is)

-- one more line was locked
pub taken_more : (shares : List SeatShareView) (declared : List ℕ) (guards guards' : List (Option LineChanView)) (i : ℕ)
    (channel : LineChanView) → i < length declared → AreTaken shares (take i declared) guards
    → guards' ≡ guards ++ Some channel ∷ [] → IsFound (share_at shares (slice_index_or declared i 0)) channel
    → AreTaken shares (take (i + 1) declared) guards'
taken_more shares declared guards guards' i channel below are push found =
    let next : suc i ≡ i + 1 = omega arith in
    subst (AreTaken shares (take (i + 1) declared)) (sym push)
    (subst (λ n. AreTaken shares (take n declared) (guards ++ Some channel ∷ [])) next (zip_more (λ n guard. IsTaken
    (share_at shares n) guard) declared guards i 0 (Some channel) below are found))

-- as many lines were locked as were taken
pub taken_long : (shares : List SeatShareView) (declared : List ℕ) (guards : List (Option LineChanView))
    → AreTaken shares declared guards → length guards ≡ length declared
taken_long shares [] [] are = refl
taken_long shares [] (g ∷ guards) are = absurd are
taken_long shares (d ∷ declared) [] are = absurd are
taken_long shares (d ∷ declared) (g ∷ guards) are = ap suc (taken_long shares declared guards are.1)

-- a line that was found is locked
is_locked : (share : SeatShareView) (guard : Option LineChanView) → IsTaken share guard → IsLocked share.line guard
is_locked share None taken = absurd taken
is_locked share (Some channel) taken = taken.line

pub are_locked : (shares : List SeatShareView) (declared : List ℕ) (guards : List (Option LineChanView))
    → All (λ n. n < length shares) declared → AreTaken shares declared guards → AreLocked shares declared guards
are_locked shares [] [] there are = tt
are_locked shares [] (g ∷ guards) there are = absurd are
are_locked shares (d ∷ declared) [] there are = absurd are
are_locked shares (d ∷ declared) (g ∷ guards) there are = (
  (there 0 d (omega arith), is_locked (share_at shares d) g are.0),
  are_locked shares declared guards (λ k e below. there (suc k) e (omega (arith, below))) are.1,
)

-- what is true of each channel that is known, and of each that was found, is true of the channel with each number
pub each_found : (P : ℕ → Logged → Type 0) (shares : List SeatShareView) (declared : List ℕ)
    (guards : List (Option LineChanView)) (known : Map) → ((n : ℕ) → P n (known n))
    → ((n : ℕ) (channel : LineChanView) → IsFound (share_at shares n) channel → P n channel.held.logged)
    → AreTaken shares declared guards → (n : ℕ) → P n (chan_at declared (map channel_in guards) known n)
each_found P shares [] [] known rest found are n = rest n
each_found P shares [] (g ∷ guards) known rest found are n = absurd are
each_found P shares (d ∷ declared) [] known rest found are n = absurd are
each_found P shares (d ∷ declared) (None ∷ guards) known rest found are n = absurd are.0
each_found P shares (d ∷ declared) (Some channel ∷ guards) known rest found are n =
    elim (eqb_tells n d) [
      | inl t ↦
          subst (P n) (sym (ap (λ b. if b then channel.held.logged
          else chan_at declared (map channel_in guards) known n) t.0))
          (found n channel (subst (λ m. IsFound (share_at shares m) channel) (sym t.1) are.0))
      | inr t ↦
          subst (P n) (sym (ap (λ b. if b then channel.held.logged
          else chan_at declared (map channel_in guards) known n) t.0))
          (each_found P shares declared guards known rest found are.1 n)
    ]

-- nothing in a channel that is known can be undone, and its log begins with what was seen
known_clean : (shares : List SeatShareView) → AreValidShares shares → (n : ℕ) → (known_of shares n).pending ≡ 0
known_clean [] are n = refl
known_clean (s ∷ shares) are zero = (are 0 (omega arith)).known.clean
known_clean (s ∷ shares) are (suc n) = known_clean shares (λ k below. are (suc k) (omega (arith, below))) n

pub known_since : (shares : List SeatShareView) → AreValidShares shares → (n : ℕ)
    → IsPrefix (share_at shares n).log (known_of shares
    n).log
known_since [] are n = begins_itself []
known_since (s ∷ shares) are zero = (are 0 (omega arith)).since
known_since (s ∷ shares) are (suc n) = known_since shares (λ k below. are (suc k) (omega (arith, below))) n

-- what is true of the channels of lines that were locked
pub taken_clean : (shares : List SeatShareView) (declared : List ℕ) (guards : List (Option LineChanView))
    → AreValidShares shares
    → AreTaken shares declared guards → (n : ℕ)
    → (chan_at declared (map channel_in guards) (known_of shares) n).pending ≡ 0
taken_clean shares declared guards are taken =
    each_found (λ n l. l.pending ≡ 0) shares declared guards (known_of shares) (known_clean shares are)
    (λ n channel found. found.clean) taken

pub taken_since : (shares : List SeatShareView) (declared : List ℕ) (guards : List (Option LineChanView))
    → AreValidShares shares
    → AreTaken shares declared guards → (n : ℕ)
    → IsPrefix (share_at shares n).log (chan_at declared (map channel_in guards) (known_of shares) n).log
taken_since shares declared guards are taken =
    each_found (λ n l. IsPrefix (share_at shares n).log l.log) shares declared guards (known_of shares)
    (known_since shares are) (λ n channel found. found.since) taken

pub taken_known : (shares : List SeatShareView) (declared : List ℕ) (guards : List (Option LineChanView))
    → AreValidShares shares
    → AreTaken shares declared guards → (n : ℕ) → n < length shares
    → IsKnown (share_at shares n).line.decl (share_at shares n).amount
    (chan_at declared (map channel_in guards) (known_of shares) n)
taken_known shares declared guards are taken n =
    each_found (λ n l. n < length shares → IsKnown (share_at shares n).line.decl (share_at shares n).amount l) shares
    declared guards (known_of shares) (λ n below. (are n below).known) (λ n channel found below. found.known) taken n
