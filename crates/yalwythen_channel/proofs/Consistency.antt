-- The channels of a transaction, their kinds and what it has touched fit together.
use Rattle.std.proofs.Common.{◌≡◌, refl, sym, ◌∙◌, ap, subst, ℕ, zero, suc, ◌<◌, arith}
use Rattle.std.proofs.Common.{Some, List, [], ◌∷◌, ◌++◌, length, slice_get, Contains}
use Rattle.txc_base.specs.declared.kind.Kind.{Kind}
use Rattle.txc_base.specs.declared.tag.Tag.{Tag}
use Rattle.txc_chan.specs.ChanView.{ChanView}
use Rattle.txc_txn_check.proofs.Containing.{contains_none}
use Rattle.txc_txn.specs.declared.open_transaction.OpenTransaction.{OpenTransaction}
use Rattle.txc_txn.specs.Growth.{IsMarked}
use Rattle.txc_txn.specs.Maps.{Map, kinds_of}
use Rattle.txc_txn.specs.Opening.{HasKinds}
use Rattle.txc_txn.specs.Plain.{chan_in}
use Rattle.txc_txn.specs.Run.{state_of}
use Rattle.txc_txn.specs.Transaction.{Kept, start}
use Rattle.txc_txn.proofs.KindsKept.{kinds_kept}
use Rattle.yalwythen_channel.specs.Channels.{TxnChannels}
use Rattle.yalwythen_channel.specs.Opened.{IsOpenAt, IsConsistent}

-- a transaction that has touched nothing fits any channels
pub none_touched : (held : List ChanView) (kinds : List Kind) (txn : OpenTransaction) → HasKinds held kinds
    → length held ≡ length kinds → txn.touched.items ≡ [] → txn.marks.items ≡ [] → IsConsistent held kinds txn
none_touched held kinds txn has as_many touched marks = record {
  known = has;
  as_many = as_many;
  touched = λ n t. absurd (contains_none n (subst (λ (l : List ℕ). Contains l n) touched t));
  marks = ap length marks ∙ sym (ap length touched);
}

-- channels that are there and have their kinds still, with what the transaction has touched
pub still_sound : (held held' : List ChanView) (kinds : List Kind) (txn txn' : OpenTransaction)
    → IsConsistent held kinds txn → ((n : ℕ) → n < length held → n < length held') → length held' ≡ length held
    → kinds_of (chan_in held') ≡ kinds_of (chan_in held)
    → ((n : ℕ) → Contains txn'.touched.items n → n < length held')
    → length txn'.marks.items ≡ length txn'.touched.items → IsConsistent held' kinds txn'
still_sound held held' kinds txn txn' sound there long same touched marks = record {
  known = kinds_kept held held' kinds sound.known there same;
  as_many = long ∙ sound.as_many;
  touched = touched;
  marks = marks;
}

pub get_last : {A : Type 0} (xs : List A) (x : A) → slice_get (xs ++ x ∷ []) (length xs) ≡ Some x
get_last [] x = refl
get_last (y ∷ ys) x = get_last ys x

pub get_front : {A : Type 0} (xs ys : List A) (n : ℕ) → n < length xs → slice_get (xs ++ ys) n ≡ slice_get xs n
get_front [] ys n lt = absurd (omega arith)
get_front (x ∷ xs) ys zero lt = refl
get_front (x ∷ xs) ys (suc n) lt = get_front xs ys n (omega arith)

-- a transaction that just began: nothing ran yet
pub open_first : (c : TxnChannels) (m : Map) (tag : Tag) → m ≡ chan_in c.held → c.txn.tag ≡ tag
    → ((m : Map) → state_of m c.txn.trace ≡ start m)
    → ((m : Map) → IsMarked tag c.txn.touched.items c.txn.marks.items m m) → IsOpenAt m [] c
open_first c m tag same is starts marked = record {
  runs = ap Kept (sym (starts m) ∙ ap (λ (x : Map). state_of x c.txn.trace) same);
  marked = (
    omega arith,
    subst (λ (t : Tag). IsMarked t c.txn.touched.items c.txn.marks.items m (chan_in c.held)) (sym is)
        (subst (λ (x : Map). IsMarked tag c.txn.touched.items c.txn.marks.items m x) same (marked m)),
  );
}
