-- How many acts of each channel a transaction has.
use Rattle.std.proofs.Common.{◌≡◌, refl, ◌∙◌, ap, ℕ, suc, ◌+◌, ◌≤◌, true, false, List, [], ◌∷◌, ◌++◌, length}
use Rattle.std.proofs.Common.{length-append, arith, nat_eq}
use Rattle.txc_base.specs.declared.act.Act.{Act}
use Rattle.txc_base.specs.declared.tag.Tag.{Tag}
use Rattle.txc_base.specs.Log.{entries}
use Rattle.txc_chan.specs.Reserved.{one_if}
use Rattle.txc_chan.specs.Logged.{Logged}
use Rattle.txc_txn.specs.declared.deed.Deed.{Deed}
use Rattle.txc_txn.specs.Growth.{Grows}
use Rattle.txc_txn.specs.Run.{count_deeds}
use Rattle.txc_txn.specs.Transaction.{deeds_at}
use Rattle.txc_txn.proofs.Growing.{length_entries}

pub count_append : (k : ℕ) (xs ys : List Deed) → count_deeds k (xs ++ ys) ≡ count_deeds k xs + count_deeds k ys
count_append k [] ys = omega arith
count_append k (x ∷ xs) ys = omega (arith, count_append k xs ys)

pub count_these : (k chan p : ℕ) (acts : List Act) → nat_eq chan k ≡ true
    → count_deeds k (deeds_at chan p acts) ≡ length acts
count_these k chan p [] h = refl
count_these k chan p (act ∷ acts) h = let n : one_if (nat_eq chan k) ≡ 1 = ap one_if h in
    omega (arith, n, count_these k chan (suc p) acts h)

pub count_others : (k chan p : ℕ) (acts : List Act) → nat_eq chan k ≡ false → count_deeds k (deeds_at chan p acts) ≡ 0
count_others k chan p [] h = refl
count_others k chan p (act ∷ acts) h = let n : one_if (nat_eq chan k) ≡ 0 = ap one_if h in
    omega (arith, n, count_others k chan (suc p) acts h)

-- all that a channel has more, after it grew, can be undone
pub undoable_there : (tag : Tag) (l l' : Logged) (place : ℕ) → place ≡ length l.log → Grows tag l l'
    → length l'.log ≤ place + l'.pending
undoable_there tag l l' place long g =
    omega (
      arith,
      long,
      g.pending,
      ap length g.log ∙ length-append l.log (entries tag g.acts),
      length_entries tag g.acts,
    )
