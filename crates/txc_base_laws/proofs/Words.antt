-- What the words for logs say of a log with one more entry.
use Rattle.std.proofs.Common.{◌≡◌, ◌∙◌, ap, ℕ, ◌+◌, Bool, cond, List, [], ◌∷◌, ◌++◌, append-nil, count_by}
use Rattle.std.specs.List.{flat_map}
use Rattle.std.proofs.lemmas.List.{reverse-append, reverse-reverse}
use Rattle.std.proofs.lemmas.List.Concat.{flat_map-append}
use Rattle.std.proofs.lemmas.List.Sums.{sum_by_push, sum_by-cons}
use Rattle.txc_base.specs.declared.act.Act.{Act}
use Rattle.txc_base.specs.declared.entry.Entry.{Entry}
use Rattle.txc_base.specs.declared.item.Item.{Item}
use Rattle.txc_base.specs.InOrder.{written_by, written, taken_by, taken, began_with, began_back, began}
use Rattle.txc_base.specs.Next.{returned_by, returned}

-- a list that is read off a log
flat_push : (f : Act → List Item) (log : List Entry) (entry : Entry)
    → flat_map (λ (e : Entry). f e.act) (log ++ entry ∷ []) ≡ flat_map (λ (e : Entry). f e.act) log ++ f entry.act
flat_push f log entry =
    flat_map-append (λ (e : Entry). f e.act) log (entry ∷ [])
    ∙ ap (λ l. flat_map (λ (e : Entry). f e.act) log ++ l) (append-nil (f entry.act))

-- what was written, after one more entry
pub written_push : (log : List Entry) (entry : Entry)
    → written (log ++ entry ∷ []) ≡ written log ++ written_by entry.act
written_push log entry = flat_push written_by log entry

-- what a reader took, after one more entry
pub taken_push : (reader : ℕ) (log : List Entry) (entry : Entry)
    → taken reader (log ++ entry ∷ []) ≡ taken reader log ++ taken_by reader entry.act
taken_push reader log entry = flat_push (taken_by reader) log entry

-- what was put back to a reader, after one more entry
pub returned_push : (reader : ℕ) (log : List Entry) (entry : Entry)
    → returned reader (log ++ entry ∷ []) ≡ returned reader log ++ returned_by reader entry.act
returned_push reader log entry = flat_push (returned_by reader) log entry

-- where readers began, after one more entry
pub began_push : (log : List Entry) (entry : Entry) (reader : ℕ)
    → began (log ++ entry ∷ []) reader ≡ began_with log (began log) entry.act reader
began_push log entry reader =
    ap (λ l. began_back l reader) (reverse-append log (entry ∷ []))
    ∙ ap (λ l. began_with l (began log) entry.act reader) (reverse-reverse log)

-- a count of entries
pub count_push : (test : Act → Bool) (log : List Entry) (entry : Entry)
    → count_by (λ (e : Entry). test e.act) (log ++ entry ∷ []) ≡ count_by (λ (e : Entry). test e.act) log + cond
    (test entry.act) 1 0
count_push test log entry = sum_by_push (λ (e : Entry). cond (test e.act) 1 0) log entry

-- .. and with one entry before them
pub count_cons : (test : Act → Bool) (entry : Entry) (log : List Entry)
    → count_by (λ (e : Entry). test e.act) (entry ∷ log) ≡ cond (test entry.act) 1 0 + count_by
    (λ (e : Entry). test e.act) log
count_cons test entry log = sum_by-cons (λ (e : Entry). cond (test e.act) 1 0) entry log
