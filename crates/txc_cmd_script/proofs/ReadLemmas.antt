-- Reading channels, transactions and seats, one after another.
use Rattle.std.proofs.Common.{◌≡◌, refl, ℕ, suc, ◌+◌, ◌<◌, ◌≤◌, true, false, nat_lt, List, [], ◌∷◌, ◌++◌, map, length}
use Rattle.std.proofs.Common.{drop, slice_index_or, Option, Some, None, Result, Ok, Err, ap, sym, arith, add-one}
use Rattle.std.proofs.lemmas.Bool.Decides.{nat_tests}
use Rattle.std.specs.Str.{IsUtf8}
use Rattle.serde_json.specs.Data.{Data}
use Rattle.serde_json.specs.Read.{read}
use Rattle.serde_json.specs.View.{view}
use Rattle.serde_json.specs.declared.value.Value.{Value}
use Rattle.txc_base.specs.declared.kind.Kind.{Kind}
use Rattle.txc_chan.specs.declared.decl.Decl.{Decl}
use Rattle.txc_chan.specs.declared.fault.ChanFault.{ChanFault}
use Rattle.txc_chan.specs.Limits.{declared_fault}
use Rattle.txc_txn_check.specs.Limits.{CheckedView}
use Rattle.txc_chan.specs.Limits.{fault_or, first_fault}
use Rattle.txc_cmd_script.specs.declared.fault.ScriptFault.{ScriptFault}
use Rattle.txc_cmd_script.specs.declared.fault.ScriptFault.TheVariants.{Shape, TooLarge}
use Rattle.txc_cmd_script.specs.Reading.{max_bytes, declared_in, unless_faulty, decl_in, decls_in, transaction_in}
use Rattle.txc_cmd_script.specs.Reading.{transactions_in, seat_in, seats_in, script_of, script_in}
use Rattle.txc_cmd_script.specs.Steps.{or_fault, then_reads, collected}
use Rattle.txc_cmd_script.proofs.Orders.{onto, read_more, read_fault, read_all}
use Rattle.txc_cmd_script.proofs.TreeLemmas.{tree_of-text}

-- a text within the limit that is JSON
pub script_in-tree : (bytes : List ℕ) (tree : Data) → length bytes ≤ max_bytes → IsUtf8 bytes → read bytes ≡ Some tree
    → script_in bytes ≡ script_of tree
unfolding script_in
script_in-tree bytes tree small text is =
    let within : nat_lt max_bytes (length bytes) ≡ false = grind (arith, nat_tests) in
    rw (within, tree_of-text bytes text, is) refl

-- a text past the limit
pub script_in-large : (bytes : List ℕ) → max_bytes < length bytes → script_in bytes ≡ Err TooLarge
unfolding script_in
script_in-large bytes large =
    let past : nat_lt max_bytes (length bytes) ≡ true = grind (arith, nat_tests) in
    rw past refl

-- a declaration that is taken where this was found has no fault
fine_or : (chan : ℕ) (found : Option ChanFault) (decl x : Decl) → declared_fault decl.kind decl.bound decl.readers
    ≡ found → Ok x ≡ unless_faulty chan decl found
    → declared_fault x.kind x.bound x.readers ≡ None
fine_or chan None decl x is h = let same : x ≡ decl = cc in rw same is
fine_or chan (Some fault) decl x is h = absurd (cc)

-- the same, where there may be no declaration
fine_at : (chan : ℕ) (found : Option Decl) (x : Decl)
    → Ok x ≡ then_reads (or_fault Shape found)
    (λ decl. unless_faulty chan decl (declared_fault decl.kind decl.bound decl.readers))
    → declared_fault x.kind x.bound x.readers ≡ None
fine_at chan None x h = absurd (cc)
fine_at chan (Some decl) x h = fine_or chan (declared_fault decl.kind decl.bound decl.readers) decl x refl h

-- no fault before, and none by what comes later
fault_or-none : (first rest longer : Option ChanFault) → fault_or first rest ≡ None → (rest ≡ None → longer ≡ None)
    → fault_or first longer ≡ None
fault_or-none None rest longer h more = more h
fault_or-none (Some fault) rest longer h more = absurd (cc)

-- one more declaration without a fault
first_fault-push : (xs : List Decl) (x : Decl) → first_fault xs ≡ None → declared_fault x.kind x.bound x.readers ≡ None
    → first_fault (xs ++ x ∷ []) ≡ None
first_fault-push [] x before here = rw here refl
first_fault-push (y ∷ xs) x before here = fault_or-none (declared_fault y.kind y.bound y.readers) (first_fault xs)
    (first_fault (xs ++ x ∷ [])) before (λ e. first_fault-push xs x e here)

-- channels that were read can be made, and so can one more
pub decls_made : (xs : List Decl) (chan : ℕ) (tree : Data) (x : Decl) → first_fault xs ≡ None → Ok x ≡ decl_in chan tree
    → first_fault (xs ++ x ∷ []) ≡ None
decls_made xs chan tree x before h = first_fault-push xs x before (fine_at chan (declared_in tree) x h)

-- one more channel was read
pub decls_more : (vs : List Value) (i : ℕ) (v : Value) (xs : List Decl) (x : Decl)
    (whole : Result (List Decl) ScriptFault) → i < length vs → v ≡ slice_index_or vs i v
    → whole ≡ onto xs (decls_in i (map view (drop i vs))) → Ok x ≡ decl_in i (view v)
    → whole ≡ onto (xs ++ x ∷ []) (decls_in (i + 1) (map view (drop (i + 1) vs)))
decls_more vs i v xs x whole lt is h one =
    read_more (λ l. decls_in i (map view l)) (λ l. decls_in (i + 1) (map view l)) vs i v xs x whole lt is h
    (λ rest. rw (← one, add-one) refl)

-- one more channel has a fault
pub decls_fault : (vs : List Value) (i : ℕ) (v : Value) (xs : List Decl) (e : ScriptFault)
    (whole : Result (List Decl) ScriptFault) → i < length vs → v ≡ slice_index_or vs i v
    → whole ≡ onto xs (decls_in i (map view (drop i vs))) → Err e ≡ decl_in i (view v) → whole ≡ Err e
decls_fault vs i v xs e whole lt is h one =
    read_fault (λ l. decls_in i (map view l)) vs i v xs e whole lt is h
    (λ rest. ap (λ d. collected d (decls_in (suc i) (map view rest))) (sym one))

-- no more channels are left
pub decls_all : (vs : List Value) (i : ℕ) (xs : List Decl) (whole : Result (List Decl) ScriptFault) → length vs ≤ i
    → whole ≡ onto xs (decls_in i (map view (drop i vs)))
    → whole ≡ Ok xs
decls_all vs i xs whole past h = read_all (λ l. decls_in i (map view l)) vs i xs whole past h refl

-- one more transaction was read
pub transactions_more : (kinds : List Kind) (seat : ℕ) (vs : List Value) (i : ℕ) (v : Value) (xs : List CheckedView)
    (x : CheckedView) (whole : Result (List CheckedView) ScriptFault) → i < length vs → v ≡ slice_index_or vs i v
    → whole ≡ onto xs (transactions_in kinds seat i (map view (drop i vs)))
    → transaction_in kinds seat i (view v) ≡ Ok x
    → whole ≡ onto (xs ++ x ∷ []) (transactions_in kinds seat (i + 1) (map view (drop (i + 1) vs)))
transactions_more kinds seat vs i v xs x whole lt is h one =
    read_more (λ l. transactions_in kinds seat i (map view l)) (λ l. transactions_in kinds seat (i + 1) (map view l)) vs
    i v xs x whole lt is h
    (λ rest. rw (one, add-one) refl)

-- one more transaction has a fault
pub transactions_fault : (kinds : List Kind) (seat : ℕ) (vs : List Value) (i : ℕ) (v : Value) (xs : List CheckedView)
    (e : ScriptFault) (whole : Result (List CheckedView) ScriptFault)
    → i < length vs → v ≡ slice_index_or vs i v → whole ≡ onto xs (transactions_in kinds seat i (map view (drop i vs)))
    → transaction_in kinds seat i (view v) ≡ Err e → whole ≡ Err e
transactions_fault kinds seat vs i v xs e whole lt is h one =
    read_fault (λ l. transactions_in kinds seat i (map view l)) vs i v xs e whole lt is h
    (λ rest. ap (λ p. collected p (transactions_in kinds seat (suc i) (map view rest))) one)

-- no more transactions are left
pub transactions_all : (kinds : List Kind) (seat : ℕ) (vs : List Value) (i : ℕ) (xs : List CheckedView)
    (whole : Result (List CheckedView) ScriptFault) → length vs ≤ i
    → whole ≡ onto xs (transactions_in kinds seat i (map view (drop i vs))) → whole ≡ Ok xs
transactions_all kinds seat vs i xs whole past h = read_all (λ l. transactions_in kinds seat i (map view l)) vs i xs
    whole past h refl

-- one more seat was read
pub seats_more : (kinds : List Kind) (vs : List Value) (i : ℕ) (v : Value) (xs : List (List CheckedView))
    (x : List CheckedView)
    (whole : Result (List (List CheckedView)) ScriptFault) → i < length vs → v ≡ slice_index_or vs i v
    → whole ≡ onto xs (seats_in kinds i (map view (drop i vs))) → seat_in kinds i (view v) ≡ Ok x
    → whole ≡ onto (xs ++ x ∷ []) (seats_in kinds (i + 1) (map view (drop (i + 1) vs)))
seats_more kinds vs i v xs x whole lt is h one =
    read_more (λ l. seats_in kinds i (map view l)) (λ l. seats_in kinds (i + 1) (map view l)) vs i v xs x whole lt is h
    (λ rest. rw (one, add-one) refl)

-- one more seat has a fault
pub seats_fault : (kinds : List Kind) (vs : List Value) (i : ℕ) (v : Value) (xs : List (List CheckedView))
    (e : ScriptFault)
    (whole : Result (List (List CheckedView)) ScriptFault) → i < length vs
    → v ≡ slice_index_or vs i v → whole ≡ onto xs (seats_in kinds i (map view (drop i vs)))
    → seat_in kinds i (view v) ≡ Err e → whole ≡ Err e
seats_fault kinds vs i v xs e whole lt is h one =
    read_fault (λ l. seats_in kinds i (map view l)) vs i v xs e whole lt is h
    (λ rest. ap (λ s. collected s (seats_in kinds (suc i) (map view rest))) one)

-- no more seats are left
pub seats_all : (kinds : List Kind) (vs : List Value) (i : ℕ) (xs : List (List CheckedView))
    (whole : Result (List (List CheckedView)) ScriptFault) → length vs ≤ i
    → whole ≡ onto xs (seats_in kinds i (map view (drop i vs))) → whole ≡ Ok xs
seats_all kinds vs i xs whole past h = read_all (λ l. seats_in kinds i (map view l)) vs i xs whole past h refl
