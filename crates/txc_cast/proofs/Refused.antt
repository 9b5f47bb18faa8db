-- What a refused call answers.
use Rattle.std.proofs.Common.{◌≡◌, sym, ◌∙◌, ap, ℕ, ◌<◌, ◌≤◌, Bool, true, false, if◌then◌else◌, List, [], length, map}
use Rattle.std.proofs.Common.{replicate, arith, Option, Some, None, Result, Ok, Err}
use Rattle.std.specs.Prelude.{nat_lt, IsErr, IsErrAnd, IfOk, OnErr}
use Rattle.std.proofs.lemmas.Bool.{lt-ltb, le-ltb, le-leb}
use Rattle.std.proofs.lemmas.List.{length-map, length-replicate}
use Rattle.boxcar.specs.Table.{Shelves, Where}
use Rattle.txc_base.specs.declared.item.Item.{Item}
use Rattle.txc_base.specs.declared.limits.TheConstants.{MAX_READERS}
use Rattle.txc_cast.specs.Reader.{fresh}
use Rattle.txc_cast.specs.declared.fault.CastFault.{CastFault}
use Rattle.txc_cast.specs.declared.fault.CastFault.TheVariants.{NoReader, TooManyReaders, NoMemory}
use Rattle.txc_cast.specs.Fault.{named, refused}
use Rattle.txc_cast.specs.Standing.{ReaderState, reader_standing}
use Rattle.txc_cast.specs.Broadcast.{Broadcast, unwritten, reader_refusal, place_refusal, clone_refusal}
use Rattle.txc_cast.specs.Broadcast.{opening_refusal}
use Rattle.txc_cast.specs.Kept.{broadcast, items_shown}

-- an error for want of memory names no other
pub no_memory : {A : Type 0} (result : Result A CastFault) → IsErr result → IsErrAnd result (λ fault. fault ≡ NoMemory)
    → refused result ≡ None
no_memory (Ok answer) is why = cc
no_memory (Err fault) is why = ap named why

-- an error answers nothing
pub not_ok : {A : Type 0} (P : A → Type 0) (result : Result A CastFault) → IsErr result → IfOk result P
not_ok P (Ok answer) is = absurd (let bad : ⊥ = cc in bad)
not_ok P (Err fault) is = tt

pub on_err : {A X : Type 0} (result : Result A CastFault) → X → OnErr result X
on_err (Ok answer) holds = tt
on_err (Err fault) holds = holds

-- whether there is a reader with a number
pub is_reader : (shelf : Shelves) (tokens : List (Where Item)) (standings : List ReaderState) (cast : Broadcast) (n : ℕ)
    → broadcast shelf tokens standings ≡ cast
    → n < length standings → nat_lt n (length cast.readers) ≡ true
is_reader shelf tokens standings cast n viewed within =
    ap (λ (b : Broadcast). nat_lt n (length b.readers)) (sym viewed)
    ∙ lt-ltb n (length (map (reader_standing (items_shown tokens)) standings))
    (let many = length-map standings (reader_standing (items_shown tokens)) in omega arith)

pub is_no_reader : (shelf : Shelves) (tokens : List (Where Item)) (standings : List ReaderState) (cast : Broadcast)
    (n : ℕ) → broadcast shelf tokens standings ≡ cast
    → length standings ≤ n → nat_lt n (length cast.readers) ≡ false
is_no_reader shelf tokens standings cast n viewed past =
    ap (λ (b : Broadcast). nat_lt n (length b.readers)) (sym viewed)
    ∙ le-ltb n (length (map (reader_standing (items_shown tokens)) standings))
    (let many = length-map standings (reader_standing (items_shown tokens)) in omega arith)

pub none_to_clone : (cast : Broadcast) (n : ℕ) → nat_lt n (length cast.readers) ≡ false
    → Some NoReader ≡ clone_refusal cast n
none_to_clone cast n none = sym (ap (λ (b : Bool). if b then place_refusal cast else Some NoReader) none)

pub none_to_read : (cast : Broadcast) (n : ℕ) → nat_lt n (length cast.readers) ≡ false
    → Some NoReader ≡ reader_refusal cast n
none_to_read cast n none = sym (ap (λ (b : Bool). if b then None else Some NoReader) none)

pub can_clone : (cast : Broadcast) (n : ℕ) (refusal : Option CastFault) → nat_lt n (length cast.readers) ≡ true
    → refusal ≡ place_refusal cast → refusal ≡ clone_refusal cast n
can_clone cast n refusal some is = is ∙ sym (ap (λ (b : Bool). if b then place_refusal cast else Some NoReader) some)

pub can_read : (cast : Broadcast) (n : ℕ) → nat_lt n (length cast.readers) ≡ true → None ≡ reader_refusal cast n
can_read cast n some = sym (ap (λ (b : Bool). if b then None else Some NoReader) some)

-- an error of which the fault is told
pub same_fault : {A : Type 0} (result : Result A CastFault) (fault : CastFault) → IsErr result
    → IsErrAnd result (λ other. other ≡ fault) → refused result ≡ named fault
same_fault (Ok answer) fault is why = absurd (let bad : ⊥ = cc in bad)
same_fault (Err other) fault is why = ap named why

-- not too many to open with
pub opens : (readers : ℕ) → readers ≤ MAX_READERS → None ≡ opening_refusal readers
opens readers few = sym (ap (λ (b : Bool). if b then None else Some TooManyReaders) (le-leb readers MAX_READERS few))

-- nor for one more
pub opens_more : (readers counter : ℕ) (shelf : Shelves) (cast : Broadcast) → cast ≡ unwritten counter shelf
    → counter < readers → readers ≤ MAX_READERS
    → place_refusal cast ≡ None
opens_more readers counter shelf cast is less few =
    ap place_refusal is
    ∙ ap (λ (b : Bool). if b then None else Some TooManyReaders)
    (lt-ltb (length (replicate counter fresh)) MAX_READERS (let many = length-replicate counter fresh in omega arith))

-- with none at first
pub empty : (shelf same : Shelves) (tokens : List (Where Item)) (standings : List ReaderState) → same ≡ shelf
    → tokens ≡ [] → standings ≡ []
    → broadcast same tokens standings ≡ unwritten 0 shelf
empty shelf same tokens standings is nothing none =
    ap (λ (s : Shelves). broadcast s tokens standings) is
    ∙ ap (λ (t : List (Where Item)). broadcast shelf t standings) nothing ∙ ap (broadcast shelf []) none

-- and all at last
pub opened : (readers counter : ℕ) (shelf same : Shelves) (cast : Broadcast) → cast ≡ unwritten counter same
    → readers ≤ counter → counter ≤ readers → same ≡ shelf
    → cast ≡ unwritten readers shelf
opened readers counter shelf same cast is past within at =
    is ∙ ap (λ n. unwritten n same) (let all : counter ≡ readers = omega arith in all) ∙ ap (unwritten readers) at
