-- A script from its parts: what each of its functions answers, by what the next answers.
use Rattle.std.proofs.Common.{◌≡◌, refl, sym, ◌∙◌, ap, ℕ, ◌==◌, ◌≤◌, false, nat_eq, nat_lt, List, map, length, codes}
use Rattle.std.proofs.Common.{Some, None, Ok, Err, if◌then◌else◌, slice_get, All, arith}
use Rattle.std.proofs.lemmas.Bool.Decides.{nat_tests}
use Rattle.std.proofs.lemmas.List.{length-map}
use Rattle.serde_json.specs.Data.{Data}
use Rattle.serde_json.specs.View.{view}
use Rattle.serde_json.specs.declared.value.Value.{Value}
use Rattle.txc_base.specs.declared.kind.Kind.{Kind}
use Rattle.txc_chan.specs.declared.decl.Decl.{Decl}
use Rattle.txc_txn_check.specs.Limits.{CheckedView}
use Rattle.txc_chan.specs.Limits.{first_fault}
use Rattle.txc_txn_check.specs.Steps.{Fits}
use Rattle.txc_chan.specs.Decls.{kinds_in}
use Rattle.txc_cmd_script.specs.Script.{IsSound, max_channels, max_seats}
use Rattle.txc_cmd_script.specs.Steps.{mapped}
use Rattle.txc_cmd_script.specs.Tree.{key_count, whole_at, listed_at}
use Rattle.txc_cmd_script.specs.declared.fault.ScriptFault.{ScriptFault}
use Rattle.txc_cmd_script.specs.declared.fault.ScriptFault.TheVariants.{Version}
use Rattle.txc_cmd_script.specs.Reading.{decls_in, seats_in, with_seats, script_from, with_three_keys, with_version}
use Rattle.txc_cmd_script.specs.Reading.{script_of}

-- seats within the limits, on channels that were read
with_seats-seated : (vs : List Value) (decls : List Decl) → (length vs == 0) ≡ false → length vs ≤ max_seats
    → with_seats (map view vs) decls ≡ mapped (λ plans. record { decls = decls; seats = plans })
    (seats_in (kinds_in decls) 0 (map view vs))
with_seats-seated vs decls some few =
    let same : length (map view vs) ≡ length vs = length-map vs view in
    let none : nat_eq (length (map view vs)) 0 ≡ false = ap (λ n. nat_eq n 0) same ∙ some in
    let within : nat_lt max_seats (length vs) ≡ false = grind (arith, nat_tests) in
    rw (none, same, within) refl

pub with_seats-ok : (vs : List Value) (decls : List Decl) (kinds : List Kind) (plans : List (List CheckedView))
    → (length vs == 0) ≡ false → length vs ≤ max_seats → kinds ≡ kinds_in decls
    → seats_in kinds 0 (map view vs) ≡ Ok plans
    → with_seats (map view vs) decls ≡ Ok (record { decls = decls; seats = plans })
with_seats-ok vs decls kinds plans some few are read =
    with_seats-seated vs decls some few
    ∙ ap (mapped (λ seats. record { decls = decls; seats = seats })) (ap (λ k. seats_in k 0 (map view vs)) (sym are)
    ∙ read)

pub with_seats-err : (vs : List Value) (decls : List Decl) (kinds : List Kind) (e : ScriptFault)
    → (length vs == 0) ≡ false → length vs ≤ max_seats → kinds ≡ kinds_in decls
    → seats_in kinds 0 (map view vs) ≡ Err e → with_seats (map view vs) decls ≡ Err e
with_seats-err vs decls kinds e some few are read =
    with_seats-seated vs decls some few
    ∙ ap (mapped (λ seats. record { decls = decls; seats = seats })) (ap (λ k. seats_in k 0 (map view vs)) (sym are)
    ∙ read)

-- such a script is sound
pub sound : (decls : List Decl) (kinds : List Kind) (seats : List (List CheckedView)) (n : ℕ)
    → length decls ≤ max_channels
    → first_fault decls ≡ None → (n == 0) ≡ false → n ≤ max_seats
    → length seats ≡ n → kinds ≡ kinds_in decls → All (All (λ plan. Fits (slice_get kinds) plan.steps)) seats
    → IsSound (record { decls = decls; seats = seats })
sound decls kinds seats n few made some within all are fit = record {
  few = few;
  made = made;
  some = grind (arith, nat_tests);
  seated = rw all within;
  fits = rw are at fit;
}

-- channels within the limits, all of which were read
pub script_from-read : (vs : List Value) (seats : List Data) (decls : List Decl) → length vs ≤ max_channels
    → decls_in 0 (map view vs) ≡ Ok decls
    → script_from (map view vs) seats ≡ with_seats seats decls
script_from-read vs seats decls few read =
    let within : nat_lt max_channels (length vs) ≡ false = grind (arith, nat_tests) in
    rw (length-map vs view, within, read) refl

pub script_from-err : (vs : List Value) (seats : List Data) (e : ScriptFault) → length vs ≤ max_channels
    → decls_in 0 (map view vs) ≡ Err e → script_from (map view vs) seats ≡ Err e
script_from-err vs seats e few read =
    let within : nat_lt max_channels (length vs) ≡ false = grind (arith, nat_tests) in
    rw (length-map vs view, within, read) refl

-- a tree of three keys whose channels and seats are these lists
pub with_three_keys-lists : (tree : Data) (channels seats cs ss : List Value) → key_count tree ≡ 3
    → Some (map view channels) ≡ listed_at (codes "channels") tree
    → Some (map view seats) ≡ listed_at (codes "seats") tree → cs ≡ channels → ss ≡ seats
    → with_three_keys tree ≡ script_from (map view cs) (map view ss)
with_three_keys-lists tree channels seats cs ss three chans sats c s =
    rw three (rw (← chans, ← sats, c, s) refl)

-- a tree of the first version
pub script_of-first : (tree : Data) (n : ℕ) → Some n ≡ whole_at (codes "version") tree → n ≡ 1
    → script_of tree ≡ with_three_keys tree
script_of-first tree n found first = ap (with_version tree) (sym found) ∙ ap (λ m. with_version tree (Some m)) first

-- a tree of another version
pub script_of-other : (tree : Data) (n : ℕ) → Some n ≡ whole_at (codes "version") tree → (n ≡ 1 → ⊥)
    → script_of tree ≡ Err Version
script_of-other tree n found other =
    let no : (n == 1) ≡ false = grind (arith, nat_tests) in
    ap (with_version tree) (sym found) ∙ ap (λ b. if b then with_three_keys tree else Err Version) no
