-- The script of a text, or its first fault.
use Rattle.std.specs.Prelude.{ℕ, suc, ◌==◌, ◌||◌, nat_eq, nat_lt, List, [], ◌∷◌, length, codes, Option, Some, None}
use Rattle.std.specs.Prelude.{option_and_then, option_map, Result, Ok, Err, if◌then◌else◌, slice_get}
use Rattle.serde_json.specs.Data.{Data}
use Rattle.serde_json.specs.Find.{get, as_str}
use Rattle.txc_base.specs.declared.kind.Kind.{Kind}
use Rattle.txc_base.specs.Kinds.{kind_named}
use Rattle.txc_base.specs.declared.kind.Kind.TheVariants.{Queue, Bounded, Cast, MQueue, BMQueue, MCast}
use Rattle.txc_chan.specs.declared.decl.Decl.{Decl}
use Rattle.txc_chan.specs.declared.fault.ChanFault.{ChanFault}
use Rattle.txc_chan.specs.declared.fault.ChanFault.TheVariants as chan_fault
use Rattle.txc_chan.specs.Limits.{declared_fault}
use Rattle.txc_txn_check.specs.declared.step.Step.{Step}
use Rattle.txc_txn_check.specs.Limits.{CheckedView}
use Rattle.txc_txn_check.specs.Walk.{Walked, Fine, Faulty, walk}
use Rattle.txc_cmd_script.specs.declared.fault.ScriptFault.{ScriptFault}
use Rattle.txc_cmd_script.specs.declared.fault.ScriptFault.TheVariants.{TooLarge, NotJson, Shape, Version}
use Rattle.txc_cmd_script.specs.declared.fault.ScriptFault.TheVariants.{TooManyChannels}
use Rattle.txc_cmd_script.specs.declared.fault.ScriptFault.TheVariants.{BadSeatCount, BoundTooLarge, TooManyReaders}
use Rattle.txc_cmd_script.specs.declared.fault.ScriptFault.TheVariants.{UnknownOp, Txn, NoMemory}
use Rattle.txc_cmd_script.specs.declared.read.TheConstants.{MAX_BYTES}
use Rattle.txc_cmd_script.specs.declared.steps.StepFault.{StepFault}
use Rattle.txc_cmd_script.specs.declared.steps.StepFault.TheVariants as step_fault
use Rattle.txc_chan.specs.Decls.{kinds_in}
use Rattle.txc_cmd_script.specs.Script.{Script, max_channels, max_seats}
use Rattle.txc_cmd_script.specs.Steps.{or_fault, mapped, then_reads, collected, steps_in_tree}
use Rattle.txc_cmd_script.specs.Tree.{tree_of, key_count, listed, whole_at, listed_at}

-- the maximum size of a script, in bytes
abbrev pub max_bytes : ℕ
max_bytes = MAX_BYTES

-- the text at a key
abbrev pub text_at : List ℕ → Data → Option (List ℕ)
text_at key tree = option_and_then as_str (get key tree)

-- a channel that has only its kind as a key
abbrev pub plain_decl : Kind → Data → Option Decl
plain_decl kind tree = if key_count tree == 1 then Some (record { kind = kind; bound = 0; readers = 1 }) else None

-- a channel that has two keys, one of them its bound
abbrev pub bounded_decl : Kind → Data → Option Decl
bounded_decl kind tree = if key_count tree == 2
    then option_map (λ n. record { kind = kind; bound = n; readers = 1 }) (whole_at (codes "bound") tree) else None

-- a channel that has at most two keys, the second being its readers; 1 reader if they are left out
abbrev pub broadcast_decl : Kind → Data → Option Decl
broadcast_decl kind tree = if key_count tree == 2
    then option_map (λ n. record { kind = kind; bound = 0; readers = n }) (whole_at (codes "readers") tree)
    else plain_decl kind tree

-- a channel of this kind
abbrev pub decl_of : Data → Kind → Option Decl
decl_of tree Queue = plain_decl Queue tree
decl_of tree Bounded = bounded_decl Bounded tree
decl_of tree Cast = broadcast_decl Cast tree
decl_of tree MQueue = plain_decl MQueue tree
decl_of tree BMQueue = bounded_decl BMQueue tree
decl_of tree MCast = broadcast_decl MCast tree

-- a channel, without a check of its limits
abbrev pub declared_in : Data → Option Decl
declared_in tree = option_and_then (decl_of tree) (option_and_then kind_named (text_at (codes "kind") tree))

-- the fault of a channel as a fault of the script
abbrev pub channel_fault : ℕ → ChanFault → ScriptFault
channel_fault chan chan_fault.BoundTooLarge = BoundTooLarge chan
channel_fault chan chan_fault.TooManyReaders = TooManyReaders chan
channel_fault chan chan_fault.NoMemory = NoMemory

-- a channel, unless it has a fault
abbrev pub unless_faulty : ℕ → Decl → Option ChanFault → Result Decl ScriptFault
unless_faulty chan decl None = Ok decl
unless_faulty chan decl (Some fault) = Err (channel_fault chan fault)

-- the channel with this number: its shape, then its limits
abbrev pub decl_in : ℕ → Data → Result Decl ScriptFault
decl_in chan tree =
    then_reads (or_fault Shape (declared_in tree))
    (λ decl. unless_faulty chan decl (declared_fault decl.kind decl.bound decl.readers))

-- the channels, from this number on
abbrev pub decls_in : ℕ → List Data → Result (List Decl) ScriptFault
decls_in chan [] = Ok []
decls_in chan (tree ∷ trees) = collected (decl_in chan tree) (decls_in (suc chan) trees)

-- why steps are not read, as a fault of this transaction of this seat
abbrev pub step_fault_in : ℕ → ℕ → StepFault → ScriptFault
step_fault_in seat txn step_fault.Shape = Shape
step_fault_in seat txn step_fault.UnknownOp = UnknownOp seat txn
step_fault_in seat txn step_fault.NoMemory = NoMemory

-- what was read, or the fault of this transaction of this seat
abbrev pub or_step_fault : {X : Type 0} → ℕ → ℕ → Result X StepFault → Result X ScriptFault
or_step_fault seat txn (Ok x) = Ok x
or_step_fault seat txn (Err why) = Err (step_fault_in seat txn why)

-- steps after the walk over them, with the channels that they name
abbrev pub checked_as : ℕ → ℕ → List Step → Walked → Result CheckedView ScriptFault
checked_as seat txn steps (Fine tally) = Ok (record { steps = steps; declared = tally.channels })
checked_as seat txn steps (Faulty fault) = Err (Txn seat txn fault)

-- a transaction on channels of these kinds: all its steps are read first, and then checked
abbrev pub transaction_in : List Kind → ℕ → ℕ → Data → Result CheckedView ScriptFault
transaction_in kinds seat txn tree =
    then_reads (or_step_fault seat txn (steps_in_tree tree))
    (λ steps. checked_as seat txn steps (walk (slice_get kinds) steps))

-- the transactions of a seat, from this number on
abbrev pub transactions_in : List Kind → ℕ → ℕ → List Data → Result (List CheckedView) ScriptFault
transactions_in kinds seat txn [] = Ok []
transactions_in kinds seat txn (tree ∷ trees) =
    collected (transaction_in kinds seat txn tree) (transactions_in kinds seat (suc txn) trees)

-- a seat: a list of transactions
abbrev pub seat_in : List Kind → ℕ → Data → Result (List CheckedView) ScriptFault
seat_in kinds seat tree = then_reads (or_fault Shape (listed tree)) (transactions_in kinds seat 0)

-- the seats, from this number on
abbrev pub seats_in : List Kind → ℕ → List Data → Result (List (List CheckedView)) ScriptFault
seats_in kinds seat [] = Ok []
seats_in kinds seat (tree ∷ trees) = collected (seat_in kinds seat tree) (seats_in kinds (suc seat) trees)

-- seats on channels that were read: the number of seats is tested first
abbrev pub with_seats : List Data → List Decl → Result Script ScriptFault
with_seats seats decls = if nat_eq (length seats) 0 || nat_lt max_seats (length seats) then Err BadSeatCount
    else mapped (λ plans. record { decls = decls; seats = plans }) (seats_in (kinds_in decls) 0 seats)

-- channels and seats
abbrev pub script_from : List Data → List Data → Result Script ScriptFault
script_from channels seats = if nat_lt max_channels (length channels) then Err TooManyChannels
    else then_reads (decls_in 0 channels) (with_seats seats)

-- a script of these two lists, if both are lists
abbrev pub with_lists : Option (List Data) → Option (List Data) → Result Script ScriptFault
with_lists (Some channels) (Some seats) = script_from channels seats
with_lists channels seats = Err Shape

-- the keys are the version, the channels and the seats, and the last two are lists
abbrev pub with_three_keys : Data → Result Script ScriptFault
with_three_keys tree = if key_count tree == 3
    then with_lists (listed_at (codes "channels") tree) (listed_at (codes "seats") tree) else Err Shape

-- a script of this version, if it is a whole number and the known one
abbrev pub with_version : Data → Option ℕ → Result Script ScriptFault
with_version tree None = Err Shape
with_version tree (Some version) = if version == 1 then with_three_keys tree else Err Version

-- the script of a tree, or the first fault
abbrev pub script_of : Data → Result Script ScriptFault
script_of tree = with_version tree (whole_at (codes "version") tree)

-- the script of a tree, if the text has a tree
abbrev pub script_of_tree : Option Data → Result Script ScriptFault
script_of_tree None = Err NotJson
script_of_tree (Some tree) = script_of tree

-- the script of a text, or the first fault
unfoldable pub script_in : List ℕ → Result Script ScriptFault
script_in bytes = if nat_lt max_bytes (length bytes) then Err TooLarge else script_of_tree (tree_of bytes)
