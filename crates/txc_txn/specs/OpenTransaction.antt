-- What an open transaction and its savepoints must undo.
use Rattle.std.specs.Prelude.{ℕ, List, ◌++◌, length, drop, ◌≤◌}
use Rattle.txc_txn.specs.declared.open_transaction.OpenTransaction.{OpenTransaction}
use Rattle.txc_txn.specs.Growth.{IsMarked}
use Rattle.txc_txn.specs.Maps.{Map}

-- the marks of a savepoint, and for channels touched later the marks of the transaction's beginning
abbrev pub marks_since : List ℕ → List ℕ → List ℕ
marks_since saved marks = saved ++ drop (length saved) marks

-- only touched channels have grown since this map, that of a savepoint with these marks, or else the first map
abbrev pub IsMarkedSince : List ℕ → OpenTransaction → Map → Map → Type 0
IsMarkedSince saved txn before now = (length saved ≤ length txn.marks.items)
    × IsMarked txn.tag txn.touched.items (marks_since saved txn.marks.items) before now
