-- How the counts of a log go with the list of a queue.
use Rattle.std.proofs.Common.{◌≡◌, refl, ap, ◌+◌, cond, List, [], ◌∷◌, length, length-append, arith}
use Rattle.txc_base.specs.declared.act.Act.{Act}
use Rattle.txc_base.specs.declared.act.Act.TheVariants.{Wrote, Took, PutBack, Closed, Begun, Cloned}
use Rattle.txc_base.specs.declared.entry.Entry.{Entry}
use Rattle.txc_base.specs.declared.item.Item.{Item}
use Rattle.txc_base.specs.Counts.{is_put, is_took, is_other, put, took, other, IsCounted}
use Rattle.txc_base.specs.InOrder.{written, written_by}
use Rattle.txc_base.specs.Next.{returned, returned_by}
use Rattle.txc_base_laws.proofs.QueueLaw.{Moves, in_queues}
use Rattle.txc_base_laws.proofs.Words.{written_push, returned_push, count_push, count_cons}
use Rattle.txc_base_laws.specs.Laws.{InQueues}

-- what an act adds to both sides
balance : (log : List Entry) (act : Act) (list list' : List Item) → Moves log act list list'
    → cond (is_took act) 1 0 + length list' ≡ length list + cond (is_put act) 1 0
balance log (Wrote item) list list' h = omega (arith, ap length h.1, length-append list (item ∷ []))
balance log (Took reader item) list list' h = omega (arith, ap length h.1)
balance log (PutBack reader item) list list' h = omega (arith, ap length h.1.1)
balance log Closed list list' h = omega (arith, ap length h)
balance log (Begun reader) list list' h = absurd h
balance log (Cloned source reader) list list' h = absurd h

-- the law
pub counts : InQueues IsCounted
counts = in_queues IsCounted refl
    (λ log entry list list' counted moved.
    omega (
      arith,
      counted,
      balance log entry.act list list' moved,
      count_push is_took log entry,
      count_push is_put log entry,
    ))

-- each entry is of one of the three sorts
one_sort : (act : Act) → cond (is_put act) 1 0 + cond (is_took act) 1 0 + cond (is_other act) 1 0 ≡ 1
one_sort (Wrote item) = refl
one_sort (Took reader item) = refl
one_sort (PutBack reader item) = refl
one_sort Closed = refl
one_sort (Begun reader) = refl
one_sort (Cloned source reader) = refl

-- the three counts are the length
pub sorts : (log : List Entry) → put log + took log + other log ≡ length log
sorts [] = refl
sorts (entry ∷ log) =
    let p : put (entry ∷ log) ≡ cond (is_put entry.act) 1 0 + put log = count_cons is_put entry log in
    let t : took (entry ∷ log) ≡ cond (is_took entry.act) 1 0 + took log = count_cons is_took entry log in
    let o : other (entry ∷ log) ≡ cond (is_other entry.act) 1 0 + other log = count_cons is_other entry log in
    omega (arith, one_sort entry.act, sorts log)

-- what a queue is given is written or put back to its one reader
given : (log : List Entry) (act : Act) (list list' : List Item) → Moves log act list list'
    → length (written_by act) + length (returned_by 0 act) ≡ cond (is_put act) 1 0
given log (Wrote item) list list' h = refl
given log (Took reader item) list list' h = refl
given log (PutBack reader item) list list' h = ap (λ r. 0 + length (returned_by 0 (PutBack r item))) h.0
given log Closed list list' h = refl
given log (Begun reader) list list' h = absurd h
given log (Cloned source reader) list list' h = absurd h

-- all that was written or put back, in a queue
pub returns : InQueues (λ log list. length (written log) + length (returned 0 log) ≡ put log)
returns = in_queues (λ log list. length (written log) + length (returned 0 log) ≡ put log) refl
    (λ log entry list list' so_far moved.
    omega (
      arith,
      so_far,
      given log entry.act list list' moved,
      count_push is_put log entry,
      ap length (written_push log entry),
      length-append (written log) (written_by entry.act),
      ap length (returned_push 0 log entry),
      length-append (returned 0 log) (returned_by 0 entry.act),
    ))
