-- A queue has one list, and what each act does to it.
use Rattle.std.proofs.Common.{◌≡◌, refl, sym, ◌∙◌, ap, ℕ, zero, suc, ◌+◌, true, false, Some, List, [], ◌∷◌, ◌++◌}
use Rattle.std.proofs.Common.{length, map, set, replicate, slice_get, if◌then◌else◌, length-append, arith}
use Rattle.std.proofs.lemmas.Bool.{both_ways}
use Rattle.std.proofs.lemmas.Option.{same_Some}
use Rattle.txc_base.specs.declared.act.Act.{Act}
use Rattle.txc_base.specs.declared.act.Act.TheVariants.{Wrote, Took, PutBack, Closed, Begun, Cloned}
use Rattle.txc_base.specs.declared.entry.Entry.{Entry}
use Rattle.txc_base.specs.declared.item.Item.{Item}
use Rattle.txc_base.specs.declared.kind.Kind.{Kind}
use Rattle.txc_base.specs.declared.origin.Origin.TheVariants.{Written, Back}
use Rattle.txc_base.specs.Channel.{Channel, opening}
use Rattle.txc_base.specs.InOrder.{written, written_by}
use Rattle.txc_base.specs.Kinds.{is_broadcast}
use Rattle.txc_base.specs.Next.{returned, returned_by}
use Rattle.txc_base.specs.Operation.{with_written, with_left, with_back}
use Rattle.txc_base_laws.proofs.Acts.{Leads}
use Rattle.txc_base_laws.proofs.Truth.{always}
use Rattle.txc_base_laws.proofs.Words.{written_push, returned_push}
use Rattle.txc_base_laws.specs.Laws.{InQueues}

-- a queue after a log, with its one list
pub record Queue (log : List Entry) (c : Channel) (list : List Item) : Type 0 where
  pub kind : is_broadcast c.kind ≡ false
  pub lists : c.lists ≡ list ∷ []
  pub written : c.written ≡ length (written log)
  pub backs : c.backs ≡ length (returned 0 log)

-- what an act does to the list of a queue, after this log
abbrev pub Moves : List Entry → Act → List Item → List Item → Type 0
Moves log (Wrote item) list list' = (item.origin ≡ Written (length (written log))) × (list' ≡ list ++ item ∷ [])
Moves log (Took reader item) list list' = (reader ≡ 0) × (list ≡ item ∷ list')
Moves log (PutBack reader item) list list' = (reader ≡ 0)
    × ((item.origin ≡ Back (length (returned 0 log))) × (list' ≡ item ∷ list))
Moves log Closed list list' = list' ≡ list
Moves log (Begun reader) list list' = ⊥
Moves log (Cloned source reader) list list' = ⊥

-- the reader of a queue is the first, and has the one list
only : (lists : List (List Item)) (list other : List Item) (reader : ℕ) → lists ≡ list ∷ []
    → slice_get lists reader ≡ Some other → (reader ≡ 0) × (list ≡ other)
only lists list other zero is e = (refl, same_Some list other (ap (λ l. slice_get l zero) (sym is) ∙ e))
only lists list other (suc reader) is e = let none = ap (λ l. slice_get l (suc reader)) is in cc

-- what a log and one more entry have written
written_by_one : (log : List Entry) (entry : Entry) (n m : ℕ) → n ≡ length (written log)
    → m ≡ n + length (written_by entry.act)
    → m ≡ length (written (log ++ entry ∷ []))
written_by_one log entry n m e h =
    omega (arith, ap length (written_push log entry), length-append (written log) (written_by entry.act))

-- .. and what was put back
returned_by_one : (log : List Entry) (entry : Entry) (n m : ℕ) → n ≡ length (returned 0 log)
    → m ≡ n + length (returned_by 0 entry.act)
    → m ≡ length (returned 0 (log ++ entry ∷ []))
returned_by_one log entry n m e h =
    omega (arith, ap length (returned_push 0 log entry), length-append (returned 0 log) (returned_by 0 entry.act))

-- a queue after one more entry, from what the entry changed
next_queue : (log : List Entry) (entry : Entry) (c b c' : Channel) (list list' : List Item) → Queue log c list → c' ≡ b
    → b.kind ≡ c.kind → b.lists ≡ list' ∷ [] → b.written ≡ c.written + length (written_by entry.act)
    → b.backs ≡ c.backs + length (returned_by 0 entry.act)
    → Queue (log ++ entry ∷ []) c' list'
next_queue log entry c b c' list list' q is kind lists w r = record {
  kind = ap (λ (x : Channel). is_broadcast x.kind) is ∙ ap is_broadcast kind ∙ q.kind;
  lists = ap (λ (x : Channel). x.lists) is ∙ lists;
  written = ap (λ (x : Channel). x.written) is ∙ written_by_one log entry c.written b.written q.written w;
  backs = ap (λ (x : Channel). x.backs) is ∙ returned_by_one log entry c.backs b.backs q.backs r;
}

-- nothing was added
added_none : (n : ℕ) (items : List Item) → items ≡ [] → n ≡ n + length items
added_none n items e = omega (arith, ap length e)

-- one more entry on a queue
queue_entry : (log : List Entry) (entry : Entry) (act : Act) (c c' : Channel) (list : List Item) → entry.act ≡ act
    → Queue log c list → Leads c entry.tag.seat act c'
    → (list' : List Item) × (Queue (log ++ entry ∷ []) c' list' × Moves log act list list')
queue_entry log entry (Wrote item) c c' list is q h = (
  list ++ item ∷ [],
  (
    next_queue log entry c (with_written c item) c' list (list ++ item ∷ []) q h.1.1.1 refl
        (ap (map (λ (l : List Item). l ++ item ∷ [])) q.lists) (ap (λ a. c.written + length (written_by a)) (sym is))
        (added_none c.backs (returned_by 0 entry.act) (ap (returned_by 0) is)),
    (ap (λ (x : Item). x.origin) h.1.1.0 ∙ ap Written q.written, refl),
  ),
)
queue_entry log entry (Took reader item) c c' list is q h =
    let o = only c.lists list (item ∷ h.0) reader q.lists h.1.0 in (
      h.0,
      (
        next_queue log entry c (with_left c reader h.0) c' list h.0 q h.1.1 refl
            (ap (λ r. set c.lists r h.0) o.0 ∙ ap (λ l. set l 0 h.0) q.lists)
            (added_none c.written (written_by entry.act) (ap written_by is))
            (added_none c.backs (returned_by 0 entry.act) (ap (returned_by 0) is)),
        (o.0, o.1),
      ),
    )
queue_entry log entry (PutBack reader item) c c' list is q h =
    let o = only c.lists list h.0 reader q.lists h.1.0 in
    let made : item ∷ h.0 ≡ item ∷ list = ap (λ l. item ∷ l) (sym o.1) in (
      item ∷ list,
      (
        next_queue log entry c (with_back c reader h.0 item) c' list (item ∷ list) q h.1.1.1.1.1 refl
            (ap (λ r. set c.lists r (item ∷ h.0)) o.0 ∙ ap (λ l. set l 0 (item ∷ h.0)) q.lists ∙ ap (λ l. l ∷ []) made)
            (added_none c.written (written_by entry.act) (ap written_by is))
            (ap (λ r. c.backs + length (returned_by 0 (PutBack r item))) (sym o.0)
            ∙ ap (λ a. c.backs + length (returned_by 0 a)) (sym is)),
        (o.0, (ap (λ (x : Item). x.origin) h.1.1.1.1.0 ∙ ap Back q.backs, refl)),
      ),
    )
queue_entry log entry Closed c c' list is q h = (
  list,
  (
    next_queue log entry c (record c { closed = true }) c' list list q h.1.1 refl q.lists
        (added_none c.written (written_by entry.act) (ap written_by is))
        (added_none c.backs (returned_by 0 entry.act) (ap (returned_by 0) is)),
    refl,
  ),
)
queue_entry log entry (Begun reader) c c' list is q h = absurd (both_ways (is_broadcast c.kind) q.kind h.0)
queue_entry log entry (Cloned source reader) c c' list is q h = absurd (both_ways (is_broadcast c.kind) q.kind h.1.1.0)

-- the opening of a queue
opening_queue : (kind : Kind) (bound readers : ℕ) → is_broadcast kind ≡ false → Queue [] (opening kind bound readers) []
opening_queue kind bound readers e = record {
  kind = e;
  lists = ap (λ b. replicate (if b then readers else 1) []) e;
  written = refl;
  backs = refl;
}

-- a fact of queues that holds at the opening and that each entry keeps
pub in_queues : (Q : List Entry → List Item → Type 0) → Q [] []
    → (keeps : (log : List Entry) (entry : Entry) (list list' : List Item) → Q log list → Moves log entry.act list list'
    → Q (log ++ entry ∷ []) list')
    → InQueues Q
in_queues Q first keeps kind bound readers log channel e h =
    let kept = always (λ log c. (list : List Item) × (Queue log c list × Q log list))
    (λ log c entry c' p led.
    let one = queue_entry log entry entry.act c c' p.0 refl p.1.0 led in
    (one.0, (one.1.0, keeps log entry p.0 one.0 p.1.1 one.1.1)))
    kind bound readers log channel ([], (opening_queue kind bound readers e, first)) h in
    (kept.0, (kept.1.0.lists, kept.1.1))
