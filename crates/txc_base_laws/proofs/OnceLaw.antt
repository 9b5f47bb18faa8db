-- Why each item of a queue stands once among those taken and those that remain.
use Rattle.std.proofs.Common.{◌≡◌, refl, sym, ◌∙◌, ap, subst, ℕ, ◌+◌, cond, eqb, List, [], ◌∷◌, ◌++◌, length}
use Rattle.std.proofs.Common.{length-append, append_assoc, append-nil, arith}
use Rattle.std.proofs.lemmas.Bool.Decides.{nat_tests}
use Rattle.std.proofs.lemmas.List.Sums.{sum_by-append, sum_by-cons}
use Rattle.txc_base.specs.declared.act.Act.{Act}
use Rattle.txc_base.specs.declared.act.Act.TheVariants.{Wrote, Took, PutBack, Closed, Begun, Cloned}
use Rattle.txc_base.specs.declared.entry.Entry.{Entry}
use Rattle.txc_base.specs.declared.item.Item.{Item}
use Rattle.txc_base.specs.declared.origin.Origin.{Origin}
use Rattle.txc_base.specs.declared.origin.Origin.TheVariants.{Written, Back}
use Rattle.txc_base.specs.InOrder.{written, written_by, taken, taken_by}
use Rattle.txc_base.specs.Log.{origin_eq}
use Rattle.txc_base.specs.Next.{returned, returned_by}
use Rattle.txc_base.specs.Once.{times, once_below, IsOnce}
use Rattle.txc_base_laws.proofs.QueueLaw.{Moves, in_queues}
use Rattle.txc_base_laws.proofs.Words.{written_push, taken_push, returned_push}
use Rattle.txc_base_laws.specs.Laws.{InQueues}

-- each number below its limit once, among these items
pub record Each (items : List Item) (writes backs : ℕ) : Type 0 where
  pub written : (n : ℕ) → times (Written n) items ≡ once_below writes n
  pub returned : (n : ℕ) → times (Back n) items ≡ once_below backs n

-- one more item in the midst
times_more : (origin : Origin) (xs ys : List Item) (item : Item)
    → times origin (xs ++ item ∷ ys) ≡ times origin (xs ++ ys) + cond (origin_eq item.origin origin) 1 0
times_more origin xs ys item =
    let with_it : times origin (xs ++ item ∷ ys) ≡ times origin xs + times origin (item ∷ ys) =
    sum_by-append (λ (i : Item). cond (origin_eq i.origin origin) 1 0) xs (item ∷ ys) in
    let one : times origin (item ∷ ys) ≡ cond (origin_eq item.origin origin) 1 0 + times origin ys =
    sum_by-cons (λ (i : Item). cond (origin_eq i.origin origin) 1 0) item ys in
    let without : times origin (xs ++ ys) ≡ times origin xs + times origin ys =
    sum_by-append (λ (i : Item). cond (origin_eq i.origin origin) 1 0) xs ys in
    omega arith

-- one more number below the limit
one_more : (limit n : ℕ) → once_below limit n + cond (eqb limit n) 1 0 ≡ once_below (limit + 1) n
one_more limit n = grind (arith, nat_tests)

-- an item with the next number of those written
each_written : (xs ys : List Item) (item : Item) (w b : ℕ) → Each (xs ++ ys) w b → item.origin ≡ Written w
    → Each (xs ++ item ∷ ys) (w + 1) b
each_written xs ys item w b h is = record {
  written = λ n.
      times_more (Written n) xs ys item ∙ ap (λ t. t + cond (origin_eq item.origin (Written n)) 1 0) (h.written n)
      ∙ ap (λ o. once_below w n + cond (origin_eq o (Written n)) 1 0) is ∙ one_more w n;
  returned = λ n.
      times_more (Back n) xs ys item ∙ ap (λ t. t + cond (origin_eq item.origin (Back n)) 1 0) (h.returned n)
      ∙ ap (λ o. once_below b n + cond (origin_eq o (Back n)) 1 0) is ∙ omega arith;
}

-- an item with the next number of those put back
each_returned : (xs ys : List Item) (item : Item) (w b : ℕ) → Each (xs ++ ys) w b → item.origin ≡ Back b
    → Each (xs ++ item ∷ ys) w (b + 1)
each_returned xs ys item w b h is = record {
  written = λ n.
      times_more (Written n) xs ys item ∙ ap (λ t. t + cond (origin_eq item.origin (Written n)) 1 0) (h.written n)
      ∙ ap (λ o. once_below w n + cond (origin_eq o (Written n)) 1 0) is ∙ omega arith;
  returned = λ n.
      times_more (Back n) xs ys item ∙ ap (λ t. t + cond (origin_eq item.origin (Back n)) 1 0) (h.returned n)
      ∙ ap (λ o. once_below b n + cond (origin_eq o (Back n)) 1 0) is ∙ one_more b n;
}

-- what stands among the items of a log and a list
abbrev EachOf : List Entry → List Item → Type 0
EachOf log list = Each (taken 0 log ++ list) (length (written log)) (length (returned 0 log))

-- the same by the parts of a log with one more entry
from_parts : (log : List Entry) (entry : Entry) (act : Act) (list : List Item) → entry.act ≡ act
    → Each ((taken 0 log ++ taken_by 0 act) ++ list) (length (written log) + length (written_by act))
    (length (returned 0 log) + length (returned_by 0 act))
    → EachOf (log ++ entry ∷ []) list
from_parts log entry act list is h =
    let t : taken 0 log ++ taken_by 0 act ≡ taken 0 (log ++ entry ∷ []) = ap (λ a. taken 0 log ++ taken_by 0 a) (sym is)
    ∙ sym (taken_push 0 log entry) in
    let w : length (written log) + length (written_by act) ≡ length (written (log ++ entry ∷ [])) =
    sym (length-append (written log) (written_by act)) ∙ ap (λ a. length (written log ++ written_by a)) (sym is)
    ∙ ap length (sym (written_push log entry)) in
    let r : length (returned 0 log) + length (returned_by 0 act) ≡ length (returned 0 (log ++ entry ∷ [])) =
    sym (length-append (returned 0 log) (returned_by 0 act))
    ∙ ap (λ a. length (returned 0 log ++ returned_by 0 a)) (sym is) ∙ ap length (sym (returned_push 0 log entry)) in
    subst (λ x. Each (taken 0 (log ++ entry ∷ []) ++ list) (length (written (log ++ entry ∷ []))) x) r
    (subst (λ x. Each (taken 0 (log ++ entry ∷ []) ++ list) x (length (returned 0 log) + length (returned_by 0 act))) w
    (subst (λ x. Each (x ++ list) (length (written log) + length (written_by act))
    (length (returned 0 log) + length (returned_by 0 act))) t h))

-- at equal items and limits
each_at : (xs ys : List Item) (w w' b b' : ℕ) → xs ≡ ys → w ≡ w' → b ≡ b' → Each xs w b → Each ys w' b'
each_at xs ys w w' b b' is writes backs h =
    subst (λ x. Each ys w' x) backs (subst (λ x. Each ys x b) writes (subst (λ x. Each x w b) is h))

-- one more entry
each_entry : (log : List Entry) (entry : Entry) (act : Act) (list list' : List Item) → entry.act ≡ act → EachOf log list
    → Moves log act list list' → EachOf (log ++ entry ∷ []) list'
each_entry log entry (Wrote item) list list' is h moved =
    from_parts log entry (Wrote item) list' is
    (each_at _ _ _ _ _ _
    (append_assoc (taken 0 log) list (item ∷ []) ∙ ap (λ l. taken 0 log ++ l) (sym moved.1)
    ∙ ap (λ t. t ++ list') (sym (append-nil (taken 0 log))))
    refl (omega arith)
    (each_written (taken 0 log ++ list) [] item _ _
    (each_at _ _ _ _ _ _ (sym (append-nil (taken 0 log ++ list))) refl refl h) moved.0))
each_entry log entry (Took reader item) list list' is h moved =
    from_parts log entry (Took reader item) list' is
    (each_at _ _ _ _ _ _
    (ap (λ l. taken 0 log ++ l) moved.1 ∙ sym (append_assoc (taken 0 log) (item ∷ []) list')
    ∙ ap (λ r. (taken 0 log ++ taken_by 0 (Took r item)) ++ list') (sym moved.0))
    (omega arith) (omega arith) h)
each_entry log entry (PutBack reader item) list list' is h moved =
    from_parts log entry (PutBack reader item) list' is
    (each_at _ _ _ _ _ _
    (ap (λ l. taken 0 log ++ l) (sym moved.1.1) ∙ ap (λ t. t ++ list') (sym (append-nil (taken 0 log))))
    (omega arith) (ap (λ r. length (returned 0 log) + length (returned_by 0 (PutBack r item))) (sym moved.0))
    (each_returned (taken 0 log) list item _ _ h moved.1.0))
each_entry log entry Closed list list' is h moved =
    from_parts log entry Closed list' is
    (each_at _ _ _ _ _ _
    (ap (λ l. taken 0 log ++ l) (sym moved) ∙ ap (λ t. t ++ list') (sym (append-nil (taken 0 log))))
    (omega arith) (omega arith) h)
each_entry log entry (Begun reader) list list' is h moved = absurd moved
each_entry log entry (Cloned source reader) list list' is h moved = absurd moved

-- no number is below 0
none_below : (n : ℕ) → 0 ≡ once_below 0 n
none_below n = grind (arith, nat_tests)

-- among no items none
none_yet : Each [] 0 0
none_yet = record { written = none_below; returned = none_below }

-- the law, in its own words
is_once : (log : List Entry) (list : List Item) → EachOf log list → IsOnce log list
is_once log list h = record { each_written = h.written; each_returned = h.returned }

-- the law
pub once : InQueues IsOnce
once kind bound readers log channel e h =
    let kept = in_queues EachOf none_yet
    (λ log entry list list' each moved. each_entry log entry entry.act list list' refl each moved)
    kind bound readers log channel e h in
    (kept.0, (kept.1.0, is_once log kept.0 kept.1.1))
