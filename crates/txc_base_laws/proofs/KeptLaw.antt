-- What a channel keeps of its declaration, and how its counts go with its log.
use Rattle.std.proofs.Common.{◌≡◌, refl, sym, ◌∙◌, ap, ℕ, ◌+◌, ◌≤◌, ◌<◌, true, cond, List, [], ◌∷◌, ◌++◌, length}
use Rattle.std.proofs.Common.{length-append, length-set, arith}
use Rattle.std.proofs.lemmas.Bool.{true≢false}
use Rattle.std.proofs.lemmas.List.{length-map}
use Rattle.txc_base.specs.declared.act.Act.{Act}
use Rattle.txc_base.specs.declared.act.Act.TheVariants.{Wrote, Took, PutBack, Closed, Begun, Cloned}
use Rattle.txc_base.specs.declared.entry.Entry.{Entry}
use Rattle.txc_base.specs.declared.item.Item.{Item}
use Rattle.txc_base.specs.declared.kind.Kind.{Kind}
use Rattle.txc_base.specs.Channel.{Channel}
use Rattle.txc_base.specs.declared.limits.TheConstants.{MAX_READERS}
use Rattle.txc_base.specs.Counts.{is_put, put}
use Rattle.txc_base.specs.InOrder.{written_by, written}
use Rattle.txc_base.specs.Kinds.{is_closable}
use Rattle.txc_base.specs.Operation.{with_written, with_left, with_back, with_reader}
use Rattle.txc_base_laws.proofs.Acts.{Leads}
use Rattle.txc_base_laws.proofs.Truth.{always}
use Rattle.txc_base_laws.proofs.Words.{written_push, count_push}
use Rattle.txc_base_laws.specs.Laws.{KeepsDeclared, AlwaysKeeps, IsNumbered}

-- what an act leaves as it was, from the channel before it to the one after
record Same (c b : Channel) : Type 0 where
  kind : b.kind ≡ c.kind
  bound : b.bound ≡ c.bound
  closed : b.closed ≡ c.closed
  readers : length c.lists ≤ length b.lists
  few : length c.lists ≤ MAX_READERS → length b.lists ≤ MAX_READERS

-- an equal channel that keeps the same
keeps_same : (kind : Kind) (bound readers : ℕ) (c b c' : Channel) → KeepsDeclared kind bound readers c → c' ≡ b
    → Same c b → KeepsDeclared kind bound readers c'
keeps_same kind bound readers c b c' k is same = record {
  same_kind = ap (λ (x : Channel). x.kind) is ∙ same.kind ∙ k.same_kind;
  same_bound = ap (λ (x : Channel). x.bound) is ∙ same.bound ∙ k.same_bound;
  first_readers = omega (arith, k.first_readers, same.readers, ap (λ (x : Channel). length x.lists) is);
  few_readers = λ first. let few = same.few (k.few_readers first) in
      omega (arith, ap (λ (x : Channel). length x.lists) is);
  closable = λ stays_closed. k.closable (sym same.closed ∙ ap (λ (x : Channel). x.closed) (sym is) ∙ stays_closed);
}

-- a change that left as many readers as there were
as_many : (c b : Channel) → b.kind ≡ c.kind → b.bound ≡ c.bound → b.closed ≡ c.closed → length b.lists ≡ length c.lists
    → Same c b
as_many c b kind bound closed size = record {
  kind = kind;
  bound = bound;
  closed = closed;
  readers = omega arith;
  few = λ few. omega arith;
}

-- one more reader
one_more : (c : Channel) (list : List Item) → length c.lists < MAX_READERS → Same c (with_reader c list)
one_more c list place = record {
  kind = refl;
  bound = refl;
  closed = refl;
  readers = omega (arith, length-append c.lists (list ∷ []));
  few = λ few. omega (arith, length-append c.lists (list ∷ []));
}

-- each act keeps what was declared
keeps_act : (kind : Kind) (bound readers : ℕ) (c : Channel) (seat : ℕ) (act : Act) (c' : Channel)
    → KeepsDeclared kind bound readers c → Leads c seat act c' → KeepsDeclared kind bound readers c'
keeps_act kind bound readers c seat (Wrote item) c' k h =
    keeps_same kind bound readers c (with_written c item) c' k h.1.1.1
    (as_many c (with_written c item) refl refl refl (length-map c.lists (λ (l : List Item). l ++ item ∷ [])))
keeps_act kind bound readers c seat (Took reader item) c' k h =
    keeps_same kind bound readers c (with_left c reader h.0) c' k h.1.1
    (as_many c (with_left c reader h.0) refl refl refl (length-set c.lists reader h.0))
keeps_act kind bound readers c seat (PutBack reader item) c' k h =
    keeps_same kind bound readers c (with_back c reader h.0 item) c' k h.1.1.1.1.1
    (as_many c (with_back c reader h.0 item) refl refl refl (length-set c.lists reader (item ∷ h.0)))
keeps_act kind bound readers c seat Closed c' k h = record {
  same_kind = ap (λ (x : Channel). x.kind) h.1.1 ∙ k.same_kind;
  same_bound = ap (λ (x : Channel). x.bound) h.1.1 ∙ k.same_bound;
  first_readers = omega (arith, k.first_readers, ap (λ (x : Channel). length x.lists) h.1.1);
  few_readers = λ first. let few = k.few_readers first in omega (arith, ap (λ (x : Channel). length x.lists) h.1.1);
  closable = λ stays_closed. ap is_closable (sym k.same_kind) ∙ h.0;
}
keeps_act kind bound readers c seat (Begun reader) c' k h =
    keeps_same kind bound readers c (with_reader c []) c' k h.1.1.1 (one_more c [] h.1.1.0)
keeps_act kind bound readers c seat (Cloned source reader) c' k h =
    keeps_same kind bound readers c (with_reader c h.0) c' k h.1.1.1.1.1 (one_more c h.0 h.1.1.1.1.0)

-- the law of what was declared
pub keeps : AlwaysKeeps
keeps kind bound readers log channel h =
    always (λ log c. KeepsDeclared kind bound readers c)
    (λ log c entry c' k led. keeps_act kind bound readers c entry.tag.seat entry.act c' k led)
    kind bound readers log channel
    (record {
      same_kind = refl;
      same_bound = refl;
      first_readers = omega arith;
      few_readers = λ first. first;
      closable = λ stays_closed. absurd (true≢false (sym stays_closed));
    }) h

-- what an act adds to the counts of a channel
record Adds (c : Channel) (act : Act) (b : Channel) : Type 0 where
  written : b.written ≡ c.written + length (written_by act)
  both : b.written + b.backs ≡ c.written + c.backs + cond (is_put act) 1 0

-- each act adds what the counts of its log say
adds_act : (c : Channel) (seat : ℕ) (act : Act) (c' : Channel) → Leads c seat act c' → (b : Channel)
    × ((c' ≡ b) × Adds c act b)
adds_act c seat (Wrote item) c' h = (with_written c item, (h.1.1.1, record { written = refl; both = omega arith }))
adds_act c seat (Took reader item) c' h =
    (with_left c reader h.0, (h.1.1, record { written = omega arith; both = omega arith }))
adds_act c seat (PutBack reader item) c' h =
    (with_back c reader h.0 item, (h.1.1.1.1.1, record { written = omega arith; both = omega arith }))
adds_act c seat Closed c' h =
    (record c { closed = true }, (h.1.1, record { written = omega arith; both = omega arith }))
adds_act c seat (Begun reader) c' h =
    (with_reader c [], (h.1.1.1, record { written = omega arith; both = omega arith }))
adds_act c seat (Cloned source reader) c' h =
    (with_reader c h.0, (h.1.1.1.1.1, record { written = omega arith; both = omega arith }))

-- the counts of a channel and of its log
record Numbers (log : List Entry) (c : Channel) : Type 0 where
  written : c.written ≡ length (written log)
  both : c.written + c.backs ≡ put log

-- one more entry
numbers_entry : (log : List Entry) (c : Channel) (entry : Entry) (c' : Channel) → Numbers log c
    → Leads c entry.tag.seat entry.act c' → Numbers (log ++ entry ∷ []) c'
numbers_entry log c entry c' n led =
    let adds = adds_act c entry.tag.seat entry.act c' led in
    let writes = ap (λ (x : Channel). x.written) adds.1.0 in
    let backs = ap (λ (x : Channel). x.backs) adds.1.0 in
    record {
      written =
          omega (
            arith,
            n.written,
            adds.1.1.written,
            writes,
            ap length (written_push log entry),
            length-append (written log) (written_by entry.act),
          );
      both = omega (arith, n.both, adds.1.1.both, writes, backs, count_push is_put log entry);
    }

-- the law of the counts
pub numbered : IsNumbered
numbered kind bound readers log channel h =
    let n = always Numbers numbers_entry kind bound readers log channel (record { written = refl; both = refl }) h in
    (n.written, n.both)
