-- Why each reader gets what was written since it began, in order.
use Rattle.std.proofs.Common.{◌≡◌, refl, sym, ◌∙◌, ap, subst, ℕ, ◌+◌, ◌≤◌, true, false, ◌⊎◌, ⊎_elim, Some, List, []}
use Rattle.std.proofs.Common.{◌∷◌, ◌++◌, length, drop, append_assoc, append-nil, length-append, length-set}
use Rattle.std.proofs.Common.{if◌then◌else◌, eqb, eq-eqb, ne_eqb, arith}
use Rattle.std.proofs.lemmas.List.{length-map}
use Rattle.std.proofs.lemmas.Option.{slice_get_within}
use Rattle.txc_base.specs.declared.act.Act.{Act}
use Rattle.txc_base.specs.declared.act.Act.TheVariants.{Wrote, Took, PutBack, Closed, Begun, Cloned}
use Rattle.txc_base.specs.declared.entry.Entry.{Entry}
use Rattle.txc_base.specs.declared.item.Item.{Item}
use Rattle.txc_base.specs.declared.kind.Kind.{Kind}
use Rattle.txc_base.specs.Channel.{Channel, opening, list_of}
use Rattle.txc_base.specs.InOrder.{written_by, written, taken_by, taken, is_written, strike, began_with, began}
use Rattle.txc_base.specs.InOrder.{IsInOrder}
use Rattle.txc_base.specs.Kinds.{is_broadcast}
use Rattle.txc_base.specs.Log.{IsTrueTo}
use Rattle.txc_base.specs.Operation.{with_written, with_left, with_back, with_reader}
use Rattle.txc_base_laws.proofs.Acts.{Leads}
use Rattle.txc_base_laws.proofs.FairLists.{after_write, after_back, after_clone, clone_within}
use Rattle.txc_base_laws.proofs.Lists.{from_set, from_push, from_map, from_replicate}
use Rattle.txc_base_laws.proofs.Truth.{always}
use Rattle.txc_base_laws.proofs.Words.{written_push, taken_push, began_push}

-- one reader's share: what it took, what remains to it, what was written, and where it began
pub record Share (taken list written : List Item) (began : ℕ) : Type 0 where
  pub in_order : strike (taken ++ list) ≡ drop began written
  pub within : began ≤ length written

-- the shares of all readers, with nothing taken by readers yet to come
pub record Shares (taken : ℕ → List Item) (written : List Item) (began : ℕ → ℕ) (c : Channel) : Type 0 where
  pub share : (reader : ℕ) (list : List Item) → list_of c reader ≡ Some list
      → Share (taken reader) list written (began reader)
  pub fresh : (reader : ℕ) → length c.lists ≤ reader → taken reader ≡ []

-- the same, read off a log
abbrev pub SharesOf : List Entry → Channel → Type 0
SharesOf log c = Shares (λ reader. taken reader log) (written log) (λ reader. began log reader) c

-- the list of a reader in an equal channel
listed : (c b : Channel) (reader : ℕ) (list : List Item) → c ≡ b → list_of c reader ≡ Some list
    → list_of b reader ≡ Some list
listed c b reader list is e = ap (λ (x : Channel). list_of x reader) (sym is) ∙ e

-- the same shares at equal lists
share_at : (taken taken' list list' written written' : List Item) (began began' : ℕ) → taken ≡ taken' → list ≡ list'
    → written ≡ written' → began ≡ began'
    → Share taken list written began → Share taken' list' written' began'
share_at taken taken' list list' written written' began began' t l w b h =
    subst (λ x. Share taken' list' written' x) b
    (subst (λ x. Share taken' list' x began) w
    (subst (λ x. Share taken' x written began) l (subst (λ x. Share x list written began) t h)))

-- a share with nothing added to what was taken and written
share_same : (taken list written : List Item) (began : ℕ) → Share taken list written began
    → Share (taken ++ []) list (written ++ []) began
share_same taken list written began h = share_at _ _ _ _ _ _ _ _ (sym (append-nil taken)) refl
    (sym (append-nil written)) refl h

-- one more act on a channel whose readers have their shares
abbrev Gives : List Entry → Act → Channel → Type 0
Gives log act c' = Shares (λ reader. taken reader log ++ taken_by reader act) (written log ++ written_by act)
    (λ reader. began_with log (began log) act reader) c'

-- nothing taken by readers yet to come, where there are at least as many readers as before
fresh_same : (log : List Entry) (c c' : Channel) (reader : ℕ) → SharesOf log c → length c.lists ≤ length c'.lists
    → length c'.lists ≤ reader → taken reader log ++ [] ≡ []
fresh_same log c c' reader h more past = append-nil (taken reader log) ∙ h.fresh reader (omega arith)

-- how many readers an equal channel has
readers_of : (c b : Channel) → c ≡ b → length b.lists ≡ length c.lists
readers_of c b is = ap (λ (x : Channel). length x.lists) (sym is)

-- after a write each list has the item at its end
shares_wrote : (log : List Entry) (c : Channel) (seat : ℕ) (item : Item) (c' : Channel) → SharesOf log c
    → Leads c seat (Wrote item) c' → Gives log (Wrote item) c'
shares_wrote log c seat item c' h led = record {
  share = λ reader list is.
      let from = from_map (λ (l : List Item). l ++ item ∷ []) c.lists reader list
      (listed c' (with_written c item) reader list led.1.1.1 is) in
      let old = h.share reader from.0 from.1.0 in
      let new : is_written item.origin ≡ true = ap (λ (x : Item). is_written x.origin) led.1.1.0 in
      share_at _ _ _ _ _ _ _ _ (sym (append-nil (taken reader log))) (sym from.1.1) refl refl
      (record {
        in_order = after_write (taken reader log) from.0 (written log) (began log reader) item new old.within
            old.in_order;
        within = omega (arith, old.within, length-append (written log) (item ∷ []));
      });
  fresh = λ reader past.
      fresh_same log c c' reader h
      (omega (
        arith,
        length-map c.lists (λ (l : List Item). l ++ item ∷ []),
        readers_of c' (with_written c item) led.1.1.1,
      )) past;
}

-- a take, at this reader or another
share_took : (log : List Entry) (c : Channel) (taker : ℕ) (item : Item) (rest : List Item) (reader : ℕ)
    (list : List Item) → SharesOf log c → list_of c taker ≡ Some (item ∷ rest)
    → ((reader ≡ taker) × (list ≡ rest)) ⊎ ((reader ≡ taker → ⊥) × (list_of c reader ≡ Some list))
    → Share (taken reader log ++ taken_by reader (Took taker item)) list (written log ++ []) (began log reader)
share_took log c taker item rest reader list h is which =
    ⊎_elim
    (λ at.
    let old = h.share taker (item ∷ rest) is in
    let mine : taken reader log ++ taken_by reader (Took taker item) ≡ taken taker log ++ item ∷ [] =
    ap (λ r. taken r log ++ taken_by r (Took taker item)) at.0
    ∙ ap (λ b. taken taker log ++ (if b then item ∷ [] else [])) (eq-eqb taker taker refl) in
    share_at _ _ _ _ _ _ _ _ (sym mine) (sym at.1) (sym (append-nil (written log))) (ap (began log) (sym at.0))
    (record {
      in_order = ap strike (append_assoc (taken taker log) (item ∷ []) rest)
          ∙ old.in_order;
      within = old.within;
    }))
    (λ other.
    let none : taken_by reader (Took taker item) ≡ [] =
    ap (λ b. if b then item ∷ [] else []) (ne_eqb taker reader (λ e. other.0 (sym e))) in
    share_at _ _ _ _ _ _ _ _ (ap (λ l. taken reader log ++ l) (sym none)) refl refl refl
    (share_same _ _ _ _ (h.share reader list other.1)))
    which

-- after a take
shares_took : (log : List Entry) (c : Channel) (seat taker : ℕ) (item : Item) (c' : Channel) → SharesOf log c
    → Leads c seat (Took taker item) c' → Gives log (Took taker item) c'
shares_took log c seat taker item c' h led = record {
  share = λ reader list is.
      share_took log c taker item led.0 reader list h led.1.0
      (from_set c.lists taker reader led.0 list (listed c' (with_left c taker led.0) reader list led.1.1 is));
  fresh = λ reader past.
      let size = readers_of c' (with_left c taker led.0) led.1.1 in
      let same = length-set c.lists taker led.0 in
      let there = slice_get_within c.lists taker (item ∷ led.0) led.1.0 in
      let ne : taker ≡ reader → ⊥ = omega arith in
      ap (λ b. taken reader log ++ (if b then item ∷ [] else [])) (ne_eqb taker reader ne)
      ∙ fresh_same log c c' reader h (omega arith) past;
}

-- after a put-back to one reader
shares_back : (log : List Entry) (c : Channel) (seat taker : ℕ) (item : Item) (c' : Channel) → SharesOf log c
    → Leads c seat (PutBack taker item) c' → Gives log (PutBack taker item) c'
shares_back log c seat taker item c' h led = record {
  share = λ reader list is.
      share_same _ _ _ _
      (⊎_elim
      (λ at.
      let old = h.share taker led.0 led.1.0 in
      let back : is_written item.origin ≡ false = ap (λ (x : Item). is_written x.origin) led.1.1.1.1.0 in
      share_at _ _ _ _ _ _ _ _ (ap (λ r. taken r log) (sym at.0)) (sym at.1) refl (ap (began log) (sym at.0))
      (record { in_order = after_back (taken taker log) led.0 item back ∙ old.in_order; within = old.within }))
      (λ other. h.share reader list other.1)
      (from_set c.lists taker reader (item ∷ led.0) list
      (listed c' (with_back c taker led.0 item) reader list led.1.1.1.1.1 is)));
  fresh = λ reader past.
      fresh_same log c c' reader h
      (omega (
        arith,
        length-set c.lists taker (item ∷ led.0),
        readers_of c' (with_back c taker led.0 item)
            led.1.1.1.1.1,
      )) past;
}

-- after a closing
shares_closed : (log : List Entry) (c : Channel) (seat : ℕ) (c' : Channel) → SharesOf log c → Leads c seat Closed c'
    → Gives log Closed c'
shares_closed log c seat c' h led = record {
  share = λ reader list is. share_same _ _ _ _
      (h.share reader list (listed c' (record c { closed = true }) reader list led.1.1 is));
  fresh = λ reader past. fresh_same log c c' reader h
      (omega (arith, readers_of c' (record c { closed = true }) led.1.1)) past;
}

-- where an old and a new reader begin
began_old : (reader new began other : ℕ) → (reader ≡ new → ⊥) → (if eqb reader new then began else other) ≡ other
began_old reader new began other ne = ap (λ b. if b then began else other) (ne_eqb reader new ne)

-- .. and where a new one does
began_new : (reader new began other : ℕ) → reader ≡ new → (if eqb reader new then began else other) ≡ began
began_new reader new began other e = ap (λ b. if b then began else other) (eq-eqb reader new e)

-- a new reader at a place beyond all old ones
share_reader : (log : List Entry) (c : Channel) (new start : ℕ) (made : List Item) (reader : ℕ) (list : List Item)
    → SharesOf log c → new ≡ length c.lists
    → Share [] made (written log) start
    → ((reader ≡ length c.lists) × (list ≡ made)) ⊎ (list_of c reader ≡ Some list)
    → Share (taken reader log ++ []) list (written log ++ []) (if eqb reader new then start else began log reader)
share_reader log c new start made reader list h number first which =
    ⊎_elim
    (λ at.
    let none : taken reader log ≡ [] = h.fresh reader (omega arith) in
    let begins : (if eqb reader new then start else began log reader) ≡ start =
    began_new reader new start (began log reader) (omega arith) in
    share_same _ _ _ _ (share_at [] (taken reader log) made list (written log) (written log) start _ (sym none)
    (sym at.1) refl (sym begins) first))
    (λ old.
    let there = slice_get_within c.lists reader list old in
    let begins : (if eqb reader new then start else began log reader) ≡ began log reader =
    began_old reader new start (began log reader) (omega arith) in
    share_same _ _ _ _ (share_at _ _ _ _ _ _ _ _ refl refl refl (sym begins) (h.share reader list old)))
    which

-- nothing was written since now
nothing_left : (items : List Item) → drop (length items) items ≡ []
nothing_left [] = refl
nothing_left (item ∷ items) = nothing_left items

-- after a duplicate
shares_begun : (log : List Entry) (c : Channel) (seat new : ℕ) (c' : Channel) → SharesOf log c
    → Leads c seat (Begun new) c' → Gives log (Begun new) c'
shares_begun log c seat new c' h led = record {
  share = λ reader list is.
      share_reader log c new (length (written log)) [] reader list h led.1.0
      (record { in_order = sym (nothing_left (written log)); within = omega arith })
      (from_push c.lists reader [] list (listed c' (with_reader c []) reader list led.1.1.1 is));
  fresh = λ reader past.
      fresh_same log c c' reader h (omega
      (arith, length-append c.lists ([] ∷ []), readers_of c' (with_reader c []) led.1.1.1)) past;
}

-- after a clone
shares_cloned : (log : List Entry) (c : Channel) (seat source new : ℕ) (c' : Channel) → SharesOf log c
    → Leads c seat (Cloned source new) c' → Gives log (Cloned source new) c'
shares_cloned log c seat source new c' h led =
    let old = h.share source led.0 led.1.0 in
    record {
      share = λ reader list is.
          share_reader log c new (began log source + length (strike (taken source log))) led.0 reader list h led.1.1.1.0
          (record {
            in_order = after_clone (taken source log) led.0 (written log) (began log source) old.in_order;
            within = clone_within (taken source log) led.0 (written log) (began log source) old.within old.in_order;
          })
          (from_push c.lists reader led.0 list (listed c' (with_reader c led.0) reader list led.1.1.1.1.1 is));
      fresh = λ reader past.
          fresh_same log c c' reader h (omega
          (arith, length-append c.lists (led.0 ∷ []), readers_of c' (with_reader c led.0) led.1.1.1.1.1)) past;
    }

-- after any act
shares_act : (log : List Entry) (c : Channel) (seat : ℕ) (act : Act) (c' : Channel) → SharesOf log c
    → Leads c seat act c' → Gives log act c'
shares_act log c seat (Wrote item) c' h led = shares_wrote log c seat item c' h led
shares_act log c seat (Took taker item) c' h led = shares_took log c seat taker item c' h led
shares_act log c seat (PutBack taker item) c' h led = shares_back log c seat taker item c' h led
shares_act log c seat Closed c' h led = shares_closed log c seat c' h led
shares_act log c seat (Begun new) c' h led = shares_begun log c seat new c' h led
shares_act log c seat (Cloned source new) c' h led = shares_cloned log c seat source new c' h led

-- one more entry
shares_entry : (log : List Entry) (c : Channel) (entry : Entry) (c' : Channel) → SharesOf log c
    → Leads c entry.tag.seat entry.act c' → SharesOf (log ++ entry ∷ []) c'
shares_entry log c entry c' h led =
    let given = shares_act log c entry.tag.seat entry.act c' h led in
    record {
      share = λ reader list is.
          share_at _ _ _ _ _ _ _ _ (sym (taken_push reader log entry)) refl (sym (written_push log entry))
          (sym (began_push log entry reader)) (given.share reader list is);
      fresh = λ reader past. taken_push reader log entry ∙ given.fresh reader past;
    }

-- at the opening all lists are empty
shares_opening : (kind : Kind) (bound readers : ℕ) → SharesOf [] (opening kind bound readers)
shares_opening kind bound readers = record {
  share = λ reader list is.
      let none : list ≡ [] = from_replicate (if is_broadcast kind then readers else 1) reader [] list is in
      record { in_order = ap strike none; within = omega arith };
  fresh = λ reader past. refl;
}

-- the law
pub in_order : (kind : Kind) (bound readers : ℕ) (log : List Entry) (channel : Channel)
    → IsTrueTo kind bound readers log channel → IsInOrder log channel.lists
in_order kind bound readers log channel h reader list is =
    let shares = always SharesOf shares_entry kind bound readers log channel (shares_opening kind bound readers) h in
    (shares.share reader list is).in_order
