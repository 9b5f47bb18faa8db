-- What remains to a reader is put-backs, and behind them the last of what was written.
use Rattle.std.proofs.Common.{◌≡◌, refl, sym, ◌∙◌, ap, subst, ℕ, Bool, true, false, ⊎_elim, Some, List, [], ◌∷◌, ◌++◌}
use Rattle.std.proofs.Common.{append_assoc, append-nil, if◌then◌else◌}
use Rattle.std.proofs.lemmas.Option.{same_Some}
use Rattle.txc_base.specs.declared.act.Act.{Act}
use Rattle.txc_base.specs.declared.act.Act.TheVariants.{Wrote, Took, PutBack, Closed, Begun, Cloned}
use Rattle.txc_base.specs.declared.entry.Entry.{Entry}
use Rattle.txc_base.specs.declared.item.Item.{Item}
use Rattle.txc_base.specs.declared.kind.Kind.{Kind}
use Rattle.txc_base.specs.Channel.{Channel, list_of}
use Rattle.txc_base.specs.InOrder.{written_by, written, is_written, strike}
use Rattle.txc_base.specs.Kinds.{is_broadcast}
use Rattle.txc_base.specs.Log.{IsTrueTo}
use Rattle.txc_base_laws.proofs.Acts.{Leads}
use Rattle.txc_base_laws.proofs.FairLists.{strike_written, strike_back}
use Rattle.txc_base_laws.proofs.Lists.{at_set_same, from_set, from_push, from_map, from_replicate}
use Rattle.txc_base_laws.proofs.Truth.{always, last_led}
use Rattle.txc_base_laws.proofs.Words.{written_push}
use Rattle.txc_base_laws.specs.Laws.{TakesInOrder}

-- a list of put-backs and behind them the last of these items
record Ordered (items list : List Item) : Type 0 where
  backs : List Item
  rest : List Item
  front : List Item
  put : strike backs ≡ []
  end : items ≡ front ++ rest
  whole : list ≡ backs ++ rest

-- the same at equal lists
ordered_at : (items items' list list' : List Item) → items ≡ items' → list ≡ list' → Ordered items list
    → Ordered items' list'
ordered_at items items' list list' is same h = subst (λ x. Ordered x list') is (subst (Ordered items) same h)

-- all lists of a channel
abbrev EachOrdered : List Item → Channel → Type 0
EachOrdered items c = (reader : ℕ) (list : List Item) → list_of c reader ≡ Some list → Ordered items list

-- nothing remains
ordered_none : (items : List Item) → Ordered items []
ordered_none items = record {
  backs = [];
  rest = [];
  front = items;
  put = refl;
  end = sym (append-nil items);
  whole = refl;
}

-- one more item was written
ordered_write : (items list : List Item) (item : Item) → Ordered items list
    → Ordered (items ++ item ∷ []) (list ++ item ∷ [])
ordered_write items list item h = record {
  backs = h.backs;
  rest = h.rest ++ item ∷ [];
  front = h.front;
  put = h.put;
  end = ap (λ l. l ++ item ∷ []) h.end ∙ append_assoc h.front h.rest (item ∷ []);
  whole = ap (λ l. l ++ item ∷ []) h.whole ∙ append_assoc h.backs h.rest (item ∷ []);
}

-- an item was put back
ordered_back : (items list : List Item) (item : Item) → is_written item.origin ≡ false → Ordered items list
    → Ordered items (item ∷ list)
ordered_back items list item back h = record {
  backs = item ∷ h.backs;
  rest = h.rest;
  front = h.front;
  put = strike_back item h.backs back ∙ h.put;
  end = h.end;
  whole = ap (λ l. item ∷ l) h.whole;
}

-- a first item that was put back, or that is the first of those left that were written
tail_of : (items : List Item) (item : Item) (rest backs behind front : List Item) → strike backs ≡ []
    → items ≡ front ++ behind → item ∷ rest ≡ backs ++ behind
    → Ordered items rest × (is_written item.origin ≡ true → items ≡ front ++ item ∷ rest)
tail_of items item rest [] [] front put end list = cc
tail_of items item rest [] (x ∷ behind) front put end list =
    let same : behind ≡ rest = cc in (
      record {
        backs = [];
        rest = rest;
        front = front ++ x ∷ [];
        put = refl;
        end = end ∙ ap (λ l. front ++ x ∷ l) same
            ∙ sym (append_assoc front (x ∷ []) rest);
        whole = refl;
      },
      λ _. end ∙ ap (λ l. front ++ l) (sym list),
    )
tail_of items item rest (x ∷ backs) behind front put end list = after_back items item rest x backs behind front
    (is_written x.origin) refl put end list
  where
    after_back : (items : List Item) (item : Item) (rest : List Item) (x : Item) (backs behind front : List Item)
        (was : Bool) → is_written x.origin ≡ was → strike (x ∷ backs) ≡ []
        → items ≡ front ++ behind → item ∷ rest ≡ x ∷ backs ++ behind → Ordered items rest
        × (is_written item.origin ≡ true → items ≡ front ++ item ∷ rest)
    after_back items item rest x backs behind front true is put end list = let new = strike_written x backs is in cc
    after_back items item rest x backs behind front false is put end list =
        let same : rest ≡ backs ++ behind = cc in
        let first : item ≡ x = cc in (
          record {
            backs = backs;
            rest = behind;
            front = front;
            put = sym (strike_back x backs is) ∙ put;
            end = end;
            whole = same;
          },
          λ new. let old = ap (λ (i : Item). is_written i.origin) first in cc,
        )

-- one act, on a channel whose lists are in order
ordered_act : (items : List Item) (c : Channel) (seat : ℕ) (act : Act) (c' : Channel) → EachOrdered items c
    → Leads c seat act c' → EachOrdered (items ++ written_by act) c'
ordered_act items c seat (Wrote item) c' h led reader list is =
    let from = from_map (λ (l : List Item). l ++ item ∷ []) c.lists reader list
    (ap (λ (x : Channel). list_of x reader) (sym led.1.1.1) ∙ is) in
    ordered_at _ _ _ _ refl (sym from.1.1) (ordered_write items from.0 item (h reader from.0 from.1.0))
ordered_act items c seat (Took taker item) c' h led reader list is =
    ordered_at _ _ _ _ (sym (append-nil items)) refl
    (⊎_elim
    (λ at.
    let old = h taker (item ∷ led.0) led.1.0 in
    ordered_at _ _ _ _ refl (sym at.1)
    (tail_of items item led.0 old.backs old.rest old.front old.put old.end old.whole).0)
    (λ other. h reader list other.1)
    (from_set c.lists taker reader led.0 list (ap (λ (x : Channel). list_of x reader) (sym led.1.1) ∙ is)))
ordered_act items c seat (PutBack taker item) c' h led reader list is =
    ordered_at _ _ _ _ (sym (append-nil items)) refl
    (⊎_elim
    (λ at. ordered_at _ _ _ _ refl (sym at.1)
    (ordered_back items led.0 item (ap (λ (x : Item). is_written x.origin) led.1.1.1.1.0)
    (h taker led.0 led.1.0)))
    (λ other. h reader list other.1)
    (from_set c.lists taker reader (item ∷ led.0) list (ap (λ (x : Channel). list_of x reader) (sym led.1.1.1.1.1)
    ∙ is)))
ordered_act items c seat Closed c' h led reader list is =
    ordered_at _ _ _ _ (sym (append-nil items)) refl
    (h reader list (ap (λ (x : Channel). list_of x reader) (sym led.1.1) ∙ is))
ordered_act items c seat (Begun new) c' h led reader list is =
    ordered_at _ _ _ _ (sym (append-nil items)) refl
    (⊎_elim (λ at. ordered_at _ _ _ _ refl (sym at.1) (ordered_none items)) (λ old. h reader list old)
    (from_push c.lists reader [] list (ap (λ (x : Channel). list_of x reader) (sym led.1.1.1) ∙ is)))
ordered_act items c seat (Cloned source new) c' h led reader list is =
    ordered_at _ _ _ _ (sym (append-nil items)) refl
    (⊎_elim (λ at. ordered_at _ _ _ _ refl (sym at.1) (h source led.0 led.1.0)) (λ old. h reader list old)
    (from_push c.lists reader led.0 list (ap (λ (x : Channel). list_of x reader) (sym led.1.1.1.1.1) ∙ is)))

-- every channel that is true to its log
ordered : (kind : Kind) (bound readers : ℕ) (log : List Entry) (channel : Channel)
    → IsTrueTo kind bound readers log channel → EachOrdered (written log) channel
ordered kind bound readers log channel h =
    always (λ log c. EachOrdered (written log) c)
    (λ log c entry c' each led. subst (λ items. EachOrdered items c') (sym (written_push log entry))
    (ordered_act (written log) c entry.tag.seat entry.act c' each led))
    kind bound readers log channel
    (λ reader list is. ordered_at _ _ _ _ refl
    (sym (from_replicate (if is_broadcast kind then readers else 1) reader [] list is)) (ordered_none [])) h

-- the law
pub takes_in_order : TakesInOrder
takes_in_order kind bound readers log tag reader item left rest h new is =
    let led = last_led kind bound readers log (record { tag = tag; act = Took reader item }) left h in
    let took = led.1.1 in
    let old = ordered kind bound readers log led.0 led.1.0 reader (item ∷ took.0) took.1.0 in
    let stays : rest ≡ took.0 =
    same_Some rest took.0 (sym is ∙ ap (λ (x : Channel). list_of x reader) took.1.1
    ∙ at_set_same led.0.lists reader (item ∷ took.0) took.0 took.1.0) in (
      old.front,
      (tail_of (written log) item took.0 old.backs old.rest old.front old.put old.end old.whole).1 new
          ∙ ap (λ l. old.front ++ item ∷ l) (sym stays),
    )
