-- What each undo of a channel's fields does to what its type keeps.
use Rattle.std.proofs.Common.{◌≡◌, refl, sym, ◌∙◌, ap, subst, ℕ, zero, suc, ◌+◌, ◌-◌, ◌≤◌, ◌<◌, ◌==◌, Bool, true, false}
use Rattle.std.proofs.Common.{◌||◌, List, [], ◌∷◌, ◌++◌, length, length-append, length-set, append-nil, map, take, drop}
use Rattle.std.proofs.Common.{not, ◌&&◌, take-append-drop, slice_get, inl, inr, arith}
use Rattle.std.proofs.lemmas.Bool.{cases_lt}
use Rattle.std.proofs.lemmas.Bool.Decides.{nat_tests}
use Rattle.std.proofs.lemmas.List.{length-map, get_or_past}
use Rattle.std.proofs.lemmas.Option.{slice_get_within}
use Rattle.txc_base.specs.declared.act.Act.{Act}
use Rattle.txc_base.specs.declared.act.Act.TheVariants.{Wrote, Took, PutBack, Closed, Begun, Cloned}
use Rattle.txc_base.specs.declared.entry.Entry.{Entry}
use Rattle.txc_base.specs.declared.item.Item.{Item}
use Rattle.txc_base.specs.declared.tag.Tag.{Tag}
use Rattle.txc_base.specs.Channel.{Channel}
use Rattle.txc_base.specs.InOrder.{written, written_by}
use Rattle.txc_base.specs.Kinds.{is_broadcast}
use Rattle.txc_base.specs.Log.{IsTrueTo}
use Rattle.txc_base.specs.Operation.{with_left, with_reader}
use Rattle.txc_cast.specs.Broadcast.{read_of}
use Rattle.txc_cast.specs.Reader.{Reader, fresh, is_back}
use Rattle.txc_queue_fanout.specs.Fanout.{unread_of}
use Rattle.txc_queue.specs.Queue.{Queue, empty}
use Rattle.txc_chan.proofs.ActLemmas.{channel_is, still_shelved}
use Rattle.txc_base_laws.proofs.Acts.{Leads}
use Rattle.txc_chan.proofs.CanUndo.{can_unwrite, can_untake, can_unput}
use Rattle.txc_chan.proofs.FlushLemmas.{needed_both}
use Rattle.txc_chan.proofs.KeptLemmas.{kept_less, needed_before, needed_push}
use Rattle.txc_base_laws.proofs.KeptLaw.{numbered}
use Rattle.txc_base_laws.proofs.Lists.{at_set_same}
use Rattle.txc_base_laws.proofs.OrderLaw.{takes_in_order}
use Rattle.txc_base_laws.proofs.Truth.{always, last_led}
use Rattle.txc_base_laws.proofs.UndoLaw.{front_push}
use Rattle.txc_base_laws.proofs.Words.{written_push}
use Rattle.txc_chan.specs.declared.body.Body.{Body}
use Rattle.txc_chan.specs.declared.body.Body.TheVariants as body_kind
use Rattle.txc_chan.specs.declared.decl.Decl.{Decl}
use Rattle.txc_chan.specs.Body.{lists_of, HasWrittenAll, Keeps, SameUndoable, channel_of, is_shelved, last_entries}
use Rattle.txc_chan.specs.Body.{needed, undoable_at}
use Rattle.txc_chan.specs.Reserved.{needs_room, one_if}
use Rattle.txc_chan.specs.BodyCalls.{CanUndoWrite, CanUndoTake, CanUndoPutBack, LessUndoable, list_at, lists_with}
use Rattle.txc_chan.specs.Chan.{IsSoundChan}
use Rattle.txc_base_laws.specs.Undone.{undone, front_of}

-- a reader that isn't there took nothing
abbrev Node : Bool → List Entry → Channel → Type 0
Node shelved log c = (k : ℕ) → length c.lists ≤ k → needed shelved k log ≡ 0

not_the_reader : (k taker : ℕ) (b : Bool) → taker < k → one_if (taker == k && b) ≡ 0
not_the_reader k taker b h =
    let test : (taker == k) ≡ false = grind (arith, nat_tests) in
    ap (λ t. one_if (t && b)) test

past_step : (shelved : Bool) (log : List Entry) (c : Channel) (entry : Entry) (n : ℕ) (k : ℕ) → Node shelved log c
    → length c.lists ≤ k → one_if (needs_room shelved k entry.act) ≡ n → n ≡ 0
    → needed shelved k (log ++ entry ∷ []) ≡ 0
past_step shelved log c entry n k past h one none = omega (arith, needed_push shelved k log entry, past k h, one, none)

past_act : (shelved : Bool) (log : List Entry) (c : Channel) (tag : Tag) (act : Act) (c' : Channel) → Node shelved log c
    → Leads c tag.seat act c' → Node shelved (log ++ record { tag = tag; act = act } ∷ []) c'
past_act shelved log c tag (Wrote item) c' past led k h =
    let n : length c'.lists ≡ length c.lists = ap (λ (x : Channel). length x.lists) led.1.1.1
    ∙ length-map c.lists (λ (l : List Item). l ++ item ∷ []) in
    past_step shelved log c (record { tag = tag; act = Wrote item }) 0 k past (omega arith) refl refl
past_act shelved log c tag (Took reader item) c' past led k h =
    let n : length c'.lists ≡ length c.lists = ap (λ (x : Channel). length x.lists) led.1.1
    ∙ length-set c.lists reader led.0 in
    let there : reader < length c.lists = slice_get_within c.lists reader (item ∷ led.0) led.1.0 in
    past_step shelved log c (record { tag = tag; act = Took reader item }) 0 k past (omega arith)
    (not_the_reader k reader (not shelved || is_back item) (omega arith)) refl
past_act shelved log c tag (PutBack reader item) c' past led k h =
    let n : length c'.lists ≡ length c.lists = ap (λ (x : Channel). length x.lists) led.1.1.1.1.1
    ∙ length-set c.lists reader (item ∷ led.0) in
    past_step shelved log c (record { tag = tag; act = PutBack reader item }) 0 k past (omega arith) refl refl
past_act shelved log c tag Closed c' past led k h =
    let n : length c'.lists ≡ length c.lists = ap (λ (x : Channel). length x.lists) led.1.1 in
    past_step shelved log c (record { tag = tag; act = Closed }) 0 k past (omega arith) refl refl
past_act shelved log c tag (Begun reader) c' past led k h =
    let n : length c'.lists ≡ length c.lists + 1 = ap (λ (x : Channel). length x.lists) led.1.1.1
    ∙ length-append c.lists ([] ∷ []) in
    past_step shelved log c (record { tag = tag; act = Begun reader }) 0 k past (omega arith) refl refl
past_act shelved log c tag (Cloned source reader) c' past led k h =
    let n : length c'.lists ≡ length c.lists + 1 = ap (λ (x : Channel). length x.lists) led.1.1.1.1.1
    ∙ length-append c.lists (led.0 ∷ []) in
    past_step shelved log c (record { tag = tag; act = Cloned source reader }) 0 k past (omega arith) refl refl

none_past : (shelved : Bool) (decl : Decl) (log : List Entry) (c : Channel)
    → IsTrueTo decl.kind decl.bound decl.readers log c → Node shelved log c
none_past shelved decl log c h =
    always (Node shelved) (λ log c entry c' past led. past_act shelved log c entry.tag entry.act c' past led) decl.kind
    decl.bound decl.readers log c (λ k h. refl) h

-- .. nor do its last entries say so
none_last : (shelved : Bool) (log : List Entry) (n k : ℕ) → needed shelved k log ≡ 0 → needed shelved k (drop n log) ≡ 0
none_last shelved log n k h =
    let whole : needed shelved k (take n log ++ drop n log) ≡ 0 = ap (needed shelved k) (take-append-drop n log) ∙ h in
    omega (arith, needed_both shelved k (take n log) (drop n log), whole)

-- a reader that isn't there has no room
no_room : (body : Body) (k : ℕ) → length (lists_of body) ≤ k → undoable_at body k ≡ 0
no_room (body_kind.Queue queue) zero past = absurd (omega arith)
no_room (body_kind.Queue queue) (suc k) past = refl
no_room (body_kind.Bounded queue) zero past = absurd (omega arith)
no_room (body_kind.Bounded queue) (suc k) past = refl
no_room (body_kind.Shelved cast) k past =
    let n : length (read_of cast) ≡ length cast.readers = length-map cast.readers (λ (r : Reader). r.list) in
    ap (λ (r : Reader). r.undoable) (get_or_past cast.readers k fresh (omega arith))
no_room (body_kind.Fanned fanout) k past =
    let n : length (unread_of fanout) ≡ length fanout = length-map fanout (λ (q : Queue). q.items) in
    ap (λ (q : Queue). q.undoable) (get_or_past fanout k empty (omega arith))

-- what is left of the readers has the room that it had
readers_ready : (decl : Decl) (log : List Entry) (c : Channel) (last : List Entry) (n : ℕ) (body body' : Body) (k : ℕ)
    → IsTrueTo decl.kind decl.bound decl.readers log c → last ≡ drop n log
    → needed (is_shelved body) k last ≡ undoable_at body k
    → length (lists_of body) ≡ length c.lists + 1
    → length (lists_of body') ≡ length c.lists
    → ((j : ℕ) → j + 1 < length (lists_of body) → undoable_at body' j ≡ undoable_at body j)
    → needed (is_shelved body) k last ≡ undoable_at body' k
readers_ready decl log c last n body body' k h is room more left same =
    elim (cases_lt k (length c.lists)) [
      | inl low ↦ let e = same k (omega arith) in omega (arith, e)
      | inr high ↦
          let none : needed (is_shelved body) k last ≡ 0 =
          ap (needed (is_shelved body) k) is
          ∙ none_last (is_shelved body) log n k (none_past (is_shelved body) decl log c h k high) in
          let gone : undoable_at body' k ≡ 0 = no_room body' k (omega (arith, left, high)) in
          omega (arith, none, gone)
    ]

-- a channel whose last entry is known
pub record Ends (decl : Decl) (body : Body) (closed : Bool) (count backs : ℕ) (log log' : List Entry) (pending : ℕ)
    (entry : Entry) (act : Act) : Type 0 where
  pub kept : IsSoundChan decl body closed count backs log (pending + 1)
  pub log_is : log ≡ log' ++ entry ∷ []
  pub act_is : entry.act ≡ act

-- .. as it is where an entry can be undone
pub last_known : (decl : Decl) (body : Body) (closed : Bool) (count backs : ℕ) (log log' : List Entry)
    (pending shown : ℕ) (entry : Entry)
    → IsSoundChan decl body closed count backs log pending → pending ≡ shown → 0 < shown → log ≡ log' ++ entry ∷ []
    → Ends decl body closed count backs log log' (pending - 1) entry entry.act
last_known decl body closed count backs log log' pending shown entry kept is some log_is =
    let one : pending ≡ pending - 1 + 1 = omega (arith, is, some) in
    record {
      kept = subst (IsSoundChan decl body closed count backs log) one kept;
      log_is = log_is;
      act_is = refl;
    }

-- the channel before the last entry, and what its act did
module _ (decl : Decl) (body : Body) (closed : Bool) (count backs : ℕ) (log log' : List Entry) (pending : ℕ)
    (entry : Entry) (act : Act)
    (ends : Ends decl body closed count backs log log' pending entry act) where
  abbrev Now : Channel
  Now = channel_of decl.kind body closed count backs

  pub led : (c : Channel) × (IsTrueTo decl.kind decl.bound decl.readers log' c × Leads c entry.tag.seat act Now)
  led =
      let now : IsTrueTo decl.kind decl.bound decl.readers (log' ++ entry ∷ []) Now =
      subst (λ l. IsTrueTo decl.kind decl.bound decl.readers l Now) ends.log_is ends.kept.lawful in
      let last = last_led decl.kind decl.bound decl.readers log' entry Now now in
      (last.0, (last.1.0, subst (λ a. Leads last.0 entry.tag.seat a Now) ends.act_is last.1.1))

  pub stock : HasWrittenAll body (written log' ++ written_by act)
  stock = subst (HasWrittenAll body) (ap written ends.log_is ∙ written_push log' entry
      ∙ ap (λ a. written log' ++ written_by a) ends.act_is) ends.kept.stocked

  pub room : (k : ℕ) → needed (is_shelved body) k (last_entries pending log') + one_if
      (needs_room (is_shelved body) k act) ≡ undoable_at body k
  room = λ k. subst (λ a. needed (is_shelved body) k (last_entries pending log') + one_if
      (needs_room (is_shelved body) k a) ≡ undoable_at body k) ends.act_is
      (needed_before body log log' pending entry ends.log_is ends.kept.within ends.kept.ready k)

  -- back to the fields from before
  pub back : (body' : Body) (closed' : Bool) (count' backs' : ℕ)
      → channel_of decl.kind body' closed' count' backs' ≡ undone Now act → is_shelved body' ≡ is_shelved body
      → ((k : ℕ) → needed (is_shelved body) k (last_entries pending log') ≡ undoable_at body' k)
      → HasWrittenAll body' (written log')
      → IsSoundChan decl body' closed' count' backs' log' pending
  back body' closed' count' backs' is shelved ready stocked =
      kept_less decl body body' closed closed' count count' backs backs' log log' pending entry ends.kept ends.log_is
      (is ∙ ap (undone Now) (sym ends.act_is)) ready shelved stocked

  -- the room for its undo, by the act
  room_for_act : (other : Act) → act ≡ other → (k : ℕ) → one_if (needs_room (is_shelved body) k act) ≡ one_if
      (needs_room (is_shelved body) k other)
  room_for_act other is k = ap (λ a. one_if (needs_room (is_shelved body) k a)) is

  -- .. that needs none
  ready_so : ((k : ℕ) → one_if (needs_room (is_shelved body) k act) ≡ 0) → (k : ℕ)
      → needed (is_shelved body) k (last_entries pending log') ≡ undoable_at body k
  ready_so none k = let n = none k in omega (arith, room k, n)

  -- ---- a write
  pub can_back_write : (item : Item) → act ≡ Wrote item → CanUndoWrite body
  can_back_write item is =
      let l : Leads led.0 entry.tag.seat (Wrote item) Now = subst (λ a. Leads led.0 entry.tag.seat a Now) is led.1.1 in
      can_unwrite body (led.0).lists (written log') item (ap (λ (x : Channel). x.lists) l.1.1.1)
      (subst (λ a. HasWrittenAll body (written log' ++ written_by a)) is stock) (ap is_back l.1.1.0)

  pub back_write : (item : Item) (body' : Body) → act ≡ Wrote item → lists_of body' ≡ map front_of (lists_of body)
      → Keeps body body' → SameUndoable body body'
      → ((items : List Item) → HasWrittenAll body items → HasWrittenAll body' (front_of items))
      → IsSoundChan decl body' closed (count - 1) backs log' pending
  back_write item body' is lists keeps same items =
      back body' closed (count - 1) backs
      (channel_is decl.kind body body' closed (count - 1) backs (map front_of (lists_of body)) keeps lists
      ∙ sym (ap (undone Now) is)) (still_shelved body body' keeps)
      (λ k. ready_so (room_for_act (Wrote item) is) k ∙ sym (same k))
      (subst (HasWrittenAll body') (front_push (written log') item)
      (items (written log' ++ item ∷ [])
      (subst (λ a. HasWrittenAll body (written log' ++ written_by a)) is stock)))

  pub one_written : (item : Item) → act ≡ Wrote item → 1 ≤ count
  one_written item is =
      let n : count ≡ length (written log) = (numbered decl.kind decl.bound decl.readers log Now ends.kept.lawful).0 in
      let w : written log ≡ written log' ++ item ∷ [] = ap written ends.log_is ∙ written_push log' entry
      ∙ ap (λ a. written log' ++ written_by a) (ends.act_is ∙ is) in
      omega (arith, n, ap length w ∙ length-append (written log') (item ∷ []))

  -- ---- a take
  pub can_back_take : (reader : ℕ) (item : Item) → act ≡ Took reader item → CanUndoTake body reader item
  can_back_take reader item is =
      let l : Leads led.0 entry.tag.seat (Took reader item) Now =
      subst (λ a. Leads led.0 entry.tag.seat a Now) is led.1.1 in
      let stocked : HasWrittenAll body (written log') = subst (HasWrittenAll body) (append-nil (written log'))
      (subst (λ a. HasWrittenAll body (written log' ++ written_by a)) is stock) in
      let lists : lists_of body ≡ (with_left led.0 reader l.0).lists = ap (λ (x : Channel). x.lists) l.1.1 in
      let whole : log ≡ log' ++ record { tag = entry.tag; act = Took reader item } ∷ [] = ends.log_is
      ∙ ap (λ a. log' ++ record { tag = entry.tag; act = a } ∷ []) (ends.act_is ∙ is) in
      let now : IsTrueTo decl.kind decl.bound decl.readers
      (log' ++ record { tag = entry.tag; act = Took reader item } ∷ []) Now =
      subst (λ m. IsTrueTo decl.kind decl.bound decl.readers m Now) whole ends.kept.lawful in
      can_untake body (led.0).lists (written log') reader item l.0 l.1.0 lists stocked
      (λ new. takes_in_order decl.kind decl.bound decl.readers log' entry.tag reader item Now l.0 now new
      (ap (λ m. slice_get m reader) lists ∙ at_set_same (led.0).lists reader (item ∷ l.0) l.0 l.1.0))
      (λ k. let r = subst (λ a. needed (is_shelved body) k (last_entries pending log') + one_if
      (needs_room (is_shelved body) k a) ≡ undoable_at body k) is (room k) in omega (arith, r))

  pub back_take : (reader : ℕ) (item : Item) (body' : Body) → act ≡ Took reader item
      → lists_of body' ≡ lists_with body reader (item ∷ list_at body reader)
      → Keeps body body' → LessUndoable item body reader body'
      → ((items : List Item) → HasWrittenAll body items → HasWrittenAll body' items)
      → IsSoundChan decl body' closed count backs log' pending
  back_take reader item body' is lists keeps less items =
      back body' closed count backs
      (channel_is decl.kind body body' closed count backs (lists_with body reader (item ∷ list_at body reader)) keeps
      lists ∙ sym (ap (undone Now) is)) (still_shelved body body' keeps)
      (λ k. let r = subst (λ a. needed (is_shelved body) k (last_entries pending log') + one_if
      (needs_room (is_shelved body) k a) ≡ undoable_at body k) is (room k) in omega (arith, r, less k))
      (items (written log') (subst (HasWrittenAll body) (append-nil (written log'))
      (subst (λ a. HasWrittenAll body (written log' ++ written_by a)) is stock)))

  -- ---- a put-back
  pub can_back_put : (reader : ℕ) (item : Item) → act ≡ PutBack reader item → CanUndoPutBack body reader
  can_back_put reader item is =
      let l : Leads led.0 entry.tag.seat (PutBack reader item) Now =
      subst (λ a. Leads led.0 entry.tag.seat a Now) is led.1.1 in
      can_unput body (led.0).lists reader item l.0 l.1.0 (ap (λ (x : Channel). x.lists) l.1.1.1.1.1)
      (ap is_back l.1.1.1.1.0)

  pub back_put : (reader : ℕ) (item : Item) (body' : Body) → act ≡ PutBack reader item
      → lists_of body' ≡ lists_with body reader (drop 1 (list_at body reader))
      → Keeps body body' → SameUndoable body body'
      → ((items : List Item) → HasWrittenAll body items → HasWrittenAll body' items)
      → IsSoundChan decl body' closed count (backs - 1) log' pending
  back_put reader item body' is lists keeps same items =
      back body' closed count (backs - 1)
      (channel_is decl.kind body body' closed count (backs - 1) (lists_with body reader (drop 1 (list_at body reader)))
      keeps lists ∙ sym (ap (undone Now) is)) (still_shelved body body' keeps)
      (λ k. ready_so (room_for_act (PutBack reader item) is) k ∙ sym (same k))
      (items (written log') (subst (HasWrittenAll body) (append-nil (written log'))
      (subst (λ a. HasWrittenAll body (written log' ++ written_by a)) is stock)))

  pub one_back : (reader : ℕ) (item : Item) → act ≡ PutBack reader item → 1 ≤ backs
  one_back reader item is =
      let l : Leads led.0 entry.tag.seat (PutBack reader item) Now =
      subst (λ a. Leads led.0 entry.tag.seat a Now) is led.1.1 in
      let n : backs ≡ (led.0).backs + 1 = ap (λ (x : Channel). x.backs) l.1.1.1.1.1 in
      omega (arith, n)

  -- ---- a closing
  pub back_close : act ≡ Closed → IsSoundChan decl body false count backs log' pending
  back_close is =
      back body false count backs (sym (ap (undone Now) is)) refl (ready_so (room_for_act Closed is))
      (subst (HasWrittenAll body) (append-nil (written log'))
      (subst (λ a. HasWrittenAll body (written log' ++ written_by a)) is stock))

  -- ---- a new reader
  back_reader : (list : List Item) (body' : Body) → is_broadcast (led.0).kind ≡ true → Now ≡ with_reader led.0 list
      → undone Now act ≡ record Now { lists = front_of (lists_of body) } → written_by act ≡ []
      → ((k : ℕ) → one_if (needs_room (is_shelved body) k act) ≡ 0)
      → lists_of body' ≡ front_of (lists_of body) → Keeps body body'
      → ((k : ℕ) → k + 1 < length (lists_of body) → undoable_at body' k ≡ undoable_at body k)
      → ((items : List Item) → HasWrittenAll body items → HasWrittenAll body' items)
      → IsSoundChan decl body' closed count backs log' pending
  back_reader list body' broadcast is before none no_need lists keeps same items =
      let n : length (lists_of body) ≡ length (led.0).lists + 1 = ap (λ (x : Channel). length x.lists) is
      ∙ length-append (led.0).lists (list ∷ []) in
      let left : length (lists_of body') ≡ length (led.0).lists =
      ap length (lists ∙ ap (λ (x : Channel). front_of x.lists) is ∙ front_push (led.0).lists list) in
      back body' closed count backs
      (channel_is decl.kind body body' closed count backs (front_of (lists_of body)) keeps lists ∙ sym before)
      (still_shelved body body' keeps)
      (λ k. readers_ready decl log' led.0 (last_entries pending log') (length log' - pending) body body' k led.1.0 refl
      (ready_so no_need k) n left same)
      (items (written log') (subst (HasWrittenAll body) (append-nil (written log'))
      (subst (λ a. HasWrittenAll body (written log' ++ a)) none stock)))

  pub is_reader : (list : List Item) → is_broadcast (led.0).kind ≡ true → Now ≡ with_reader led.0 list
      → (is_broadcast decl.kind ≡ true) × (0 < length (lists_of body))
  is_reader list broadcast is =
      let n : length (lists_of body) ≡ length (led.0).lists + 1 = ap (λ (x : Channel). length x.lists) is
      ∙ length-append (led.0).lists (list ∷ []) in
      (ap (λ (x : Channel). is_broadcast x.kind) is ∙ broadcast, omega (arith, n))

  pub begun : (number : ℕ) → act ≡ Begun number → (is_broadcast (led.0).kind ≡ true) × (Now ≡ with_reader led.0 [])
  begun number is =
      let l : Leads led.0 entry.tag.seat (Begun number) Now =
      subst (λ a. Leads led.0 entry.tag.seat a Now) is led.1.1 in
      (l.0, l.1.1.1)

  pub cloned : (source number : ℕ) → act ≡ Cloned source number → (list : List Item)
      × ((is_broadcast (led.0).kind ≡ true) × (Now ≡ with_reader led.0 list))
  cloned source number is =
      let l : Leads led.0 entry.tag.seat (Cloned source number) Now =
      subst (λ a. Leads led.0 entry.tag.seat a Now) is led.1.1 in
      (l.0, (l.1.1.0, l.1.1.1.1.1))

  pub back_begun : (number : ℕ) (body' : Body) → act ≡ Begun number → lists_of body' ≡ front_of (lists_of body)
      → Keeps body body'
      → ((k : ℕ) → k + 1 < length (lists_of body) → undoable_at body' k ≡ undoable_at body k)
      → ((items : List Item) → HasWrittenAll body items → HasWrittenAll body' items)
      → IsSoundChan decl body' closed count backs log' pending
  back_begun number body' is = let b = begun number is in
      back_reader [] body' b.0 b.1 (ap (undone Now) is) (ap written_by is) (room_for_act (Begun number) is)

  pub back_cloned : (source number : ℕ) (body' : Body) → act ≡ Cloned source number
      → lists_of body' ≡ front_of (lists_of body) → Keeps body body'
      → ((k : ℕ) → k + 1 < length (lists_of body) → undoable_at body' k ≡ undoable_at body k)
      → ((items : List Item) → HasWrittenAll body items → HasWrittenAll body' items)
      → IsSoundChan decl body' closed count backs log' pending
  back_cloned source number body' is = let b = cloned source number is in
      back_reader b.0 body' b.1.0 b.1.1 (ap (undone Now) is) (ap written_by is)
      (room_for_act (Cloned source number) is)

  pub begun_there : (number : ℕ) → act ≡ Begun number → (is_broadcast decl.kind ≡ true)
      × (0 < length (lists_of body))
  begun_there number is = let b = begun number is in is_reader [] b.0 b.1

  pub cloned_there : (source number : ℕ) → act ≡ Cloned source number → (is_broadcast decl.kind ≡ true)
      × (0 < length (lists_of body))
  cloned_there source number is = let b = cloned source number is in is_reader b.0 b.1.0 b.1.1
