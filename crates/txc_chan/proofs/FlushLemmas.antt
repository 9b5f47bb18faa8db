-- What a flush does to what the type of a channel keeps.
use Rattle.std.proofs.Common.{◌≡◌, refl, sym, ◌∙◌, ap, subst, ℕ, zero, suc, ◌+◌, ◌-◌, ◌≤◌, Bool, false, cond, Some}
use Rattle.std.proofs.Common.{List, [], ◌∷◌, ◌++◌, length, length-append, map, drop, slice_get, set, arith}
use Rattle.std.proofs.lemmas.Bool.Decides.{nat_tests}
use Rattle.std.proofs.lemmas.List.{drop-append-le}
use Rattle.std.proofs.lemmas.List.Sums.{sum_by-append}
use Rattle.txc_base.specs.declared.act.Act.TheVariants.{Took}
use Rattle.txc_base.specs.declared.entry.Entry.{Entry}
use Rattle.txc_base.specs.declared.item.Item.{Item}
use Rattle.txc_base.specs.declared.tag.Tag.{Tag}
use Rattle.txc_base.specs.Channel.{opening}
use Rattle.txc_base.specs.InOrder.{written}
use Rattle.txc_base.specs.Log.{entries, state}
use Rattle.txc_chan.proofs.ActLemmas.{entry, channel_is}
use Rattle.txc_base_laws.proofs.Bridge.{flush_logs}
use Rattle.txc_base_laws.proofs.Truth.{further}
use Rattle.txc_base_laws.proofs.Words.{count_cons}
use Rattle.txc_chan.specs.declared.body.Body.{Body}
use Rattle.txc_chan.specs.declared.body.Body.TheVariants.{Queue, Bounded, Shelved, Fanned}
use Rattle.txc_chan.specs.declared.decl.Decl.{Decl}
use Rattle.txc_chan.specs.Body.{is_cast, lists_of, needed, HasWrittenAll, Keeps, channel_of, is_shelved, last_entries}
use Rattle.txc_chan.specs.Body.{undoable_at}
use Rattle.txc_chan.specs.Reserved.{needs_room}
use Rattle.txc_chan.specs.Chan.{IsSoundChan}

-- several entries at once: reader 0 takes each item of a queue
needed_all : (reader : ℕ) (tag : Tag) (items : List Item) → needed false (suc reader) (entries tag (map (Took 0) items))
    ≡ 0
needed_all reader tag [] = refl
needed_all reader tag (item ∷ items) =
    let none : needs_room false (suc reader) (Took 0 item) ≡ false = grind (arith, nat_tests) in
    count_cons (needs_room false (suc reader)) (entry tag (Took 0 item)) (entries tag (map (Took 0) items))
    ∙ ap (λ b. cond b 1 0 + needed false (suc reader) (entries tag (map (Took 0) items))) none
    ∙ omega (arith, needed_all reader tag items)

needed_first : (tag : Tag) (items : List Item) → needed false 0 (entries tag (map (Took 0) items)) ≡ length items
needed_first tag [] = refl
needed_first tag (item ∷ items) =
    count_cons (needs_room false 0) (entry tag (Took 0 item)) (entries tag (map (Took 0) items))
    ∙ ap (λ n. 1 + n) (needed_first tag items) ∙ omega arith

pub needed_both : (shelved : Bool) (reader : ℕ) (first more : List Entry)
    → needed shelved reader (first ++ more) ≡ needed shelved reader first + needed shelved reader more
needed_both shelved reader first more = sum_by-append (λ (e : Entry). cond (needs_room shelved reader e.act) 1 0) first
    more

-- the last entries, with several more
last_both : (pending : ℕ) (log more : List Entry) → pending ≤ length log
    → last_entries (pending + length more) (log ++ more) ≡ last_entries pending log ++ more
last_both pending log more within =
    let n : length (log ++ more) - (pending + length more) ≡ length log - pending =
    omega (arith, length-append log more) in
    ap (λ k. drop k (log ++ more)) n ∙ drop-append-le (length log - pending) log more (omega arith)

-- a queue has one reader
others : (body : Body) (reader : ℕ) → is_cast body ≡ false → undoable_at body (suc reader) ≡ 0
others (Queue queue) reader e = refl
others (Bounded queue) reader e = refl
others (Shelved cast) reader e = cc
others (Fanned fanout) reader e = cc

-- .. and no shelf
unshelved : (body : Body) → is_cast body ≡ false → is_shelved body ≡ false
unshelved (Queue queue) e = refl
unshelved (Bounded queue) e = refl
unshelved (Shelved cast) e = cc
unshelved (Fanned fanout) e = cc

pub queue_stock : (body : Body) (items : List Item) → is_cast body ≡ false → HasWrittenAll body items
queue_stock (Queue queue) items e = tt
queue_stock (Bounded queue) items e = tt
queue_stock (Shelved cast) items e = cc
queue_stock (Fanned fanout) items e = cc

room_all : (body body' : Body) (tag : Tag) (items : List Item) (last : List Entry)
    → undoable_at body' 0 ≡ undoable_at body 0 + length items
    → is_cast body ≡ false → is_cast body' ≡ false
    → ((k : ℕ) → needed false k last ≡ undoable_at body k)
    → (k : ℕ) → needed false k (last ++ entries tag (map (Took 0) items)) ≡ undoable_at body' k
room_all body body' tag items last more queue queue' ready zero =
    omega (arith, needed_both false 0 last (entries tag (map (Took 0) items)), needed_first tag items, ready 0)
room_all body body' tag items last more queue queue' ready (suc k) =
    omega (
      arith,
      needed_both false (suc k) last (entries tag (map (Took 0) items)),
      needed_all k tag items,
      ready (suc k),
      others body k queue,
      others body' k queue',
    )

count_entries : (tag : Tag) (items : List Item) → length (entries tag (map (Took 0) items)) ≡ length items
count_entries tag [] = refl
count_entries tag (item ∷ items) = ap (λ n. suc n) (count_entries tag items)

pub flushes : (decl : Decl) (body body' : Body) (closed : Bool) (count backs : ℕ) (log log' : List Entry)
    (pending n : ℕ) (tag : Tag) (items : List Item)
    → IsSoundChan decl body closed count backs log pending
    → is_cast body ≡ false → lists_of body ≡ items ∷ [] → lists_of body' ≡ [] ∷ []
    → Keeps body body' → undoable_at body' 0 ≡ undoable_at body 0 + length items → n ≡ length items
    → log' ≡ log ++ entries tag (map (Took 0) items)
    → IsSoundChan decl body' closed count backs log' (pending + n)
flushes decl body body' closed count backs log log' pending n tag items kept queue before after keeps more all is =
    let c = channel_of decl.kind body closed count backs in
    let added = entries tag (map (Took 0) items) in
    let lists : lists_of body' ≡ set (lists_of body) 0 [] = after ∙ sym (ap (λ l. set l 0 []) before) in
    let m : length added ≡ n = count_entries tag items ∙ sym all in
    let queue' : is_cast body' ≡ false = keeps.cast ∙ queue in
    let last : last_entries (pending + n) log' ≡ last_entries pending log ++ added =
    ap (last_entries (pending + n)) is ∙ ap (λ k. last_entries (pending + k) (log ++ added)) (sym m)
    ∙ last_both pending log added kept.within in
    let ready : (k : ℕ) → needed false k (last_entries pending log) ≡ undoable_at body k =
    λ k. subst (λ b. needed b k (last_entries pending log) ≡ undoable_at body k) (unshelved body queue)
    (kept.ready k) in
    record {
      lawful = ap (state (Some (opening decl.kind decl.bound decl.readers))) is
          ∙ further decl.kind decl.bound decl.readers log added c (channel_of decl.kind body' closed count backs)
          kept.lawful
          (flush_logs tag 0 items c (ap (λ l. slice_get l 0) before)
          ∙ ap Some (sym (channel_is decl.kind body body' closed count backs (set (lists_of body) 0 []) keeps lists)));
      within = let k : length log' ≡ length log + length added = ap length is ∙ length-append log added in
          omega (arith, kept.within);
      ready = λ k. subst (λ b. needed b k (last_entries (pending + n) log') ≡ undoable_at body' k)
          (sym (unshelved body' queue'))
          (subst (λ l. needed false k l ≡ undoable_at body' k) (sym last)
          (room_all body body' tag items (last_entries pending log) more queue queue' ready k));
      stocked = queue_stock body' (written log') queue';
    }
