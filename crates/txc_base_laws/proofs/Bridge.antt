-- Why the acts of an operation, logged one after another, lead to the channel that it leaves.
use Rattle.std.proofs.Common.{◌≡◌, refl, sym, ◌∙◌, ap, subst, ℕ, ◌<◌, Bool, true, false, ◌&&◌, Option, Some, None, List}
use Rattle.std.proofs.Common.{[], ◌∷◌, length, map, is_none, slice_get, eq-eqb, leb-false, lt-ltb, if◌then◌else◌}
use Rattle.std.specs.Option.{option_and_then}
use Rattle.std.proofs.lemmas.Bool.{and_from, not_from_false, cond_both, cond-true}
use Rattle.std.proofs.lemmas.List.{set-set}
use Rattle.txc_base.specs.declared.act.Act.{Act}
use Rattle.txc_base.specs.declared.act.Act.TheVariants as act
use Rattle.txc_base.specs.declared.cause.Cause.TheVariants as cause
use Rattle.txc_base.specs.declared.item.Item.{Item}
use Rattle.txc_base.specs.declared.kind.Kind.{Kind}
use Rattle.txc_base.specs.declared.kind.Kind.TheVariants.{Queue, Bounded, Cast, MQueue, BMQueue, MCast}
use Rattle.txc_base.specs.declared.op.Op.{Op}
use Rattle.txc_base.specs.declared.op.Op.TheVariants.{Write, TryWrite, Read, TryRead, Peek, TryPeek, PutBack, Close}
use Rattle.txc_base.specs.declared.op.Op.TheVariants.{IsClosed, IsEmpty, IsFull, Dup, CloneReader, Flush, Length}
use Rattle.txc_base.specs.declared.reply.Reply.TheVariants as reply
use Rattle.txc_base.specs.declared.tag.Tag.{Tag}
use Rattle.txc_base.specs.Channel.{Channel, list_of}
use Rattle.txc_base.specs.declared.limits.TheConstants.{MAX_READERS}
use Rattle.txc_base.specs.Kinds.{is_bounded, is_broadcast, is_closable, allowed_for}
use Rattle.txc_base.specs.Log.{begins_with, takes_write, takes_back, is_next_reader, provided, at_list, after_act}
use Rattle.txc_base.specs.Log.{state, entries}
use Rattle.txc_base.specs.Operation.{Did, Replies, Waits, Stops, says, body_of, with_body, with_list, while_open}
use Rattle.txc_base.specs.Operation.{is_full, with_room, is_plain_bounded, next_written, next_back, with_written}
use Rattle.txc_base.specs.Operation.{with_left, with_back, with_reader, wrote, put_back, taking, showing, closing}
use Rattle.txc_base.specs.Operation.{reader_made, operate}
use Rattle.txc_base_laws.proofs.Acts.{item_same}
use Rattle.txc_base_laws.proofs.Lists.{at_set_same, set_there}
use Rattle.txc_base_laws.proofs.KeptLaw.{keeps}
use Rattle.txc_base_laws.proofs.Truth.{further}
use Rattle.txc_base_laws.specs.Laws.{LogsItsActs, StaysTrue}

-- the acts of what was done, logged, lead to the channel that is left
abbrev pub Logs : Channel → Tag → Did → Type 0
Logs c tag (Replies answer acts c') = state (Some c) (entries tag acts) ≡ Some c'
Logs c tag (Waits why) = Unit {0}
Logs c tag (Stops stop) = Unit {0}

-- where a test holds, the channel is given
pub is_given : (test : Bool) (c : Channel) → test ≡ true → provided test c ≡ Some c
is_given test c e = cond-true test (Some c) None e

-- past the test for a body
body_logs : (c : Channel) (tag : Tag) (body : Option ℕ) (next : ℕ → Did) → ((b : ℕ) → Logs c tag (next b))
    → Logs c tag (with_body body next)
body_logs c tag None next h = tt
body_logs c tag (Some b) next h = h b

-- past the test for a reader
list_logs : (c : Channel) (tag : Tag) (list : Option (List Item)) (next : List Item → Did)
    → ((l : List Item) → list ≡ Some l → Logs c tag (next l)) → Logs c tag (with_list list next)
list_logs c tag None next h = tt
list_logs c tag (Some list) next h = h list refl

-- past any test
if_logs : (c : Channel) (tag : Tag) (test : Bool) (x y : Did) → (test ≡ true → Logs c tag x)
    → (test ≡ false → Logs c tag y) → Logs c tag (if test then x else y)
if_logs c tag test x y h k = cond_both test x y (Logs c tag) h k

-- past the test for an open channel
open_logs : (c : Channel) (tag : Tag) (next : Did) → (c.closed ≡ false → Logs c tag next)
    → Logs c tag (while_open c next)
open_logs c tag next h = if_logs c tag c.closed (says reply.Closed c) next (λ _. refl) h

-- a write of an item
pub wrote_logs : (c : Channel) (tag : Tag) (body : ℕ) → c.closed ≡ false → takes_write c ≡ true
    → Logs c tag (wrote c (next_written c tag.seat body))
wrote_logs c tag body unshut room =
    is_given _ (with_written c (next_written c tag.seat body))
    (and_from _ _ (not_from_false c.closed unshut) (and_from _ _ room (item_same (next_written c tag.seat body))))

-- a write, with what it does at the bound
write_logs : (c : Channel) (tag : Tag) (body : Option ℕ) (without : Did) → Logs c tag without
    → Logs c tag (with_body body (λ b. while_open c (with_room c without (wrote c (next_written c tag.seat b)))))
write_logs c tag body without h =
    body_logs c tag body (λ b. while_open c (with_room c without (wrote c (next_written c tag.seat b))))
    (λ b. open_logs c tag (with_room c without (wrote c (next_written c tag.seat b)))
    (λ unshut. if_logs c tag (is_bounded c.kind && is_full c) without (wrote c (next_written c tag.seat b)) (λ _. h)
    (λ room. wrote_logs c tag b unshut (not_from_false (is_bounded c.kind && is_full c) room))))

-- an act of a reader leads on from its list
pub at_its_list : (c : Channel) (reader : ℕ) (list : List Item) (next : List Item → Option Channel)
    → list_of c reader ≡ Some list → at_list c reader next ≡ next list
at_its_list c reader list next is = ap (option_and_then next) is

-- a take of the first item is lawful
pub took_logs : (c : Channel) (tag : Tag) (reader : ℕ) (item : Item) (rest : List Item)
    → list_of c reader ≡ Some (item ∷ rest)
    → after_act c tag.seat (act.Took reader item) ≡ Some (with_left c reader rest)
took_logs c tag reader item rest is =
    at_its_list c reader (item ∷ rest) _ is ∙ is_given (begins_with (item ∷ rest) item) (with_left c reader rest)
    (item_same item)

-- a read, with what it does where there is nothing
taking_logs : (c : Channel) (tag : Tag) (reader : ℕ) (without : Did) → Logs c tag without → (list : List Item)
    → list_of c reader ≡ Some list
    → Logs c tag (taking c reader without list)
taking_logs c tag reader without h [] is = open_logs c tag without (λ _. h)
taking_logs c tag reader without h (item ∷ rest) is = took_logs c tag reader item rest is

-- a peek has no act
showing_logs : (c : Channel) (tag : Tag) (without : Did) → Logs c tag without → (list : List Item)
    → Logs c tag (showing c without list)
showing_logs c tag without h [] = open_logs c tag without (λ _. h)
showing_logs c tag without h (item ∷ rest) = refl

-- a put-back of an item
pub back_logs : (c : Channel) (tag : Tag) (reader body : ℕ) (list : List Item) → list_of c reader ≡ Some list
    → c.closed ≡ false → takes_back c ≡ true
    → Logs c tag (put_back c reader list (next_back c tag.seat body))
back_logs c tag reader body list is unshut room =
    at_its_list c reader list _ is ∙ is_given _ (with_back c reader list (next_back c tag.seat body))
    (and_from _ _ (not_from_false c.closed unshut) (and_from _ _ room (item_same (next_back c tag.seat body))))

-- a put-back, with what it does at the bound
put_back_logs : (c : Channel) (tag : Tag) (reader body : ℕ)
    → Logs c tag (with_list (list_of c reader) (λ list. while_open c
    (if is_plain_bounded c.kind && is_full c then Waits cause.Full else put_back c reader list
    (next_back c tag.seat body))))
put_back_logs c tag reader body =
    list_logs c tag (list_of c reader) (λ list. while_open c
    (if is_plain_bounded c.kind && is_full c then Waits cause.Full else put_back c reader list
    (next_back c tag.seat body)))
    (λ list is. open_logs c tag _
    (λ unshut. if_logs c tag (is_plain_bounded c.kind && is_full c) (Waits cause.Full)
    (put_back c reader list (next_back c tag.seat body)) (λ _. tt)
    (λ room. back_logs c tag reader body list is unshut (not_from_false (is_plain_bounded c.kind && is_full c) room))))

-- a closing
close_logs : (c : Channel) (tag : Tag) → is_closable c.kind ≡ true → Logs c tag (closing c)
close_logs c tag closable =
    if_logs c tag c.closed (says reply.Done c) (Replies reply.Done (act.Closed ∷ []) (record c { closed = true }))
    (λ _. refl)
    (λ unshut. is_given _ (record c { closed = true }) (and_from _ _ closable (not_from_false c.closed unshut)))

-- one more reader has the next number, below the limit
pub next_reader : (c : Channel) → is_broadcast c.kind ≡ true → length c.lists < MAX_READERS
    → is_next_reader c (length c.lists) ≡ true
next_reader c broadcast place =
    and_from _ _ broadcast (and_from _ _ (eq-eqb (length c.lists) (length c.lists) refl)
    (lt-ltb (length c.lists) MAX_READERS place))

-- a new reader, by an act that is lawful where it has the next number
reader_logs : (c : Channel) (tag : Tag) (made : ℕ → Act) (list : List Item)
    → (is_next_reader c (length c.lists) ≡ true
    → after_act c tag.seat (made (length c.lists)) ≡ Some (with_reader c list))
    → is_broadcast c.kind ≡ true → Logs c tag (reader_made c made list)
reader_logs c tag made list h broadcast =
    if_logs c tag _ _ _ (λ _. tt)
    (λ place. h (next_reader c broadcast (leb-false MAX_READERS (length c.lists) place)))

-- a duplicate
dup_logs : (c : Channel) (tag : Tag) → is_broadcast c.kind ≡ true → Logs c tag (reader_made c act.Begun [])
dup_logs c tag broadcast = reader_logs c tag act.Begun [] (λ next. is_given _ (with_reader c []) next) broadcast

-- a clone
clone_logs : (c : Channel) (tag : Tag) (source : ℕ) (list : List Item) → list_of c source ≡ Some list
    → is_broadcast c.kind ≡ true
    → Logs c tag (reader_made c (act.Cloned source) list)
clone_logs c tag source list is broadcast =
    reader_logs c tag (act.Cloned source) list (λ next. at_its_list c source list _ is
    ∙ is_given _ (with_reader c list) next) broadcast

-- a flush: one take after another, until nothing is left
pub flush_logs : (tag : Tag) (reader : ℕ) (list : List Item) (c : Channel) → list_of c reader ≡ Some list
    → state (Some c) (entries tag (map (act.Took reader) list)) ≡ Some (with_left c reader [])
flush_logs tag reader [] c is = ap (λ l. Some (record c { lists = l })) (sym (set_there c.lists reader [] is))
flush_logs tag reader (item ∷ rest) c is =
    ap (λ s. state s (entries tag (map (act.Took reader) rest))) (took_logs c tag reader item rest is)
    ∙ flush_logs tag reader rest (with_left c reader rest) (at_set_same c.lists reader (item ∷ rest) rest is)
    ∙ ap (λ l. Some (record c { lists = l })) (set-set c.lists reader rest [])

-- which kinds have the operations that need a kind
pub closable : (kind : Kind) (chan : ℕ) → allowed_for kind (Close chan) ≡ true → is_closable kind ≡ true
closable Queue chan e = e
closable Bounded chan e = e
closable Cast chan e = e
closable MQueue chan e = e
closable BMQueue chan e = e
closable MCast chan e = e

-- a kind that has duplicates, and so clones, is broadcast
pub broadcast : (kind : Kind) (chan : ℕ) → allowed_for kind (Dup chan) ≡ true → is_broadcast kind ≡ true
broadcast Queue chan e = e
broadcast Bounded chan e = e
broadcast Cast chan e = e
broadcast MQueue chan e = e
broadcast BMQueue chan e = e
broadcast MCast chan e = e

-- every operation
pub logs : (c : Channel) (tag : Tag) (last : Option ℕ) (op : Op) → allowed_for c.kind op ≡ true
    → Logs c tag (operate c tag.seat last op)
logs c tag last (Write chan body) e = write_logs c tag (body_of last body) (Waits cause.Full) tt
logs c tag last (TryWrite chan body) e = write_logs c tag (body_of last body) (says reply.Full c) refl
logs c tag last (Read chan reader) e = list_logs c tag (list_of c reader) (taking c reader (Waits cause.Empty))
    (λ list is. taking_logs c tag reader (Waits cause.Empty) tt list is)
logs c tag last (TryRead chan reader) e = list_logs c tag (list_of c reader) (taking c reader (says reply.Empty c))
    (λ list is. taking_logs c tag reader (says reply.Empty c) refl list is)
logs c tag last (Peek chan reader) e = list_logs c tag (list_of c reader) (showing c (Waits cause.Empty))
    (λ list is. showing_logs c tag (Waits cause.Empty) tt list)
logs c tag last (TryPeek chan reader) e = list_logs c tag (list_of c reader) (showing c (says reply.Empty c))
    (λ list is. showing_logs c tag (says reply.Empty c) refl list)
logs c tag last (PutBack chan reader body) e = body_logs c tag (body_of last body) _ (λ b. put_back_logs c tag reader b)
logs c tag last (Close chan) e = close_logs c tag (closable c.kind chan e)
logs c tag last (IsClosed chan) e = refl
logs c tag last (IsEmpty chan reader) e =
    list_logs c tag (list_of c reader) (λ list. says (reply.Flag (is_none (slice_get list 0))) c) (λ list is. refl)
logs c tag last (IsFull chan) e = refl
logs c tag last (Dup chan) e = dup_logs c tag (broadcast c.kind chan e)
logs c tag last (CloneReader chan reader) e = list_logs c tag (list_of c reader) (reader_made c (act.Cloned reader))
    (λ list is. clone_logs c tag reader list is (broadcast c.kind chan e))
logs c tag last (Flush chan reader) e =
    list_logs c tag (list_of c reader)
    (λ list. Replies (reply.All list) (map (act.Took reader) list) (with_left c reader []))
    (λ list is. flush_logs tag reader list c is)
logs c tag last (Length chan) e = refl

-- the law, for what an operation was seen to do
pub logs_its_acts : LogsItsActs
logs_its_acts channel left tag last op answer acts allowed is =
    subst (Logs channel tag) is (logs channel tag last op allowed)

-- .. on a channel that is true to a log
pub stays_true : StaysTrue
stays_true kind bound readers log channel left tag last op answer acts h allowed is =
    let same = (keeps kind bound readers log channel h).same_kind in
    further kind bound readers log (entries tag acts) channel left h
    (logs_its_acts channel left tag last op answer acts (ap (λ k. allowed_for k op) same ∙ allowed) is)
