-- What each change of a channel's fields does to what its type keeps.
use Rattle.std.proofs.Common.{◌≡◌, refl, sym, ◌∙◌, ap, subst, ℕ, slice_get, ◌+◌, ◌<◌, Bool, true, false, Some}
use Rattle.std.proofs.Common.{is_some, List, [], ◌∷◌, ◌++◌, length, map, append-nil, add-zero}
use Rattle.std.proofs.lemmas.Bool.{and_from, not_from_false}
use Rattle.txc_base.specs.declared.act.Act.{Act}
use Rattle.txc_base.specs.declared.act.Act.TheVariants.{Wrote, Took, PutBack, Closed, Begun, Cloned}
use Rattle.txc_base.specs.declared.entry.Entry.{Entry}
use Rattle.txc_base.specs.declared.item.Item.{Item}
use Rattle.txc_base.specs.declared.kind.Kind.{Kind}
use Rattle.txc_base.specs.declared.tag.Tag.{Tag}
use Rattle.txc_base.specs.declared.limits.TheConstants.{MAX_READERS}
use Rattle.txc_base.specs.InOrder.{written, written_by}
use Rattle.txc_base.specs.Kinds.{is_broadcast, is_closable}
use Rattle.txc_base.specs.Log.{takes_write, takes_back, after_act}
use Rattle.txc_base.specs.Operation.{next_written, next_back, with_reader}
use Rattle.txc_base_laws.proofs.Bridge.{wrote_logs, took_logs, back_logs, is_given, next_reader, at_its_list}
use Rattle.txc_chan.proofs.KeptLemmas.{kept_more, kept_same, kept_settled}
use Rattle.txc_chan.specs.declared.body.Body.{Body}
use Rattle.txc_chan.specs.declared.decl.Decl.{Decl}
use Rattle.txc_chan.specs.Body.{lists_of, NothingUndoable, HasWrittenAll, Keeps, SameUndoable, IsOfKind}
use Rattle.txc_chan.specs.Body.{channel_of, is_shelved, undoable_at}
use Rattle.txc_chan.specs.Reserved.{needs_room, one_if}
use Rattle.txc_chan.specs.BodyCalls.{list_at, lists_with, ReadsIn, TakesFrom, MoreUndoable}
use Rattle.txc_chan.specs.Chan.{IsSoundChan}

abbrev pub entry : Tag → Act → Entry
entry tag act = record { tag = tag; act = act }

-- a body in the place of another (this makes one channel of the equations of its parts)
pub channel_is : (kind : Kind) (body body' : Body) (closed : Bool) (count backs : ℕ) (lists : List (List Item))
    → Keeps body body' → lists_of body' ≡ lists
    → channel_of kind body' closed count backs ≡ record (channel_of kind body closed count backs) { lists = lists }
channel_is kind body body' closed count backs lists keeps is = λ j. record {
  kind = kind;
  bound = keeps.bound j;
  closed = closed;
  written = count;
  backs = backs;
  lists = is j;
}

-- a shelf, or none, as before
pub still_shelved : (body body' : Body) → Keeps body body' → is_shelved body' ≡ is_shelved body
still_shelved body body' keeps = ap is_some keeps.shelf

-- .. and the items of the same kind
pub still_fits : {shelves : Bool} {kind : Kind} {body body' : Body} → Keeps body body' → IsOfKind shelves kind body
    → IsOfKind shelves kind body'
still_fits keeps fits = record {
  cast = keeps.cast ∙ fits.cast;
  limited = keeps.limited ∙ fits.limited;
  shelved = ap is_some keeps.shelf ∙ fits.shelved;
}

-- nothing needs room
no_more : (body body' : Body) → SameUndoable body body' → (k : ℕ) → undoable_at body' k ≡ undoable_at body k + 0
no_more body body' same k = same k ∙ sym (add-zero (undoable_at body k))

pub writes : (decl : Decl) (body body' : Body) (closed : Bool) (count backs : ℕ) (log log' : List Entry) (pending : ℕ)
    (tag : Tag) (b : ℕ)
    → IsSoundChan decl body closed count backs log pending
    → closed ≡ false → takes_write (channel_of decl.kind body closed count backs) ≡ true
    → lists_of body' ≡ map (λ list. list ++ next_written (channel_of decl.kind body closed count backs) tag.seat b ∷ [])
    (lists_of body)
    → Keeps body body' → SameUndoable body body'
    → HasWrittenAll body' (written log ++ next_written (channel_of decl.kind body closed count backs) tag.seat b ∷ [])
    → log' ≡ log ++ entry tag (Wrote (next_written (channel_of decl.kind body closed count backs) tag.seat b)) ∷ []
    → IsSoundChan decl body' closed (count + 1) backs log' (pending + 1)
writes decl body body' closed count backs log log' pending tag b kept unshut room lists keeps same stocked is =
    let c = channel_of decl.kind body closed count backs in
    let item = next_written c tag.seat b in
    kept_more decl body body' closed closed count (count + 1) backs backs log log' pending (entry tag (Wrote item)) kept
    (wrote_logs c tag b unshut room
    ∙ ap Some (sym (channel_is decl.kind body body' closed (count + 1) backs
    (map (λ list. list ++ item ∷ []) (lists_of body)) keeps lists)))
    (still_shelved body body' keeps) (no_more body body' same) stocked is

pub takes : (decl : Decl) (body body' : Body) (closed : Bool) (count backs : ℕ) (log log' : List Entry) (pending : ℕ)
    (tag : Tag) (reader : ℕ) (item : Item)
    → IsSoundChan decl body closed count backs log pending
    → TakesFrom (Some item) body reader body' → Keeps body body' → MoreUndoable (Some item) body reader body'
    → HasWrittenAll body' (written log)
    → log' ≡ log ++ entry tag (Took reader item) ∷ []
    → IsSoundChan decl body' closed count backs log' (pending + 1)
takes decl body body' closed count backs log log' pending tag reader item kept taken keeps more stocked is =
    let c = channel_of decl.kind body closed count backs in
    kept_more decl body body' closed closed count count backs backs log log' pending (entry tag (Took reader item)) kept
    (took_logs c tag reader item (list_at body' reader) taken.0
    ∙ ap Some (sym (channel_is decl.kind body body' closed count backs (lists_with body reader (list_at body' reader))
    keeps taken.1)))
    (still_shelved body body' keeps) more (subst (HasWrittenAll body') (sym (append-nil (written log))) stocked) is

pub puts : (decl : Decl) (body body' : Body) (closed : Bool) (count backs : ℕ) (log log' : List Entry) (pending : ℕ)
    (tag : Tag) (reader b : ℕ)
    → IsSoundChan decl body closed count backs log pending
    → slice_get (lists_of body) reader ≡ Some (list_at body reader)
    → closed ≡ false → takes_back (channel_of decl.kind body closed count backs) ≡ true
    → lists_of body' ≡ lists_with body reader
    (next_back (channel_of decl.kind body closed count backs) tag.seat b ∷ list_at body reader)
    → Keeps body body' → SameUndoable body body' → HasWrittenAll body' (written log)
    → log' ≡ log ++ entry tag (PutBack reader (next_back (channel_of decl.kind body closed count backs) tag.seat b))
    ∷ []
    → IsSoundChan decl body' closed count (backs + 1) log' (pending + 1)
puts decl body body' closed count backs log log' pending tag reader b kept list unshut room lists keeps same stocked
    is =
    let c = channel_of decl.kind body closed count backs in
    let item = next_back c tag.seat b in
    kept_more decl body body' closed closed count count backs (backs + 1) log log' pending
    (entry tag (PutBack reader item)) kept
    (back_logs c tag reader b (list_at body reader) list unshut room
    ∙ ap Some (sym (channel_is decl.kind body body' closed count (backs + 1)
    (lists_with body reader (item ∷ list_at body reader)) keeps lists)))
    (still_shelved body body' keeps) (no_more body body' same)
    (subst (HasWrittenAll body') (sym (append-nil (written log))) stocked) is

pub closes : (decl : Decl) (body : Body) (closed : Bool) (count backs : ℕ) (log log' : List Entry) (pending : ℕ)
    (tag : Tag)
    → IsSoundChan decl body closed count backs log pending
    → is_closable decl.kind ≡ true → closed ≡ false
    → log' ≡ log ++ entry tag Closed ∷ []
    → IsSoundChan decl body true count backs log' (pending + 1)
closes decl body closed count backs log log' pending tag kept closable unshut is =
    let c = channel_of decl.kind body closed count backs in
    kept_more decl body body closed true count count backs backs log log' pending (entry tag Closed) kept
    (is_given _ (record c { closed = true }) (and_from _ _ closable (not_from_false closed unshut)))
    refl (λ k. sym (add-zero (undoable_at body k)))
    (subst (HasWrittenAll body) (sym (append-nil (written log))) kept.stocked) is

-- one more reader, by an act that is lawful where it has the next number
adds : (decl : Decl) (body body' : Body) (closed : Bool) (count backs : ℕ) (log log' : List Entry) (pending : ℕ)
    (tag : Tag) (act : Act) (list : List Item)
    → IsSoundChan decl body closed count backs log pending
    → after_act (channel_of decl.kind body closed count backs) tag.seat act
    ≡ Some (with_reader (channel_of decl.kind body closed count backs) list)
    → lists_of body' ≡ lists_of body ++ list ∷ []
    → Keeps body body' → SameUndoable body body' → HasWrittenAll body' (written log)
    → written_by act ≡ [] → ((k : ℕ) → needs_room (is_shelved body) k act ≡ false)
    → log' ≡ log ++ entry tag act ∷ []
    → IsSoundChan decl body' closed count backs log' (pending + 1)
adds decl body body' closed count backs log log' pending tag act list kept lawful lists keeps same stocked none no_room
    is =
    kept_more decl body body' closed closed count count backs backs log log' pending (entry tag act) kept
    (lawful ∙ ap Some (sym
    (channel_is decl.kind body body' closed count backs (lists_of body ++ list ∷ []) keeps lists)))
    (still_shelved body body' keeps) (λ k. no_more body body' same k
    ∙ ap (λ b. undoable_at body k + one_if b) (sym (no_room k)))
    (subst (HasWrittenAll body') (sym (append-nil (written log)) ∙ ap (λ l. written log ++ l) (sym none)) stocked) is

pub begins : (decl : Decl) (body body' : Body) (closed : Bool) (count backs : ℕ) (log log' : List Entry) (pending : ℕ)
    (tag : Tag) (number : ℕ)
    → IsSoundChan decl body closed count backs log pending
    → is_broadcast decl.kind ≡ true → number ≡ length (lists_of body) → length (lists_of body) < MAX_READERS
    → lists_of body' ≡ lists_of body ++ [] ∷ []
    → Keeps body body' → SameUndoable body body' → HasWrittenAll body' (written log)
    → log' ≡ log ++ entry tag (Begun number) ∷ []
    → IsSoundChan decl body' closed count backs log' (pending + 1)
begins decl body body' closed count backs log log' pending tag number kept broadcast next few lists keeps same stocked
    is =
    let c = channel_of decl.kind body closed count backs in
    adds decl body body' closed count backs log log' pending tag (Begun number) [] kept
    (ap (λ n. after_act c tag.seat (Begun n)) next ∙ is_given _ (with_reader c []) (next_reader c broadcast few)) lists
    keeps same stocked refl (λ k. refl) is

pub clones : (decl : Decl) (body body' : Body) (closed : Bool) (count backs : ℕ) (log log' : List Entry) (pending : ℕ)
    (tag : Tag) (source number : ℕ)
    → IsSoundChan decl body closed count backs log pending
    → is_broadcast decl.kind ≡ true → slice_get (lists_of body) source ≡ Some (list_at body source)
    → number ≡ length (lists_of body) → length (lists_of body) < MAX_READERS
    → lists_of body' ≡ lists_of body ++ list_at body source ∷ []
    → Keeps body body' → SameUndoable body body' → HasWrittenAll body' (written log)
    → log' ≡ log ++ entry tag (Cloned source number) ∷ []
    → IsSoundChan decl body' closed count backs log' (pending + 1)
clones decl body body' closed count backs log log' pending tag source number kept broadcast found next few lists keeps
    same stocked is =
    let c = channel_of decl.kind body closed count backs in
    adds decl body body' closed count backs log log' pending tag (Cloned source number) (list_at body source) kept
    (ap (λ n. after_act c tag.seat (Cloned source n)) next
    ∙ at_its_list c source (list_at body source) _ found
    ∙ is_given _ (with_reader c (list_at body source)) (next_reader c broadcast few)) lists keeps same stocked refl
    (λ k. refl) is

-- a take that is settled at once
pub takes_settled : (decl : Decl) (body body' : Body) (closed : Bool) (count backs : ℕ) (log log' : List Entry)
    (pending : ℕ) (tag : Tag) (reader : ℕ) (item : Item)
    → IsSoundChan decl body closed count backs log pending
    → ReadsIn (Some item) (lists_of body) reader (lists_of body') → Keeps body body'
    → HasWrittenAll body' (written log) → NothingUndoable body'
    → log' ≡ log ++ entry tag (Took reader item) ∷ []
    → IsSoundChan decl body' closed count backs log' 0
takes_settled decl body body' closed count backs log log' pending tag reader item kept taken keeps stocked room is =
    let c = channel_of decl.kind body closed count backs in
    kept_settled decl body body' closed closed count count backs backs log log' pending (entry tag (Took reader item))
    kept
    (took_logs c tag reader item (list_at body' reader) taken.0
    ∙ ap Some (sym (channel_is decl.kind body body' closed count backs (lists_with body reader (list_at body' reader))
    keeps taken.1)))
    (subst (HasWrittenAll body') (sym (append-nil (written log))) stocked) room is

-- nothing was taken
pub nothing_settled : (decl : Decl) (body body' : Body) (closed : Bool) (count backs : ℕ) (log : List Entry)
    (pending : ℕ)
    → IsSoundChan decl body closed count backs log pending
    → lists_of body' ≡ lists_of body → Keeps body body' → HasWrittenAll body' (written log) → NothingUndoable body'
    → IsSoundChan decl body' closed count backs log 0
nothing_settled decl body body' closed count backs log pending kept same keeps stocked room =
    kept_same decl body body' closed count backs log pending kept
    (channel_is decl.kind body body' closed count backs (lists_of body) keeps same) stocked room
