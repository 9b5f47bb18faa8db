-- What the type of a channel keeps, with one more entry, and with one less.
use Rattle.std.proofs.Common.{◌≡◌, refl, sym, ◌∙◌, ap, subst, ℕ, ◌+◌, ◌-◌, ◌≤◌, Bool, true, false, cond, Some, List, []}
use Rattle.std.proofs.Common.{◌∷◌, ◌++◌, length, length-append, drop, arith}
use Rattle.std.proofs.lemmas.List.{drop-append-le, drop_all}
use Rattle.txc_base.specs.declared.entry.Entry.{Entry}
use Rattle.txc_base.specs.Channel.{opening}
use Rattle.txc_base.specs.InOrder.{written, written_by}
use Rattle.txc_base.specs.Log.{IsTrueTo, after, state}
use Rattle.txc_base_laws.proofs.CountsLaw.{sorts}
use Rattle.txc_base_laws.proofs.KeptLaw.{numbered}
use Rattle.txc_base_laws.proofs.Truth.{more}
use Rattle.txc_base_laws.proofs.UndoLaw.{stays_true_back}
use Rattle.txc_base_laws.proofs.Words.{written_push, count_push}
use Rattle.txc_chan.specs.declared.body.Body.{Body}
use Rattle.txc_chan.specs.declared.decl.Decl.{Decl}
use Rattle.txc_chan.specs.Body.{NothingUndoable, HasWrittenAll, HasRoomFor, channel_of, is_shelved}
use Rattle.txc_chan.specs.Body.{last_entries, needed, undoable_at}
use Rattle.txc_chan.specs.Reserved.{needs_room, one_if}
use Rattle.txc_chan.specs.Chan.{IsSoundChan}
use Rattle.txc_base_laws.specs.Undone.{undone}

as_one : (b : Bool) → cond b 1 0 ≡ one_if b
as_one true = refl
as_one false = refl

-- the room that is needed, with one more entry
pub needed_push : (shelved : Bool) (reader : ℕ) (log : List Entry) (entry : Entry)
    → needed shelved reader (log ++ entry ∷ []) ≡ needed shelved reader log + one_if
    (needs_room shelved reader entry.act)
needed_push shelved reader log entry =
    count_push (needs_room shelved reader) log entry
    ∙ ap (λ n. needed shelved reader log + n) (as_one (needs_room shelved reader entry.act))

-- the last entries, with one more
pub last_push : (pending : ℕ) (log : List Entry) (entry : Entry) → pending ≤ length log
    → last_entries (pending + 1) (log ++ entry ∷ []) ≡ last_entries pending log ++ entry ∷ []
last_push pending log entry within =
    let n : length (log ++ entry ∷ []) - (pending + 1) ≡ length log - pending =
    omega (arith, length-append log (entry ∷ [])) in
    ap (λ k. drop k (log ++ entry ∷ [])) n ∙ drop-append-le (length log - pending) log (entry ∷ []) (omega arith)

-- one more entry, which is lawful, and for whose undo there is room
pub kept_more : (decl : Decl) (body body' : Body) (closed closed' : Bool) (count count' backs backs' : ℕ)
    (log log' : List Entry) (pending : ℕ) (entry : Entry)
    → IsSoundChan decl body closed count backs log pending
    → after (channel_of decl.kind body closed count backs) entry
    ≡ Some (channel_of decl.kind body' closed' count' backs')
    → is_shelved body' ≡ is_shelved body
    → ((k : ℕ) → undoable_at body' k ≡ undoable_at body k + one_if (needs_room (is_shelved body) k entry.act))
    → HasWrittenAll body' (written log ++ written_by entry.act)
    → log' ≡ log ++ entry ∷ []
    → IsSoundChan decl body' closed' count' backs' log' (pending + 1)
kept_more decl body body' closed closed' count count' backs backs' log log' pending entry kept lawful shelved room
    stocked is = record {
      lawful = ap (λ l. state (Some (opening decl.kind decl.bound decl.readers)) l) is
          ∙ more decl.kind decl.bound decl.readers log entry (channel_of decl.kind body closed count backs)
          (channel_of decl.kind body' closed' count' backs') kept.lawful lawful;
      within = let n : length log' ≡ length log + 1 = ap length is ∙ length-append log (entry ∷ []) in
          omega (arith, kept.within);
      ready = λ k.
          let last : last_entries (pending + 1) log' ≡ last_entries pending log ++ entry ∷ [] =
          ap (last_entries (pending + 1)) is ∙ last_push pending log entry kept.within in
          let n : needed (is_shelved body') k (last_entries (pending + 1) log')
          ≡ needed (is_shelved body) k (last_entries pending log) + one_if (needs_room (is_shelved body) k entry.act) =
          ap (λ b. needed b k (last_entries (pending + 1) log')) shelved ∙ ap (needed (is_shelved body) k) last
          ∙ needed_push (is_shelved body) k (last_entries pending log) entry in
          omega (arith, kept.ready k, room k);
      stocked = subst (HasWrittenAll body') (sym (ap written is ∙ written_push log entry)) stocked;
    }

-- the last entry taken off, and its act undone
pub kept_less : (decl : Decl) (body body' : Body) (closed closed' : Bool) (count count' backs backs' : ℕ)
    (log log' : List Entry) (pending : ℕ) (entry : Entry)
    → IsSoundChan decl body closed count backs log (pending + 1)
    → log ≡ log' ++ entry ∷ []
    → channel_of decl.kind body' closed' count' backs' ≡ undone (channel_of decl.kind body closed count backs) entry.act
    → ((k : ℕ) → needed (is_shelved body) k (last_entries pending log') ≡ undoable_at body' k)
    → is_shelved body' ≡ is_shelved body
    → HasWrittenAll body' (written log')
    → IsSoundChan decl body' closed' count' backs' log' pending
kept_less decl body body' closed closed' count count' backs backs' log log' pending entry kept is undo ready shelved
    stocked = record {
      lawful =
          let true_now : IsTrueTo decl.kind decl.bound decl.readers (log' ++ entry ∷ [])
          (channel_of decl.kind body closed count backs) =
          subst (λ l. IsTrueTo decl.kind decl.bound decl.readers l (channel_of decl.kind body closed count backs)) is
          kept.lawful in
          stays_true_back decl.kind decl.bound decl.readers log' entry (channel_of decl.kind body closed count backs)
          true_now
          ∙ ap Some (sym undo);
      within = let n : length log ≡ length log' + 1 = ap length is ∙ length-append log' (entry ∷ []) in
          omega (arith, kept.within);
      ready = λ k. subst (λ b. needed b k (last_entries pending log') ≡ undoable_at body' k) (sym shelved) (ready k);
      stocked = stocked;
    }

-- the room that was needed before the last entry
pub needed_before : (body : Body) (log log' : List Entry) (pending : ℕ) (entry : Entry) → log ≡ log' ++ entry ∷ []
    → pending + 1 ≤ length log
    → HasRoomFor body (last_entries (pending + 1) log)
    → (k : ℕ) → needed (is_shelved body) k (last_entries pending log') + one_if
    (needs_room (is_shelved body) k entry.act) ≡ undoable_at body k
needed_before body log log' pending entry is within ready k =
    let n : length log ≡ length log' + 1 = ap length is ∙ length-append log' (entry ∷ []) in
    let last : last_entries (pending + 1) log ≡ last_entries pending log' ++ entry ∷ [] =
    ap (last_entries (pending + 1)) is ∙ last_push pending log' entry (omega arith) in
    let m : needed (is_shelved body) k (last_entries (pending + 1) log)
    ≡ needed (is_shelved body) k (last_entries pending log') + one_if (needs_room (is_shelved body) k entry.act) =
    ap (needed (is_shelved body) k) last ∙ needed_push (is_shelved body) k (last_entries pending log') entry in
    omega (arith, ready k)

-- the counts of items are within the log
pub counts_within : (decl : Decl) (body : Body) (closed : Bool) (count backs : ℕ) (log : List Entry) (pending : ℕ)
    → IsSoundChan decl body closed count backs log pending → count + backs ≤ length log
counts_within decl body closed count backs log pending kept =
    let n = numbered decl.kind decl.bound decl.readers log (channel_of decl.kind body closed count backs) kept.lawful in
    omega (arith, n.1, sorts log)

-- no entry needs no room
none_needed : (shelved : Bool) (k : ℕ) (log : List Entry) → needed shelved k (last_entries 0 log) ≡ 0
none_needed shelved k log = ap (needed shelved k) (drop_all (length log - 0) log (omega arith))

-- where nothing can be undone, no room is kept
pub no_room : (decl : Decl) (body : Body) (closed : Bool) (count backs : ℕ) (log : List Entry) (pending : ℕ)
    → pending ≡ 0 → IsSoundChan decl body closed count backs log pending → NothingUndoable body
no_room decl body closed count backs log pending none kept k =
    sym (subst (λ n. needed (is_shelved body) k (last_entries n log) ≡ undoable_at body k) none (kept.ready k))
    ∙ none_needed (is_shelved body) k log

-- nothing of it can be undone any more
pub settled_so : (decl : Decl) (body : Body) (closed : Bool) (count backs : ℕ) (log : List Entry) (pending : ℕ)
    → IsSoundChan decl body closed count backs log pending → NothingUndoable body
    → IsSoundChan decl body closed count backs log 0
settled_so decl body closed count backs log pending kept room = record {
  lawful = kept.lawful;
  within = omega arith;
  ready = λ k. none_needed (is_shelved body) k log ∙ sym (room k);
  stocked = kept.stocked;
}

-- one more entry, which is lawful and settled at once
pub kept_settled : (decl : Decl) (body body' : Body) (closed closed' : Bool) (count count' backs backs' : ℕ)
    (log log' : List Entry) (pending : ℕ) (entry : Entry)
    → IsSoundChan decl body closed count backs log pending
    → after (channel_of decl.kind body closed count backs) entry
    ≡ Some (channel_of decl.kind body' closed' count' backs')
    → HasWrittenAll body' (written log ++ written_by entry.act)
    → NothingUndoable body'
    → log' ≡ log ++ entry ∷ []
    → IsSoundChan decl body' closed' count' backs' log' 0
kept_settled decl body body' closed closed' count count' backs backs' log log' pending entry kept lawful stocked room is
    = record {
      lawful = ap (λ l. state (Some (opening decl.kind decl.bound decl.readers)) l) is
          ∙ more decl.kind decl.bound decl.readers log entry (channel_of decl.kind body closed count backs)
          (channel_of decl.kind body' closed' count' backs') kept.lawful lawful;
      within = omega arith;
      ready = λ k. none_needed (is_shelved body') k log' ∙ sym (room k);
      stocked = subst (HasWrittenAll body') (sym (ap written is ∙ written_push log entry)) stocked;
    }

-- another body with the same lists, in which nothing can be undone
pub kept_same : (decl : Decl) (body body' : Body) (closed : Bool) (count backs : ℕ) (log : List Entry) (pending : ℕ)
    → IsSoundChan decl body closed count backs log pending
    → channel_of decl.kind body' closed count backs ≡ channel_of decl.kind body closed count backs
    → HasWrittenAll body' (written log) → NothingUndoable body'
    → IsSoundChan decl body' closed count backs log 0
kept_same decl body body' closed count backs log pending kept same stocked room = record {
  lawful = subst (IsTrueTo decl.kind decl.bound decl.readers log) (sym same) kept.lawful;
  within = omega arith;
  ready = λ k. none_needed (is_shelved body') k log ∙ sym (room k);
  stocked = stocked;
}
