-- How a log leads from channel to channel, and what holds along it.
use Rattle.std.proofs.Common.{◌≡◌, refl, sym, ◌∙◌, ap, subst, ℕ, Option, Some, None, List, [], ◌∷◌, ◌++◌, append_assoc}
use Rattle.std.proofs.Common.{append-nil}
use Rattle.std.proofs.lemmas.Option.{same_Some}
use Rattle.txc_base.specs.declared.entry.Entry.{Entry}
use Rattle.txc_base.specs.declared.kind.Kind.{Kind}
use Rattle.txc_base.specs.Channel.{Channel, opening}
use Rattle.txc_base.specs.Log.{after, step, state, IsTrueTo}
use Rattle.txc_base_laws.proofs.Acts.{Leads, leads}

-- no channel leads nowhere
pub state_none : (log : List Entry) → state None log ≡ None
state_none [] = refl
state_none (entry ∷ log) = state_none log

-- one log after another
pub state_append : (s : Option Channel) (first more : List Entry) → state s (first ++ more) ≡ state (state s first) more
state_append s [] more = refl
state_append s (entry ∷ first) more = state_append (step s entry) first more

-- one more entry
pub state_push : (s : Option Channel) (log : List Entry) (entry : Entry)
    → state s (log ++ entry ∷ []) ≡ step (state s log) entry
state_push s log entry = state_append s log (entry ∷ [])

-- one more lawful entry keeps a channel true
pub more : (kind : Kind) (bound readers : ℕ) (log : List Entry) (entry : Entry) (channel left : Channel)
    → IsTrueTo kind bound readers log channel
    → after channel entry ≡ Some left → IsTrueTo kind bound readers (log ++ entry ∷ []) left
more kind bound readers log entry channel left h e =
    state_push (Some (opening kind bound readers)) log entry ∙ ap (λ s. step s entry) h ∙ e

-- a longer log that leads on from a channel keeps it true
pub further : (kind : Kind) (bound readers : ℕ) (log added : List Entry) (channel left : Channel)
    → IsTrueTo kind bound readers log channel
    → state (Some channel) added ≡ Some left → IsTrueTo kind bound readers (log ++ added) left
further kind bound readers log added channel left h e =
    state_append (Some (opening kind bound readers)) log added ∙ ap (λ s. state s added) h ∙ e

-- what led somewhere began somewhere
pub started : (s : Option Channel) (log : List Entry) (c : Channel) → state s log ≡ Some c → (b : Channel)
    × ((s ≡ Some b) × (state (Some b) log ≡ Some c))
started None log c e = let none = state_none log in cc
started (Some b) log c e = (b, (refl, e))

-- a log in two parts leads to a channel between them
pub between : (s : Option Channel) (first more : List Entry) (c : Channel) → state s (first ++ more) ≡ Some c
    → (b : Channel) × ((state s first ≡ Some b) × (state (Some b) more ≡ Some c))
between s first more c e = started (state s first) more c (sym (state_append s first more) ∙ e)

-- what the last entry of a log led from
pub last_led : (kind : Kind) (bound readers : ℕ) (log : List Entry) (entry : Entry) (left : Channel)
    → IsTrueTo kind bound readers (log ++ entry ∷ []) left
    → (channel : Channel) × (IsTrueTo kind bound readers log channel × Leads channel entry.tag.seat entry.act left)
last_led kind bound readers log entry left h =
    let b = between (Some (opening kind bound readers)) log (entry ∷ []) left h in
    (b.0, (b.1.0, leads b.0 entry.tag.seat entry.act left b.1.1))

-- a fact that holds of a log so far and of the channel there, and that each lawful entry keeps, holds at the end
pub along : (P : List Entry → Channel → Type 0)
    → (keeps : (log : List Entry) (c : Channel) (entry : Entry) (c' : Channel) → P log c
    → Leads c entry.tag.seat entry.act c' → P (log ++ entry ∷ []) c')
    → (more log : List Entry) (c c' : Channel) → P log c → state (Some c) more ≡ Some c' → P (log ++ more) c'
along P keeps [] log c c' p e = subst (λ l. P l c') (sym (append-nil log)) (subst (P log) (same_Some c c' e) p)
along P keeps (entry ∷ more) log c c' p e =
    let m = started (after c entry) more c' e in
    subst (λ l. P l c') (append_assoc log (entry ∷ []) more)
    (along P keeps more (log ++ entry ∷ []) m.0 c'
    (keeps log c entry m.0 p (leads c entry.tag.seat entry.act m.0 m.1.0)) m.1.1)

-- the same from the opening on
pub always : (P : List Entry → Channel → Type 0)
    → (keeps : (log : List Entry) (c : Channel) (entry : Entry) (c' : Channel) → P log c
    → Leads c entry.tag.seat entry.act c' → P (log ++ entry ∷ []) c')
    → (kind : Kind) (bound readers : ℕ) (log : List Entry) (channel : Channel) → P [] (opening kind bound readers)
    → IsTrueTo kind bound readers log channel → P log channel
always P keeps kind bound readers log channel p e = along P keeps log [] (opening kind bound readers) channel p e

-- one log and one declaration have one channel
pub determined : (kind : Kind) (bound readers : ℕ) (log : List Entry) (channel other : Channel)
    → IsTrueTo kind bound readers log channel
    → IsTrueTo kind bound readers log other → channel ≡ other
determined kind bound readers log channel other h k = same_Some channel other (sym h ∙ k)
