-- Why a closed channel takes nothing more.
use Rattle.std.proofs.Common.{◌≡◌, refl, sym, ◌∙◌, ap, Bool, true, false, ◌||◌, ℕ, Some, List, [], ◌∷◌, ◌++◌}
use Rattle.std.specs.List.{list_any}
use Rattle.std.proofs.lemmas.Bool.{both_ways, or_from}
use Rattle.std.proofs.lemmas.List.Folds.{list_any-append}
use Rattle.txc_base.specs.declared.act.Act.{Act}
use Rattle.txc_base.specs.declared.act.Act.TheVariants.{Wrote, Took, PutBack, Closed, Begun, Cloned}
use Rattle.txc_base.specs.declared.entry.Entry.{Entry}
use Rattle.txc_base.specs.declared.kind.Kind.{Kind}
use Rattle.txc_base.specs.Channel.{Channel, opening}
use Rattle.txc_base.specs.Log.{after, state, IsTrueTo}
use Rattle.txc_base.specs.StaysClosedLaw.{needs_open, StaysClosed}
use Rattle.txc_base_laws.proofs.Acts.{Leads, leads}
use Rattle.txc_base_laws.proofs.Truth.{started, between, always}
use Rattle.txc_base_laws.specs.Laws.{is_closing, IsClosedByItsLog}

-- the closed flag of equal channels
flag : (c b : Channel) → c ≡ b → b.closed ≡ true → c.closed ≡ true
flag c b same e = ap (λ (x : Channel). x.closed) same ∙ e

-- one act on a closed channel
closed_act : (c : Channel) (seat : ℕ) (act : Act) (c' : Channel) → c.closed ≡ true → Leads c seat act c'
    → (needs_open act ≡ false) × (c'.closed ≡ true)
closed_act c seat (Wrote item) c' e h = absurd (both_ways c.closed h.0 e)
closed_act c seat (Took reader item) c' e h = (refl, flag c' _ h.1.1 e)
closed_act c seat (PutBack reader item) c' e h = absurd (both_ways c.closed h.1.1.0 e)
closed_act c seat Closed c' e h = absurd (both_ways c.closed h.1.0 e)
closed_act c seat (Begun reader) c' e h = (refl, flag c' _ h.1.1.1 e)
closed_act c seat (Cloned source reader) c' e h = (refl, flag c' _ h.1.1.1.1.1 e)

-- all that follows on a closed channel
closed_log : (log : List Entry) (c c' : Channel) → c.closed ≡ true → state (Some c) log ≡ Some c'
    → list_any (λ (e : Entry). needs_open e.act) log ≡ false
closed_log [] c c' e h = refl
closed_log (entry ∷ log) c c' e h =
    let m = started (after c entry) log c' h in
    let one = closed_act c entry.tag.seat entry.act m.0 e (leads c entry.tag.seat entry.act m.0 m.1.0) in
    or_from _ _ one.0 (closed_log log m.0 c' one.1 m.1.1)

-- the law
pub stays_closed : (kind : Kind) (bound readers : ℕ) (log : List Entry) (channel : Channel)
    → IsTrueTo kind bound readers log channel → StaysClosed log
stays_closed kind bound readers log channel h before since tag is =
    let entry : Entry = record { tag = tag; act = Closed } in
    let b = between (Some (opening kind bound readers)) before (entry ∷ since) channel
    (ap (state (Some (opening kind bound readers))) (sym is) ∙ h) in
    let m = started (after b.0 entry) since channel b.1.1 in
    let closing = leads b.0 tag.seat Closed m.0 m.1.0 in
    closed_log since m.0 channel (ap (λ (x : Channel). x.closed) closing.1.1) m.1.1

-- a test or false
or_false : (b : Bool) → (b || false) ≡ b
or_false true = refl
or_false false = refl

-- a test or true
or_true : (b : Bool) → (b || true) ≡ true
or_true true = refl
or_true false = refl

-- one more entry among those that a test looks for
any_push : (test : Act → Bool) (log : List Entry) (entry : Entry)
    → list_any (λ (e : Entry). test e.act) (log ++ entry ∷ [])
    ≡ (list_any (λ (e : Entry). test e.act) log || test entry.act)
any_push test log entry =
    list_any-append (λ (e : Entry). test e.act) log (entry ∷ [])
    ∙ ap (λ b. list_any (λ (e : Entry). test e.act) log || b) (or_false (test entry.act))

-- the flag after one more act
flag_act : (c : Channel) (seat : ℕ) (act : Act) (c' : Channel) → Leads c seat act c'
    → c'.closed ≡ (c.closed || is_closing act)
flag_act c seat (Wrote item) c' h = ap (λ (x : Channel). x.closed) h.1.1.1 ∙ sym (or_false c.closed)
flag_act c seat (Took reader item) c' h = ap (λ (x : Channel). x.closed) h.1.1 ∙ sym (or_false c.closed)
flag_act c seat (PutBack reader item) c' h = ap (λ (x : Channel). x.closed) h.1.1.1.1.1 ∙ sym (or_false c.closed)
flag_act c seat Closed c' h = ap (λ (x : Channel). x.closed) h.1.1 ∙ sym (or_true c.closed)
flag_act c seat (Begun reader) c' h = ap (λ (x : Channel). x.closed) h.1.1.1 ∙ sym (or_false c.closed)
flag_act c seat (Cloned source reader) c' h = ap (λ (x : Channel). x.closed) h.1.1.1.1.1 ∙ sym (or_false c.closed)

-- the law of the flag
pub closed_by_its_log : IsClosedByItsLog
closed_by_its_log kind bound readers log channel h =
    always (λ log c. c.closed ≡ list_any (λ (e : Entry). is_closing e.act) log)
    (λ log c entry c' so_far led. flag_act c entry.tag.seat entry.act c' led
    ∙ ap (λ b. b || is_closing entry.act) so_far ∙ sym (any_push is_closing log entry))
    kind bound readers log channel refl h
