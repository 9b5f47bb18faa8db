use Rattle.std.proofs.Common.{rules, List, slice_get, None, Some, inl, inr, ◌<◌, ℕ, append-nil, ◌≡◌, refl, sym, ap, ◌∙◌}
use Rattle.std.proofs.Common.{◌≤◌, ◌-◌, ◌++◌, length, take, drop, arith}
use Rattle.std.proofs.lemmas.List.{length-drop, take_all, take_at}
use Rattle.std.proofs.lemmas.Option.{slice_get_cases}
use Rattle.std.proofs.lemmas.Result.{IfOk-from_err}
use Rattle.txc_txn.specs.Run.{deeds_of}
use Rattle.txc_txn.proofs.Deeds.{deeds_pushed}
use Rattle.txc_txn.proofs.trace.add_deeds.Goals as goal

-- an item that is not there is not before a list's end
not_there : {X : Type 0} (xs : List X) (i : ℕ) → slice_get xs i ≡ None → ¬ (i < length xs)
not_there xs i none lt = elim ((slice_get_cases xs i).1) [
  | inl h ↦ let some : None ≡ Some h.0 = sym none ∙ h.2 in
      cc
  | inr h ↦ absurd (omega (arith, h.0))
]

nothing : (n : ℕ) → n - n ≡ 0
nothing n = omega arith

pub loop-at-preserved : goal.loop-at-preserved
loop-at-preserved g c = record {
  same = c.entry.ensures.same ∙ c.loop-at.invariant.same;
  deeds = deeds_pushed c.args.trace.now.deeds.items c.loop-at.trace.deeds.items c.push_with_room.new.list.items
      c.args.chan c.args.place c.loop-at.at (g.H.Hold.chans c.args.hold.now c.args.chan).log c.in-Some.entry
      c.loop-at.auto.at (rw (← c.loop-at.invariant.same)
      (sym c.entry.ensures.value ∙ c.in-Some.is)) c.loop-at.invariant.deeds (search rules);
  replies = c.loop-at.invariant.replies;
  last = c.loop-at.invariant.last;
}

pub returns-clause-keeps : goal.returns-clause-keeps
returns-clause-keeps g c = ap (take (length c.args.trace.now.deeds.items)) c.loop-at.invariant.deeds
    ∙ take_at c.args.trace.now.deeds.items _ _ refl

pub returns-in_err-push_with_room-clause-keeps : goal.returns-in_err-push_with_room-clause-keeps
returns-in_err-push_with_room-clause-keeps g c =
    let same : c.push_with_room.new.list.items ≡ c.loop-at.trace.deeds.items = search rules in
    ap (take (length c.args.trace.now.deeds.items)) (same ∙ c.loop-at.invariant.deeds)
    ∙ take_at c.args.trace.now.deeds.items _ _ refl

pub returns-clause-ok : goal.returns-clause-ok
returns-clause-ok g c =
    let log = (g.H.Hold.chans c.args.hold.now c.args.chan).log in
    let all : length (drop c.args.place log) ≤ c.loop-at.at - c.args.place =
    omega (arith, length-drop c.args.place log) in
    c.loop-at.invariant.deeds ∙ ap (λ l. c.args.trace.now.deeds.items ++ deeds_of c.args.chan c.args.place l)
    (take_all _ (drop c.args.place log) all)

pub returns-in_err-push_with_room-clause-ok : goal.returns-in_err-push_with_room-clause-ok
returns-in_err-push_with_room-clause-ok g c = IfOk-from_err c.from_residual.result _ c.from_residual.ensures.0

pub returns-in_err-push_with_room-clause-replies : goal.returns-in_err-push_with_room-clause-replies
returns-in_err-push_with_room-clause-replies g c = c.loop-at.invariant.replies

pub returns-in_err-push_with_room-clause-last : goal.returns-in_err-push_with_room-clause-last
returns-in_err-push_with_room-clause-last g c = c.loop-at.invariant.last

pub returns-clause-replies : goal.returns-clause-replies
returns-clause-replies g c = c.loop-at.invariant.replies

pub returns-clause-last : goal.returns-clause-last
returns-clause-last g c = c.loop-at.invariant.last

pub loop-at-init : goal.loop-at-init
loop-at-init g c = record {
  same = c.log_len-at-end.ensures.same;
  deeds = sym (append-nil c.args.trace.now.deeds.items)
      ∙ ap (λ n. c.args.trace.now.deeds.items ++ deeds_of c.args.chan c.args.place
      (take n (drop c.args.place (g.H.Hold.chans c.args.hold.now c.args.chan).log))) (sym (nothing c.args.place));
  replies = refl;
  last = refl;
}

pub loop-at-smaller : goal.loop-at-smaller
loop-at-smaller g c = omega arith

pub unreachable-requires : goal.unreachable-requires
unreachable-requires g c = absurd (not_there (g.H.Hold.chans c.args.hold.now c.args.chan).log c.loop-at.at
    (rw (← c.loop-at.invariant.same) (sym c.entry.ensures.value ∙ c.in_default.is)) (omega arith))
