use Rattle.std.proofs.Common.{◌≡◌, sym, ◌∙◌, ap, subst, inl, inr, ℕ, List, [], ◌∷◌, ◌++◌, ◌+◌}
use Rattle.txc_cmd_report.specs.declared.seat_end.SeatEnd.{SeatEnd}
use Rattle.txc_cmd_explore.specs.Ends.{IsAmong}
use Rattle.txc_cmd_explore.specs.Followed.{HaveTried}
use Rattle.txc_cmd_explore.proofs.Searching.{pushed, to_push}
use Rattle.txc_cmd_explore.proofs.Following.{tried_more}
use Rattle.txc_cmd_explore.proofs.orders.try_turns.Goals as goal
use Rattle.txc_cmd_explore.proofs.orders.try_turns.Goals.{then-moved+in_ok-longer+in_ok-push-2, else-moved}

pub loop-seat-preserved : goal.loop-seat-preserved
loop-seat-preserved g c =
    subst (λ (ends : List SeatEnd). HaveTried c.args.script.now c.args.order.now (c.loop-seat.seat + 1)
    c.args.waiting.now.items c.if-moved.waiting.items ends c.if-moved.any) (sym c.in_ok-push.ensures.items)
    (elim c.if-moved.branch [
      | then-moved+in_ok-longer+in_ok-push-2 w ↦
          (let more : c.if-moved.waiting.items
          ≡ c.loop-seat.waiting.items ++ (c.args.order.now ++ c.loop-seat.seat ∷ []) ∷ [] =
          ap (λ v. v.items) w.waiting-is ∙ (w.in_ok-push-2.ensures.items
          ∙ ap (λ (o : List ℕ). c.loop-seat.waiting.items ++ o ∷ []) w.in_ok-longer.ensures) in
          tried_more c.args.script.now c.args.order.now c.loop-seat.seat c.args.waiting.now.items
          c.loop-seat.waiting.items c.if-moved.waiting.items c.loop-seat.ends.items c.in_ok-moved.end c.loop-seat.any
          c.if-moved.any c.in_ok-moved.moved c.loop-seat.invariant c.in_ok-moved.ensures.moved
          c.in_ok-moved.ensures.ended
          (λ o h. subst (λ (l : List (List ℕ)). IsAmong l o) (sym more)
          (to_push c.loop-seat.waiting.items (c.args.order.now ++ c.loop-seat.seat ∷ []) o h))
          (λ _. subst (λ (l : List (List ℕ)). IsAmong l (c.args.order.now ++ c.loop-seat.seat ∷ [])) (sym more)
          (pushed c.loop-seat.waiting.items (c.args.order.now ++ c.loop-seat.seat ∷ [])))
          (λ _. inr w.if-moved.true)
          (λ no. let yes = w.any-is in absurd (cc)))
      | else-moved w ↦
          tried_more c.args.script.now c.args.order.now c.loop-seat.seat c.args.waiting.now.items
          c.loop-seat.waiting.items c.if-moved.waiting.items c.loop-seat.ends.items c.in_ok-moved.end c.loop-seat.any
          c.if-moved.any c.in_ok-moved.moved c.loop-seat.invariant c.in_ok-moved.ensures.moved
          c.in_ok-moved.ensures.ended
          (λ o h. subst (λ (l : List (List ℕ)). IsAmong l o) (sym (ap (λ v. v.items) w.waiting-is)) h)
          (λ yes. let no = w.if-moved.false in absurd (cc))
          (λ yes. inl (sym w.any-is ∙ yes))
          (λ no. (sym w.any-is ∙ no, w.if-moved.false))
    ])
