use Rattle.std.proofs.Common.{◌∙◌, ◌≡◌, ◌<◌, ◌≤◌, ◌++◌, length, arith, ap, map, drop, List, append-nil}
use Rattle.std.proofs.Common.{get_or, rules, slice_set}
use Rattle.std.proofs.lemmas.List.{take_all, drop_all, get_or_default, length-set}
use Rattle.std.proofs.lemmas.List.Edits.{map_over_more}
use Rattle.txc_table_wait.specs.declared.waiters.WaiterState.{WaiterState}
use Rattle.txc_table_wait.specs.declared.waiters.WaiterState.TheVariants.{Running}
use Rattle.txc_table_wait.specs.Waiters.{stalled}
use Rattle.txc_table_wait.proofs.waiters.Waiters.stall.Goals as goal

pub loop-seat-preserved : goal.loop-seat-preserved
loop-seat-preserved c =
    let now : List WaiterState = c.loop-seat.self-inside.states.items in
    let first : List WaiterState = c.self.inside.states.items in
    let state : WaiterState = get_or now c.loop-seat.seat Running in
    let read : WaiterState = c.index.result.now in
    let len : c.len-seat-end.result ≡ length first = search rules in
    let within : c.loop-seat.seat < length first = omega (arith, len, c.loop-seat-test.true) in
    let inside : c.loop-seat.seat < length now = omega (arith, c.loop-seat.invariant.0, within) in (
      length-set now c.loop-seat.seat c.stalled.result ∙ c.loop-seat.invariant.0,
      ap (slice_set now c.loop-seat.seat)
          (c.stalled.ensures ∙ ap stalled (c.index.ensures ∙ get_or_default now c.loop-seat.seat read Running inside))
          ∙ map_over_more stalled first now c.loop-seat.seat state within c.loop-seat.invariant.1
          (get_or_default now c.loop-seat.seat Running state inside),
    )

pub returns : goal.returns
returns c =
    let first : List WaiterState = c.self.inside.states.items in
    let len : c.len-seat-end.result ≡ length first = search rules in
    let whole : length first ≤ c.loop-seat.seat = omega (arith, len, c.loop-seat-test.false) in
    c.loop-seat.invariant.1
    ∙ ap (λ (xs : List WaiterState). map stalled xs ++ drop c.loop-seat.seat first)
    (take_all c.loop-seat.seat first whole)
    ∙ ap (λ (xs : List WaiterState). map stalled first ++ xs) (drop_all c.loop-seat.seat first whole)
    ∙ append-nil (map stalled first)
    ∙ ap (map stalled) c.self.view_is
