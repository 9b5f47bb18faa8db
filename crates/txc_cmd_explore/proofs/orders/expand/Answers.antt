use Rattle.std.proofs.Common.{◌≡◌, refl, sym, subst, ℕ, Bool, not, true, false, List, [], ◌∷◌, ◌++◌, length}
use Rattle.txc_cmd_explore.specs.declared.state.State.{State}
use Rattle.txc_cmd_explore.specs.declared.found_end.FoundEnd.{FoundEnd}
use Rattle.txc_cmd_explore.specs.Search.{IsSearch}
use Rattle.txc_cmd_explore.specs.Followed.{HaveTried}
use Rattle.txc_cmd_explore.proofs.Expanding.{expand_end, expand_some}
use Rattle.txc_cmd_explore.proofs.orders.expand.Goals as goal

not_true : (b : Bool) → not b ≡ true → b ≡ false
not_true true e = absurd (cc)
not_true false e = refl

not_false : (b : Bool) → not b ≡ false → b ≡ true
not_false true e = refl
not_false false e = absurd (cc)

pub returns-in_ok-push-clause-search : goal.returns-in_ok-push-clause-search
returns-in_ok-push-clause-search g c =
    let script = c.args.script.now in
    let search = c.args.search.now in
    let t : HaveTried script c.args.order (length script.seats) search.waiting.items c.try_turns.new.waiting.items
    c.in_ok-next.next.ends.items c.in_ok-next.next.any =
    subst (λ (o : List ℕ). HaveTried script o (length script.seats) search.waiting.items
    c.try_turns.new.waiting.items c.in_ok-next.next.ends.items c.in_ok-next.next.any) c.as_slice.ensures
    c.in_ok-next.ensures in
    let end : FoundEnd = record { order = c.args.order; ends = c.from_vec.result } in
    subst (λ (seen : List State). IsSearch script seen c.try_turns.new.waiting.items c.push.new.self.items)
    (sym c.in_ok-add.ensures.more)
    (subst (λ (found : List FoundEnd). IsSearch script (search.seen.states.items ++ c.args.state ∷ [])
    c.try_turns.new.waiting.items found) (sym c.in_ok-push.ensures.items)
    (expand_end script c.args.order c.args.state search.seen.states.items search.waiting.items
    c.try_turns.new.waiting.items search.found.items c.in_ok-next.next.ends.items c.in_ok-next.next.any
    c.requires.kept c.requires.short c.requires.state t c.requires.search (not_true c.in_ok-next.next.any c.if-not-next.true) end refl
    c.from_vec.ensures c.requires.new))

pub returns-else-not-next-clause-search : goal.returns-else-not-next-clause-search
returns-else-not-next-clause-search g c =
    let script = c.args.script.now in
    let search = c.args.search.now in
    let t : HaveTried script c.args.order (length script.seats) search.waiting.items c.try_turns.new.waiting.items
    c.in_ok-next.next.ends.items c.in_ok-next.next.any =
    subst (λ (o : List ℕ). HaveTried script o (length script.seats) search.waiting.items
    c.try_turns.new.waiting.items c.in_ok-next.next.ends.items c.in_ok-next.next.any) c.as_slice.ensures
    c.in_ok-next.ensures in
    subst (λ (seen : List State). IsSearch script seen c.try_turns.new.waiting.items search.found.items)
    (sym c.in_ok-add.ensures.more)
    (expand_some script c.args.order c.args.state search.seen.states.items search.waiting.items
    c.try_turns.new.waiting.items search.found.items c.in_ok-next.next.ends.items c.in_ok-next.next.any
    c.requires.kept c.requires.short c.requires.state t c.requires.search (not_false c.in_ok-next.next.any c.if-not-next.false))
