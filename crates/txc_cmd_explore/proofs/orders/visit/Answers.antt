use Rattle.std.proofs.Common.{◌≡◌, ◌∙◌, ap, subst, ℕ, false, List, Option}
use Rattle.txc_cmd_explore.specs.declared.state.State.{State}
use Rattle.txc_cmd_explore.specs.declared.follow.Reached.{Reached}
use Rattle.txc_cmd_explore.specs.Ends.{IsAmong, state_of}
use Rattle.txc_cmd_explore.specs.Moves.{reached}
use Rattle.txc_cmd_explore.specs.Followed.{IsReached, IsFollowed}
use Rattle.txc_cmd_explore.proofs.Searching.{search_drops}
use Rattle.txc_cmd_explore.proofs.orders.visit.Goals as goal

pub returns-then-has-clause-search : goal.returns-then-has-clause-search
returns-then-has-clause-search g c =
    let script = c.args.script.now in
    let search = c.args.search.now in
    let followed : IsFollowed script c.args.order c.in_ok-at.field-0 =
    subst (λ (o : List ℕ). IsFollowed script o c.in_ok-at.field-0) c.as_slice.ensures c.in_ok-at.ensures in
    let at : IsReached script c.args.order c.in-Some.at =
    subst (λ (o : Option Reached). IsFollowed script c.args.order o) c.in-Some.is followed in
    let here : c.in_ok-state-in-Some.state ≡ state_of script.decls (reached script c.args.order) =
    c.in_ok-state-in-Some.ensures ∙ ap (state_of script.decls) at.round in
    search_drops script search.seen.states.items search.waiting.items search.found.items c.args.order
    (λ kept. subst (λ (p : State). IsAmong search.seen.states.items p) here (c.has.ensures.seen c.if-has.true))
    c.requires.search

pub returns-in-None-clause-search : goal.returns-in-None-clause-search
returns-in-None-clause-search g c =
    let script = c.args.script.now in
    let search = c.args.search.now in
    let followed : IsFollowed script c.args.order c.in_ok-at.field-0 =
    subst (λ (o : List ℕ). IsFollowed script o c.in_ok-at.field-0) c.as_slice.ensures c.in_ok-at.ensures in
    let none : (reached script c.args.order).kept ≡ false =
    subst (λ (o : Option Reached). IsFollowed script c.args.order o) c.in-None.is followed in
    search_drops script search.seen.states.items search.waiting.items search.found.items c.args.order
    (λ kept. absurd (cc)) c.requires.search
