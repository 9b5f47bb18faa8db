use Rattle.std.proofs.Common.{◌≡◌, ℕ, List, length, subst, arith}
use Rattle.std.proofs.lemmas.List.{nil_from_length}
use Rattle.txc_cmd_explore.specs.Search.{IsSearch}
use Rattle.txc_cmd_explore.proofs.Searching.{search_ends}
use Rattle.txc_cmd_explore.proofs.orders.explore.Goals as goal

pub returns-in-None : goal.returns-in-None
returns-in-None g c =
    let search = c.loop.search in
    let none : length search.waiting.items ≡ 0 = omega (arith, c.in-None.ensures.cases.0) in
    search_ends c.args.script.now c.show.ensures search.seen.states.items search.found.items
    (subst (λ (w : List (List ℕ)). IsSearch c.args.script.now search.seen.states.items w search.found.items)
    (nil_from_length search.waiting.items none) c.loop.invariant.search)
