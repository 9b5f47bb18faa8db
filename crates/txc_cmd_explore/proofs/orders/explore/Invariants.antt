use Rattle.std.proofs.Common.{map}
use Rattle.txc_cmd_explore.specs.Hash.{IsIndexed}
use Rattle.txc_cmd_explore.specs.Search.{IsSearch}
use Rattle.txc_cmd_explore.proofs.orders.explore.Given as goal

abbrev pub invariant-loop : goal.invariant-loop
invariant-loop g l = record {
  search : IsSearch l.script l.search.seen.states.items l.search.waiting.items l.search.found.items;
  indexed : IsIndexed l.search.seen.states.items (map (λ b. b.items) l.search.seen.buckets.items);
}
