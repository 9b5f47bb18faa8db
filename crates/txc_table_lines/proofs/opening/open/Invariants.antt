use Rattle.std.proofs.Common.{◌≡◌, [], All, map, replicate}
use Rattle.txc_table_lines.specs.Lines.{fresh_share}
use Rattle.txc_table_lines.proofs.opening.open.Given as goal

abbrev pub invariant-loop : goal.invariant-loop
invariant-loop g l = l.seats.items ≡ replicate l.counter []

abbrev pub invariant-loop-chan : goal.invariant-loop-chan
invariant-loop-chan g l = record {
  lines : map (λ line. line.decl) (map (λ lock. lock.label.value.line) l.locks.items)
      ≡ map (λ held. held.logged.decl) l.yielded;
  ledgers : All (λ line. line.ledgers.seats ≡ l.count) (map (λ lock. lock.label.value.line) l.locks.items);
  seats : l.seats.items ≡ replicate l.count (map fresh_share (map (λ lock. lock.label.value.line) l.locks.items));
}
