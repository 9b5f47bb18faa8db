use Rattle.std.proofs.Common.{◌≡◌, drop, length, map, take}
use Rattle.txc_base.specs.declared.item.Item.{Item}
use Rattle.yalwythen_domain.proofs.requests.copy_bodies.Given as goal

abbrev pub invariant-loop-place : goal.invariant-loop-place
invariant-loop-place l = record {
  so_far : take l.place l.out ≡ take l.place (drop l.from (map (λ (item : Item). item.body) l.items));
  length : length l.out ≡ length l.initial.out;
}
