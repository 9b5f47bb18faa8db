use Rattle.std.proofs.Common.{◌≡◌, length, map, take}
use Rattle.yalwythen_domain.specs.RawSteps.{response_of}
use Rattle.yalwythen_domain.proofs.domain.copy_replies.Given as goal

abbrev pub invariant-loop-place : goal.invariant-loop-place
invariant-loop-place l = record {
  so_far : take l.place l.out ≡ map response_of (take l.place l.replies);
  length : length l.out ≡ length l.initial.out;
}
