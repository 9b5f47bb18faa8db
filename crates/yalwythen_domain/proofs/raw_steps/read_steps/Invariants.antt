use Rattle.std.proofs.Common.{◌≡◌, [], Some, All, map, take}
use Rattle.yalwythen_domain.specs.RawSteps.{IsPlain}
use Rattle.yalwythen_domain.specs.Written.{read_so_far, token_of}
use Rattle.yalwythen_domain.proofs.raw_steps.read_steps.Given as goal

abbrev pub invariant-loop-raw_step : goal.invariant-loop-raw_step
invariant-loop-raw_step l = record {
  nested : All IsPlain l.raw_steps → l.reading.nested.items ≡ [];
  tokens : map Some (read_so_far l.reading.nested.items l.reading.steps.items)
      ≡ map token_of (take l.raw_step-index l.raw_steps);
}
