use Rattle.std.proofs.Common.{ℕ, ◌+◌, ◌≤◌, List, ◌++◌, length, length-append, Option, arith}
use Rattle.std.proofs.KnownBytes.{Consumes-trans}
use Rattle.std.specs.Io.KnownBytes.{Consumes}
use Rattle.txc_cmd_io.specs.Bytes.{ConsumesAtMost}
use Rattle.txc_cmd_io.proofs.bytes.read_limited.Goals as goal

-- a read after what was read
with_more : (a b c : Option (List ℕ)) (bytes : List ℕ) (room most : ℕ) → Consumes a b bytes
    → ConsumesAtMost room b c → length bytes + room ≤ most → ConsumesAtMost most a c
with_more a b c bytes room most first more fits = (
  bytes ++ more.0,
  (omega (arith, fits, more.1.0, length-append bytes more.0), Consumes-trans a b c bytes more.0 first more.1.1),
)

pub returns-in_err-read_some-clause-most : goal.returns-in_err-read_some-clause-most
returns-in_err-read_some-clause-most g c =
    with_more _ _ _ c.loop-bytes.bytes.items _ 1048577 c.loop-bytes.invariant.consumed c.read_some.ensures.most
    (omega (arith, c.loop-bytes.invariant.limit, c.len-in-loop-bytes.ensures))
