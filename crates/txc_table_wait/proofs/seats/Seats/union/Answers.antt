use Rattle.std.proofs.lemmas.Nat.Bits.{bit_at_or}
use Rattle.txc_table_wait.proofs.seats.Seats.union.Goals as goal

pub returns : goal.returns
returns c n = bit_at_or c.args.self.bits c.args.others.bits n
