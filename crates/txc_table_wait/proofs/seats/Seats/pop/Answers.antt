use Rattle.std.proofs.Common.{◌≡◌, ◌≢◌, ◌<◌, ◌≤◌, ℕ, arith, ap, sym, w64, ◌∙◌}
use Rattle.std.proofs.lemmas.Nat.{and_le_l}
use Rattle.std.proofs.lemmas.Nat.Bits.{bit_at-trailing_zeros, bit_at_clear_same, bit_at_clear_other}
use Rattle.std.specs.Int.{bit_at, trailing_zeros}
use Rattle.txc_table_wait.proofs.seats.Seats.pop.Goals as goal

-- a number that had a bit is less without it
less_without : (n less k : ℕ) → less ≤ n → bit_at n k ≡ 1 → bit_at less k ≡ 0 → less < n
less_without n less k most had gone =
    let apart : less ≢ n = λ same. let e = sym gone ∙ ap (λ (m : ℕ). bit_at m k) same ∙ had in omega arith in
    omega (arith, most, apart)

pub returns-clause-had : goal.returns-clause-had
returns-clause-had c =
    let n : ℕ = c.args.self.now.bits in
    let some : 0 < n = omega (arith, c.if-bits-eq0.false) in
    let fits : n < 18446744073709551616 = omega arith in (bit_at-trailing_zeros w64 n some fits).1

pub returns-clause-first : goal.returns-clause-first
returns-clause-first c =
    let n : ℕ = c.args.self.now.bits in
    let some : 0 < n = omega (arith, c.if-bits-eq0.false) in
    let fits : n < 18446744073709551616 = omega arith in (bit_at-trailing_zeros w64 n some fits).2

pub returns-clause-gone : goal.returns-clause-gone
returns-clause-gone c =
    let n : ℕ = c.args.self.now.bits in
    let some : 0 < n = omega (arith, c.if-bits-eq0.false) in
    let fits : n < 18446744073709551616 = omega arith in
    bit_at_clear_same w64 n (trailing_zeros w64 n) (bit_at-trailing_zeros w64 n some fits).0

pub returns-clause-others : goal.returns-clause-others
returns-clause-others c i small other =
    let n : ℕ = c.args.self.now.bits in
    let some : 0 < n = omega (arith, c.if-bits-eq0.false) in
    let fits : n < 18446744073709551616 = omega arith in
    bit_at_clear_other w64 n (trailing_zeros w64 n) (bit_at-trailing_zeros w64 n some fits).0 i
    (omega (arith, small)) other

pub returns-clause-fewer : goal.returns-clause-fewer
returns-clause-fewer c =
    let n : ℕ = c.args.self.now.bits in
    let some : 0 < n = omega (arith, c.if-bits-eq0.false) in
    let fits : n < 18446744073709551616 = omega arith in
    let lowest = bit_at-trailing_zeros w64 n some fits in
    less_without n _ (trailing_zeros w64 n) (and_le_l n _) lowest.1
    (bit_at_clear_same w64 n (trailing_zeros w64 n) lowest.0)
