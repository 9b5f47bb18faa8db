use Rattle.std.proofs.Common.{◌≡◌, ◌*◌, ◌%◌, ◌-◌, ◌∙◌, ℕ, arith, bit_and, subst, w64}
use Rattle.std.proofs.lemmas.Nat.Bits.{bit_at_clear_same, bit_at_clear_other}
use Rattle.std.specs.Int.{bit_at}
use Rattle.txc_table_wait.proofs.seats.Seats.without.Goals as goal

pub returns-clause-gone : goal.returns-clause-gone
returns-clause-gone c =
    let state : ℕ = c.bit_of-seat.result in
    subst (λ (i : ℕ). bit_at (bit_and c.args.self.bits
    (18446744073709551615 - 1 * Prim.Native.Nat.◌^◌ 2 state % 18446744073709551616)) i ≡ 0)
    c.bit_of-seat.ensures.state
    (bit_at_clear_same w64 c.args.self.bits state (omega (arith, c.bit_of-seat.ensures.few)))

pub returns-clause-others : goal.returns-clause-others
returns-clause-others c n small other =
    bit_at_clear_other w64 c.args.self.bits c.bit_of-seat.result (omega (arith, c.bit_of-seat.ensures.few)) n
    (omega (arith, small)) (λ same. other (same ∙ c.bit_of-seat.ensures.state))
