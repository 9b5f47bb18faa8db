use Rattle.std.proofs.Common.{subst, sym, ◌≡◌, ◌≢◌, slice_index_or, length, ℕ, ◌≤◌, ◌<◌, arith}
use Rattle.txc_table_lines.specs.Guards.{GuardsView, first_place_of}
use Rattle.txc_table_lines.proofs.Placing.{first_place, not_before}
use Rattle.txc_table_lines.proofs.guards.Guards.place.Goals as goal

pub returns-then-self-at-clause-place : goal.returns-then-self-at-clause-place
returns-then-self-at-clause-place g c = sym (subst (λ (l : GuardsView). first_place_of c.args.number l.declared ≡
    c.loop-at.at)
    c.self.view_is (first_place c.args.number c.self.inside.declared.now c.loop-at.at 0 c.loop-at-test.true
    c.if-self-at.true (subst (λ (l : GuardsView). (k : ℕ) → k < c.loop-at.at → slice_index_or l.declared k 0 ≢
    c.args.number)
    (sym c.self.view_is) c.loop-at.invariant)))

pub unreachable-requires : goal.unreachable-requires
unreachable-requires g c =
    let all : length c.args.self.now.declared ≤ c.loop-at.at
    = subst (λ (l : GuardsView). length l.declared ≤ c.loop-at.at) c.self.view_is c.loop-at-test.false in
    absurd (not_before c.args.number c.args.self.now.declared 0
    (λ k below. c.loop-at.invariant k (omega (arith, below, all))) c.requires)
