use Rattle.std.proofs.Common.{All, refl, ◌≡◌, ◌<◌, ◌∙◌, [], ℕ, List, Option, sym, ap, subst, take, length}
use Rattle.std.proofs.Common.{◌≤◌, ◌+◌, suc, drop, slice_index_or, arith}
use Rattle.std.proofs.lemmas.List.{length-take, take_all}
use Rattle.txc_txn_check.specs.Limits.{RisesFrom}
use Rattle.txc_table_line.specs.LineChan.{LineChanView}
use Rattle.txc_table_line.specs.SeatShare.{SeatShareView}
use Rattle.txc_table_lines.specs.Guards.{AreLocked, AreTaken}
use Rattle.txc_table_lines.specs.Lines.{AreValidShares, line_ids}
use Rattle.txc_table_lines.proofs.Rising.{rises_next}
use Rattle.txc_table_lines.proofs.Sharing.{map_long}
use Rattle.txc_table_lines.proofs.Taking.{are_locked, taken_clean, taken_known, taken_long, taken_more, taken_since}
use Rattle.txc_table_lines.proofs.guards.Guards.take.Goals as goal

pub loop-number-init : goal.loop-number-init
loop-number-init g c = record {
  same = refl;
  lines = refl;
  rise = subst (λ n. RisesFrom n c.args.declared.now) (sym c.requires.first) c.requires.rising;
  found = subst (AreTaken c.args.shares.now []) (sym c.new-locked.ensures)
      tt;
}

pub take_line-requires-clause-of : goal.take_line-requires-clause-of
take_line-requires-clause-of g c =
    ap line_ids c.loop-number.invariant.same ∙ c.requires.of ∙ sym c.loop-number.invariant.lines

pub take_line-requires-clause-there : goal.take_line-requires-clause-there
take_line-requires-clause-there g c =
    let below = c.requires.there c.loop-number.number-index 0 c.loop-number-test.true in
    omega (arith, below, ap length c.loop-number.invariant.lines)

pub take_line-requires-clause-rising : goal.take_line-requires-clause-rising
take_line-requires-clause-rising g c =
    (rises_next c.loop-number.order.lowest c.args.declared.now c.loop-number.number-index c.loop-number-test.true
    c.loop-number.invariant.rise).0

pub push-requires : goal.push-requires
push-requires g c =
    let long = taken_long _ _ _ c.loop-number.invariant.found in
    omega (
      arith,
      long,
      length-take c.loop-number.number-index c.args.declared.now,
      c.loop-number-test.true,
      c.requires.few,
    )

pub loop-number-preserved : goal.loop-number-preserved
loop-number-preserved g c =
    let at = c.loop-number.number-index in
    let number = slice_index_or c.args.declared.now at 0 in
    let rest = (rises_next c.loop-number.order.lowest c.args.declared.now at c.loop-number-test.true
    c.loop-number.invariant.rise).1 in
    let one_more : suc at ≡ at + 1 = omega arith in
    let lowest : suc number ≡ c.take_line.new.self.lowest = omega (arith, c.take_line.ensures.next) in
    record {
      same = c.take_line.ensures.same ∙ c.loop-number.invariant.same;
      lines = c.take_line.ensures.lines ∙ c.loop-number.invariant.lines;
      rise = subst (λ n. RisesFrom n (drop (at + 1) c.args.declared.now)) lowest
          (subst (λ n. RisesFrom (suc number) (drop n c.args.declared.now)) one_more rest);
      found = subst (λ (shares : List SeatShareView). AreTaken shares (take (at + 1) c.args.declared.now)
          c.push.new.self.items) (sym c.take_line.ensures.same)
          (taken_more c.loop-number.shares c.args.declared.now c.loop-number.locked.items _ at _
          c.loop-number-test.true c.loop-number.invariant.found c.push.ensures.items c.take_line.ensures.found);
    }

-- all declared lines are locked
all_taken : (shares initial : List SeatShareView) (declared : List ℕ) (guards : List (Option LineChanView)) (i : ℕ)
    → shares ≡ initial → length declared ≤ i → AreTaken shares (take i declared) guards
    → AreTaken initial declared guards
all_taken shares initial declared guards i same all are =
    subst (λ (ss : List SeatShareView). AreTaken ss declared guards) same
    (subst (λ (ds : List ℕ). AreTaken shares ds guards) (take_all i declared all) are)

pub invariant_of-guards : goal.invariant_of-guards
invariant_of-guards g c =
    let long : length c.args.order.lines ≡ length c.args.shares.now
    = sym (ap length c.requires.of) ∙ map_long (λ (s : SeatShareView). s.line) c.args.shares.now in
    subst (λ (known : List SeatShareView). AreLocked known c.args.declared.now c.loop-number.locked.items)
    (sym c.of-known.ensures)
    (are_locked c.args.shares.now c.args.declared.now c.loop-number.locked.items
    (subst (λ most. All (λ n. n < most) c.args.declared.now) long c.requires.there)
    (all_taken _ _ _ _ _ c.loop-number.invariant.same c.loop-number-test.false c.loop-number.invariant.found))

pub returns-clause-known : goal.returns-clause-known
returns-clause-known g c n below =
    let taken = all_taken _ _ _ _ _ c.loop-number.invariant.same c.loop-number-test.false
    c.loop-number.invariant.found in
    let long : length c.args.shares.now ≡ length c.args.order.lines
    = sym (map_long (λ (s : SeatShareView). s.line) c.args.shares.now) ∙ ap length c.requires.of in
    rw c.of-known.ensures (taken_known c.args.shares.now c.args.declared.now c.loop-number.locked.items
    (subst AreValidShares c.loop-number.invariant.same c.show.ensures) taken n (omega (arith, below, long)))

pub returns-clause-since : goal.returns-clause-since
returns-clause-since g c =
    let taken = all_taken _ _ _ _ _ c.loop-number.invariant.same c.loop-number-test.false
    c.loop-number.invariant.found in
    rw c.of-known.ensures (taken_since c.args.shares.now c.args.declared.now c.loop-number.locked.items
    (subst AreValidShares c.loop-number.invariant.same c.show.ensures) taken)

pub returns-clause-clean : goal.returns-clause-clean
returns-clause-clean g c =
    let taken = all_taken _ _ _ _ _ c.loop-number.invariant.same c.loop-number-test.false
    c.loop-number.invariant.found in
    rw c.of-known.ensures (taken_clean c.args.shares.now c.args.declared.now c.loop-number.locked.items
    (subst AreValidShares c.loop-number.invariant.same c.show.ensures) taken)

pub returns-clause-same : goal.returns-clause-same
returns-clause-same g c = c.loop-number.invariant.same
