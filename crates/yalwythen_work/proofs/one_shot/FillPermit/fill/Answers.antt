use Rattle.std.proofs.Common.{rules, subst, sym, ◌∷◌}
use Rattle.atomic_table.specs.Table.{Allows, rest}
use Rattle.yalwythen_work.specs.OneShot.{IsKept}
use Rattle.yalwythen_work.specs.SeatWithPlans.{IsAfterSession}
use Rattle.yalwythen_work.specs.declared.states.TheConstants.{FULL}
use Rattle.yalwythen_work.proofs.Cells.{fills_it}
use Rattle.yalwythen_work.proofs.one_shot.FillPermit.fill.Goals as goal

pub store-requires : goal.store-requires
store-requires g c =
    let fits = IsAfterSession c.self.inside.cell.now.table.shared.key.value in
    let seat = c.self.inside.seat in (
      c.self.invariant.0,
      search rules,
      subst (λ n. Allows (IsKept fits) n seat.id (seat.me.0, (0, c.replace-before.new.dest) ∷ rest seat.me.1) 0
          (λ _. FULL) (λ _ _. Unit {0})) (sym c.self.inside.cell.now.sized.1)
          (subst (λ value. Allows (IsKept fits) 1 seat.id (seat.me.0, (0, value) ∷ rest seat.me.1) 0 (λ _. FULL)
          (λ _ _. Unit {0})) (sym c.replace-before.ensures.after)
          (fills_it fits seat.id seat.me.0 (rest seat.me.1) c.args.both
          (subst (λ first. IsAfterSession first c.args.both) (sym c.self.view_is) c.requires))),
    )
