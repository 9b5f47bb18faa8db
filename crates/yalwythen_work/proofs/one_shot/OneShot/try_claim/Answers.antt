use Rattle.std.proofs.Common.{rules}
use Rattle.yalwythen_work.specs.SeatWithPlans.{IsAfterSession}
use Rattle.yalwythen_work.proofs.Cells.{claims_it}
use Rattle.yalwythen_work.proofs.one_shot.OneShot.try_claim.Goals as goal

pub swap_new_seat-found-requires : goal.swap_new_seat-found-requires
swap_new_seat-found-requires g c =
    (search rules, claims_it (IsAfterSession c.args.self.now.table.shared.key.value) _ tt)
