use Rattle.yalwythen_work.specs.SeatWithPlans.{IsAfterSession}
use Rattle.yalwythen_work.proofs.Cells.{is_in_full}
use Rattle.yalwythen_work.proofs.one_shot.OneShot.into_inner.Goals as goal

pub returns : goal.returns
returns g c =
    is_in_full (IsAfterSession c.args.self.table.shared.key.value) _ _ c.word-state.result c.in-Some.both
    c.close-closed.ensures.values.2 c.word-state.ensures c.in-Some.ensures.value c.wait_until_full.ensures
