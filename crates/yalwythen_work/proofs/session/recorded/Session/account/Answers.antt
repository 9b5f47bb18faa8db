use Rattle.std.proofs.Common.{subst}
use Rattle.txc_table.specs.Seat.{SeesMore, seen_at}
use Rattle.yalwythen_work.specs.Session.{SessionView, logs_seen}
use Rattle.yalwythen_work.proofs.session.recorded.Session.account.Goals as goal

pub returns-clause-seen : goal.returns-clause-seen
returns-clause-seen g c =
    subst (λ (s : SessionView). SeesMore (logs_seen s) (seen_at c.account.new.seat)) c.self.view_is c.account.ensures.grew
