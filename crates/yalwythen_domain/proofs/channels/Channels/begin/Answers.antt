use Rattle.std.proofs.Common.{ap, sym}
use Rattle.yalwythen_domain.specs.Channels.{DomainChannels}
use Rattle.txc_txn.specs.Plain.{chan_in}
use Rattle.yalwythen_domain.proofs.Sound.{open_first}
use Rattle.yalwythen_domain.proofs.channels.Channels.begin.Goals as goal

pub returns-clause-open : goal.returns-clause-open
returns-clause-open g c = open_first _ (chan_in c.args.self.now.held) c.args.tag
    (ap (λ (x : DomainChannels). chan_in x.held) (sym c.self.view_is)) c.begin.ensures.tag c.begin.ensures.start
    c.begin.ensures.marked
