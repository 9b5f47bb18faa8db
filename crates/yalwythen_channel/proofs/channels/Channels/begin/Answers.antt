use Rattle.std.proofs.Common.{ap, sym}
use Rattle.yalwythen_channel.specs.Channels.{TxnChannels}
use Rattle.txc_txn.specs.Plain.{chan_in}
use Rattle.yalwythen_channel.proofs.Consistency.{open_first}
use Rattle.yalwythen_channel.proofs.channels.Channels.begin.Goals as goal

pub returns-clause-open : goal.returns-clause-open
returns-clause-open g c = open_first _ (chan_in c.args.self.now.held) c.args.tag
    (ap (λ (x : TxnChannels). chan_in x.held) (sym c.self.view_is)) c.begin.ensures.tag c.begin.ensures.start
    c.begin.ensures.marked
