use Rattle.yalwythen_channel.proofs.OneMove.{took_back}
use Rattle.yalwythen_channel.proofs.one_move.take_back.Goals as goal

pub returns : goal.returns
returns g c tag before lawful grows one = took_back tag before c.args.chan.now.logged c.undo_last.new.self.logged lawful
    c.pending-pending.ensures.lawful grows one c.undo_last.ensures.undone
