use Rattle.std.proofs.Common.{◌≡◌, subst, ℕ}
use Rattle.txc_chan.specs.Logged.{Stopped, op_on}
use Rattle.txc_txn.specs.Plain.{chan_in}
use Rattle.txc_txn.proofs.Growing.{grow_none, put_same}
use Rattle.txc_txn.proofs.Running.{grows_reply}
use Rattle.yalwythen_channel.proofs.OneList.{stopped_so}
use Rattle.yalwythen_channel.proofs.one_list.apply_step.Goals as goal

pub returns-in-Ok-Replied-clause-grows : goal.returns-in-Ok-Replied-clause-grows
returns-in-Ok-Replied-clause-grows g c = grows_reply c.args.kept (chan_in c.args.few.now) (chan_in c.apply.new.self)
    c.chan-chan.result c.args.last c.in-Some.op _ c.in-Ok-Replied.reply c.in-Ok-Replied.field-0-is
    c.in-Ok-Replied.ensures.ok c.apply.ensures.others

pub returns-in-Ok-Retry-clause-unchanged : goal.returns-in-Ok-Retry-clause-unchanged
returns-in-Ok-Retry-clause-unchanged g c = put_same (chan_in c.args.few.now) (chan_in c.apply.new.self)
    c.chan-chan.result c.apply.ensures.others (rw c.in-Ok-Retry.field-0-is at c.in-Ok-Retry.ensures.retry)

pub returns-in-Ok-Retry-clause-grows : goal.returns-in-Ok-Retry-clause-grows
returns-in-Ok-Retry-clause-grows g c = grow_none c.args.kept (chan_in c.args.few.now) (chan_in c.apply.new.self)
    (put_same (chan_in c.args.few.now) (chan_in c.apply.new.self) c.chan-chan.result c.apply.ensures.others
    (rw c.in-Ok-Retry.field-0-is at c.in-Ok-Retry.ensures.retry))

pub returns-in-Err : goal.returns-in-Err
returns-in-Err g c =
    let same : chan_in c.apply.new.self ≡ chan_in c.args.few.now = put_same (chan_in c.args.few.now)
    (chan_in c.apply.new.self) c.chan-chan.result c.apply.ensures.others c.in-Err.ensures.unchanged in
    record {
      ok = tt;
      err = stopped_so c.args.kept c.args.step c.args.last (chan_in c.args.few.now) c.in-Some.op c.in-Err.stop
          c.response_of_stop.result c.in-Some.ensures
          (λ not. subst (λ (n : ℕ). op_on (chan_in c.args.few.now n) c.args.kept c.args.last c.in-Some.op
          ≡ Stopped c.in-Err.stop) c.chan-chan.ensures (c.in-Err.ensures.err not))
          c.response_of_stop.ensures;
      unchanged = same;
      length = c.apply.ensures.fixed;
      grows = grow_none c.args.kept (chan_in c.args.few.now) (chan_in c.apply.new.self) same;
    }
