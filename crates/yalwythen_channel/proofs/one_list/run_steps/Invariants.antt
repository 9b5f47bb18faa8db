use Rattle.std.proofs.Common.{◌≡◌, length}
use Rattle.txc_txn.specs.Growth.{AllGrow}
use Rattle.txc_txn.specs.Plain.{chan_in}
use Rattle.yalwythen_channel.proofs.OneList.{IsGoing}
use Rattle.yalwythen_channel.proofs.one_list.run_steps.Given as goal

abbrev pub invariant-loop-place : goal.invariant-loop-place
invariant-loop-place g l = record {
  count : length l.few ≡ length l.initial.few;
  room : length l.replies ≡ length l.initial.replies;
  grows : AllGrow l.kept (chan_in l.initial.few) (chan_in l.few);
  going : IsGoing l.kept l.raw_steps l.place (chan_in l.initial.few) (chan_in l.few) l.last l.replies;
}
