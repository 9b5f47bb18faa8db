-- Operations that are committed at once, as `Chan` says it, ended so.
use Rattle.std.proofs.Common.{◌≡◌, sym, ap, Ok}
use Rattle.txc_base.specs.declared.cause.Cause.{Cause}
use Rattle.txc_base.specs.declared.reply.Reply.{Reply}
use Rattle.txc_base.specs.declared.tag.Tag.{Tag}
use Rattle.txc_base.specs.Operation.{Did, Replies, Waits, Stops}
use Rattle.txc_chan.specs.declared.answer.Answer.TheVariants.{Replied, Retry}
use Rattle.txc_chan.specs.Logged.{Logged, Left, Waiting, grown, on_log, unsettled}
use Rattle.yalwythen_channel.specs.OneOperation.{Ends}

-- with a reply
pub left_ends : (tag : Tag) (what : Did) (reply : Reply) (old new : Logged)
    → on_log old tag what ≡ Left reply (unsettled old.stamp new) → new.pending ≡ 0 → new.stamp ≡ tag.stamp
    → Ends tag what (Ok (Replied reply)) old new
left_ends tag (Replies answer acts channel) reply old new is pending stamp =
    let replied : answer ≡ reply = cc in
    let same : grown old tag acts channel ≡ unsettled old.stamp new = cc in (
      ap Replied (sym replied),
      (λ j. record {
        decl = ap (λ (l : Logged). l.decl) (sym same) j;
        channel = ap (λ (l : Logged). l.channel) (sym same) j;
        log = ap (λ (l : Logged). l.log) (sym same) j;
        pending = pending j;
        stamp = stamp j;
      }),
    )
left_ends tag (Waits cause) reply old new is pending stamp = absurd cc
left_ends tag (Stops stop) reply old new is pending stamp = absurd cc

-- to wait
pub waits_ends : (tag : Tag) (what : Did) (cause : Cause) (old new : Logged)
    → on_log old tag what ≡ Waiting cause → new ≡ old → Ends tag what (Ok (Retry cause)) old new
waits_ends tag (Replies answer acts channel) cause old new is same = absurd cc
waits_ends tag (Waits why) cause old new is same = let so : why ≡ cause = cc in (ap Retry (sym so), same)
waits_ends tag (Stops stop) cause old new is same = absurd cc
