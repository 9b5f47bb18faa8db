use Rattle.std.proofs.Common.{◌∙◌, refl, sym, subst, ap, ℕ, ◌+◌, Option, arith, slice_set}
use Rattle.std.proofs.lemmas.List.{length-set}
use Rattle.txc_txn.specs.Maps.{Map}
use Rattle.txc_txn.specs.Plain.{chan_in}
use Rattle.txc_txn.proofs.Growing.{grow_none, grow_on}
use Rattle.yalwythen_channel.specs.OneList.{HasRunSteps}
use Rattle.yalwythen_channel.proofs.OneList.{IsGoing, begins, ends_at, goes_on}
use Rattle.yalwythen_channel.proofs.one_list.run_steps.Goals as goal

pub loop-place-init : goal.loop-place-init
loop-place-init g c = record {
  count = refl;
  room = refl;
  grows = grow_none c.args.kept (chan_in c.args.few.now) (chan_in c.args.few.now) refl;
  going = begins c.args.kept c.args.raw_steps.now (chan_in c.args.few.now) c.args.replies.now;
}

pub returns-in-Err-clause-ran : goal.returns-in-Err-clause-ran
returns-in-Err-clause-ran g c = subst (λ (m : Map). HasRunSteps c.args.kept c.args.raw_steps.now
    (chan_in c.args.few.now) m c.loop-place.replies c.in-Err.response) (sym c.in-Err.ensures.unchanged)
    (ends_at c.args.kept c.args.raw_steps.now c.loop-place.place _ (chan_in c.args.few.now) (chan_in c.loop-place.few)
    c.loop-place.last c.loop-place.replies c.in-Err.response c.loop-place-test.true c.loop-place.invariant.going
    c.in-Err.ensures.err)

pub returns-in-Err-clause-grows : goal.returns-in-Err-clause-grows
returns-in-Err-clause-grows g c = grow_on c.args.kept (chan_in c.args.few.now) (chan_in c.loop-place.few)
    (chan_in c.apply_step.new.few) c.loop-place.invariant.grows c.apply_step.ensures.grows

pub loop-place-preserved : goal.loop-place-preserved
loop-place-preserved g c = record {
  count = c.apply_step.ensures.length ∙ c.loop-place.invariant.count;
  room = length-set c.loop-place.replies c.loop-place.place c.tell.result ∙ c.loop-place.invariant.room;
  grows = grow_on c.args.kept (chan_in c.args.few.now) (chan_in c.loop-place.few) (chan_in c.apply_step.new.few)
      c.loop-place.invariant.grows c.apply_step.ensures.grows;
  going = subst (λ (l : Option ℕ). IsGoing c.args.kept c.args.raw_steps.now (c.loop-place.place + 1)
      (chan_in c.args.few.now) (chan_in c.apply_step.new.few) l
      (slice_set c.loop-place.replies c.loop-place.place c.tell.result)) (sym c.last_read_after-last.ensures)
      (goes_on c.args.kept c.args.raw_steps.now c.loop-place.place _ (chan_in c.args.few.now) (chan_in c.loop-place.few)
      (chan_in c.apply_step.new.few) c.loop-place.last c.loop-place.replies
      (slice_set c.loop-place.replies c.loop-place.place c.tell.result) c.in-Ok.reply c.loop-place-test.true
      (omega (arith, c.loop-place-test.true, c.requires.room, c.loop-place.invariant.room))
      c.loop-place.invariant.going c.in-Ok.ensures.ok
      (ap (slice_set c.loop-place.replies c.loop-place.place) c.tell.ensures.response));
}
