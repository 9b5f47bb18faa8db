use Rattle.std.proofs.Common.{◌∙◌, sym, subst, ap, ℕ, ◌<◌, List, length}
use Rattle.txc_chan.specs.ChanView.{ChanView}
use Rattle.txc_txn.specs.Maps.{kinds_of}
use Rattle.txc_txn.specs.Plain.{chan_in}
use Rattle.txc_txn.proofs.Settling.{settle_kinds}
use Rattle.yalwythen_channel.specs.OneList.{HasRunSteps}
use Rattle.yalwythen_channel.proofs.OneList.{listed_so, same_outside, undone_so}
use Rattle.yalwythen_channel.proofs.one_list.transact_few.Goals as goal

pub mark_all-requires-clause-held : goal.mark_all-requires-clause-held
mark_all-requires-clause-held g c n is =
    subst (λ (l : List ChanView). n < length l) (sym c.begin.ensures.same) (c.requires.there n is)

pub settle_declared-requires : goal.settle_declared-requires
settle_declared-requires g c = record {
  held = λ n is. subst (λ (k : ℕ). n < k) (sym (c.run_steps-response.ensures.length
      ∙ ap (λ (l : List ChanView). length l) (c.mark_all.ensures.same ∙ c.begin.ensures.same))) (c.requires.there n is);
}

pub undo_all-requires-clause-held : goal.undo_all-requires-clause-held
undo_all-requires-clause-held g c n is = subst (λ (k : ℕ). n < k) (sym (c.run_steps-response.ensures.length
    ∙ ap (λ (l : List ChanView). length l) (c.mark_all.ensures.same ∙ c.begin.ensures.same))) (c.requires.there n is)

pub returns-then-response-eq-DONE-clause-ended : goal.returns-then-response-eq-DONE-clause-ended
returns-then-response-eq-DONE-clause-ended g c =
    listed_so c.in-Ok.run'.tag c.args.raw_steps.now c.args.declared.now (chan_in c.args.few.now)
    (chan_in c.run_steps-response.new.few) (chan_in c.settle_declared.new.hold) c.run_steps-response.new.replies
    c.run_steps-response.result c.in-Ok.ensures.tag c.in-Ok.ensures.can_rise
    (subst (λ (l : List ChanView). HasRunSteps c.in-Ok.run'.tag c.args.raw_steps.now (chan_in l)
    (chan_in c.run_steps-response.new.few) c.run_steps-response.new.replies c.run_steps-response.result)
    (c.mark_all.ensures.same ∙ c.begin.ensures.same) c.run_steps-response.ensures.ran)
    c.if-response-eq-DONE.true c.settle_declared.ensures.settled

pub returns-then-response-eq-DONE-clause-kinds : goal.returns-then-response-eq-DONE-clause-kinds
returns-then-response-eq-DONE-clause-kinds g c =
    ap kinds_of c.settle_declared.ensures.settled
    ∙ settle_kinds c.in-Ok.run'.tag (chan_in c.mark_all.new.hold) (chan_in c.run_steps-response.new.few)
    c.in-Ok.run'.tag.stamp c.args.declared.now c.run_steps-response.ensures.grows
    ∙ ap (λ (l : List ChanView). kinds_of (chan_in l)) (c.mark_all.ensures.same ∙ c.begin.ensures.same)

pub returns-else-response-eq-DONE-clause-kinds : goal.returns-else-response-eq-DONE-clause-kinds
returns-else-response-eq-DONE-clause-kinds g c =
    let back = c.undo_all.ensures.back c.in-Ok.run'.tag (chan_in c.mark_all.new.hold)
    (record {
      made = rw c.mark_all.ensures.same (c.as_slice.ensures.value ∙ c.mark_all.ensures.marks);
      lawful = rw c.mark_all.ensures.same c.mark_all.ensures.lawful;
      others = same_outside c.args.declared.now c.mark_all.new.hold c.run_steps-response.new.few
          c.run_steps-response.ensures.length
          (λ n lt. c.requires.all n (subst (λ (l : List ChanView). n < length l)
          (c.mark_all.ensures.same ∙ c.begin.ensures.same) lt));
      grows = c.run_steps-response.ensures.grows;
    }) in
    ap kinds_of (back ∙ ap chan_in (c.mark_all.ensures.same ∙ c.begin.ensures.same))

pub returns-else-response-eq-DONE-clause-ended : goal.returns-else-response-eq-DONE-clause-ended
returns-else-response-eq-DONE-clause-ended g c =
    let back = c.undo_all.ensures.back c.in-Ok.run'.tag (chan_in c.mark_all.new.hold)
    (record {
      made = rw c.mark_all.ensures.same (c.as_slice.ensures.value ∙ c.mark_all.ensures.marks);
      lawful = rw c.mark_all.ensures.same c.mark_all.ensures.lawful;
      others = same_outside c.args.declared.now c.mark_all.new.hold c.run_steps-response.new.few
          c.run_steps-response.ensures.length
          (λ n lt. c.requires.all n (subst (λ (l : List ChanView). n < length l)
          (c.mark_all.ensures.same ∙ c.begin.ensures.same) lt));
      grows = c.run_steps-response.ensures.grows;
    }) in
    undone_so c.in-Ok.run'.tag c.args.raw_steps.now c.args.declared.now (chan_in c.args.few.now)
    (chan_in c.run_steps-response.new.few) (chan_in c.undo_all.new.hold) c.run_steps-response.new.replies
    c.run_steps-response.result c.in-Ok.ensures.tag c.in-Ok.ensures.can_rise
    (subst (λ (l : List ChanView). HasRunSteps c.in-Ok.run'.tag c.args.raw_steps.now (chan_in l)
    (chan_in c.run_steps-response.new.few) c.run_steps-response.new.replies c.run_steps-response.result)
    (c.mark_all.ensures.same ∙ c.begin.ensures.same) c.run_steps-response.ensures.ran)
    c.if-response-eq-DONE.false
    (back ∙ ap chan_in (c.mark_all.ensures.same ∙ c.begin.ensures.same))
