-- A list that was run step by step is the transaction of its steps.
use Rattle.std.proofs.Common.{inl, inr, Bool, false, ◌||◌, if◌then◌else◌, Contains}
use Rattle.std.proofs.Common.{◌≡◌, ◌≢◌, refl, sym, ◌∙◌, ap, subst, ℕ, zero, suc, ◌+◌, ◌<◌, ◌≤◌, Option, Some, None}
use Rattle.std.proofs.Common.{List, [], ◌∷◌, ◌++◌, length, take, drop, map, arith, slice_index_or, slice_set}
use Rattle.std.proofs.lemmas.List.{get_or-map, length-map, map-append, take_more_set}
use Rattle.std.proofs.lemmas.Bool.Decides.{leb_tells}
use Rattle.std.proofs.Math.Seq.{drop-length}
use Rattle.txc_base.specs.declared.op.Op.{Op}
use Rattle.txc_base.specs.declared.reply.Reply.{Reply}
use Rattle.txc_base.specs.declared.stop.Stop.{Stop}
use Rattle.txc_base.specs.declared.stop.Stop.TheVariants as stop
use Rattle.txc_base.specs.declared.tag.Tag.{Tag}
use Rattle.txc_base.specs.Op.{chan_of}
use Rattle.txc_base.specs.Operation.{Did, Replies, Waits, Stops, operate}
use Rattle.txc_base.specs.Reply.{last_read_after}
use Rattle.txc_base.specs.Stop.{stop_code}
use Rattle.txc_chan.specs.ChanView.{ChanView}
use Rattle.txc_chan.specs.Logged.{Left, Logged, Stopped, grown, on_log, op_on}
use Rattle.txc_txn_check.specs.declared.step.Step.{Step}
use Rattle.txc_txn_check.specs.declared.step.Step.TheVariants.{Do}
use Rattle.txc_txn.specs.declared.deed.Deed.{Deed}
use Rattle.txc_txn.specs.declared.ran.Ran.TheVariants.{Kept as RanKept}
use Rattle.txc_txn.specs.Growth.{SameOutside}
use Rattle.txc_txn.specs.Maps.{Map, put_at, settle_all}
use Rattle.txc_txn.specs.Plain.{chan_in, missing}
use Rattle.txc_txn.specs.Run.{RanSettled, receipt_of}
use Rattle.txc_txn.specs.Transaction.{Aborted, Ending, Kept, State, after_did, deeds_at, greatest, is_worn}
use Rattle.txc_txn.specs.Transaction.{kept_tag, start, step_in, steps_in}
use Rattle.txc_txn.proofs.Running.{step_again, step_done, step_halt, step_in-Do}
use Rattle.txc_txn.proofs.TwoOperations.{waiting}
use Rattle.yalwythen_channel.specs.declared.raw_steps.RawStep.{RawStep}
use Rattle.yalwythen_channel.specs.declared.call_result.CallResult.{CallResult}
use Rattle.yalwythen_channel.specs.OneOperation.{no_tag}
use Rattle.yalwythen_channel.specs.OneList.{HasAppliedTo, HasRunSteps, IsEndedBy, listed, or_retry, response_of_stop}
use Rattle.yalwythen_channel.specs.OneList.{TransactsList, list_on, steps_of}
use Rattle.yalwythen_channel.specs.RawSteps.{response_of, step_of}

-- a step that stops with this number
stopped : (tag : Tag) (raw_step : RawStep) (last : Option ℕ) (m : Map) (op : Op) (stop : Stop) (response : CallResult)
    → step_of raw_step ≡ Some (Do op) → op_on (m (chan_of op)) tag last op ≡ Stopped stop
    → response.code ≡ 2 → response.value ≡ stop_code stop → IsEndedBy tag raw_step last m response
stopped tag raw_step last m op stop response is ends code value = record {
  not = λ e. absurd (omega (arith, e, code));
  waits = λ e. absurd (omega (arith, e, code));
  stops = λ e. (op, stop, is, ends, value);
}

-- a step whose operation stops
pub stopped_so : (tag : Tag) (raw_step : RawStep) (last : Option ℕ) (m : Map) (op : Op) (why : Stop)
    (response : CallResult)
    → step_of raw_step ≡ Some (Do op) → (why ≢ stop.NoMemory → op_on (m (chan_of op)) tag last op ≡ Stopped why)
    → response ≡ response_of_stop why → IsEndedBy tag raw_step last m response
stopped_so tag raw_step last m op stop.NoMemory response is ends said =
    let code : response.code ≡ 5 = ap (λ (r : CallResult). r.code) said in
    record {
      not = λ e. absurd (omega (arith, e, code));
      waits = λ e. absurd (omega (arith, e, code));
      stops = λ e. absurd (omega (arith, e, code));
    }
stopped_so tag raw_step last m op stop.NoReader response is ends said =
    stopped tag raw_step last m op stop.NoReader response is (ends (λ e. cc))
    (ap (λ (r : CallResult). r.code) said) (ap (λ (r : CallResult). r.value) said)
stopped_so tag raw_step last m op stop.NothingRead response is ends said =
    stopped tag raw_step last m op stop.NothingRead response is (ends (λ e. cc))
    (ap (λ (r : CallResult). r.code) said) (ap (λ (r : CallResult). r.value) said)
stopped_so tag raw_step last m op stop.TooManyReaders response is ends said =
    stopped tag raw_step last m op stop.TooManyReaders response is (ends (λ e. cc))
    (ap (λ (r : CallResult). r.code) said) (ap (λ (r : CallResult). r.value) said)
stopped_so tag raw_step last m op stop.Worn response is ends said =
    stopped tag raw_step last m op stop.Worn response is (ends (λ e. cc))
    (ap (λ (r : CallResult). r.code) said) (ap (λ (r : CallResult). r.value) said)

-- the first steps of a list were run
pub record IsGoing (tag : Tag) (raw_steps : List RawStep) (i : ℕ) (m m' : Map) (last : Option ℕ) (out : List CallResult)
    : Type 0 where
  pub state : State
  pub rest : steps_in tag (steps_of raw_steps) (start m) ≡ steps_in tag (drop i (steps_of raw_steps)) state
  pub chans : state.chans ≡ m'
  pub latest : state.last ≡ last
  pub replies : take i out ≡ map response_of state.replies

pub begins : (tag : Tag) (raw_steps : List RawStep) (m : Map) (out : List CallResult)
    → IsGoing tag raw_steps 0 m m None out
begins tag raw_steps m out = record { state = start m; rest = refl; chans = refl; latest = refl; replies = refl }

-- the state after an operation that replied
after : (s : State) (chan : ℕ) (tag : Tag) (what : Did) (reply : Reply) (l : Logged)
    → on_log (s.chans chan) tag what ≡ Left reply l
    → (deeds : List Deed) × (after_did s chan tag what ≡ Kept (record {
      chans = put_at s.chans chan l;
      last = last_read_after reply s.last;
      replies = s.replies ++ reply ∷ [];
      deeds = deeds;
    }))
after s chan tag (Replies answer acts channel) reply l is =
    let said : answer ≡ reply = cc in
    let left : grown (s.chans chan) tag acts channel ≡ l = cc in (
      s.deeds ++ deeds_at chan (length (s.chans chan).log) acts,
      (λ j. Kept (record {
        chans = put_at s.chans chan (left j);
        last = last_read_after (said j) s.last;
        replies = s.replies ++ said j ∷ [];
        deeds = s.deeds ++ deeds_at chan (length (s.chans chan).log) acts;
      })),
    )
after s chan tag (Waits cause) reply l is = absurd cc
after s chan tag (Stops why) reply l is = absurd cc

-- within a list it does not matter what stands for what is missing
same_in : {X : Type 0} (xs : List X) (i : ℕ) (d e : X) → i < length xs → slice_index_or xs i d ≡ slice_index_or xs i e
same_in [] i d e lt = absurd (omega arith)
same_in (x ∷ xs) zero d e lt = refl
same_in (x ∷ xs) (suc i) d e lt = same_in xs i d e (omega arith)

-- the step with this number
step_at : (raw_steps : List RawStep) (i : ℕ) (raw_step : RawStep) → i < length raw_steps
    → raw_step ≡ slice_index_or raw_steps i raw_step
    → listed raw_step ≡ slice_index_or (steps_of raw_steps) i (listed raw_step)
step_at raw_steps i raw_step lt is =
    ap listed is ∙ sym (get_or-map listed raw_steps i raw_step (listed raw_step) lt)

-- one step more
pub goes_on : (tag : Tag) (raw_steps : List RawStep) (i : ℕ) (d : RawStep) (m m1 m2 : Map) (last : Option ℕ)
    (out out' : List CallResult) (reply : Reply)
    → i < length raw_steps → i < length out → IsGoing tag raw_steps i m m1 last out
    → HasAppliedTo tag (slice_index_or raw_steps i d) last m1 m2 reply
    → out' ≡ slice_set out i (response_of reply)
    → IsGoing tag raw_steps (i + 1) m m2 (last_read_after reply last) out'
goes_on tag raw_steps i d m m1 m2 last out out' reply lt room going applied set =
    let raw_step : RawStep = slice_index_or raw_steps i d in
    let at : raw_step ≡ slice_index_or raw_steps i raw_step = same_in raw_steps i d raw_step lt in
    let s : State = going.state in
    let op : Op = applied.op in
    let step : listed raw_step ≡ Do op = ap or_retry applied.is in
    let did : op_on (s.chans (chan_of op)) tag s.last op ≡ Left reply (m2 (chan_of op)) =
    (λ j. op_on (going.chans j (chan_of op)) tag (going.latest j) op) ∙ applied.did in
    let next = after s (chan_of op) tag (operate (s.chans (chan_of op)).channel tag.seat s.last op) reply
    (m2 (chan_of op)) did in
    let s' : State = record {
      chans = put_at s.chans (chan_of op) (m2 (chan_of op));
      last = last_read_after reply s.last;
      replies = s.replies ++ reply ∷ [];
      deeds = next.0;
    } in
    record {
      state = s';
      rest = step_done tag (steps_of raw_steps) i (listed raw_step) (start m) s s'
          (subst (λ (n : ℕ). i < n) (sym (length-map raw_steps listed)) lt) (step_at raw_steps i raw_step lt at)
          going.rest (ap (λ (x : Step). step_in tag x s) step ∙ step_in-Do tag op s ∙ next.1);
      chans = ap (λ (x : Map). put_at x (chan_of op) (m2 (chan_of op))) going.chans ∙ sym applied.others;
      latest = ap (last_read_after reply) going.latest;
      replies = ap (take (i + 1)) set ∙ take_more_set out i (response_of reply) room
          ∙ ap (λ (xs : List CallResult). xs ++ response_of reply ∷ []) going.replies
          ∙ sym (map-append response_of s.replies (reply ∷ []));
    }

-- what stops does so without its log
stopping : (l : Logged) (tag : Tag) (what : Did) (why : Stop) → on_log l tag what ≡ Stopped why → what ≡ Stops why
stopping l tag (Replies reply acts channel) why is = absurd cc
stopping l tag (Waits cause) why is = absurd cc
stopping l tag (Stops other) why is = cc

-- a step that is not applied
pub ends_at : (tag : Tag) (raw_steps : List RawStep) (i : ℕ) (d : RawStep) (m m1 : Map) (last : Option ℕ)
    (out : List CallResult) (response : CallResult)
    → i < length raw_steps → IsGoing tag raw_steps i m m1 last out
    → IsEndedBy tag (slice_index_or raw_steps i d) last m1 response → HasRunSteps tag raw_steps m m1 out response
ends_at tag raw_steps i d m m1 last out response lt going ended =
    let raw_step : RawStep = slice_index_or raw_steps i d in
    let at : raw_step ≡ slice_index_or raw_steps i raw_step = same_in raw_steps i d raw_step lt in
    let s : State = going.state in
    let there : i < length (steps_of raw_steps) =
    subst (λ (n : ℕ). i < n) (sym (length-map raw_steps listed)) lt in
    let on : (op : Op) → op_on (s.chans (chan_of op)) tag s.last op ≡ op_on (m1 (chan_of op)) tag last op =
    λ op. (λ j. op_on (going.chans j (chan_of op)) tag (going.latest j) op) in
    record {
      ran = λ e. absurd (ended.not e);
      waits = λ e.
          let w = ended.waits e in
          let op : Op = w.0 in
          let step : listed raw_step ≡ Do op = ap or_retry w.2 in (
            w.1,
            step_again tag (steps_of raw_steps) i (listed raw_step) (start m) s w.1 there
                (step_at raw_steps i raw_step lt at) going.rest
                (ap (λ (x : Step). step_in tag x s) step ∙ step_in-Do tag op s
                ∙ ap (after_did s (chan_of op) tag) (waiting (s.chans (chan_of op)) tag _ w.1 (on op ∙ w.3))),
            w.4,
          );
      stops = λ e.
          let w = ended.stops e in
          let op : Op = w.0 in
          let step : listed raw_step ≡ Do op = ap or_retry w.2 in (
            w.1,
            step_halt tag (steps_of raw_steps) i (listed raw_step) (start m) s w.1 there
                (step_at raw_steps i raw_step lt at) going.rest
                (ap (λ (x : Step). step_in tag x s) step ∙ step_in-Do tag op s
                ∙ ap (after_did s (chan_of op) tag) (stopping (s.chans (chan_of op)) tag _ w.1 (on op ∙ w.3))),
            w.4,
          );
    }

-- all steps were run
pub all_ran : (tag : Tag) (raw_steps : List RawStep) (i : ℕ) (m m' : Map) (last : Option ℕ) (out : List CallResult)
    (response : CallResult) → i ≡ length raw_steps → response.code ≡ 0
    → IsGoing tag raw_steps i m m' last out → HasRunSteps tag raw_steps m m' out response
all_ran tag raw_steps i m m' last out response end code going =
    let whole : drop i (steps_of raw_steps) ≡ [] =
    ap (λ (n : ℕ). drop n (steps_of raw_steps)) (end ∙ sym (length-map raw_steps listed))
    ∙ drop-length (steps_of raw_steps) in
    record {
      ran = λ e. (
        going.state,
        going.rest ∙ ap (λ (xs : List Step). steps_in tag xs going.state) whole,
        going.chans,
        ap (λ (n : ℕ). take n out) (sym end) ∙ going.replies,
      );
      waits = λ e. absurd (omega (arith, e, code));
      stops = λ e. absurd (omega (arith, e, code));
    }

-- beyond the end there is no channel
beyond_end : (xs : List ChanView) (n : ℕ) → length xs ≤ n → chan_in xs n ≡ missing.logged
beyond_end [] n le = refl
beyond_end (x ∷ xs) zero le = absurd (omega arith)
beyond_end (x ∷ xs) (suc n) le = beyond_end xs n (omega arith)

-- where all channels are declared, the others are the same
pub same_outside : (declared : List ℕ) (old new : List ChanView) → length new ≡ length old
    → ((n : ℕ) → n < length old → Contains declared n) → SameOutside declared (chan_in old) (chan_in new)
same_outside declared old new long all n none = elim (leb_tells (suc n) (length old)) [
  | inl t ↦ absurd (none (all n t.1))
  | inr t ↦ beyond_end new n (omega (arith, long, t.1)) ∙ sym (beyond_end old n (omega (arith, t.1)))
]

-- how a list ends that has a tag
list_ends : (raw_steps : List RawStep) (declared : List ℕ) (m : Map)
    → (is_worn no_tag.serial || is_worn (greatest m no_tag.stamp declared)) ≡ false
    → list_on raw_steps declared m ≡ steps_in (kept_tag m no_tag declared) (steps_of raw_steps) (start m)
list_ends raw_steps declared m rises =
    ap (λ (b : Bool). if b then Aborted stop.Worn
    else steps_in (kept_tag m no_tag declared) (steps_of raw_steps) (start m)) rises

-- a list that was committed
pub listed_so : (kept : Tag) (raw_steps : List RawStep) (declared : List ℕ) (m m1 m' : Map) (out : List CallResult)
    (response : CallResult)
    → kept ≡ kept_tag m no_tag declared
    → (is_worn no_tag.serial || is_worn (greatest m no_tag.stamp declared)) ≡ false
    → HasRunSteps kept raw_steps m m1 out response → response.code ≡ 0 → m' ≡ settle_all m1 kept.stamp declared
    → TransactsList raw_steps declared m m' out response
listed_so kept raw_steps declared m m1 m' out response tagged rises run code settled =
    let named : Tag = kept_tag m no_tag declared in
    let has : HasRunSteps named raw_steps m m1 out response =
    subst (λ (t : Tag). HasRunSteps t raw_steps m m1 out response) tagged run in
    let ran = has.ran code in
    let state : State = ran.0 in
    let ends : list_on raw_steps declared m ≡ Kept state = list_ends raw_steps declared m rises ∙ ran.1 in
    let left : m' ≡ settle_all state.chans named.stamp declared =
    settled ∙ ap (λ (t : Tag). settle_all m1 t.stamp declared) tagged
    ∙ ap (λ (x : Map). settle_all x named.stamp declared) (sym ran.2) in
    record {
      committed = λ e. record {
        receipt = receipt_of named state;
        ran = subst (λ (x : Ending). RanSettled named declared x (RanKept (receipt_of named state)) m m') (sym ends)
            (refl, left);
        replies = ran.3;
      };
      waits = λ e. absurd (omega (arith, e, code));
      stops = λ e. absurd (omega (arith, e, code));
      unchanged = λ no. absurd (no code);
    }

-- a list that was undone
pub undone_so : (kept : Tag) (raw_steps : List RawStep) (declared : List ℕ) (m m1 m' : Map) (out : List CallResult)
    (response : CallResult)
    → kept ≡ kept_tag m no_tag declared
    → (is_worn no_tag.serial || is_worn (greatest m no_tag.stamp declared)) ≡ false
    → HasRunSteps kept raw_steps m m1 out response → response.code ≢ 0 → m' ≡ m
    → TransactsList raw_steps declared m m' out response
undone_so kept raw_steps declared m m1 m' out response tagged rises run not same =
    let named : Tag = kept_tag m no_tag declared in
    let has : HasRunSteps named raw_steps m m1 out response =
    subst (λ (t : Tag). HasRunSteps t raw_steps m m1 out response) tagged run in
    record {
      committed = λ e. absurd (not e);
      waits = λ e. let w = has.waits e in (w.0, list_ends raw_steps declared m rises ∙ w.1, w.2);
      stops = λ e. let w = has.stops e in (w.0, list_ends raw_steps declared m rises ∙ w.1, w.2);
      unchanged = λ no. same;
    }

-- the numbers below at most four
pub is_below : (k n : ℕ) → k ≤ 4 → n < k → Contains (take k (0 ∷ 1 ∷ 2 ∷ 3 ∷ [])) n
is_below zero n le lt = absurd (omega (arith, lt))
is_below (suc k) zero le lt = (0, omega arith, refl)
is_below (suc zero) (suc n) le lt = absurd (omega (arith, lt))
is_below (suc (suc k)) (suc zero) le lt = (1, omega arith, refl)
is_below (suc (suc zero)) (suc (suc n)) le lt = absurd (omega (arith, lt))
is_below (suc (suc (suc k))) (suc (suc zero)) le lt = (2, omega arith, refl)
is_below (suc (suc (suc zero))) (suc (suc (suc n))) le lt = absurd (omega (arith, lt))
is_below (suc (suc (suc (suc k)))) (suc (suc (suc zero))) le lt = (3, omega arith, refl)
is_below (suc (suc (suc (suc k)))) (suc (suc (suc (suc n)))) le lt = absurd (omega (arith, le, lt))
