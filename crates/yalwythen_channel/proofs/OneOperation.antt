-- An operation that ended so ended as the transaction of this one operation does, on its channel alone.
use Rattle.std.proofs.Common.{◌≡◌, refl, sym, ◌∙◌, ap, subst, ℕ, nat_eq, Bool, true, false, ◌||◌, max}
use Rattle.std.proofs.Common.{if◌then◌else◌, [], ◌∷◌, length, None, Result, Ok, Err, slice_get}
use Rattle.txc_base.specs.declared.kind.Kind.{Kind}
use Rattle.txc_base.specs.declared.kind.Kind.TheVariants as kind
use Rattle.txc_base.specs.declared.op.Op.{Op}
use Rattle.txc_base.specs.declared.op.Op.TheVariants.{Read, Write}
use Rattle.txc_base.specs.declared.source.Source.TheVariants.{Lit}
use Rattle.txc_base.specs.declared.stop.Stop.{Stop}
use Rattle.txc_base.specs.declared.stop.Stop.TheVariants as stop
use Rattle.txc_base.specs.declared.act.Act.{Act}
use Rattle.txc_base.specs.declared.tag.Tag.{Tag}
use Rattle.txc_base.specs.Op.{chan_of}
use Rattle.txc_base.specs.Operation.{Did, Replies, Waits, Stops, operate}
use Rattle.txc_chan.specs.declared.answer.Answer.{Answer}
use Rattle.txc_chan.specs.declared.answer.Answer.TheVariants.{Replied}
use Rattle.txc_chan.specs.Committed.{IsCommitted, reply_to}
use Rattle.txc_chan.specs.Logged.{Logged, grown, settled}
use Rattle.txc_txn_check.specs.declared.step.Step.TheVariants.{Do}
use Rattle.txc_txn_check.specs.declared.fault.TxnFault.{TxnFault}
use Rattle.txc_txn_check.specs.Walk.{Faulty, Fine, walk_op}
use Rattle.txc_txn.specs.declared.ran.Ran.{Ran}
use Rattle.txc_txn.specs.declared.ran.Ran.TheVariants.{Kept, Retry}
use Rattle.txc_txn.specs.Maps.{Map, put_at}
use Rattle.txc_txn.specs.OneOperation.{ending_of_one}
use Rattle.txc_txn.specs.Plain.{missing}
use Rattle.txc_txn.specs.Transaction.{Aborted, Ending, deeds_at, greatest, is_worn, kept_tag, start, steps_in}
use Rattle.txc_txn.specs.Transaction.{transaction}
use Rattle.txc_txn.proofs.OneOperation.{one_is_itself}
use Rattle.yalwythen_channel.specs.declared.channels.RunError.{RunError}
use Rattle.yalwythen_channel.specs.declared.channels.RunError.TheVariants.{Faulty as HaltedFaulty, Stopped}
use Rattle.yalwythen_channel.specs.declared.call_result.CallResult.{CallResult}
use Rattle.yalwythen_channel.specs.OneOperation.{Ends, EndsAlone, EndsAs, only, response_alone, response_of_ending}
use Rattle.yalwythen_channel.specs.Ending.{ComesTo}
use Rattle.yalwythen_channel.specs.Opened.{untallied}
use Rattle.yalwythen_channel.proofs.SingleStep.{faulty_one, walk_one}
use Rattle.yalwythen_channel.proofs.Endings.{comes}

-- how its transaction ended
came_of : Tag → Logged → Did → Result Answer Stop → Result Ran RunError
came_of kept old (Replies reply acts channel) (Ok answer) = Ok (Kept (record {
  tag = kept;
  replies = reply ∷ [];
  acts = deeds_at 0 (length old.log) acts;
}))
came_of kept old (Waits cause) (Ok answer) = Ok (Retry cause)
came_of kept old (Stops stop) (Ok answer) = Err (Stopped stop)
came_of kept old (Replies reply acts channel) (Err stop) = Err (Stopped stop)
came_of kept old (Waits cause) (Err stop) = Err (Stopped stop)
came_of kept old (Stops why) (Err stop) = Err (Stopped stop)

-- what is put over another one at the only number
only_over : (a b c : Logged) → only c ≡ put_at (put_at (only a) 0 b) 0 c
only_over a b c = λ j k. by (nat_eq k 0) j
  where
    by : (t : Bool) → (if t then c else missing.logged)
        ≡ (if t then c else if t then b else if t then a else missing.logged)
    by true = refl
    by false = refl

ends_comes : (kept : Tag) (what : Did) (ended : Result Answer Stop) (old new : Logged) → Ends kept what ended old new
    → ComesTo (ending_of_one (only old) kept 0 what) kept (0 ∷ []) (came_of kept old what ended) (only old) (only new)
unfolding came_of
ends_comes kept (Replies reply acts channel) (Ok answer) old new ends = (
  refl,
  ap only ends.1 ∙ only_over old (grown old kept acts channel) (settled kept.stamp (grown old kept acts channel)),
)
ends_comes kept (Waits cause) (Ok answer) old new ends = (refl, ap only ends.1)
ends_comes kept (Stops stop) (Ok answer) old new ends = absurd ends
ends_comes kept (Replies reply acts channel) (Err stop) old new ends =
    (λ other. ap (ending_of_one (only old) kept 0) (ends.0 other), ap only ends.1)
ends_comes kept (Waits cause) (Err stop) old new ends =
    (λ other. ap (ending_of_one (only old) kept 0) (ends.0 other), ap only ends.1)
ends_comes kept (Stops why) (Err stop) old new ends =
    (λ other. ap (ending_of_one (only old) kept 0) (ends.0 other), ap only ends.1)

stopped_so : (stop : Stop) → response_of_ending (Err stop) ≡ response_alone (Err (Stopped stop))
stopped_so stop.NoMemory = refl
stopped_so stop.NoReader = refl
stopped_so stop.NothingRead = refl
stopped_so stop.TooManyReaders = refl
stopped_so stop.Worn = refl

answers : (kept : Tag) (what : Did) (ended : Result Answer Stop) (old new : Logged) → Ends kept what ended old new
    → response_of_ending ended ≡ response_alone (came_of kept old what ended)
unfolding came_of
answers kept (Replies reply acts channel) (Ok answer) old new ends =
    ap (λ (a : Answer). response_of_ending (Ok a)) ends.0
answers kept (Waits cause) (Ok answer) old new ends = ap (λ (a : Answer). response_of_ending (Ok a)) ends.0
answers kept (Stops stop) (Ok answer) old new ends = absurd ends
answers kept (Replies reply acts channel) (Err stop) old new ends = stopped_so stop
answers kept (Waits cause) (Err stop) old new ends = stopped_so stop
answers kept (Stops why) (Err stop) old new ends = stopped_so stop

by_itself : (m : Map) (tag : Tag) (op : Op) → chan_of op ≡ 0
    → (is_worn tag.serial || is_worn (greatest m tag.stamp (0 ∷ []))) ≡ false
    → transaction m tag (chan_of op ∷ []) (Do op ∷ [])
    ≡ ending_of_one m (kept_tag m tag (0 ∷ [])) 0 (operate (m 0).channel tag.seat None op)
by_itself m tag op at rises =
    one_is_itself m tag op
    (subst (λ (n : ℕ). (is_worn tag.serial || is_worn (greatest m tag.stamp (n ∷ []))) ≡ false) (sym at) rises)
    ∙ ap (λ (n : ℕ). ending_of_one m (kept_tag m tag (n ∷ [])) n (operate (m n).channel tag.seat None op)) at

-- the same, where the tag that it commits with has another name
pub ended_alone : (tag kept : Tag) (op : Op) (old new : Logged) (response : CallResult) → chan_of op ≡ 0
    → (is_worn tag.serial || is_worn (max tag.stamp old.stamp)) ≡ false
    → kept ≡ kept_tag (only old) tag (0 ∷ [])
    → walk_op (slice_get (old.decl.kind ∷ [])) op untallied
    ≡ Fine (record { operations = 1; channels = chan_of op ∷ [] })
    → EndsAs kept (operate old.channel kept.seat None op) old new response → EndsAlone tag op old new response
ended_alone tag kept op old new response at rises tagged fine way =
    by (kept_tag (only old) tag (0 ∷ [])) refl (subst Has tagged way)
  where
    Has : Tag → Type 0
    Has t = EndsAs t (operate old.channel t.seat None op) old new response

    by : (t : Tag) → t ≡ kept_tag (only old) tag (0 ∷ []) → Has (kept_tag (only old) tag (0 ∷ []))
        → EndsAlone tag op old new response
    by t same has =
        let k = kept_tag (only old) tag (0 ∷ []) in let what = operate old.channel tag.seat None op in
        let came = came_of k old what has.ended in
        record {
          came = came;
          comes = comes (old.decl.kind ∷ []) (old.decl.kind ∷ []) (Do op ∷ []) _ tag came (only old) (only old)
              (only new) refl refl (walk_one (slice_get (old.decl.kind ∷ [])) op _ fine)
              (subst (λ (n : ℕ). ComesTo (transaction (only old) tag (chan_of op ∷ []) (Do op ∷ []))
              (kept_tag (only old) tag (n ∷ [])) (n ∷ []) came (only old) (only new)) (sym at)
              (subst (λ (e : Ending). ComesTo e k (0 ∷ []) came (only old) (only new))
              (sym (by_itself (only old) tag op at rises))
              (ends_comes k what has.ended old new has.ends)));
          answered = has.answered ∙ answers k what has.ended old new has.ends;
        }

-- every kind has writes and reads, and reader 0
pub write_fine : (kind : Kind) (body : ℕ) → walk_op (slice_get (kind ∷ [])) (Write 0 (Lit body)) untallied
    ≡ Fine (record { operations = 1; channels = 0 ∷ [] })
write_fine kind.Queue body = refl
write_fine kind.Bounded body = refl
write_fine kind.Cast body = refl
write_fine kind.MQueue body = refl
write_fine kind.BMQueue body = refl
write_fine kind.MCast body = refl

pub read_fine : (kind : Kind) → walk_op (slice_get (kind ∷ [])) (Read 0 0) untallied
    ≡ Fine (record { operations = 1; channels = 0 ∷ [] })
read_fine kind.Queue = refl
read_fine kind.Bounded = refl
read_fine kind.Cast = refl
read_fine kind.MQueue = refl
read_fine kind.BMQueue = refl
read_fine kind.MCast = refl

-- what was committed at once ended so
pub committed_so : (tag : Tag) (what : Did) (act : Act) (old new : Logged) → IsCommitted tag what act old new
    → Ends tag what (Ok (Replied (reply_to act))) old new
committed_so tag what act old new is = subst (λ (w : Did). Ends tag w (Ok (Replied (reply_to act))) old new)
    (sym is.done) (refl, is.settles)

-- if an allocation fails, nothing is changed
pub memory_so : (tag : Tag) (what : Did) (old new : Logged) → new ≡ old → Ends tag what (Err stop.NoMemory) old new
memory_so tag (Replies reply acts channel) old new same = (λ other. absurd (other refl), same)
memory_so tag (Waits cause) old new same = (λ other. absurd (other refl), same)
memory_so tag (Stops why) old new same = (λ other. absurd (other refl), same)

-- where a number is used up
pub worn_alone : (tag : Tag) (op : Op) (old : Logged) (response : CallResult) → chan_of op ≡ 0
    → (is_worn tag.serial || is_worn (max tag.stamp old.stamp)) ≡ true
    → walk_op (slice_get (old.decl.kind ∷ [])) op untallied
    ≡ Fine (record { operations = 1; channels = chan_of op ∷ [] })
    → response ≡ response_alone (Err (Stopped stop.Worn)) → EndsAlone tag op old old response
worn_alone tag op old response at worn fine answered =
    let came : Result Ran RunError = Err (Stopped stop.Worn) in
    record {
      came = came;
      comes = comes (old.decl.kind ∷ []) (old.decl.kind ∷ []) (Do op ∷ []) _ tag came (only old) (only old) (only old)
          refl refl (walk_one (slice_get (old.decl.kind ∷ [])) op _ fine)
          (subst (λ (n : ℕ). ComesTo (transaction (only old) tag (n ∷ []) (Do op ∷ []))
          (kept_tag (only old) tag (n ∷ [])) (n ∷ []) came (only old) (only old)) (sym at) (
            (λ other. ap (λ (b : Bool). if b then Aborted stop.Worn
                else steps_in (kept_tag (only old) tag (0 ∷ [])) (Do op ∷ []) (start (only old))) worn),
            refl,
          ));
      answered = answered;
    }

-- where the operation has a fault
pub faulty_alone : (tag : Tag) (op : Op) (old : Logged) (fault : TxnFault) (response : CallResult)
    → walk_op (slice_get (old.decl.kind ∷ [])) op untallied ≡ Faulty fault
    → response ≡ response_alone (Err (HaltedFaulty fault)) → EndsAlone tag op old old response
faulty_alone tag op old fault response found answered = record {
  came = Err (HaltedFaulty fault);
  comes = faulty_one (old.decl.kind ∷ []) op fault tag (only old) found;
  answered = answered;
}
