use Rattle.std.proofs.Common.{rules, ◌≡◌, sym, ap, subst, ◌∙◌, ◌++◌, length, drop}
use Rattle.std.proofs.lemmas.Result.{IfOk-from_err}
use Rattle.txc_txn.specs.Run.{deeds_of}
use Rattle.txc_chan.specs.declared.answer.Answer.{Answer}
use Rattle.txc_chan.specs.Logged.{UnlessReplied}
use Rattle.txc_txn.proofs.Counting.{undoable_there}
use Rattle.txc_txn.proofs.Growing.{grow_none, put_same}
use Rattle.txc_txn.proofs.Running.{grows_there, grows_reply, op_does, keeps_refl, keeps_on, keeps_more, keeps_replies}
use Rattle.txc_txn.proofs.run.Run.op.Goals as goal

pub add_deeds-requires-clause-held : goal.add_deeds-requires-clause-held
add_deeds-requires-clause-held g c = c.apply.ensures.held _
    (rw (c.log_len-place.ensures.same, c.chan-chan.ensures) c.requires.held)

pub add_deeds-requires-clause-pending : goal.add_deeds-requires-clause-pending
add_deeds-requires-clause-pending g c =
    undoable_there c.args.self.now.tag (g.H.Hold.chans c.log_len-place.new.self c.chan-chan.result)
    (g.H.Hold.chans c.apply.new.self c.chan-chan.result) c.log_len-place.result (c.log_len-place.ensures.value
    ∙ ap (λ hold. length (g.H.Hold.chans hold c.chan-chan.result).log) (sym c.log_len-place.ensures.same))
    (grows_there c.args.self.now.tag (g.H.Hold.chans c.log_len-place.new.self) (g.H.Hold.chans c.apply.new.self)
    c.chan-chan.result c.args.trace.now.last c.args.op.now _ c.in-Replied.reply c.in-Replied.is
    c.in_ok-reply.ensures.ok)

pub returns-in_err-add_deeds-in-Replied-clause-grows : goal.returns-in_err-add_deeds-in-Replied-clause-grows
returns-in_err-add_deeds-in-Replied-clause-grows g c =
    rw (c.add_deeds.ensures.same, ← c.log_len-place.ensures.same) (grows_reply c.args.self.now.tag
    (g.H.Hold.chans c.log_len-place.new.self) (g.H.Hold.chans c.apply.new.self)
    c.chan-chan.result c.args.trace.now.last c.args.op.now _ c.in-Replied.reply c.in-Replied.is
    c.in_ok-reply.ensures.ok c.apply.ensures.others)

pub returns-in_err-add_reply-in-Replied-clause-grows : goal.returns-in_err-add_reply-in-Replied-clause-grows
returns-in_err-add_reply-in-Replied-clause-grows g c =
    rw (c.add_deeds.ensures.same, ← c.log_len-place.ensures.same) (grows_reply c.args.self.now.tag
    (g.H.Hold.chans c.log_len-place.new.self) (g.H.Hold.chans c.apply.new.self)
    c.chan-chan.result c.args.trace.now.last c.args.op.now _ c.in-Replied.reply c.in-Replied.is
    c.in_ok-reply.ensures.ok c.apply.ensures.others)

pub returns-in_ok-add_reply-in-Replied-clause-grows : goal.returns-in_ok-add_reply-in-Replied-clause-grows
returns-in_ok-add_reply-in-Replied-clause-grows g c =
    rw (c.add_deeds.ensures.same, ← c.log_len-place.ensures.same) (grows_reply c.args.self.now.tag
    (g.H.Hold.chans c.log_len-place.new.self) (g.H.Hold.chans c.apply.new.self)
    c.chan-chan.result c.args.trace.now.last c.args.op.now _ c.in-Replied.reply c.in-Replied.is
    c.in_ok-reply.ensures.ok c.apply.ensures.others)

pub returns-in_ok-add_reply-in-Replied-clause-ok : goal.returns-in_ok-add_reply-in-Replied-clause-ok
returns-in_ok-add_reply-in-Replied-clause-ok g c =
    let deeds : c.add_reply.new.trace.deeds.items ≡ c.args.trace.now.deeds.items ++ deeds_of c.chan-chan.result
    c.log_len-place.result (drop c.log_len-place.result (g.H.Hold.chans c.apply.new.self c.chan-chan.result).log) =
    ap (λ xs. xs.items) c.add_reply.ensures.deeds ∙ c.in_ok-add_deeds-in-Replied.ensures.ok in
    rw (c.add_deeds.ensures.same, ← c.log_len-place.ensures.same)
    (op_does c.args.self.now.tag c.args.op.now (g.H.Hold.chans c.log_len-place.new.self)
    (g.H.Hold.chans c.apply.new.self) c.args.trace.now c.add_reply.new.trace
    c.chan-chan.result c.log_len-place.result _ c.in-Replied.reply c.chan-chan.ensures (c.log_len-place.ensures.value
    ∙ ap (λ hold. length (g.H.Hold.chans hold c.chan-chan.result).log) (sym c.log_len-place.ensures.same))
    c.in-Replied.is c.in_ok-reply.ensures.ok
    c.apply.ensures.others
    (search rules) (search rules) deeds)

pub apply-requires-clause-held : goal.apply-requires-clause-held
apply-requires-clause-held g c = rw (c.log_len-place.ensures.same, c.chan-chan.ensures) c.requires.held

pub apply-requires-clause-supports : goal.apply-requires-clause-supports
apply-requires-clause-supports g c = rw (c.log_len-place.ensures.same, c.chan-chan.ensures) c.requires.supports

pub returns-in_err-reply-clause-held : goal.returns-in_err-reply-clause-held
returns-in_err-reply-clause-held g c =
    rw (← c.log_len-place.ensures.same) (c.apply.ensures.held)

pub returns-in_err-reply-clause-others : goal.returns-in_err-reply-clause-others
returns-in_err-reply-clause-others g c =
    rw (← c.log_len-place.ensures.same, ← c.chan-chan.ensures) (c.apply.ensures.others)

pub returns-in_err-reply-clause-keeps : goal.returns-in_err-reply-clause-keeps
returns-in_err-reply-clause-keeps g c = keeps_refl c.args.trace.now

pub returns-in_err-reply-clause-ok : goal.returns-in_err-reply-clause-ok
returns-in_err-reply-clause-ok g c = IfOk-from_err c.from_residual.result _ c.from_residual.ensures.0

pub returns-in_err-add_deeds-in-Replied-clause-held : goal.returns-in_err-add_deeds-in-Replied-clause-held
returns-in_err-add_deeds-in-Replied-clause-held g c =
    rw (c.add_deeds.ensures.same, ← c.log_len-place.ensures.same) (c.apply.ensures.held)

pub returns-in_err-add_deeds-in-Replied-clause-others : goal.returns-in_err-add_deeds-in-Replied-clause-others
returns-in_err-add_deeds-in-Replied-clause-others g c =
    rw (c.add_deeds.ensures.same, ← c.log_len-place.ensures.same, ← c.chan-chan.ensures) (c.apply.ensures.others)

pub returns-in_err-add_deeds-in-Replied-clause-ok : goal.returns-in_err-add_deeds-in-Replied-clause-ok
returns-in_err-add_deeds-in-Replied-clause-ok g c = IfOk-from_err c.from_residual-in_err-add_deeds-in-Replied.result _
    c.from_residual-in_err-add_deeds-in-Replied.ensures.0

pub returns-in_err-add_reply-in-Replied-clause-held : goal.returns-in_err-add_reply-in-Replied-clause-held
returns-in_err-add_reply-in-Replied-clause-held g c =
    rw (c.add_deeds.ensures.same, ← c.log_len-place.ensures.same) (c.apply.ensures.held)

pub returns-in_err-add_reply-in-Replied-clause-others : goal.returns-in_err-add_reply-in-Replied-clause-others
returns-in_err-add_reply-in-Replied-clause-others g c =
    rw (c.add_deeds.ensures.same, ← c.log_len-place.ensures.same, ← c.chan-chan.ensures) (c.apply.ensures.others)

pub returns-in_err-add_reply-in-Replied-clause-ok : goal.returns-in_err-add_reply-in-Replied-clause-ok
returns-in_err-add_reply-in-Replied-clause-ok g c = IfOk-from_err c.from_residual-in_err-add_reply-in-Replied.result _
    c.from_residual-in_err-add_reply-in-Replied.ensures.0

pub returns-in_ok-add_reply-in-Replied-clause-held : goal.returns-in_ok-add_reply-in-Replied-clause-held
returns-in_ok-add_reply-in-Replied-clause-held g c =
    rw (c.add_deeds.ensures.same, ← c.log_len-place.ensures.same) (c.apply.ensures.held)

pub returns-in_ok-add_reply-in-Replied-clause-others : goal.returns-in_ok-add_reply-in-Replied-clause-others
returns-in_ok-add_reply-in-Replied-clause-others g c =
    rw (c.add_deeds.ensures.same, ← c.log_len-place.ensures.same, ← c.chan-chan.ensures) (c.apply.ensures.others)

pub returns-in_ok-add_reply-in-Replied-clause-err : goal.returns-in_ok-add_reply-in-Replied-clause-err
returns-in_ok-add_reply-in-Replied-clause-err g c = tt

pub returns-in-Retry-clause-held : goal.returns-in-Retry-clause-held
returns-in-Retry-clause-held g c =
    rw (← c.log_len-place.ensures.same) (c.apply.ensures.held)

pub returns-in-Retry-clause-others : goal.returns-in-Retry-clause-others
returns-in-Retry-clause-others g c =
    rw (← c.log_len-place.ensures.same, ← c.chan-chan.ensures) (c.apply.ensures.others)

pub returns-in-Retry-clause-keeps : goal.returns-in-Retry-clause-keeps
returns-in-Retry-clause-keeps g c = keeps_refl c.args.trace.now

pub returns-in-Retry-clause-err : goal.returns-in-Retry-clause-err
returns-in-Retry-clause-err g c = tt

pub returns-in_err-reply-clause-grows : goal.returns-in_err-reply-clause-grows
returns-in_err-reply-clause-grows g c =
    rw (← c.log_len-place.ensures.same) (grow_none c.args.self.now.tag (g.H.Hold.chans c.log_len-place.new.self)
    (g.H.Hold.chans c.apply.new.self)
    (put_same (g.H.Hold.chans c.log_len-place.new.self) (g.H.Hold.chans c.apply.new.self) c.chan-chan.result
    c.apply.ensures.others c.in_err-reply.ensures.unchanged))

pub returns-in-Retry-clause-grows : goal.returns-in-Retry-clause-grows
returns-in-Retry-clause-grows g c =
    rw (← c.log_len-place.ensures.same) (grow_none c.args.self.now.tag (g.H.Hold.chans c.log_len-place.new.self)
    (g.H.Hold.chans c.apply.new.self)
    (put_same (g.H.Hold.chans c.log_len-place.new.self) (g.H.Hold.chans c.apply.new.self) c.chan-chan.result
    c.apply.ensures.others (subst
    (λ (answer : Answer). UnlessReplied answer
    (g.H.Hold.chans c.apply.new.self c.chan-chan.result ≡ g.H.Hold.chans c.log_len-place.new.self c.chan-chan.result))
    c.in-Retry.is c.in_ok-reply.ensures.retry)))

pub returns-in_err-add_deeds-in-Replied-clause-keeps : goal.returns-in_err-add_deeds-in-Replied-clause-keeps
returns-in_err-add_deeds-in-Replied-clause-keeps g c = keeps_more c.args.trace.now c.add_deeds.new.trace
    (ap (λ xs. xs.items) c.add_deeds.ensures.replies) c.add_deeds.ensures.keeps

pub returns-in_err-add_reply-in-Replied-clause-keeps : goal.returns-in_err-add_reply-in-Replied-clause-keeps
returns-in_err-add_reply-in-Replied-clause-keeps g c = keeps_on c.args.trace.now c.add_deeds.new.trace
    c.add_reply.new.trace
    (keeps_more c.args.trace.now c.add_deeds.new.trace (ap (λ xs. xs.items) c.add_deeds.ensures.replies)
    c.add_deeds.ensures.keeps) (keeps_replies c.add_deeds.new.trace c.add_reply.new.trace
    (ap (λ xs. xs.items) c.add_reply.ensures.deeds) c.add_reply.ensures.keeps)

pub returns-in_ok-add_reply-in-Replied-clause-keeps : goal.returns-in_ok-add_reply-in-Replied-clause-keeps
returns-in_ok-add_reply-in-Replied-clause-keeps g c = keeps_on c.args.trace.now c.add_deeds.new.trace
    c.add_reply.new.trace
    (keeps_more c.args.trace.now c.add_deeds.new.trace (ap (λ xs. xs.items) c.add_deeds.ensures.replies)
    c.add_deeds.ensures.keeps) (keeps_replies c.add_deeds.new.trace c.add_reply.new.trace
    (ap (λ xs. xs.items) c.add_reply.ensures.deeds) c.add_reply.ensures.keeps)
