use Rattle.std.proofs.Common.{rules, ◌≡◌, ◌∙◌, ap, subst, [], ◌∷◌, length}
use Rattle.txc_base.specs.Op.{chan_of}
use Rattle.txc_chan.specs.Committed.{IsCommittedOp, reply_to}
use Rattle.txc_txn.specs.Maps.{Map, put_at}
use Rattle.txc_txn.specs.Plain.{chan_in}
use Rattle.txc_txn.proofs.Growing.{put_same}
use Rattle.txc_txn.proofs.Once.{committed_once, none_so, some_so}
use Rattle.txc_txn.proofs.Restoring.{put_kinds}
use Rattle.txc_txn.proofs.plain.Plain.commit_one.Goals as goal

pub returns-clause-done : goal.returns-clause-done
returns-clause-done g c is =
    let before : Map = chan_in c.args.self.now in let after : Map = chan_in c.commit_at.new.self in
    let done : IsCommittedOp c.in-Some.kept c.args.op.now c.in-Some-found.act (before c.chan-chan.result)
    (after c.chan-chan.result) =
    some_so c.in-Ok.found c.in-Some-found.act (λ act. IsCommittedOp c.in-Some.kept c.args.op.now act
    (before c.chan-chan.result) (after c.chan-chan.result)) c.in-Some-found.is c.in-Ok.ensures.done in
    let at : c.log_len-place.result ≡ length (before c.chan-chan.result).log = search rules in
    let place : c.log_len-place.result ≡ length (before (chan_of c.args.op.now)).log =
    at ∙ ap (λ n. length (before n).log) c.chan-chan.ensures in
    committed_once before after c.args.tag c.in-Some.kept c.chan-chan.result c.args.op.now c.in-Some-found.act
    c.fill.new.receipt c.chan-chan.ensures c.in-Some.ensures.some
    (subst (λ n. IsCommittedOp c.in-Some.kept c.args.op.now c.in-Some-found.act (before n) (after n))
    c.chan-chan.ensures done)
    (subst (λ n. after ≡ put_at before n (after n)) c.chan-chan.ensures c.commit_at.ensures.others)
    (c.fill.ensures ∙ (λ j. record {
      tag = c.in-Some.kept;
      replies = reply_to c.in-Some-found.act ∷ [];
      acts = record {
        chan = c.chan-chan.ensures j;
        place = place j;
        act = c.in-Some-found.act;
      } ∷ [];
    }))

pub returns-clause-kinds : goal.returns-clause-kinds
returns-clause-kinds g c = put_kinds (chan_in c.args.self.now) (chan_in c.commit_at.new.self) c.chan-chan.result
    c.commit_at.ensures.others c.commit_at.ensures.decl

pub returns-in_default-found-clause-kinds : goal.returns-in_default-found-clause-kinds
returns-in_default-found-clause-kinds g c = put_kinds (chan_in c.args.self.now) (chan_in c.commit_at.new.self)
    c.chan-chan.result c.commit_at.ensures.others c.commit_at.ensures.decl

pub returns-in-Err-clause-kinds : goal.returns-in-Err-clause-kinds
returns-in-Err-clause-kinds g c = put_kinds (chan_in c.args.self.now) (chan_in c.commit_at.new.self)
    c.chan-chan.result c.commit_at.ensures.others c.commit_at.ensures.decl

pub returns-in_default-found-clause-left : goal.returns-in_default-found-clause-left
returns-in_default-found-clause-left g c is = (
  put_same (chan_in c.args.self.now) (chan_in c.commit_at.new.self) c.chan-chan.result c.commit_at.ensures.others
      (none_so c.in-Ok.found c.in_default-found.is c.in-Ok.ensures.left),
  c.restore-in_default-found.ensures ∙ (λ j. record {
    tag = c.take.ensures.tag j;
    replies = c.in_ok-room.ensures.lists.0 j;
    acts = c.in_ok-room.ensures.lists.1 j;
  }),
)

pub returns-in-Err-clause-unchanged : goal.returns-in-Err-clause-unchanged
returns-in-Err-clause-unchanged g c = (
  put_same (chan_in c.args.self.now) (chan_in c.commit_at.new.self) c.chan-chan.result c.commit_at.ensures.others
      c.in-Err.ensures.unchanged,
  c.restore.ensures ∙ (λ j. record {
    tag = c.take.ensures.tag j;
    replies = c.in_ok-room.ensures.lists.0 j;
    acts = c.in_ok-room.ensures.lists.1 j;
  }),
)
