-- What the ledgers and lists of a line count, through operations and commits.
use mathlib.Core.List.{IsPrefix}
use Rattle.std.proofs.Math.Seq.{drop-append_seam}
use Rattle.std.proofs.lemmas.List.{length-map, take-append-drop, take-append-le, take_all}
use Rattle.std.proofs.Common.{◌≡◌, ◌∙◌, refl, sym, ap, subst, append-nil, take, drop, ℕ, ◌<◌, ◌+◌, ◌-◌, Option, List}
use Rattle.std.proofs.Common.{[]}
use Rattle.std.proofs.Common.{◌∷◌, map, ◌≤◌, ◌++◌, All, length, length-append, Result, Ok, Err, IfOk, OnErr, arith}
use Rattle.std.proofs.lemmas.List.Elements.{All-append, All-cons}
use Rattle.std.proofs.lemmas.List.Quantifiers.{all_pairs_push}
use Rattle.txc_base.specs.declared.entry.Entry.{Entry}
use Rattle.txc_base.specs.declared.act.Act.{Act}
use Rattle.txc_base.specs.declared.op.Op.{Op}
use Rattle.txc_base.specs.declared.stop.Stop.{Stop}
use Rattle.txc_base.specs.declared.tag.Tag.{Tag}
use Rattle.txc_base.specs.Log.{entries}
use Rattle.txc_base.specs.Operation.{Did, Replies, Waits, Stops, operate}
use Rattle.txc_chan.specs.declared.answer.Answer.{Answer}
use Rattle.txc_chan.specs.declared.answer.Answer.TheVariants.{Replied, Retry}
use Rattle.txc_chan.specs.Body.{last_entries}
use Rattle.txc_chan.specs.Committed.{IsCommittedOp}
use Rattle.txc_chan.specs.ChanView.{ChanView}
use Rattle.txc_chan.specs.Logged.{Logged, UnlessReplied, did, grown, on_log, op_on, settled}
use Rattle.txc_table_line.proofs.Stamping.{stamped_grown, stamped_settled}
use Rattle.txc_table_line.specs.Stamps.{IsStamped}
use Rattle.txc_table_line.specs.Marks.{AreMarks}
use Rattle.txc_table_line.specs.declared.mark.Mark.{Mark}
use Rattle.txc_base_ghost.specs.Last.{last_from}
use Rattle.txc_table_line.specs.LineChan.{HasLedgers}

-- the last of a list with one more is that one
last_push : {X : Type 0} (f : X → ℕ) (n : ℕ) (xs : List X) (x : X) → last_from n (map f (xs ++ x ∷ [])) ≡ f x
last_push f n [] x = refl
last_push f n (y ∷ xs) x = last_push f (f y) xs x

-- a channel with more entries, which can be undone
record HasMore (old new : Logged) : Type 0 where
  added : List Entry
  log : new.log ≡ old.log ++ added
  pending : new.pending ≡ old.pending + length added
  stamp : new.stamp ≡ old.stamp

same_more : (old : Logged) → HasMore old old
same_more old = record { added = []; log = sym (append-nil old.log); pending = omega arith; stamp = refl }

did_more : (old new : Logged) (tag : Tag) (answer : Answer) (d : Did) → on_log old tag d ≡ did answer new
    → UnlessReplied answer (new ≡ old) → HasMore old new
did_more old new tag (Retry cause) d is same = subst (HasMore old) (sym same) (same_more old)
did_more old new tag (Replied reply) (Replies r acts channel) is same =
    let e : grown old tag acts channel ≡ new = cc in
    subst (HasMore old) e (record {
      added = entries tag acts;
      log = refl;
      pending = ap (λ n. old.pending + n) (sym (length-map acts (λ act. record { tag = tag; act = act })));
      stamp = refl;
    })
did_more old new tag (Replied reply) (Waits cause) is same = cc
did_more old new tag (Replied reply) (Stops stop) is same = cc

-- what an operation leaves
result_more : (old new : ChanView) (tag : Tag) (last : Option ℕ) (op : Op) (result : Result Answer Stop)
    → IfOk result (λ answer. op_on old.logged tag last op ≡ did answer new.logged)
    → IfOk result (λ answer. UnlessReplied answer (new ≡ old))
    → OnErr result (new ≡ old) → HasMore old.logged new.logged
result_more old new tag last op (Ok (Replied reply)) does same kept = did_more old.logged new.logged tag (Replied reply)
    (operate old.logged.channel tag.seat last op) does tt
result_more old new tag last op (Ok (Retry cause)) does same kept = subst
    (λ (h : ChanView). HasMore old.logged h.logged)
    (sym same) (same_more old.logged)
result_more old new tag last op (Err stop) does same kept = subst (λ (h : ChanView). HasMore old.logged h.logged)
    (sym kept)
    (same_more old.logged)

-- the marks stay those of a channel that has more to undo
marks_more : (old new : Logged) (marks : List Mark) → AreMarks old marks → HasMore old new → AreMarks new marks
marks_more old new marks are more = record {
  rise = are.rise;
  below = subst (λ stamp. All (λ (mark : Mark). mark.tag.stamp ≤ stamp) marks) (sym more.stamp) are.below;
  stamp = are.stamp ∙ sym more.stamp;
  len = omega (arith, are.len, more.pending, ap length more.log, length-append old.log more.added);
}

line_chan_more : (total : ℕ) (log : List Entry) (made : ℕ) (marks : List Mark) (old new : Logged)
    → HasLedgers old total log made marks → HasMore old new → HasLedgers new total log made marks
line_chan_more total log made marks old new is more = record {
  counted = omega (arith, is.counted, more.pending, ap length more.log, length-append old.log more.added);
  stamped = subst (λ s. IsStamped s (take total new.log)) (sym more.stamp)
      (subst (λ l. IsStamped old.stamp (take total l)) (sym more.log)
      (stamped_grown total old.stamp old.log more.added (omega (arith, is.counted)) is.stamped));
  list = subst (λ l. log ≡ take total l) (sym more.log)
      (is.list ∙ sym (take-append-le total old.log more.added (omega (arith, is.counted))));
  marks_counted = is.marks_counted;
  marked = marks_more old new marks is.marked more;
}

-- an operation adds to the log what can be undone, or nothing
pub line_chan_op : (total : ℕ) (log : List Entry) (made : ℕ) (marks : List Mark) (old new : ChanView) (tag : Tag)
    (last : Option ℕ) (op : Op) (result : Result Answer Stop)
    → HasLedgers old.logged total log made marks
    → IfOk result (λ answer. op_on old.logged tag last op ≡ did answer new.logged)
    → IfOk result (λ answer. UnlessReplied answer (new ≡ old))
    → OnErr result (new ≡ old) → HasLedgers new.logged total log made marks
line_chan_op total log made marks old new tag last op result is does same kept =
    line_chan_more total log made marks old.logged new.logged is (result_more old new tag last op result does same kept)

-- what was committed begins a log that can be undone
pub begins : (total : ℕ) (log : List Entry) (made : ℕ) (marks : List Mark) (l : Logged)
    → HasLedgers l total log made marks → IsPrefix log l.log
begins total log made marks l is =
    (drop total l.log, subst (λ s. s ++ drop total l.log ≡ l.log) (sym is.list) (take-append-drop total l.log))

-- one more mark, with a stamp above the channel's
marks_settled : (l : Logged) (marks : List Mark) (tag : Tag) → AreMarks l marks → l.stamp < tag.stamp
    → AreMarks (settled tag.stamp l) (marks ++ record { tag = tag; len = length l.log } ∷ [])
marks_settled l marks tag are later = record {
  rise = all_pairs_push (λ (one other : Mark). one.tag.stamp < other.tag.stamp) marks (record {
    tag = tag;
    len = length l.log;
  }) are.rise (λ k d lt. omega (arith, are.below k d lt, later));
  below = All-append (λ (mark : Mark). mark.tag.stamp ≤ tag.stamp) marks (record {
    tag = tag;
    len = length l.log;
  } ∷ []) (λ k d lt. omega (arith, are.below k d lt, later))
      (All-cons (λ (mark : Mark). mark.tag.stamp ≤ tag.stamp) (record { tag = tag; len = length l.log }) []
      (omega arith) (λ k d lt. absurd (omega (arith, lt))));
  stamp = last_push (λ (mark : Mark). mark.tag.stamp) 0 marks (record { tag = tag; len = length l.log });
  len = omega (arith, last_push (λ (mark : Mark). mark.len) 0 marks (record { tag = tag; len = length l.log }));
}

-- a commit counts what could be undone, and lets the lists grow
pub line_chan_settled : (total : ℕ) (log : List Entry) (made : ℕ) (marks : List Mark) (tag : Tag) (l : Logged)
    → HasLedgers l total log made marks
    → All (λ entry. entry.tag.stamp ≡ tag.stamp) (last_entries l.pending l.log) → l.stamp < tag.stamp
    → HasLedgers (settled tag.stamp l) (total + l.pending) l.log (made + 1)
    (marks ++ record { tag = tag; len = length l.log } ∷ [])
line_chan_settled total log made marks tag l is all later = record {
  counted = omega (arith, is.counted);
  stamped = stamped_settled total l.pending l.stamp tag.stamp l.log is.counted is.stamped later all;
  list = sym (take_all (total + l.pending) l.log (omega (arith, is.counted)));
  marks_counted = omega (
    arith,
    is.marks_counted,
    length-append marks (record {
      tag = tag;
      len = length l.log;
    } ∷ []),
  );
  marked = marks_settled l marks tag is.marked later;
}

-- the entry that was committed at once
last_one : (log : List Entry) (entry : Entry) → last_entries 1 (log ++ entry ∷ []) ≡ entry ∷ []
last_one log entry =
    let n : length (log ++ entry ∷ []) - 1 ≡ length log = omega (arith, length-append log (entry ∷ [])) in
    ap (λ k. drop k (log ++ entry ∷ [])) n ∙ drop-append_seam log (entry ∷ [])

-- a write or a read that is committed at once counts its entry, and lets the lists grow
pub line_chan_committed : (total : ℕ) (log : List Entry) (made : ℕ) (marks : List Mark) (tag : Tag) (op : Op)
    (act : Act)
    (old new : Logged)
    → HasLedgers old total log made marks → IsCommittedOp tag op act old new → old.pending ≡ 0 → old.stamp < tag.stamp
    → HasLedgers new (total + 1) new.log (made + 1) (marks ++ record { tag = tag; len = length new.log } ∷ [])
line_chan_committed total log made marks tag op act old new is done clean later =
    let entry : Entry = record { tag = tag; act = act } in
    let mid : Logged = grown old tag (act ∷ []) done.left in
    let more : HasMore old mid = record { added = entry ∷ []; log = refl; pending = refl; stamp = refl } in
    let one : mid.pending ≡ 1 = ap (λ n. n + 1) clean in
    let all : All (λ (e : Entry). e.tag.stamp ≡ tag.stamp) (last_entries mid.pending mid.log) =
    subst (λ n. All (λ (e : Entry). e.tag.stamp ≡ tag.stamp) (last_entries n mid.log)) (sym one)
    (subst (λ es. All (λ (e : Entry). e.tag.stamp ≡ tag.stamp) es) (sym (last_one old.log entry))
    (All-cons (λ (e : Entry). e.tag.stamp ≡ tag.stamp) entry [] refl (λ k d lt. absurd (omega (arith, lt))))) in
    subst (λ (l : Logged). HasLedgers l (total + 1) l.log (made + 1)
    (marks ++ record { tag = tag; len = length l.log } ∷ [])) (sym done.settles)
    (subst (λ n. HasLedgers (settled tag.stamp mid) (total + n) mid.log (made + 1)
    (marks ++ record { tag = tag; len = length mid.log } ∷ [])) one
    (line_chan_settled total log made marks tag mid (line_chan_more total log made marks old mid is more) all later))

-- what is so of equal values
pub same_ledgered : (l l' : Logged) (total total' made made' : ℕ) (log log' : List Entry) (marks marks' : List Mark)
    → l' ≡ l → total' ≡ total → log' ≡ log → made' ≡ made → marks' ≡ marks
    → HasLedgers l total log made marks → HasLedgers l' total' log' made' marks'
same_ledgered l l' total total' made made' log log' marks marks' el et eg em ek is =
    subst (λ (k : Logged). HasLedgers k total' log' made' marks') (sym el)
    (subst (λ n. HasLedgers l n log' made' marks') (sym et)
    (subst (λ (es : List Entry). HasLedgers l total es made' marks') (sym eg)
    (subst (λ n. HasLedgers l total log n marks') (sym em)
    (subst (λ (ms : List Mark). HasLedgers l total log made ms) (sym ek) is))))
