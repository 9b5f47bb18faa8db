-- A move that was committed at once, or not, is the transaction of its two steps.
use Rattle.std.proofs.Common.{◌≡◌, ◌≢◌, refl, sym, ◌∙◌, ap, subst, inl, inr, ⊎_elim, ℕ, ◌+◌, nat_eq, Bool, true}
use Rattle.std.proofs.Common.{false, ◌&&◌}
use Rattle.std.proofs.Common.{if◌then◌else◌, Option, None, Some, List, [], ◌∷◌, length, Contains, arith, append-nil}
use Rattle.std.proofs.lemmas.Bool.Decides.{eqb_tells}
use Rattle.txc_base.specs.declared.act.Act.{Act}
use Rattle.txc_base.specs.declared.act.Act.TheVariants.{Took, Wrote}
use Rattle.txc_base.specs.declared.cause.Cause.{Cause}
use Rattle.txc_base.specs.declared.cause.Cause.TheVariants.{Empty, Full}
use Rattle.txc_base.specs.declared.item.Item.{Item}
use Rattle.txc_base.specs.declared.op.Op.TheVariants.{Read, Write}
use Rattle.txc_base.specs.declared.reply.Reply.{Reply}
use Rattle.txc_base.specs.declared.reply.Reply.TheVariants.{Closed, Done, Got}
use Rattle.txc_base.specs.declared.source.Source.TheVariants.{Lit}
use Rattle.txc_base.specs.declared.tag.Tag.{Tag}
use Rattle.txc_base.specs.Channel.{Channel, list_of}
use Rattle.txc_base.specs.Kinds.{is_bounded}
use Rattle.txc_base.specs.Operation.{Did, Waits, is_full, next_written, operate, says, taking}
use Rattle.txc_base.specs.Operation.{with_list, with_written, wrote}
use Rattle.txc_chan.specs.Chan.{writing}
use Rattle.txc_chan.specs.Committed.{IsCommitted, IsCommittedOp, reply_to}
use Rattle.txc_chan.specs.Logged.{Left, Logged, MatchesLog, Undone, Waiting, grown, on_log, op_on, settled, unsettled}
use Rattle.txc_txn.specs.Growth.{Grows}
use Rattle.txc_txn.specs.Transaction.{Again}
use Rattle.txc_txn.proofs.Growing.{grows_op, grows_undone, restored}
use Rattle.txc_txn.specs.Plain.{missing}
use Rattle.txc_txn.specs.TwoOperations.{pair_of}
use Rattle.txc_txn.proofs.TwoOperations.{both_contain, has_moved, has_taken, only_both, read_waits, waiting}
use Rattle.txc_txn.proofs.TwoOperations.{write_waits}
use Rattle.yalwythen_channel.specs.OneOperation.{no_tag, only}
use Rattle.yalwythen_channel.specs.OneMove.{CanCommit, HasMovedItem, both, move_of, tag_of_move, two}

-- what a write of this body does, if the channel is closed or full
abbrev write_does : Channel → ℕ → ℕ → Bool → Bool → Did
write_does c seat body closed full = if closed then says Closed c
    else if full then Waits Full else wrote c (next_written c seat body)

-- a write that was committed at once
pub wrote_so : (tag : Tag) (body : ℕ) (t t' : Logged)
    → on_log t tag (writing t.channel tag.seat (Some body) (Waits Full)) ≡ Left Done (unsettled t.stamp t')
    → t'.pending ≡ 0 → t'.stamp ≡ tag.stamp
    → (act : Act) × (reply_to act ≡ Done) × IsCommittedOp tag (Write 1 (Lit body)) act t t'
wrote_so tag body t t' is pending stamp =
    by t.channel.closed (is_bounded t.channel.kind && is_full t.channel) is
  where
    by : (closed full : Bool)
        → on_log t tag (write_does t.channel tag.seat body closed full) ≡ Left Done (unsettled t.stamp t')
        → (act : Act) × (reply_to act ≡ Done)
        × IsCommitted tag (write_does t.channel tag.seat body closed full) act t t'
    by true full is = absurd cc
    by false true is = absurd cc
    by false false is =
        let item : Item = next_written t.channel tag.seat body in
        let same : grown t tag (Wrote item ∷ []) (with_written t.channel item) ≡ unsettled t.stamp t' = cc in (
          Wrote item,
          refl,
          record {
            left = with_written t.channel item;
            done = refl;
            settles = λ j. record {
              decl = ap (λ (l : Logged). l.decl) (sym same) j;
              channel = ap (λ (l : Logged). l.channel) (sym same) j;
              log = ap (λ (l : Logged). l.log) (sym same) j;
              pending = pending j;
              stamp = stamp j;
            };
          },
        )

-- an undo of the only act
pub took_back : (tag : Tag) (a b c : Logged) → MatchesLog a → MatchesLog c → Grows tag a b
    → b.pending ≡ a.pending + 1 → Undone b c → c ≡ a
took_back tag a b c lawful_a lawful_c grows one undone =
    restored tag a c lawful_a lawful_c (grows_undone tag a b c grows (omega (arith, one)) undone)
    (omega (arith, one, undone.2))

-- a read that took an item
pub took_grows : (s mid : Logged) (tag : Tag) (item : Item) → op_on s tag None (Read 0 0) ≡ Left (Got item) mid
    → Grows tag s mid × (mid.pending ≡ s.pending + 1)
took_grows s mid tag item took =
    let taken = has_taken s mid tag 0 0 item took in
    (grows_op tag s mid _ _ took, ap (λ (l : Logged). l.pending) taken.grew)

zero_more : (n : ℕ) → n + 0 ≡ n
zero_more n = omega arith

-- no acts
none_grown : (s : Logged) (tag : Tag) → grown s tag [] s.channel ≡ s
none_grown s tag = λ j. record {
  decl = s.decl;
  channel = s.channel;
  log = append-nil s.log j;
  pending = zero_more s.pending j;
  stamp = s.stamp;
}

-- a read that took nothing left the channel as it was
none_changed : (s mid : Logged) (tag : Tag) (reply : Reply) (found : Option (List Item))
    → on_log s tag (with_list found (taking s.channel 0 (Waits Empty))) ≡ Left reply mid
    → ((item : Item) → reply ≢ Got item) → mid ≡ s
none_changed s mid tag reply None is none = absurd cc
none_changed s mid tag reply (Some []) is none = by s.channel.closed is
  where
    by : (closed : Bool) → on_log s tag (if closed then says Closed s.channel else Waits Empty) ≡ Left reply mid
        → mid ≡ s
    by true is = let same : grown s tag [] s.channel ≡ mid = cc in sym same ∙ none_grown s tag
    by false is = absurd cc
none_changed s mid tag reply (Some (item ∷ rest)) is none =
    let same : Got item ≡ reply = cc in
    absurd (none item (sym same))

pub took_nothing : (s mid : Logged) (tag : Tag) (reply : Reply) → op_on s tag None (Read 0 0) ≡ Left reply mid
    → ((item : Item) → reply ≢ Got item) → mid ≡ s
took_nothing s mid tag reply = none_changed s mid tag reply (list_of s.channel 0)

-- no channel has another number
beyond : (s t : Logged) (n : ℕ) → nat_eq n 1 ≡ false → nat_eq n 0 ≡ false → both s t n ≡ missing.logged
beyond s t n one zero = ap (λ (b : Bool). if b then t else only s n) one
    ∙ ap (λ (b : Bool). if b then s else missing.logged) zero

-- the move was committed
pub moved_so : (kept : Tag) (item : Item) (s mid t s' t' : Logged) → kept ≡ tag_of_move s t → CanCommit s t
    → op_on s kept None (Read 0 0) ≡ Left (Got item) mid → s' ≡ settled kept.stamp mid
    → on_log t kept (writing t.channel kept.seat (Some item.body) (Waits Full)) ≡ Left Done (unsettled t.stamp t')
    → t'.pending ≡ 0 → t'.stamp ≡ kept.stamp
    → HasMovedItem s t s' t' item.body
moved_so kept item s mid t s' t' tagged can took source written pending stamp =
    let w = wrote_so kept item.body t t' written pending stamp in
    record {
      item = item;
      receipt = pair_of kept (record { chan = 0; place = length s.log; act = Took 0 item })
          (record { chan = 1; place = length t.log; act = w.0 });
      ran = has_moved (both s t) (both s' t') no_tag kept two 0 0 1 item w.0 mid tagged
          (record {
            apart = λ same. absurd (omega (arith, same));
            here = (both_contain 0 1).0;
            there = (both_contain 0 1).1;
            rises = can;
            took = took;
            source = source;
            wrote = w.2;
            inside = inside;
            outside = outside;
          });
      replies = ap (λ (r : Reply). Got item ∷ r ∷ []) w.1;
      moved = refl;
    }
  where
    inside : (n : ℕ) → n ≢ 0 → n ≢ 1 → Contains two n → both s' t' n ≡ settled kept.stamp (both s t n)
    inside n first second is = absurd (⊎_elim first second (only_both 0 1 n is))

    outside : (n : ℕ) → ¬ Contains two n → both s' t' n ≡ both s t n
    outside n none = elim (eqb_tells n 1) [
      | inl e ↦ absurd (none (subst (Contains two) (sym e.1) (both_contain 0 1).1))
      | inr off ↦
          elim (eqb_tells n 0) [
            | inl e ↦ absurd (none (subst (Contains two) (sym e.1) (both_contain 0 1).0))
            | inr out ↦ beyond s' t' n off.0 out.0 ∙ sym (beyond s t n off.0 out.0)
          ]
    ]

-- the read waits
pub waits_to_read : (kept : Tag) (cause : Cause) (s t : Logged) → kept ≡ tag_of_move s t → CanCommit s t
    → op_on s kept None (Read 0 0) ≡ Waiting cause → move_of s t ≡ Again cause
waits_to_read kept cause s t tagged can is =
    read_waits (both s t) no_tag two 0 0 1 cause can
    (subst (λ (k : Tag). operate s.channel k.seat None (Read 0 0) ≡ Waits cause) tagged (waiting s kept _ cause is))

-- the write waits
pub waits_to_write : (kept : Tag) (item : Item) (s mid t : Logged) → kept ≡ tag_of_move s t → CanCommit s t
    → op_on s kept None (Read 0 0) ≡ Left (Got item) mid
    → on_log t kept (writing t.channel kept.seat (Some item.body) (Waits Full)) ≡ Waiting Full
    → move_of s t ≡ Again Full
waits_to_write kept item s mid t tagged can took is =
    write_waits (both s t) no_tag kept two 0 0 1 item mid Full
    (λ same. absurd (omega (arith, same))) tagged can took
    (subst (λ (k : Tag). operate t.channel k.seat None (Write 1 (Lit item.body)) ≡ Waits Full) tagged
    (waiting t kept _ Full is))
