-- What a commit leaves of the lines, by their numbers.
use Rattle.std.proofs.Common.{◌≡◌, ◌≢◌, ◌∙◌, refl, sym, ap, subst, inl, inr, ℕ, zero, suc, ◌<◌}
use Rattle.std.proofs.Common.{◌+◌, ◌-◌, ◌++◌, Some, List, [], ◌∷◌, length, length-append, drop, All, Contains}
use Rattle.std.proofs.Common.{slice_get, slice_index_or, if◌then◌else◌, arith}
use Rattle.std.proofs.lemmas.Bool.Decides.{eqb_tells}
use Rattle.std.proofs.lemmas.List.{get_or_default}
use Rattle.std.proofs.lemmas.List.Elements.{All-cons}
use Rattle.std.proofs.Math.Seq.{drop-append_seam}
use mathlib.Core.List.{IsPrefix}
use Rattle.txc_base.specs.declared.act.Act.{Act}
use Rattle.txc_base.specs.declared.entry.Entry.{Entry}
use Rattle.txc_base.specs.Log.{entries}
use Rattle.txc_chan.specs.Body.{last_entries}
use Rattle.txc_chan.specs.Reserved.{one_if}
use Rattle.txc_table_line.specs.Marks.{HasNewMark}
use Rattle.txc_table_line.specs.declared.mark.Mark.{Mark}
use Rattle.txc_txn.specs.declared.deed.Deed.{Deed}
use Rattle.txc_txn.specs.declared.receipt.Receipt.{Receipt}
use Rattle.txc_txn.specs.Growth.{AllGrow, Grows}
use Rattle.txc_txn.specs.InLog.{ReceiptIsInLog}
use Rattle.txc_txn.specs.Run.{count_deeds}
use Rattle.txc_txn.proofs.Growing.{length_entries}
use Rattle.txc_txn.proofs.Placing.{logs_in}
use Rattle.txc_txn_check.proofs.Containing.{contains_later, tells}
use Rattle.txc_txn_check.specs.Limits.{IsRising}
use Rattle.txc_chan.specs.Logged.{MatchesLog, Logged, settled}
use Rattle.txc_txn.specs.Maps.{Map, settle_all}
use Rattle.txc_txn.proofs.Settling.{settle_inside, settle_others}
use Rattle.txc_base.specs.declared.tag.Tag.{Tag}
use Rattle.txc_table_line.specs.LineChan.{LineChanView, no_channel}
use Rattle.txc_table_line.specs.SeatShare.{SeatShareView}
use Rattle.txc_table_lines.specs.Committed.{AreCommitted, AreSettled, HasNoneOutside, HasItsMark, IsSettled}
use Rattle.txc_table_lines.specs.Guards.{IsReady, chan_at, known_of}
use Rattle.txc_table_lines.specs.Lines.{AreSince, OnlyGrew, no_share, share_at}
use Rattle.txc_table_lines.proofs.Sharing.{begins_itself, begins_more}
use Rattle.txc_table_lines.proofs.Sweeping.{Swept, apart}

-- the channel at a place is that with the number there
chan_place : (numbers : List ℕ) (channels : List LineChanView) (known : Map) (at : ℕ)
    → length channels ≡ length numbers → at < length numbers
    → ((k : ℕ) → k < at → slice_index_or numbers k 0 ≢ slice_index_or numbers at 0)
    → chan_at numbers channels known (slice_index_or numbers at 0) ≡ (slice_index_or channels at no_channel).held.logged
chan_place [] channels known at long below before = absurd (omega (arith, below))
chan_place (n ∷ numbers) [] known at long below before = absurd (omega (arith, long))
chan_place (n ∷ numbers) (c ∷ channels) known zero long below before =
    elim (eqb_tells n n) [
      | inl t ↦ ap (λ b. if b then c.held.logged else chan_at numbers channels known n) t.0
      | inr t ↦ absurd (t.1 refl)
    ]
chan_place (n ∷ numbers) (c ∷ channels) known (suc at) long below before =
    elim (eqb_tells (slice_index_or numbers at 0) n) [
      | inl t ↦ absurd (before 0 (omega arith) (sym t.1))
      | inr t ↦
          ap (λ b. if b then c.held.logged else chan_at numbers channels known (slice_index_or numbers at 0)) t.0
          ∙ chan_place numbers channels known at (omega (arith, long)) (omega (arith, below))
          (λ k lt. before (suc k) (omega (arith, lt)))
    ]

-- a channel that is not declared is the known one
chan_outside : (numbers : List ℕ) (channels : List LineChanView) (known : Map) (n : ℕ) → ¬ Contains numbers n
    → chan_at numbers channels known n ≡ known n
chan_outside [] channels known n none = refl
chan_outside (m ∷ numbers) [] known n none = refl
chan_outside (m ∷ numbers) (c ∷ channels) known n none =
    elim (eqb_tells n m) [
      | inl t ↦ absurd (none (0, omega arith, sym t.1))
      | inr t ↦
          ap (λ b. if b then c.held.logged else chan_at numbers channels known n) t.0
          ∙ chan_outside numbers channels known n (λ is. none (contains_later n m numbers is))
    ]

-- each is settled if it is declared, and else as it was: so all are
all_settled : (declared : List ℕ) (stamp : ℕ) (before after : Map)
    → ((n : ℕ) → Contains declared n → after n ≡ settled stamp (before n))
    → ((n : ℕ) → ¬ Contains declared n → after n ≡ before n)
    → after ≡ settle_all before stamp declared
all_settled declared stamp before after inside outside = λ i n. at n i
  where
    at : (n : ℕ) → after n ≡ settle_all before stamp declared n
    at n =
        elim (tells declared n) [
          | inl is ↦ inside n is ∙ sym (settle_inside before stamp declared n is)
          | inr none ↦ outside n none ∙ sym (settle_others before stamp declared n none)
        ]

module _ (declared : List ℕ) (channels channels' : List LineChanView) (known : List SeatShareView)
    (before after : List SeatShareView) (tag : Tag) (rise : IsRising declared)
    (long : length channels ≡ length declared)
    (swept : Swept (λ x y x' y'. IsSettled tag x.held.logged y x'.held.logged y') declared no_channel no_share channels
    before (length declared) channels' after) where
  abbrev found : Map
  found = chan_at declared channels (known_of known)

  abbrev left : Map
  left = chan_at declared channels' (known_of known)

  -- a declared channel
  inside_is : (n : ℕ) → Contains declared n → IsSettled tag (found n) (share_at before n) (left n) (share_at after n)
  inside_is n is =
      let at = is.0 in
      let number : slice_index_or declared at 0 ≡ n = get_or_default declared at 0 n is.1 ∙ is.2 in
      let first : (k : ℕ) → k < at → slice_index_or declared k 0 ≢ slice_index_or declared at 0
      = λ k lt. apart declared k at 0 rise (λ e. absurd (omega (arith, lt, e))) (omega (arith, lt, is.1)) is.1 in
      let old = chan_place declared channels (known_of known) at long is.1 first in
      let new = chan_place declared channels' (known_of known) at (swept.many ∙ long) is.1 first in
      subst (λ m. IsSettled tag (found m) (share_at before m) (left m) (share_at after m)) number
      (subst (λ (l : Logged). IsSettled tag l (share_at before (slice_index_or declared at 0))
      (left (slice_index_or declared at 0)) (share_at after (slice_index_or declared at 0))) (sym old)
      (subst (λ (l : Logged). IsSettled tag (slice_index_or channels at no_channel).held.logged
      (share_at before (slice_index_or declared at 0)) l (share_at after (slice_index_or declared at 0))) (sym new)
      (swept.done at is.1)))

  -- all shares are settled, and all channels
  pub shares_settled : (n : ℕ) → AreSettled declared tag found before left after n
  shares_settled n = record { inside = inside_is n; outside = swept.rest n }

  pub chans_settled : left ≡ settle_all found tag.stamp declared
  chans_settled = all_settled declared tag.stamp found left (λ n is. (inside_is n is).settled)
      (λ n none. chan_outside declared channels' (known_of known) n none
      ∙ sym (chan_outside declared channels (known_of known) n none))

-- a declared channel can be committed at its place
pub ready_at : (stamp : ℕ) (declared : List ℕ) (channels : List LineChanView) (known : List SeatShareView) (at : ℕ)
    → IsRising declared → length channels ≡ length declared → at < length declared
    → ((n : ℕ) → Contains declared n → IsReady stamp (chan_at declared channels (known_of known) n))
    → IsReady stamp (slice_index_or channels at no_channel).held.logged
ready_at stamp declared channels known at rise long below ready =
    subst (IsReady stamp)
    (chan_place declared channels (known_of known) at long below
    (λ k lt. apart declared k at 0 rise (λ e. absurd (omega (arith, lt, e))) (omega (arith, lt, below)) below))
    (ready (slice_index_or declared at 0) (
      at,
      below,
      get_or_default declared at (slice_index_or declared at 0) 0
          below,
    ))

pub entries_stamped : (tag : Tag) (acts : List Act) → All (λ entry. entry.tag.stamp ≡ tag.stamp) (entries tag acts)
entries_stamped tag [] = λ k d lt. absurd (omega (arith, lt))
entries_stamped tag (act ∷ acts) =
    All-cons (λ (entry : Entry). entry.tag.stamp ≡ tag.stamp) (record { tag = tag; act = act }) (entries tag acts) refl
    (entries_stamped tag acts)

-- what a channel has grown by can be committed with the tag's stamp
pub can_commit : (tag : Tag) (before after : Logged) → Grows tag before after → before.pending ≡ 0
    → before.stamp < tag.stamp → IsReady tag.stamp after
can_commit tag before after grows clean later =
    let many : length after.log ≡ length before.log + length grows.acts =
    ap length grows.log ∙ length-append before.log (entries tag grows.acts)
    ∙ ap (λ n. length before.log + n) (length_entries tag grows.acts) in
    let from : length after.log - after.pending ≡ length before.log = omega (arith, many, grows.pending, clean) in
    let is : last_entries after.pending after.log ≡ entries tag grows.acts =
    ap (λ n. drop n after.log) from ∙ ap (drop (length before.log)) grows.log
    ∙ drop-append_seam before.log (entries tag grows.acts) in
    record {
      stamped = subst (All (λ (entry : Entry). entry.tag.stamp ≡ tag.stamp)) (sym is)
          (entries_stamped tag grows.acts);
      later = omega (arith, grows.stamp, later);
    }

-- a mark that was left on a channel that grew, told of the channel as it was found
pub is_marked : (tag : Tag) (found after left : Logged) (old new : List Mark) → Grows tag found after
    → found.pending ≡ 0 → left ≡ settled tag.stamp after → HasNewMark after tag old new
    → HasItsMark found left tag old new
is_marked tag found after left old new grows clean same is = record {
  lawful = subst (λ (l : Logged). MatchesLog l) (sym same) is.lawful;
  before = is.before;
  rise = is.are.rise;
  stamp = is.are.stamp ∙ grows.stamp;
  len = omega (
    arith,
    is.are.len,
    grows.pending,
    clean,
    ap length grows.log,
    length-append found.log (entries tag grows.acts),
    length_entries tag grows.acts,
  );
  since = is.since;
  now = is.now ∙ ap (λ (es : List Entry). is.before ++ record { tag = tag; len = length es } ∷ []) (sym (ap (λ (l :
      Logged). l.log) same));
}

-- what was settled was committed
pub committed : (declared : List ℕ) (receipt : Receipt) (found mid final : Map) (before after : List SeatShareView)
    → AllGrow receipt.tag found mid → ((n : ℕ) → (found n).pending ≡ 0)
    → ((n : ℕ) → (mid n).pending ≡ (found n).pending + count_deeds n receipt.acts)
    → ((n : ℕ) → AreSettled declared receipt.tag mid before final after n)
    → (n : ℕ) → AreCommitted declared found final receipt before after n
committed declared receipt found mid final before after grows clean counted settled n = record {
  inside = λ is. let s = (settled n).inside is in record {
    line = s.line;
    amount = omega (arith, s.amount, counted n, clean n);
    log = s.log ∙ sym (ap (λ (l : Logged). l.log) s.settled);
    made = s.made;
    marked = is_marked receipt.tag (found n) (mid n) (final n) (share_at before n).marks (share_at after n).marks
        (grows n) (clean n) s.settled s.marked;
  };
  outside = (settled n).outside;
}

-- what was seen only grew
pub only_grew : (declared : List ℕ) (tag : Tag) (found mid final : Map) (before after : List SeatShareView)
    → AreSince before found → AllGrow tag found mid
    → ((n : ℕ) → AreSettled declared tag mid before final after n) → OnlyGrew before after
only_grew declared tag found mid final before after since grows settled n =
    elim (tells declared n) [
      | inl is ↦
          subst (IsPrefix (share_at before n).log) (sym (((settled n).inside is).log))
          (begins_more (share_at before n).log (found n).log (entries tag (grows n).acts) (mid n).log (since n)
          (grows n).log)
      | inr none ↦
          subst (λ (s : SeatShareView). IsPrefix (share_at before n).log s.log) (sym ((settled n).outside none))
          (begins_itself (share_at before n).log)
    ]

-- an act of a receipt counts in its channel
counted_there : (deeds : List Deed) (i : ℕ) (deed : Deed) → slice_get deeds i ≡ Some deed
    → 0 < count_deeds deed.chan deeds
counted_there [] i deed here = cc
counted_there (d ∷ ds) zero deed here =
    let is : d ≡ deed = cc in
    elim (eqb_tells d.chan deed.chan)
    [ inl t ↦ omega (arith, ap one_if t.0) | inr t ↦ absurd (t.1 (ap (λ (x : Deed). x.chan) is)) ]
counted_there (d ∷ ds) (suc i) deed here = omega (arith, counted_there ds i deed here)

-- the acts of a receipt are in what was seen of the logs, if it has none in channels that are not declared
pub acts_seen : (declared : List ℕ) (receipt : Receipt) (mid final : Map) (before after : List SeatShareView)
    → ReceiptIsInLog (logs_in mid) receipt → HasNoneOutside declared receipt
    → ((n : ℕ) → AreSettled declared receipt.tag mid before final after n)
    → ReceiptIsInLog (λ n. (share_at after n).log) receipt
acts_seen declared receipt mid final before after stand none settled i deed here =
    elim (tells declared deed.chan) [
      | inl is ↦
          ap (λ log. slice_get log deed.place) (((settled deed.chan).inside is).log) ∙ stand i deed here
      | inr not ↦ absurd (omega (arith, none deed.chan not, counted_there receipt.acts i deed here))
    ]
