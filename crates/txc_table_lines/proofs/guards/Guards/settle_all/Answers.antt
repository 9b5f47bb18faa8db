use Rattle.std.proofs.Common.{◌≡◌, ◌∙◌, ◌<◌, sym, ap, subst, length, slice_index_or, slice_set, ℕ, List, arith}
use Rattle.txc_txn.specs.Maps.{Map, settle_all}
use Rattle.txc_table_line.specs.LineChan.{LineChanView, no_channel}
use Rattle.txc_table_line.specs.SeatShare.{SeatShareView}
use Rattle.txc_table_lines.specs.Committed.{AreSettled, IsSettled}
use Rattle.txc_table_lines.specs.Guards.{IsReady, GuardsView, chan_at, chans_of, known_of}
use Rattle.txc_table_lines.specs.Lines.{line_ids, no_share, share_at}
use Rattle.txc_table_lines.proofs.Committing.{chans_settled, ready_at, shares_settled}
use Rattle.txc_table_lines.proofs.Settling.{channels_long, numbers_there}
use Rattle.txc_table_lines.proofs.Sweeping.{Swept, swept_more}
use Rattle.txc_table_lines.proofs.guards.Guards.settle_all.Goals as goal

pub loop-at-preserved : goal.loop-at-preserved
loop-at-preserved g c =
    let inv = c.loop-at.invariant in
    let now = c.args.self.now in
    let below : c.loop-at.at < length now.declared
    = omega (arith, c.loop-at-test.true, ap (λ (l : GuardsView). length l.declared) c.self.view_is) in
    let long = channels_long _ _ _ _ c.self.view_is c.self.invariant in
    let there = numbers_there _ _ _ _ _ c.loop-at.at c.self.view_is c.self.invariant c.requires.of below in
    let same = c.settle_line.ensures.channels in
    record {
      declared = same.declared ∙ inv.declared;
      known = same.known ∙ inv.known;
      lines = c.settle_line.ensures.lines ∙ inv.lines;
      swept = swept_more (λ x y x' y'. IsSettled c.args.tag x.held.logged y x'.held.logged y') now.declared no_channel
          no_share now.channels c.args.shares.now c.loop-at.at c.loop-at.self.channels c.settle_line.new.self.channels
          c.loop-at.shares c.settle_line.new.shares
          (slice_index_or c.settle_line.new.self.channels c.loop-at.at no_channel)
          (share_at c.settle_line.new.shares (slice_index_or now.declared c.loop-at.at 0))
          c.requires.rising long below there inv.swept same.channels
          (subst (λ (ds : List ℕ). c.settle_line.new.shares ≡ slice_set c.loop-at.shares
          (slice_index_or ds c.loop-at.at 0)
          (share_at c.settle_line.new.shares (slice_index_or ds c.loop-at.at 0)))
          inv.declared c.settle_line.ensures.shares)
          (subst (λ (ds : List ℕ). IsSettled c.args.tag
          (slice_index_or c.loop-at.self.channels c.loop-at.at no_channel).held.logged
          (share_at c.loop-at.shares (slice_index_or ds c.loop-at.at 0))
          (slice_index_or c.settle_line.new.self.channels c.loop-at.at no_channel).held.logged
          (share_at c.settle_line.new.shares (slice_index_or ds c.loop-at.at 0)))
          inv.declared c.settle_line.ensures.settled);
    }

pub settle_line-requires : goal.settle_line-requires
settle_line-requires g c =
    let inv = c.loop-at.invariant in
    let now = c.args.self.now in
    let below : c.loop-at.at < length now.declared
    = omega (arith, c.loop-at-test.true, ap (λ (l : GuardsView). length l.declared) c.self.view_is) in (
      omega arith,
      (
        inv.lines ∙ c.requires.of ∙ ap line_ids (sym inv.known),
        (
          subst (λ (ds : List ℕ). c.loop-at.at < length ds) (sym inv.declared) below,
          subst (λ (x : LineChanView). IsReady c.args.tag.stamp x.held.logged)
              (sym ((inv.swept.todo c.loop-at.at (omega arith) below).0))
              (ready_at c.args.tag.stamp now.declared now.channels now.known c.loop-at.at c.requires.rising
              (channels_long _ _ _ _ c.self.view_is c.self.invariant) below c.requires.ready),
        ),
      ),
    )

-- what the lines are after the loop
left_is : (l now : GuardsView) → l.declared ≡ now.declared → l.known ≡ now.known
    → chan_at now.declared l.channels (known_of now.known) ≡ chans_of l
left_is l now declared known =
    subst (λ (ds : List ℕ). chan_at ds l.channels (known_of now.known) ≡ chans_of l) declared
    (ap (λ (ss : List SeatShareView). chan_at l.declared l.channels (known_of ss)) (sym known))

pub returns-clause-settled : goal.returns-clause-settled
returns-clause-settled g c =
    let inv = c.loop-at.invariant in
    let now = c.args.self.now in
    let all : c.loop-at.at ≡ length now.declared
    = omega (
      arith,
      c.loop-at-test.false,
      c.loop-at.auto.at-end,
      ap (λ (l : GuardsView). length l.declared) c.self.view_is,
    ) in
    subst (λ (m : Map). m ≡ settle_all (chans_of now) c.args.tag.stamp now.declared)
    (left_is c.loop-at.self now inv.declared inv.known)
    (chans_settled now.declared now.channels c.loop-at.self.channels now.known c.args.shares.now c.loop-at.shares
    c.args.tag c.requires.rising (channels_long _ _ _ _ c.self.view_is c.self.invariant)
    (subst (λ n. Swept (λ x y x' y'. IsSettled c.args.tag x.held.logged y x'.held.logged y') now.declared no_channel
    no_share now.channels c.args.shares.now n c.loop-at.self.channels c.loop-at.shares) all inv.swept))

pub returns-clause-shares : goal.returns-clause-shares
returns-clause-shares g c n =
    let inv = c.loop-at.invariant in
    let now = c.args.self.now in
    let all : c.loop-at.at ≡ length now.declared
    = omega (
      arith,
      c.loop-at-test.false,
      c.loop-at.auto.at-end,
      ap (λ (l : GuardsView). length l.declared) c.self.view_is,
    ) in
    subst (λ (m : Map). AreSettled now.declared c.args.tag (chans_of now) c.args.shares.now m c.loop-at.shares n)
    (left_is c.loop-at.self now inv.declared inv.known)
    (shares_settled now.declared now.channels c.loop-at.self.channels now.known c.args.shares.now c.loop-at.shares
    c.args.tag c.requires.rising (channels_long _ _ _ _ c.self.view_is c.self.invariant)
    (subst (λ n. Swept (λ x y x' y'. IsSettled c.args.tag x.held.logged y x'.held.logged y') now.declared no_channel
    no_share now.channels c.args.shares.now n c.loop-at.self.channels c.loop-at.shares) all inv.swept) n)
