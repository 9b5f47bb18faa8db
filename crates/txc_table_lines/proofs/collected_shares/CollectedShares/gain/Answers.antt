use Rattle.std.proofs.Common.{rules, ◌≡◌, ◌∙◌, ◌<◌, ◌+◌, ◌++◌, ◌∷◌, [], refl, sym, ap, subst, ℕ, List, length}
use Rattle.std.proofs.Common.{append-nil, slice_set, arith}
use Rattle.std.proofs.lemmas.List.{length_push}
use Rattle.txc_table_line.specs.LineChan.{no_channel}
use Rattle.txc_table_line.specs.Line.{LedgerSharesView}
use Rattle.txc_table_line.specs.SeatShare.{SeatShareView}
use Rattle.txc_table_lines.specs.Lines.{line_ids, no_share}
use Rattle.txc_table_lines.specs.Locked.{HaveParts, amounts_in, ledgers_in, made_in, no_part, with_share, with_shares}
use Rattle.txc_table_lines.proofs.Collecting.{collected_many}
use Rattle.txc_table_lines.proofs.Gaining.{amounts_with, ledgers_with, gained_more, made_with, merged_is, next_all}
use Rattle.txc_table_lines.proofs.Gaining.{next_below, next_is, next_shares, parts_with, same_ledgers, with_many}
use Rattle.txc_table_lines.proofs.Gaining.{with_none}
use Rattle.txc_table_lines.proofs.Sharing.{indexed, map_long}
use Rattle.txc_table_lines.proofs.collected_shares.CollectedShares.gain.Goals as goal

pub loop-share-init : goal.loop-share-init
loop-share-init g c = record {
  all = c.into_iter-share-iterator.ensures.into_iter_gives.0 ∙ c.shares.view_is;
  long = search rules;
  at = refl;
  shares = c.self.view_is ∙ with_none c.args.self.now;
}

pub index_mut-requires : goal.index_mut-requires
index_mut-requires g c =
    let inv = c.loop-share.invariant in omega (
      arith,
      next_below _ _ _ _ _ c.loop-share.at inv.all c.in-Some.ensures.steps.0 inv.at,
      collected_many c.args.self.now (line_ids c.args.shares) c.requires.of,
      map_long (λ (s : SeatShareView). s.line) c.args.shares,
      ap length inv.shares,
      with_many c.args.self.now c.loop-share.yielded,
    )

pub merge-requires : goal.merge-requires
merge-requires g c =
    let inv = c.loop-share.invariant in
    let there : c.loop-share.at < length (with_shares c.args.self.now c.loop-share.yielded) = omega (
      arith,
      next_below _ _ _ _ _ c.loop-share.at inv.all c.in-Some.ensures.steps.0 inv.at,
      collected_many c.args.self.now (line_ids c.args.shares) c.requires.of,
      map_long (λ (s : SeatShareView). s.line) c.args.shares,
      with_many c.args.self.now c.loop-share.yielded,
    ) in
    let of = c.into_shares.ensures.ledgers
    ∙ ap (λ (s : SeatShareView). s.line.ledgers) (sym (next_is _ _ _ _ _ c.loop-share.at no_share inv.all
    c.in-Some.ensures.steps.0 inv.at))
    ∙ same_ledgers c.args.self.now c.args.shares c.loop-share.at c.requires.of
    ∙ ap (λ (s : LedgerSharesView). s.ledgers) (sym (next_shares c.args.self.now c.loop-share.yielded c.loop-share.at
    (no_part no_channel.line.ledgers) inv.at))
    ∙ ap (λ (s : LedgerSharesView). s.ledgers) (sym (indexed _ _ _ _ _ (no_part no_channel.line.ledgers) inv.shares refl
    there c.index_mut.ensures.value)) in
    record { of = of }

pub loop-share-preserved : goal.loop-share-preserved
loop-share-preserved g c =
    let inv = c.loop-share.invariant in
    let below = next_below _ _ _ _ _ c.loop-share.at inv.all c.in-Some.ensures.steps.0 inv.at in
    let there : c.loop-share.at < length c.args.self.now = omega (
      arith,
      below,
      collected_many c.args.self.now (line_ids c.args.shares) c.requires.of,
      map_long (λ (s : SeatShareView). s.line) c.args.shares,
    ) in
    let found = indexed _ _ _ _ _ (no_part no_channel.line.ledgers) inv.shares refl
    (omega (arith, there, with_many c.args.self.now c.loop-share.yielded)) c.index_mut.ensures.value
    ∙ next_shares c.args.self.now c.loop-share.yielded c.loop-share.at (no_part no_channel.line.ledgers) inv.at in
    record {
      all = next_all c.loop-share.yielded _ _ _ c.in-Some.share inv.all c.in-Some.ensures.steps.0;
      long = omega (arith, inv.long, c.in-Some.ensures.steps.1, ap length c.in-Some.ensures.steps.0);
      at = omega (arith, inv.at, length_push c.loop-share.yielded c.in-Some.share);
      shares = ap (λ (ls : List LedgerSharesView). slice_set ls c.loop-share.at c.merge.new.self) inv.shares
          ∙ gained_more c.args.self.now c.loop-share.yielded c.in-Some.share c.loop-share.at
          (no_part no_channel.line.ledgers) c.merge.new.self inv.at there
          (subst (λ (old : LedgerSharesView). c.merge.new.self ≡ with_share old c.in-Some.share) found
          (merged_is c.index_mut.result.now c.merge.new.self c.into_shares.result c.in-Some.share
          c.merge.ensures.ledgers
          c.merge.ensures.parts c.merge.ensures.amount c.merge.ensures.made c.into_shares.ensures.part
          c.into_shares.ensures.amount c.into_shares.ensures.made));
    }

-- what was yielded when nothing is left
all_yielded : (yielded rest all : List SeatShareView) (n : ℕ) → yielded ++ rest ≡ all → n ≡ length rest → n ≡ 0
    → yielded ≡ all
all_yielded yielded [] all n are long none = sym (append-nil yielded) ∙ are
all_yielded yielded (s ∷ rest) all n are long none = absurd (omega (arith, long, none))

-- the shares after the loop
left : (items now : List LedgerSharesView) (yielded rest all : List SeatShareView) (n : ℕ)
    → items ≡ with_shares now yielded
    → yielded ++ rest ≡ all → n ≡ length rest → n ≡ 0 → items ≡ with_shares now all
left items now yielded rest all n is are long none =
    is ∙ ap (with_shares now) (all_yielded yielded rest all n are long none)

pub returns-clause-ledgers : goal.returns-clause-ledgers
returns-clause-ledgers g c =
    let inv = c.loop-share.invariant in
    ap ledgers_in (left _ _ _ _ _ _ inv.shares inv.all inv.long c.in-None.ensures.steps.0)
    ∙ ledgers_with c.args.self.now c.args.shares

pub returns-clause-parts : goal.returns-clause-parts
returns-clause-parts g c n have =
    let inv = c.loop-share.invariant in
    subst (HaveParts (n + 1)) (sym (left _ _ _ _ _ _ inv.shares inv.all inv.long c.in-None.ensures.steps.0))
    (parts_with n c.args.self.now c.args.shares
    (omega (
      arith,
      collected_many c.args.self.now (line_ids c.args.shares) c.requires.of,
      map_long (λ (s : SeatShareView). s.line) c.args.shares,
    ))
    have)

pub returns-clause-amounts : goal.returns-clause-amounts
returns-clause-amounts g c =
    let inv = c.loop-share.invariant in
    ap amounts_in (left _ _ _ _ _ _ inv.shares inv.all inv.long c.in-None.ensures.steps.0)
    ∙ amounts_with c.args.self.now c.args.shares

pub returns-clause-made : goal.returns-clause-made
returns-clause-made g c =
    let inv = c.loop-share.invariant in
    ap made_in (left _ _ _ _ _ _ inv.shares inv.all inv.long c.in-None.ensures.steps.0)
    ∙ made_with c.args.self.now c.args.shares
