use Rattle.std.proofs.Common.{◌∙◌, ◌<◌, refl, sym, ap, length, map}
use Rattle.std.proofs.Common.{arith}
use Rattle.std.proofs.lemmas.List.{length_push}
use Rattle.txc_table_line.specs.LineChan.{LineChanView, no_channel}
use Rattle.txc_table_line.specs.Line.{Books, LedgerSharesView}
use Rattle.txc_table_lines.specs.Guards.{channel_in}
use Rattle.txc_table_lines.specs.Locked.{lines_of, no_part}
use Rattle.txc_table_lines.proofs.Collecting.{clean_at, collected_many, one_ledger}
use Rattle.txc_table_lines.proofs.Ending.{account_more, channel_next, next_there}
use Rattle.txc_table_lines.proofs.Gaining.{next_all}
use Rattle.txc_table_lines.proofs.Locking.{set_same}
use Rattle.txc_table_lines.proofs.Sharing.{indexed, map_long}
use Rattle.txc_table_lines.proofs.accounts.LockedLines+FullLog.into_logs.Goals as goal

pub index_mut-requires : goal.index_mut-requires
index_mut-requires g c =
    let inv = c.loop-line.invariant in omega (
      arith,
      next_there _ _ _ _ _ c.loop-line.at inv.all c.in-Some.ensures.steps.0 inv.at,
      collected_many c.args.shares (lines_of c.args.self) c.requires.of,
      map_long (λ (x : LineChanView). x.line) c.args.self,
      ap length inv.shares,
      ap length c.shares.view_is,
    )

pub into_log-requires-clause-of : goal.into_log-requires-clause-of
into_log-requires-clause-of g c =
    let inv = c.loop-line.invariant in
    let there = next_there _ _ _ _ _ c.loop-line.at inv.all c.in-Some.ensures.steps.0 inv.at in
    let below : c.loop-line.at < length c.args.shares = omega (
      arith,
      there,
      collected_many c.args.shares (lines_of c.args.self) c.requires.of,
      map_long (λ (x : LineChanView). x.line) c.args.self,
    ) in
    ap (λ (s : LedgerSharesView). s.ledgers) (indexed _ _ _ _ _ (no_part no_channel.line.ledgers)
    (inv.shares ∙ c.shares.view_is) refl below c.index_mut.ensures.value)
    ∙ one_ledger c.args.shares c.args.self c.loop-line.at c.requires.of
    ∙ ap (λ (x : LineChanView). x.line.ledgers) (channel_next _ _ _ _ _ c.loop-line.at c.in-Some-line.line inv.all
    c.in-Some.ensures.steps.0 inv.at c.in-Some-line.is)

pub into_log-requires-clause-parts : goal.into_log-requires-clause-parts
into_log-requires-clause-parts g c =
    let inv = c.loop-line.invariant in
    let there = next_there _ _ _ _ _ c.loop-line.at inv.all c.in-Some.ensures.steps.0 inv.at in
    let below : c.loop-line.at < length c.args.shares = omega (
      arith,
      there,
      collected_many c.args.shares (lines_of c.args.self) c.requires.of,
      map_long (λ (x : LineChanView). x.line) c.args.self,
    ) in
    ap (λ (s : LedgerSharesView). s.parts) (indexed _ _ _ _ _ (no_part no_channel.line.ledgers)
    (inv.shares ∙ c.shares.view_is) refl below c.index_mut.ensures.value)
    ∙ c.requires.whole c.loop-line.at (no_part no_channel.line.ledgers) below
    ∙ ap (λ (b : Books). b.seats) (one_ledger c.args.shares c.args.self c.loop-line.at c.requires.of)
    ∙ ap (λ (x : LineChanView). x.line.ledgers.seats) (channel_next _ _ _ _ _ c.loop-line.at c.in-Some-line.line
    inv.all c.in-Some.ensures.steps.0 inv.at c.in-Some-line.is)

pub into_log-requires-clause-clean : goal.into_log-requires-clause-clean
into_log-requires-clause-clean g c =
    let inv = c.loop-line.invariant in
    ap (λ (x : LineChanView). x.held.logged.pending) (sym (channel_next _ _ _ _ _ c.loop-line.at
    c.in-Some-line.line inv.all c.in-Some.ensures.steps.0 inv.at c.in-Some-line.is))
    ∙ clean_at c.args.self c.loop-line.at c.requires.clean
    (next_there _ _ _ _ _ c.loop-line.at inv.all c.in-Some.ensures.steps.0 inv.at)

pub loop-line-preserved : goal.loop-line-preserved
loop-line-preserved g c =
    let inv = c.loop-line.invariant in
    let below : c.loop-line.at < length c.loop-line.shares.items = omega (
      arith,
      next_there _ _ _ _ _ c.loop-line.at inv.all c.in-Some.ensures.steps.0 inv.at,
      collected_many c.args.shares (lines_of c.args.self) c.requires.of,
      map_long (λ (x : LineChanView). x.line) c.args.self,
      ap length inv.shares,
      ap length c.shares.view_is,
    ) in
    record {
      all = ap (map channel_in) (next_all c.loop-line.yielded _ _ _ c.in-Some.line refl c.in-Some.ensures.steps.0)
          ∙ inv.all;
      accounts = c.set_log.ensures ∙ account_more c.args.accounts.items c.loop-line.yielded c.in-Some.line
          c.in-Some-line.line c.loop-line.at _ _ inv.accounts inv.at c.in-Some-line.is c.into_log.ensures.log;
      at = omega (arith, inv.at, length_push c.loop-line.yielded c.in-Some.line);
      shares = set_same c.loop-line.shares.items c.loop-line.at c.into_log.new.shares c.index_mut.result.now
          below (sym c.index_mut.ensures.value ∙ sym c.into_log.ensures.shares) ∙ inv.shares;
    }
