use Rattle.std.proofs.Common.{◌∙◌, ◌<◌, refl, sym, ap, length, arith}
use Rattle.txc_table_line.specs.LineChan.{LineChanView, no_channel}
use Rattle.txc_table_line.specs.Line.{Books, LedgerSharesView}
use Rattle.txc_table_lines.specs.Locked.{lines_of, no_part}
use Rattle.txc_table_lines.proofs.Collecting.{clean_at, collected_many, one_ledger}
use Rattle.txc_table_lines.proofs.Locking.{read}
use Rattle.txc_table_lines.proofs.Sharing.{indexed, map_long}
use Rattle.txc_table_lines.proofs.locked_lines.LockedLines.show_whole_at.Goals as goal

pub show_whole-requires-clause-of : goal.show_whole-requires-clause-of
show_whole-requires-clause-of g c =
    let below : c.args.at < length c.args.shares.now = omega (
      arith,
      c.requires.there,
      collected_many c.args.shares.now (lines_of c.args.self.now) c.requires.of,
      map_long (λ (x : LineChanView). x.line) c.args.self.now,
    ) in
    ap (λ (s : LedgerSharesView). s.ledgers) (indexed _ _ _ _ _ (no_part no_channel.line.ledgers) c.shares.view_is refl
    below
    c.index_mut.ensures.value)
    ∙ one_ledger c.args.shares.now c.args.self.now c.args.at c.requires.of
    ∙ ap (λ (x : LineChanView). x.line.ledgers) (read _ _ _ _ _ _ c.self.view_is c.as_mut_slice.ensures.value
    c.requires.there c.in-Some.is)

pub show_whole-requires-clause-parts : goal.show_whole-requires-clause-parts
show_whole-requires-clause-parts g c =
    let below : c.args.at < length c.args.shares.now = omega (
      arith,
      c.requires.there,
      collected_many c.args.shares.now (lines_of c.args.self.now) c.requires.of,
      map_long (λ (x : LineChanView). x.line) c.args.self.now,
    ) in
    let found = indexed _ _ _ _ _ (no_part no_channel.line.ledgers) c.shares.view_is refl below
    c.index_mut.ensures.value in
    ap (λ (s : LedgerSharesView). s.parts) found ∙ c.requires.whole c.args.at (no_part no_channel.line.ledgers) below
    ∙ ap (λ (b : Books). b.seats) (one_ledger c.args.shares.now c.args.self.now c.args.at c.requires.of)
    ∙ ap (λ (x : LineChanView). x.line.ledgers.seats) (read _ _ _ _ _ _ c.self.view_is c.as_mut_slice.ensures.value
    c.requires.there c.in-Some.is)

pub show_whole-requires-clause-clean : goal.show_whole-requires-clause-clean
show_whole-requires-clause-clean g c =
    ap (λ (x : LineChanView). x.held.logged.pending) (sym (read _ _ _ _ _ _ c.self.view_is
    c.as_mut_slice.ensures.value c.requires.there c.in-Some.is))
    ∙ clean_at c.args.self.now c.args.at c.requires.clean c.requires.there
