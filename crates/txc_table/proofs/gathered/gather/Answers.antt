use Rattle.std.proofs.Common.{slice_get, Some, arith, rules, refl, ◌≡◌, ◌∙◌, ◌<◌, ℕ, ◌+◌, sym, subst, ap, List, [], ◌∷◌}
use Rattle.std.proofs.Common.{◌++◌, length}
use Rattle.std.proofs.lemmas.List.{length_push}
use mathlib.Core.List.{IsPrefix}
use Rattle.txc_txn_check.specs.Limits.{CheckedView}
use Rattle.txc_table_report.proofs.Leaving.{numbers_left, theirs_more}
use Rattle.txc_table_report.proofs.Standing.{all_since, seats_more}
use Rattle.txc_table_report.specs.Finished.{AreTheirs, numbered}
use Rattle.txc_table_report.specs.Gathered.{SeatsAreInLogs, totals_from}
use Rattle.txc_txn_history.specs.Events.{events_from, events_of}
use Rattle.txc_txn_history.specs.Seats.{AreEven, all_uses_from}
use Rattle.txc_table_seat.specs.Seated.{AreReceiptsOf, HistoryView, SeatCommits, StampsRise}
use Rattle.txc_txn.specs.declared.receipt.Receipt.{Receipt}
use Rattle.txc_table_line.specs.LineChan.{LineChanView}
use Rattle.txc_table_line.specs.Line.{LineId}
use Rattle.txc_table_line.specs.SeatShare.{SeatShareView}
use Rattle.txc_table_lines.specs.Lines.{line_ids, share_at}
use Rattle.txc_table_lines.specs.Locked.{AreClean, IsLineSeen, amounts_in, amounts_of, ledgers_of, channel_at}
use Rattle.txc_table_lines.specs.Locked.{helds_of, lines_of, made_in, made_of}
use Rattle.txc_table_line.specs.Sums.{sums}
use Rattle.txc_table.specs.Closing.{logs_in, marks_in, plans_of, receipts_of}
use Rattle.txc_table.specs.Finished.{AreRanBy}
use Rattle.txc_table.specs.Seat.{ArePlacedEvents, AreOf, DepartedSeatView, SeesMore, seen_logs, seen_marks, commits_of}
use Rattle.txc_table.specs.Table.{TableLines, line_decls, table_lines}
use Rattle.txc_table.proofs.Gathering.{amounts_more, as_many, made_more, marked_all, of_last, plans_more}
use Rattle.txc_table.proofs.Gathering.{receipts_more, seen_all, sittings_long, some_back, totals_none, uses_none}
use Rattle.txc_table.proofs.OneHistory.{all_stand_more, even_length, even_push, ran_more}
use Rattle.txc_table.proofs.Left.{nobody}
use Rattle.txc_table.proofs.Placing.{all_stand_on}
use Rattle.txc_table.proofs.gathered.gather.Goals as goal

pub no_part-parts-requires : goal.no_part-parts-requires
no_part-parts-requires g c = record {
  some = some_back c.args.left.items (c.requires.can.back.all 0 c.requires.can.some);
}

pub loop-number-init : goal.loop-number-init
loop-number-init g c =
    let channels : List LineChanView = c.args.locked.now in
    let left : List SeatCommits = commits_of c.args.left.items in
    let none = c.requires.none in
    let some : 0 < length c.args.left.items =
    some_back c.args.left.items (c.requires.can.back.all 0 c.requires.can.some) in
    let first = c.requires.can.back.of 0 nobody some in
    record {
      room = c.requires.room;
      long = search rules;
      many = ap (λ (ds : List HistoryView). length (receipts_of ds)) none;
      numbers = λ k from below. subst (λ (ls : List DepartedSeatView). 0 < numbered k (commits_of ls))
          (sym c.no_part-parts.ensures.same) (c.requires.can.back.all k below);
      same = refl;
      of = subst (AreOf (table_lines c.args.table_seats.now (lines_of channels))) (sym c.no_part-parts.ensures.same)
          c.requires.can.back.of;
      ledger = (c.no_part-parts.ensures.of nobody).0 ∙ ap (λ (l : TableLines). l.ledger) first;
      whole = (c.no_part-parts.ensures.of nobody).1 ∙ ap (λ (l : TableLines). l.seats) first;
      part = c.no_part-parts.ensures.none;
      stand = subst (λ (ds : List HistoryView). SeatsAreInLogs (logs_in channels) (receipts_of ds)) (sym none)
          (λ s receipts here. absurd (cc));
      theirs = subst (λ (ds : List HistoryView). AreTheirs left (receipts_of ds)) (sym none)
          (record { own = tt; each = λ n receipts here. absurd (cc) });
      from = λ i seat is. (
        i,
        subst (λ (ls : List DepartedSeatView). slice_get (commits_of ls) i ≡ Some seat)
            c.no_part-parts.ensures.same is,
      );
      few = omega (arith, ap (λ (ls : List DepartedSeatView). length (commits_of ls)) c.no_part-parts.ensures.same);
      ledgers = c.requires.nothing.ledgers;
      parts = c.requires.nothing.parts;
      amounts = c.requires.nothing.amounts ∙ totals_none 0 (length channels)
          ∙ sym (ap (λ (ds : List HistoryView). totals_from 0 (length channels) (receipts_of ds)) none);
      made = c.requires.nothing.made ∙ uses_none 0 (length channels)
          ∙ sym (ap (λ (ds : List HistoryView). all_uses_from 0 (length channels) (plans_of ds)) none);
      even = subst (λ (ds : List HistoryView). AreEven (plans_of ds) (receipts_of ds)) (sym none) tt;
      ran = subst (λ (ds : List HistoryView). AreRanBy left (plans_of ds)) (sym none) (λ n plans here. absurd (cc));
      placed = subst (λ (ds : List HistoryView). ArePlacedEvents (line_decls (lines_of channels)) (logs_in channels)
          (marks_in channels) (events_from 0 (plans_of ds) (receipts_of ds))) (sym none) (λ event h. absurd h);
    }

pub show_known-requires : goal.show_known-requires
show_known-requires g c =
    let channels : List LineChanView = c.args.locked.now in
    let of : line_ids c.history.inside.shares ≡ lines_of channels =
    ap (λ (s : DepartedSeatView). s.lines.all) c.history.view_is
    ∙ ap (λ (l : TableLines). l.all) (c.remove_seat.ensures.of (table_lines c.args.table_seats.now (lines_of channels))
    c.loop-number.invariant.of).0 in
    record {
      of = of ∙ sym (ap lines_of c.loop-number.invariant.same);
      clean = subst (λ (cs : List LineChanView). AreClean (helds_of cs)) (sym c.loop-number.invariant.same)
          c.requires.can.clean;
    }

pub gain-requires : goal.gain-requires
gain-requires g c =
    let channels : List LineChanView = c.args.locked.now in
    let of : line_ids c.show_known.new.shares ≡ lines_of channels =
    ap line_ids c.show_known.ensures.shares ∙ ap (λ (s : DepartedSeatView). s.lines.all) c.history.view_is
    ∙ ap (λ (l : TableLines). l.all) (c.remove_seat.ensures.of (table_lines c.args.table_seats.now (lines_of channels))
    c.loop-number.invariant.of).0 in
    record { of = c.loop-number.invariant.ledgers ∙ ap ledgers_of (sym of) }

pub loop-number-preserved : goal.loop-number-preserved
loop-number-preserved g c =
    let channels : List LineChanView = c.args.locked.now in
    let inv = c.loop-number.invariant in
    let out = c.remove_seat.ensures.out in
    let shares : List SeatShareView = c.history.inside.shares in
    let receipts : List Receipt = c.history.inside.history.commits.receipts in
    let plans : List CheckedView = c.history.inside.history.commits.plans in
    let before : List (List Receipt) = receipts_of c.loop-number.histories.items in
    let after : List (List Receipt) = receipts_of c.push_reserved.new.self.items in
    let plans_before : List (List CheckedView) = plans_of c.loop-number.histories.items in
    let plans_after : List (List CheckedView) = plans_of c.push_reserved.new.self.items in
    let push : after ≡ before ++ receipts ∷ [] =
    receipts_more c.loop-number.histories.items c.push_reserved.new.self.items _ c.push_reserved.ensures.items in
    let plans_push : plans_after ≡ plans_before ++ plans ∷ [] =
    plans_more c.loop-number.histories.items c.push_reserved.new.self.items _ c.push_reserved.ensures.items in
    let many : length plans_before ≡ c.loop-number.number = even_length plans_before before inv.even ∙ inv.many in
    let from = inv.from out.at c.remove_seat.result.commits out.was in
    let number : c.history.inside.history.commits.number ≡ c.loop-number.number =
    ap (λ (s : DepartedSeatView). s.commits.number) c.history.view_is ∙ out.its in
    let table = c.remove_seat.ensures.of (table_lines c.args.table_seats.now (lines_of channels)) inv.of in
    let of : line_ids shares ≡ lines_of channels =
    ap (λ (s : DepartedSeatView). s.lines.all) c.history.view_is ∙ ap (λ (l : TableLines). l.all) table.0 in
    let long : length shares ≡ length channels = as_many shares channels of in
    let seen : (n : ℕ) → n < length channels → IsLineSeen (share_at shares n) (channel_at channels n) =
    subst (λ (cs : List LineChanView). (n : ℕ) → n < length cs → IsLineSeen (share_at shares n) (channel_at cs n))
    inv.same c.show_known.ensures.seen in
    let since : SeesMore (seen_logs shares) (logs_in channels) = seen_all shares channels long seen in
    let more : (n : ℕ) → IsPrefix (seen_marks shares n) (marks_in channels n) =
    marked_all shares channels long seen in
    let own : AreReceiptsOf c.history.inside.history.commits.number 0 receipts = c.show.ensures.own in
    let stamped : StampsRise 0 c.history.inside.history.commits.stamp receipts = c.show.ensures.stamped in
    let placed : ArePlacedEvents (line_decls (lines_of channels)) (seen_logs shares) (seen_marks shares)
    (events_of c.history.inside.history.commits.number 0 plans receipts) =
    subst (λ (ls : List LineId). ArePlacedEvents (line_decls ls) (seen_logs shares) (seen_marks shares)
    (events_of c.history.inside.history.commits.number 0 plans receipts)) of c.history.invariant.placed in
    record {
      room = omega (arith, c.push_reserved.ensures.capacity, inv.room);
      long = omega (arith, c.push_reserved.ensures.len, inv.long);
      many = omega (
        arith,
        ap (λ (rs : List (List Receipt)). length rs) push,
        length_push before receipts,
        inv.many,
      );
      numbers = λ k from below. numbers_left c.loop-number.number k (commits_of c.loop-number.left.items)
          (commits_of c.remove_seat.new.left.items) (omega (arith, from)) (out.others k)
          (inv.numbers k (omega (arith, from)) below);
      same = c.show_known.ensures.same ∙ inv.same;
      of = table.1;
      ledger = c.merge.ensures.same.0 ∙ inv.ledger;
      whole = c.merge.ensures.same.1 ∙ inv.whole;
      part = c.merge.ensures.parts ∙ ap (λ n. n + c.history.inside.table_share.parts) inv.part
          ∙ ap (λ n. c.loop-number.number + n) c.history.invariant.part;
      stand = seats_more (logs_in channels) before after receipts push inv.stand
          (all_since (seen_logs shares) (logs_in channels) since receipts c.history.invariant.stand);
      theirs = theirs_more (commits_of c.args.left.items) (commits_of c.loop-number.left.items) before after
          receipts c.loop-number.number c.history.inside.history.commits.number out.at c.remove_seat.result.commits
          inv.theirs inv.many push out.was inv.from out.its
          (sym (ap (λ (s : DepartedSeatView). s.commits.receipts) c.history.view_is)) number own
          (subst (λ (s : DepartedSeatView). StampsRise 0 s.commits.stamp receipts) c.history.view_is stamped);
      from = λ i seat is. (let w = out.from i seat is in inv.from w.0 seat w.1);
      few = omega (arith, out.few, inv.few);
      ledgers = c.gain.ensures.ledgers ∙ inv.ledgers;
      parts = c.gain.ensures.parts c.loop-number.number inv.parts;
      amounts = amounts_more (length channels) (amounts_in c.loop-number.all) (amounts_in c.gain.new.self) shares
          before after receipts (c.gain.ensures.amounts
          ∙ ap (λ (ss : List SeatShareView). sums (amounts_in c.loop-number.all)
          (amounts_of ss)) c.show_known.ensures.shares)
          inv.amounts long c.history.invariant.counted push;
      made = made_more (length channels) (made_in c.loop-number.all) (made_in c.gain.new.self) shares plans_before
          plans_after plans (c.gain.ensures.made
          ∙ ap (λ (ss : List SeatShareView). sums (made_in c.loop-number.all) (made_of ss)) c.show_known.ensures.shares)
          inv.made long c.history.invariant.made plans_push;
      even = subst (λ (ps : List (List CheckedView)). AreEven ps after) (sym plans_push)
          (subst (λ (rs : List (List Receipt)). AreEven (plans_before ++ plans ∷ []) rs) (sym push)
          (even_push plans_before before plans receipts inv.even c.show.ensures.even));
      ran = ran_more (commits_of c.args.left.items) plans_before plans_after plans plans_push inv.ran
          (record {
            at = from.0;
            seat = c.remove_seat.result.commits;
            here = from.1;
            its = out.its ∙ sym many;
            theirs = sym (ap (λ (s : DepartedSeatView). s.commits.plans) c.history.view_is);
          });
      placed = all_stand_more (line_decls (lines_of channels)) (logs_in channels) (marks_in channels) plans_before
          plans_after before after plans receipts c.history.inside.history.commits.number plans_push push inv.even
          (number ∙ sym many) inv.placed
          (all_stand_on (line_decls (lines_of channels)) (seen_logs shares) (logs_in channels) (seen_marks shares)
          (marks_in channels) (events_of c.history.inside.history.commits.number 0 plans receipts) since more placed);
    }

pub merge-requires : goal.merge-requires
merge-requires g c =
    let channels : List LineChanView = c.args.locked.now in
    let inv = c.loop-number.invariant in
    let its : c.remove_seat.result.lines ≡ table_lines c.args.table_seats.now (lines_of channels) =
    (c.remove_seat.ensures.of (table_lines c.args.table_seats.now (lines_of channels)) inv.of).0 in
    let of = ap (λ (s : DepartedSeatView). s.lines) c.history.view_is ∙ its in
    record {
      of = (
        ap (λ (l : TableLines). l.ledger) of ∙ sym inv.ledger,
        ap (λ (l : TableLines). l.seats) of ∙ sym inv.whole,
      );
    }

pub merge-requires-in-Some : goal.merge-requires-in-Some
merge-requires-in-Some g c =
    let inv = c.loop-number.invariant in
    let here = of_last (table_lines c.args.table_seats.now (lines_of c.args.locked.now)) c.loop-number.left.items
    c.pop.new.self.items c.in-Some.seat inv.of c.in-Some.ensures.items in
    let of = ap (λ (s : DepartedSeatView). s.lines) c.seat.view_is ∙ here in
    record {
      of = (
        ap (λ (l : TableLines). l.ledger) of ∙ sym inv.ledger,
        ap (λ (l : TableLines). l.seats) of ∙ sym inv.whole,
      );
    }

pub unreachable-requires : goal.unreachable-requires
unreachable-requires g c =
    let inv = c.loop-number.invariant in
    omega (
      arith,
      c.loop-number-test.false,
      c.loop-number.auto.number-end,
      c.count-number-end.ensures,
      c.merge-in-Some.ensures.parts,
      c.merge-in-Some.ensures.apart,
      c.seat.invariant.part,
      inv.part,
      inv.whole,
    )

pub returns-clause-all : goal.returns-clause-all
returns-clause-all g c =
    let inv = c.loop-number.invariant in
    let end : c.loop-number.number ≡ c.args.table_seats.now.seats =
    omega (arith, c.loop-number-test.false, c.loop-number.auto.number-end) in
    record {
      theirs = inv.theirs;
      stand = inv.stand;
      seats = inv.many ∙ end;
      all = search (rules, sittings_long c.loop-number.left.items);
      even = inv.even;
      ran = inv.ran;
      placed = inv.placed;
    }
