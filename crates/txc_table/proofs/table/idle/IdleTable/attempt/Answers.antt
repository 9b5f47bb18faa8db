use Rattle.std.proofs.Common.{◌≡◌, ◌∙◌, ◌<◌, ◌≤◌, ap, arith, length, List, slice_get, slice_index_or, slice_set, subst}
use Rattle.std.proofs.Common.{sym}
use Rattle.std.proofs.lemmas.List.{get_or-set_same, get_or_default}
use Rattle.txc_txn_check.specs.Steps.{Fits}
use Rattle.txc_table_seat.specs.Seated.{SeatCommits}
use Rattle.txc_table.specs.IdleTableView.{OthersStay}
use Rattle.txc_table.specs.Refused.{AreAllSeats}
use Rattle.txc_table.specs.Seat.{AreOf, DepartedSeatView}
use Rattle.txc_table.specs.Table.{TableView, decls_of}
use Rattle.txc_table.specs.Outcome.{IsTransacted}
use Rattle.txc_table.proofs.Idling.{back_still, others_stay, put_back_at}
use Rattle.txc_table.proofs.Trying.{as_transacted, number_stays}
use Rattle.txc_table.proofs.table.idle.IdleTable.attempt.Goals as goal

pub attempt-tried-requires-clause-of : goal.attempt-tried-requires-clause-of
attempt-tried-requires-clause-of g c =
    let seats : List DepartedSeatView = c.unlock_with_buffer-table.result.1.items in
    let below : c.args.at < length seats =
    omega (
      arith,
      c.requires.there,
      ap
          (λ (ss : List DepartedSeatView). length ss) c.unlock_with_buffer-table.ensures.same.1,
    ) in
    let of : AreOf c.args.self.table.lines seats =
    subst (AreOf c.args.self.table.lines) (sym c.unlock_with_buffer-table.ensures.same.1)
    c.unlock_with_buffer-table.ensures.back.of in
    ap (λ (s : DepartedSeatView). s.lines) (c.history.view_is ∙ c.remove.ensures.value)
    ∙ of c.args.at c.remove.result below ∙ sym (ap (λ (t : TableView). t.lines)
    c.unlock_with_buffer-table.ensures.same.0)

pub attempt-tried-requires-clause-fits : goal.attempt-tried-requires-clause-fits
attempt-tried-requires-clause-fits g c =
    subst (λ (t : TableView). Fits (slice_get t.kinds) c.args.checked.now.steps) (sym
    c.unlock_with_buffer-table.ensures.same.0)
    c.requires.fits

pub into_idle_in-requires : goal.into_idle_in-requires
into_idle_in-requires g c =
    let seats : List DepartedSeatView = c.unlock_with_buffer-table.result.1.items in
    let table : TableView = c.unlock_with_buffer-table.result.0 in
    let below : c.args.at < length seats =
    omega (
      arith,
      c.requires.there,
      ap
          (λ (ss : List DepartedSeatView). length ss) c.unlock_with_buffer-table.ensures.same.1,
    ) in
    let back : AreAllSeats table.lines table.seats seats =
    subst (λ (t : TableView). AreAllSeats t.lines t.seats seats) (sym c.unlock_with_buffer-table.ensures.same.0)
    (subst (AreAllSeats c.args.self.table.lines c.args.self.table.seats) (sym c.unlock_with_buffer-table.ensures.same.1)
    c.unlock_with_buffer-table.ensures.back) in
    let of =
    ap (λ (s : DepartedSeatView). s.lines) (c.history.view_is ∙ c.remove.ensures.value)
    ∙ back.of c.args.at c.remove.result below in
    let tried = as_transacted (λ t. t) _ _ _ _ _ c.attempt-tried.ensures.outcome in
    let same : c.into_departed.result.commits.number ≡ (slice_index_or seats c.args.at c.remove.result).commits.number =
    ap (λ (s : SeatCommits). s.number) c.into_departed.ensures.commits ∙ number_stays (λ t. t) _ _ _ _ _ tried
    ∙ ap (λ (s : DepartedSeatView). s.commits.number) (c.history.view_is ∙ c.remove.ensures.value) in
    record {
      back = subst (AreAllSeats table.lines table.seats)
          (sym (put_back_at seats c.remove.new.self.items c.insert_seat.new.left.items c.args.at c.into_departed.result
          c.remove.ensures.items c.insert_seat.ensures below))
          (back_still table.lines table.seats seats c.args.at c.into_departed.result c.remove.result below same
          (c.into_departed.ensures.lines ∙ c.attempt-tried.ensures.lines ∙ of) back);
      room = subst (λ (t : TableView). length t.lines.all ≤ c.unlock_with_buffer-table.result.2)
          (sym c.unlock_with_buffer-table.ensures.same.0) c.unlock_with_buffer-table.ensures.room;
    }

pub returns-clause-tried : goal.returns-clause-tried
returns-clause-tried g c seat =
    let seats : List DepartedSeatView = c.unlock_with_buffer-table.result.1.items in
    let below : c.args.at < length seats =
    omega (
      arith,
      c.requires.there,
      ap
          (λ (ss : List DepartedSeatView). length ss) c.unlock_with_buffer-table.ensures.same.1,
    ) in
    let left : c.into_idle_in.result.left ≡ slice_set seats c.args.at c.into_departed.result =
    c.into_idle_in.ensures.left ∙ put_back_at seats c.remove.new.self.items c.insert_seat.new.left.items c.args.at
    c.into_departed.result c.remove.ensures.items c.insert_seat.ensures below in
    let after : (slice_index_or c.into_idle_in.result.left c.args.at seat).commits ≡ c.attempt-tried.new.seat.commits =
    ap (λ (ss : List DepartedSeatView). (slice_index_or ss c.args.at seat).commits) left
    ∙ ap (λ (s : DepartedSeatView). s.commits) (get_or-set_same seats c.args.at c.into_departed.result seat below)
    ∙ c.into_departed.ensures.commits in
    let before : c.history.inside.history.commits ≡ (slice_index_or c.args.self.left c.args.at seat).commits =
    ap (λ (s : DepartedSeatView). s.commits) (c.history.view_is ∙ c.remove.ensures.value
    ∙ get_or_default seats c.args.at c.remove.result seat below
    ∙ ap (λ (ss : List DepartedSeatView). slice_index_or ss c.args.at seat) c.unlock_with_buffer-table.ensures.same.1)
    in
    subst (λ (t : TableView). IsTransacted (λ t. t) (decls_of t.lines) c.args.checked.now
    (slice_index_or c.args.self.left c.args.at seat).commits c.attempt-tried.result
    (slice_index_or c.into_idle_in.result.left c.args.at seat).commits) c.unlock_with_buffer-table.ensures.same.0
    (subst (λ (s : SeatCommits). IsTransacted (λ t. t) (decls_of c.unlock_with_buffer-table.result.0.lines)
    c.args.checked.now
    s
    c.attempt-tried.result (slice_index_or c.into_idle_in.result.left c.args.at seat).commits) before
    (subst (λ (s : SeatCommits). IsTransacted (λ t. t) (decls_of c.unlock_with_buffer-table.result.0.lines)
    c.args.checked.now
    c.history.inside.history.commits c.attempt-tried.result s) (sym after)
    (as_transacted (λ t. t) _ _ _ _ _ c.attempt-tried.ensures.outcome)))

pub returns-clause-others : goal.returns-clause-others
returns-clause-others g c =
    let seats : List DepartedSeatView = c.unlock_with_buffer-table.result.1.items in
    let below : c.args.at < length seats =
    omega (
      arith,
      c.requires.there,
      ap
          (λ (ss : List DepartedSeatView). length ss) c.unlock_with_buffer-table.ensures.same.1,
    ) in
    let left : c.into_idle_in.result.left ≡ slice_set seats c.args.at c.into_departed.result =
    c.into_idle_in.ensures.left ∙ put_back_at seats c.remove.new.self.items c.insert_seat.new.left.items c.args.at
    c.into_departed.result c.remove.ensures.items c.insert_seat.ensures below in
    subst (λ (ss : List DepartedSeatView). OthersStay c.args.at ss c.into_idle_in.result.left)
    c.unlock_with_buffer-table.ensures.same.1
    (subst (OthersStay c.args.at seats) (sym left) (others_stay seats c.args.at c.into_departed.result))
