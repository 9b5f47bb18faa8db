use denote.Param.{param}
use denote.Ref.{NamedLft}
use denote.Param.Send.{sendable}
use Rattle.std.proofs.Common.{◌≡◌, ◌∙◌, subst, sym, ◌<◌, List, [], All, length, map, slice_get, slice_index_or}
use Rattle.std.proofs.Common.{vec_len}
use Rattle.std.proofs.lemmas.List.{length-map}
use Rattle.std.proofs.lemmas.List.Elements.{All-get_or}
use Rattle.std.proofs.lemmas.Result.{IfOk-weaker}
use Rattle.txc_txn_check.specs.Limits.{CheckedView}
use Rattle.txc_txn_check.specs.Steps.{Fits}
use Rattle.txc_table_seat.specs.Seated.{SeatCommits, no_commits}
use Rattle.txc_cmd_report.specs.declared.seat_end.SeatEnd.{SeatEnd}
use Rattle.txc_cmd_report.specs.declared.seat_end.SeatEnd.TheVariants.{Finished}
use Rattle.txc_table.specs.Seat.{DepartedSeatView}
use Rattle.txc_table.specs.Table.{TableView}
use Rattle.txc_base_threads.proofs.Added.{some_of}
use Rattle.txc_cmd_threads.specs.Pool.{HasServed}
use Rattle.txc_cmd_threads.proofs.Sends.{job_sends, left_sends}
use Rattle.txc_cmd_threads.proofs.pool.work_all.Goals as goal

pub run_jobs-requires-send-J : goal.run_jobs-requires-send-J
run_jobs-requires-send-J g c κs within =
    let job = λ (name : NamedLft). job_sends name (param 0 g.row.R) (param 1 g.row.G) c.show_shared_plans.ensures
    c.type_bounds.sync-R c.type_bounds.send-G in
    search (job, sendable) depth 20

pub run_jobs-requires-send-L : goal.run_jobs-requires-send-L
run_jobs-requires-send-L g c κs within =
    let left = left_sends in
    search sendable depth 20

pub run_jobs-requires-clause-can : goal.run_jobs-requires-clause-can
run_jobs-requires-clause-can g c κs within = λ k j below.
    let plans = map (λ seat. seat.items) c.args.pool.plans.now in
    let here : k < length c.args.pool.plans.now = subst (λ n. k < n) c.make_jobs.ensures.len below in
    let there : k < length plans =
    subst (λ n. k < n) (sym (length-map c.args.pool.plans.now (λ seat. seat.items))) here in
    let within : k < length c.args.seats.items =
    subst (λ n. k < n) c.args.seats.ok.0 (subst (λ n. k < n) (sym c.requires.seats) here) in
    let s = some_of c.args.seats.items k within in
    let is = c.make_jobs.ensures.each k j s below in
    let fits : All (λ plan. Fits (slice_get (slice_index_or c.make_jobs.new.jobs.items k j).table.now.kinds) plan.steps)
    (slice_index_or c.make_jobs.new.jobs.items k j).plans.now =
    subst (λ (t : TableView). All (λ plan. Fits (slice_get t.kinds) plan.steps)
    (slice_index_or c.make_jobs.new.jobs.items k j).plans.now) (sym is.0)
    (subst (λ (ps : List CheckedView). All (λ plan. Fits (slice_get c.args.pool.table.now.kinds) plan.steps) ps)
    (sym is.1)
    (All-get_or (All (λ plan. Fits (slice_get c.args.pool.table.now.kinds) plan.steps)) plans k [] there
    c.requires.fits)) in
    (fits, (slice_index_or c.args.seats.items k s, is.2))

pub returns-clause-back : goal.returns-clause-back
returns-clause-back g c =
    let jobs = c.make_jobs.new.jobs in
    let plans = map (λ seat. seat.items) c.args.pool.plans.now in
    let lent : vec_len jobs ≡ length c.args.pool.plans.now = c.make_jobs.ensures.len in
    IfOk-weaker c.run_jobs.result _ _ (λ results it-is.
    let served = it-is.0 in
    let all = it-is.1 in
    let sorted = it-is.2 in
    let many : length served ≡ length c.args.pool.plans.now = all.many ∙ sym jobs.ok.0 ∙ lent in
    record {
      left = sorted.left ∙ many;
      ends = sorted.ends ∙ many;
      each = λ k d below.
          let in_jobs : k < length jobs.items = subst (λ n. k < n) (sym (sym jobs.ok.0 ∙ lent)) below in
          let in_served : k < length served = subst (λ n. k < n) (sym many) below in
          let in_seats : k < vec_len c.args.seats = subst (λ n. k < n) (sym c.requires.seats) below in
          let s = some_of c.args.seats.items k (subst (λ n. k < n) c.args.seats.ok.0 in_seats) in
          let j = some_of jobs.items k in_jobs in
          let o = some_of served k in_served in
          let is = c.make_jobs.ensures.each k j s (subst (λ n. k < n) (sym lent) below) in
          let it = sorted.each k o d Finished in_served in
          let did = all.each k j o in_jobs (slice_index_or c.args.seats.items k s) is.2 in
          let fresh : (slice_index_or c.args.seats.items k s).commits ≡ no_commits k = c.requires.fresh k s in_seats in
          subst (λ (e : SeatEnd). HasServed c.args.pool.table.now (slice_index_or plans k []) (no_commits k)
          (slice_index_or results.left.items k d) e) (sym it.1)
          (subst (λ (l : DepartedSeatView). HasServed c.args.pool.table.now (slice_index_or plans k []) (no_commits k) l
          (slice_index_or served k o).end) (sym it.0)
          (subst (λ (b : SeatCommits). HasServed c.args.pool.table.now (slice_index_or plans k []) b
          (slice_index_or served k o).left (slice_index_or served k o).end) fresh
          (subst (λ (ps : List CheckedView). HasServed c.args.pool.table.now ps
          (slice_index_or c.args.seats.items k s).commits (slice_index_or served k o).left
          (slice_index_or served k o).end) is.1
          (subst (λ (t : TableView). HasServed t (slice_index_or jobs.items k j).plans.now
          (slice_index_or c.args.seats.items k s).commits (slice_index_or served k o).left
          (slice_index_or served k o).end) is.0 did))));
    }) c.run_jobs.ensures.back
