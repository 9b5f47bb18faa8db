use denote.Param.{param}
use denote.Ref.{NamedLft}
use denote.Param.Send.{sendable}
use Rattle.std.proofs.Common.{◌≡◌, ◌∙◌, subst, sym, ap, ◌<◌, IsTrue, length, slice_index_or, vec_len}
use Rattle.std.proofs.lemmas.Result.{IfOk-weaker}
use Rattle.txc_base_threads.proofs.Added.{some_of}
use Rattle.txc_table.proofs.Sends.{left_sends}
use Rattle.yalwythen_work.proofs.Sends.{job_sends}
use Rattle.yalwythen_work.specs.Plans.{PlansView}
use Rattle.yalwythen_work.specs.Ran.{IsOfAll}
use Rattle.yalwythen_work.specs.declared.setup.Setup.{Setup}
use Rattle.txc_table_seat.specs.Seated.{SeatCommits, no_commits}
use Rattle.txc_table.specs.Seat.{DepartedSeatView}
use Rattle.yalwythen_work.proofs.pool.work_all.Goals as goal

pub perform_all-requires-send-J : goal.perform_all-requires-send-J
perform_all-requires-send-J g c κs within =
    let job = λ (name : NamedLft). job_sends (param 1 g.row.K) g.K.Log c.type_bounds.send-K name (param 0 g.row.R)
    (param 2 g.row.W) (param 3 g.row.Q) (param 4 g.row.K-Receipts) g.K.Receipts.Receipts c.type_bounds.sync-R
    c.type_bounds.send-W c.type_bounds.send-Q c.type_bounds.send-K-Receipts in
    search (job, sendable) depth 20

pub perform_all-requires-send-L : goal.perform_all-requires-send-L
perform_all-requires-send-L g c κs within =
    let left = left_sends (param 1 g.row.K) g.K.Log c.type_bounds.send-K (param 4 g.row.K-Receipts)
    g.K.Receipts.Receipts c.type_bounds.send-K-Receipts in
    search sendable depth 20

pub perform_all-requires-clause-can : goal.perform_all-requires-clause-can
perform_all-requires-clause-can g c κs within = λ k j below.
    let here : k < vec_len c.args.workers = subst (λ n. k < n) c.make_jobs.ensures.len below in
    let seat : k < vec_len c.args.seats = subst (λ n. k < n) c.requires.workers here in
    let s = some_of c.args.seats.items k (subst (λ n. k < n) c.args.seats.ok.0 seat) in
    let w = some_of c.args.workers.items k (subst (λ n. k < n) c.args.workers.ok.0 here) in
    let is = c.make_jobs.ensures.each k j s w below in
    let fresh = c.requires.fresh k s seat in (
      slice_index_or c.args.seats.items k s,
      slice_index_or c.args.workers.items k w,
      is.0,
      is.1,
      fresh ∙ ap no_commits (sym (ap (λ (x : SeatCommits). x.number) fresh)),
    )

pub returns-clause-len : goal.returns-clause-len
returns-clause-len g c =
    let all = c.in_ok-served.ensures.came in
    let many : vec_len c.in_ok-served.served ≡ vec_len c.args.workers = c.in_ok-served.served.ok.0 ∙ all.many
    ∙ sym c.make_jobs.new.jobs.ok.0 ∙ c.make_jobs.ensures.len in
    IfOk-weaker c.unzip_results.result _ _ (λ results is. subst (λ n. IsOfAll n results) many is)
    c.unzip_results.ensures.len

pub returns-clause-numbered : goal.returns-clause-numbered
returns-clause-numbered g c = IfOk-weaker c.unzip_results.result _ _ (λ results sorted k l below.
    let jobs = c.make_jobs.new.jobs in
    let served = c.in_ok-served.served in
    let all = c.in_ok-served.ensures.came in
    let here : k < vec_len jobs = subst (λ n. k < n) (sym c.make_jobs.ensures.len) below in
    let sent : k < length jobs.items = subst (λ n. k < n) jobs.ok.0 here in
    let came : k < length served.items = subst (λ n. k < n) (sym all.many) sent in
    let seat : k < vec_len c.args.seats = subst (λ n. k < n) c.requires.workers below in
    let j = some_of jobs.items k sent in
    let d = some_of served.items k came in
    let s = some_of c.args.seats.items k (subst (λ n. k < n) c.args.seats.ok.0 seat) in
    let w = some_of c.args.workers.items k (subst (λ n. k < n) c.args.workers.ok.0 below) in
    let is = c.make_jobs.ensures.each k j s w here in
    let does = all.each k j d sent (slice_index_or c.args.seats.items k s) (slice_index_or c.args.workers.items k w)
    is.0 is.1 in
    let at = sorted k d l w (slice_index_or served.items k d).plans (slice_index_or served.items k d).end (subst (λ n. k < n) (sym served.ok.0) came) in
    ap (λ (x : DepartedSeatView). x.commits.number) at.0 ∙ does.0.number
    ∙ ap (λ (x : SeatCommits). x.number) (c.requires.fresh k s seat)) c.unzip_results.ensures.each

pub returns-clause-of : goal.returns-clause-of
returns-clause-of g c = IfOk-weaker c.unzip_results.result _ _ (λ results sorted k l below.
    let jobs = c.make_jobs.new.jobs in
    let served = c.in_ok-served.served in
    let all = c.in_ok-served.ensures.came in
    let here : k < vec_len jobs = subst (λ n. k < n) (sym c.make_jobs.ensures.len) below in
    let sent : k < length jobs.items = subst (λ n. k < n) jobs.ok.0 here in
    let came : k < length served.items = subst (λ n. k < n) (sym all.many) sent in
    let seat : k < vec_len c.args.seats = subst (λ n. k < n) c.requires.workers below in
    let j = some_of jobs.items k sent in
    let d = some_of served.items k came in
    let s = some_of c.args.seats.items k (subst (λ n. k < n) c.args.seats.ok.0 seat) in
    let w = some_of c.args.workers.items k (subst (λ n. k < n) c.args.workers.ok.0 below) in
    let is = c.make_jobs.ensures.each k j s w here in
    let does = all.each k j d sent (slice_index_or c.args.seats.items k s) (slice_index_or c.args.workers.items k w)
    is.0 is.1 in
    let at = sorted k d l w (slice_index_or served.items k d).plans (slice_index_or served.items k d).end (subst (λ n. k < n) (sym served.ok.0) came) in
    ap (λ (x : DepartedSeatView). x.lines) at.0 ∙ does.0.lines ∙ c.requires.of k s seat) c.unzip_results.ensures.each

pub returns-clause-noted : goal.returns-clause-noted
returns-clause-noted g c = IfOk-weaker c.unzip_results.result _ _ (λ results sorted audited k l p below.
    let jobs = c.make_jobs.new.jobs in
    let served = c.in_ok-served.served in
    let all = c.in_ok-served.ensures.came in
    let here : k < vec_len jobs = subst (λ n. k < n) (sym c.make_jobs.ensures.len) below in
    let sent : k < length jobs.items = subst (λ n. k < n) jobs.ok.0 here in
    let came : k < length served.items = subst (λ n. k < n) (sym all.many) sent in
    let seat : k < vec_len c.args.seats = subst (λ n. k < n) c.requires.workers below in
    let j = some_of jobs.items k sent in
    let d = some_of served.items k came in
    let s = some_of c.args.seats.items k (subst (λ n. k < n) c.args.seats.ok.0 seat) in
    let w = some_of c.args.workers.items k (subst (λ n. k < n) c.args.workers.ok.0 below) in
    let is = c.make_jobs.ensures.each k j s w here in
    let does = all.each k j d sent (slice_index_or c.args.seats.items k s) (slice_index_or c.args.workers.items k w)
    is.0 is.1 in
    let at = sorted k d l w p (slice_index_or served.items k d).end (subst (λ n. k < n) (sym served.ok.0) came) in
    ap (λ (b : PlansView). b.kept) at.2 ∙ does.0.noted (subst (λ (x : Setup). IsTrue x.audited) (sym is.2) audited)
    ∙ ap (λ (x : DepartedSeatView). x.commits.plans) (sym at.0)) c.unzip_results.ensures.each

pub returns-clause-came : goal.returns-clause-came
returns-clause-came g c = IfOk-weaker c.unzip_results.result _ _ (λ results sorted k b a e below.
    let jobs = c.make_jobs.new.jobs in
    let served = c.in_ok-served.served in
    let all = c.in_ok-served.ensures.came in
    let here : k < vec_len jobs = subst (λ n. k < n) (sym c.make_jobs.ensures.len) below in
    let sent : k < length jobs.items = subst (λ n. k < n) jobs.ok.0 here in
    let came : k < length served.items = subst (λ n. k < n) (sym all.many) sent in
    let seat : k < vec_len c.args.seats = subst (λ n. k < n) c.requires.workers below in
    let j = some_of jobs.items k sent in
    let d = some_of served.items k came in
    let s = some_of c.args.seats.items k (subst (λ n. k < n) c.args.seats.ok.0 seat) in
    let is = c.make_jobs.ensures.each k j s b here in
    let does = all.each k j d sent (slice_index_or c.args.seats.items k s) (slice_index_or c.args.workers.items k b)
    is.0 is.1 in
    let at = sorted k d (slice_index_or served.items k d).left a (slice_index_or served.items k d).plans
    e (subst (λ n. k < n) (sym served.ok.0) came) in
    subst (λ x. g.Q.Role.Postcondition (slice_index_or c.args.workers.items k b) x (slice_index_or results.ends.items k e))
    (sym at.1) (subst (λ x. g.Q.Role.Postcondition (slice_index_or c.args.workers.items k b)
    (slice_index_or served.items k d).worker x) (sym at.3) does.1))
    c.unzip_results.ensures.each
