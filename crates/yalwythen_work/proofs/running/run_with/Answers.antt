use Rattle.std.proofs.Common.{◌≡◌, ◌∙◌, List, length, subst, sym}
use Rattle.std.specs.Prelude.{vec_len}
use Rattle.txc_table.specs.Finished.{IsFinished}
use Rattle.txc_table.specs.Seat.{DepartedSeatView}
use Rattle.txc_table.specs.Table.{TableView}
use Rattle.yalwythen_work.proofs.Ending.{concluded, on_declared, serial}
use Rattle.yalwythen_work.proofs.running.run_with.Goals as goal

pub returns-in-Ok-finish-clause-ok : goal.returns-in-Ok-finish-clause-ok
returns-in-Ok-finish-clause-ok g c =
    let ended = c.in_ok-ended.ended in
    let built = c.in_ok-ended.ensures.built in
    let left = ended.results.left.items in
    let report = c.in-Ok-finish.report in
    let is : IsFinished ended.table left report =
    subst (λ (t : TableView). IsFinished t left report) c.in-Ok.ensures.table
    (subst (λ (ls : List DepartedSeatView). IsFinished c.in-Ok.idle.table ls report) c.in-Ok.ensures.left
    c.in-Ok-finish.ensures.finished) in
    concluded ended.table c.args.decls.now (vec_len c.args.workers) built.0 left report built.1 is

pub returns-in-Ok-finish-clause-serial : goal.returns-in-Ok-finish-clause-serial
returns-in-Ok-finish-clause-serial g c audited =
    let ended = c.in_ok-ended.ended in
    let built = c.in_ok-ended.ensures.built in
    let left = ended.results.left.items in
    let report = c.in-Ok-finish.report in
    let is : IsFinished ended.table left report =
    subst (λ (t : TableView). IsFinished t left report) c.in-Ok.ensures.table
    (subst (λ (ls : List DepartedSeatView). IsFinished c.in-Ok.idle.table ls report) c.in-Ok.ensures.left
    c.in-Ok-finish.ensures.finished) in
    let seats = vec_len c.args.workers in
    let all : length left ≡ seats = sym ended.results.left.ok.0 ∙ c.in_ok-ended.ensures.len.0 in
    let lists : length ended.results.plans.items ≡ seats = sym ended.results.plans.ok.0
    ∙ c.in_ok-ended.ensures.len.3 in
    serial c.args.decls.now seats left ended.results.plans.items report
    (on_declared ended.table c.args.decls.now seats built.0 left report built.1 is)
    (is.its_report.seated ∙ built.1.its_seats) all lists c.in_ok-ended.ensures.numbered
    (c.in_ok-ended.ensures.noted audited)
