-- The end of a table that all its seats have left.
use Rattle.std.proofs.Common.{◌≡◌, ◌∙◌, sym, ap, subst, List, All, length, map, slice_get}
use Rattle.std.proofs.lemmas.List.{length-map}
use Rattle.txc_base.specs.declared.kind.Kind.{Kind}
use Rattle.txc_chan.specs.declared.decl.Decl.{Decl}
use Rattle.txc_chan.specs.Decls.{kinds_in}
use Rattle.txc_txn_check.specs.Limits.{CheckedView}
use Rattle.txc_txn_check.specs.Steps.{Fits}
use Rattle.txc_txn.specs.declared.report.Report.{Report}
use Rattle.txc_table_report.specs.Sorted.{AreTakenOnce}
use Rattle.txc_cmd_report.specs.declared.outcome.Outcome.{Outcome}
use Rattle.txc_table_lines.specs.Accounted.{AreAccounts}
use Rattle.txc_table.specs.Built.{IsBuilt}
use Rattle.txc_table.specs.Finished.{IsOneHistory}
use Rattle.txc_table.specs.Seat.{SeatView, commits_of}
use Rattle.txc_table.specs.Table.{TableView}
use Rattle.txc_table.proofs.Left.{reports}
use Rattle.txc_cmd_threads.specs.Closed.{IsClosed}
use Rattle.txc_cmd_threads.specs.Ran.{IsRan}
use Rattle.txc_cmd_threads.specs.Pool.{HaveServed}
use Rattle.txc_cmd_threads.proofs.Back.{all_served}
use Rattle.txc_cmd_threads.proofs.History.{script_history}

-- what the end of a table made for these channels tells of its seats
pub ran : (table : TableView) (decls : List Decl) (made : List SeatView) (plans : List (List CheckedView))
    (outcome : Outcome) → IsBuilt decls (length plans) table made → IsClosed table plans outcome
    → IsRan decls plans outcome
ran table decls made plans outcome built closed =
    let report : Report = outcome.report in
    let many_kinds : length table.kinds ≡ length decls = ap length built.its_kinds
    ∙ length-map decls (λ decl. decl.kind) in
    let back : HaveServed decls plans closed.left outcome.ends =
    subst (λ (ds : List Decl). HaveServed ds plans closed.left outcome.ends) built.its_lines closed.back in
    let is_report = reports table decls (length plans) made closed.left report built closed.finished.its_report in
    record {
      left = closed.left;
      report = is_report;
      gathered = closed.finished.gathered;
      summed = closed.finished.summed;
      once = subst (λ (ds : List Decl). AreTakenOnce ds report) built.its_lines closed.finished.once;
      served = all_served decls plans closed.left report.receipts outcome.ends closed.many is_report.seated back
          is_report.theirs;
      complete = record { each = closed.counted ∙ sym is_report.seated; known = closed.known };
      history = script_history decls plans closed.left outcome.ends report (sym is_report.seated) closed.many back
          is_report.theirs (subst (λ (ds : List Decl). IsOneHistory ds (commits_of closed.left) report)
          built.its_lines closed.finished.history);
      stuck = record {
        helds = closed.helds;
        accounts = subst (λ n. AreAccounts decls closed.helds n report.accounts) many_kinds
            (subst (λ (ds : List Decl). AreAccounts ds closed.helds (length table.kinds) report.accounts)
            built.its_lines closed.accounts);
        back = back;
        stuck = closed.stuck;
      };
    }

-- the transactions of a script fit its table, made of its channels
pub plans_fit : (kinds : List Kind) (decls decls' : List Decl) (seats seats' : List (List CheckedView))
    → kinds ≡ map (λ decl. decl.kind) decls' → decls' ≡ decls → seats' ≡ seats
    → All (All (λ plan. Fits (slice_get (kinds_in decls)) plan.steps)) seats
    → All (All (λ plan. Fits (slice_get kinds) plan.steps)) seats'
plans_fit kinds decls decls' seats seats' its_kinds its_decls its_seats fits =
    let same : kinds ≡ kinds_in decls = its_kinds ∙ ap kinds_in its_decls in
    subst (λ (ss : List (List CheckedView)). All (All (λ plan. Fits (slice_get kinds) plan.steps)) ss) (sym its_seats)
    (subst (λ (ks : List Kind). All (All (λ plan. Fits (slice_get ks) plan.steps)) seats) (sym same) fits)

-- what is run of the lists that a script lends is run of the script
pub ran_script : (decls decls' : List Decl) (seats seats' : List (List CheckedView)) (outcome : Outcome)
    → decls' ≡ decls
    → seats' ≡ seats → IsRan decls' seats' outcome → IsRan decls seats outcome
ran_script decls decls' seats seats' outcome its_decls its_seats ran =
    subst (λ (ss : List (List CheckedView)). IsRan decls ss outcome) its_seats
    (subst (λ (ds : List Decl). IsRan ds seats' outcome) its_decls ran)
