use Rattle.std.proofs.lemmas.Result.{IfOk-weaker}
use Rattle.txc_cmd_threads.proofs.pool.run_jobs.Goals as goal

pub returns-in-Ok-clause-back : goal.returns-in-Ok-clause-back
returns-in-Ok-clause-back g c = IfOk-weaker c.unzip_results.result _ _ (λ results unzipped.
    (c.in-Ok.served.items, c.in-Ok.ensures.came, unzipped)) c.unzip_results.ensures.unzipped
