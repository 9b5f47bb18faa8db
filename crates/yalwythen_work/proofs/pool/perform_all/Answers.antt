use Rattle.std.proofs.lemmas.Result.{IfOk-weaker}
use Rattle.yalwythen_work.proofs.Outputs.{came_ok}
use Rattle.yalwythen_work.proofs.pool.perform_all.Goals as goal

pub returns : goal.returns
returns g c = record {
  came = IfOk-weaker c.collect_outputs.result _ _ (λ all same.
      came_ok g.J.Task.Does c.args.jobs.items c.in_ok-outputs.outputs.items all.items same
      c.in_ok-outputs.ensures.came) c.collect_outputs.ensures;
}
