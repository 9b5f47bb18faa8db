use Rattle.std.proofs.Common.{rules, ◌≡◌, ◌++◌, ◌∷◌, [], ◌∙◌, ap, sym}
use Rattle.txc_txn_check.specs.declared.step.Step.TheVariants.{Or}
use Rattle.yalwythen_channel.specs.Written.{End, read_so_far}
use Rattle.yalwythen_channel.proofs.RawSteps.{alternatives_end}
use Rattle.yalwythen_channel.proofs.raw_steps.Reading.end.Goals as goal

pub returns : goal.returns
returns c =
    let steps = c.args.self.now.steps.items in
    let nested : c.args.self.now.nested.items ≡ c.pop.new.self.items ++ c.in-Some.alternatives ∷ [] = search rules in
    let branches : c.from_vec-2.result ≡ c.in-Some.alternatives.branches.items ++ steps ∷ [] = search rules in
    let read : c.push-2.new.self.items ≡ c.in-Some.alternatives.before.items ++ Or c.from_vec-2.result ∷ [] =
    search rules in
    ap (read_so_far c.pop.new.self.items) read
    ∙ alternatives_end c.pop.new.self.items c.in-Some.alternatives c.from_vec-2.result steps branches
    ∙ ap (λ all. read_so_far all steps ++ End ∷ []) (sym nested)
