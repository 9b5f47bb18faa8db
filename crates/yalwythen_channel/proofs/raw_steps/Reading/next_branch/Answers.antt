use Rattle.std.proofs.Common.{rules, ◌≡◌, ◌++◌, ◌∷◌, [], ◌∙◌, ap, sym, refl}
use Rattle.yalwythen_channel.specs.declared.raw_steps.Alternatives.{Alternatives}
use Rattle.yalwythen_channel.specs.Written.{Next, read_so_far}
use Rattle.yalwythen_channel.proofs.RawSteps.{branch_ends}
use Rattle.yalwythen_channel.proofs.raw_steps.Reading.next_branch.Goals as goal

pub returns : goal.returns
returns c =
    let steps = c.args.self.now.steps.items in
    let ended : Alternatives = record { before = c.in-Some.alternatives.before; branches = c.push.new.self } in
    let nested : c.args.self.now.nested.items ≡ c.pop.new.self.items ++ c.in-Some.alternatives ∷ [] = search rules in
    let branches : c.push.new.self.items ≡ c.in-Some.alternatives.branches.items ++ steps ∷ [] = search rules in
    let read : c.push-2.new.self.items ≡ c.pop.new.self.items ++ ended ∷ [] = search rules in
    ap (λ all. read_so_far all c.take_steps-steps.new.self.steps.items) read
    ∙ ap (read_so_far (c.pop.new.self.items ++ ended ∷ [])) c.take_steps-steps.ensures.left.0
    ∙ branch_ends c.pop.new.self.items c.in-Some.alternatives ended steps refl branches
    ∙ ap (λ all. read_so_far all steps ++ Next ∷ []) (sym nested)
