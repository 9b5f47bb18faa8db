use Rattle.std.proofs.Common.{rules, ◌≡◌, ◌++◌, ◌∷◌, [], ◌∙◌, ap}
use Rattle.yalwythen_channel.specs.declared.raw_steps.Alternatives.{Alternatives}
use Rattle.yalwythen_channel.specs.Written.{read_so_far}
use Rattle.yalwythen_channel.proofs.RawSteps.{alternatives_begin}
use Rattle.yalwythen_channel.proofs.raw_steps.Reading.begin.Goals as goal

pub returns : goal.returns
returns c =
    let nested = c.args.self.now.nested.items in
    let last : Alternatives = record { before = c.take_steps-before.result; branches = c.new-branches.result } in
    let read : c.push.new.self.items ≡ nested ++ last ∷ [] = search rules in
    ap (λ all. read_so_far all c.take_steps-before.new.self.steps.items) read
    ∙ ap (read_so_far (nested ++ last ∷ [])) c.take_steps-before.ensures.left.0
    ∙ alternatives_begin nested last c.args.self.now.steps.items c.take_steps-before.ensures.taken
    c.new-branches.ensures.items
