use Rattle.std.proofs.Common.{rules, ◌≡◌, ◌++◌, ◌∷◌, [], Some, ◌∙◌, ap, sym, map}
use Rattle.std.proofs.lemmas.List.{map-append}
use Rattle.yalwythen_channel.specs.RawSteps.{step_of}
use Rattle.yalwythen_channel.specs.Written.{One, read_so_far}
use Rattle.yalwythen_channel.proofs.RawSteps.{numbered, one_step_more, single}
use Rattle.yalwythen_channel.proofs.raw_steps.Reading.read.Goals as goal

pub returns-in_ok-push-in_default-clause-tokens : goal.returns-in_ok-push-in_default-clause-tokens
returns-in_ok-push-in_default-clause-tokens c =
    let nested = c.args.self.now.nested.items in let steps = c.args.self.now.steps.items in
    let raw_step = c.args.raw_step.now in let step = c.in-Some.step in let before = read_so_far nested steps in
    let pushed : c.push.new.self.items ≡ steps ++ step ∷ [] = search rules in
    let at : step_of raw_step ≡ Some step = sym c.step_numbered.ensures ∙ c.in-Some.is in
    ap (λ xs. map Some (read_so_far nested xs)) pushed
    ∙ ap (λ (tokens : _). map Some tokens) (one_step_more nested steps step
    ∙ ap (λ tokens. before ++ tokens) (single raw_step.chan raw_step.reader raw_step.body raw_step.number step at))
    ∙ map-append Some before (One step ∷ [])
    ∙ ap (λ token. map Some before ++ token ∷ []) (sym (numbered raw_step step at))
