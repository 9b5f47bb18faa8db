use Rattle.std.proofs.Common.{◌≡◌, ◌∙◌, [], ◌∷◌, ◌++◌}
use Rattle.txc_cmd_explore.proofs.Searching.{search_begins}
use Rattle.txc_cmd_explore.proofs.orders.begin.Goals as goal

pub returns-clause-search : goal.returns-clause-search
returns-clause-search c =
    let none : c.from_vec.result ≡ [] = c.from_vec.ensures ∙ c.new.ensures.items in
    let one : c.push.new.self.items ≡ [] ∷ [] =
    c.in_ok-push.ensures.items ∙ ((λ i. c.new-waiting.ensures.items i ++ none i ∷ [])) in
    search_begins c.args.script.now c.in_ok-new.field-0.states.items c.push.new.self.items c.new-3.result.items
    c.in_ok-new.ensures.empty one c.new-3.ensures.items
