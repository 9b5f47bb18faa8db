use Rattle.std.proofs.Common.{◌≡◌, ◌∙◌, ◌++◌, ◌∷◌, [], ap, rules, subst, sym}
use Rattle.std.proofs.lemmas.List.{same_from_push}
use Rattle.txc_txn.specs.declared.open_savepoint.OpenSavepoint.{OpenSavepoint}
use Rattle.yalwythen_domain.specs.Channels.{DomainChannels}
use Rattle.yalwythen_domain.specs.Opened.{IsRolledBackTo}
use Rattle.yalwythen_domain.proofs.Going.{rolled_back}
use Rattle.yalwythen_domain.proofs.Sound.{still_sound}
use Rattle.yalwythen_domain.proofs.channels.Channels.roll_back_to_savepoint.Goals as goal

pub invariant_of-self : goal.invariant_of-self
invariant_of-self g c =
    still_sound c.self.inside.plain c.roll_back_to.new.hold c.self.inside.kinds.items c.self.inside.txn
    c.roll_back_to.new.self c.self.invariant c.roll_back_to.ensures.held c.roll_back_to.ensures.kinds
    (rw c.roll_back_to.ensures.rest.1 (λ n t. c.roll_back_to.ensures.held n (c.self.invariant.touched n t)))
    (rw (c.roll_back_to.ensures.rest.1, c.roll_back_to.ensures.rest.2) c.self.invariant.marks)

pub returns-in-Some-clause-back : goal.returns-in-Some-clause-back
returns-in-Some-clause-back g c savepoints savepoint is =
    let items : c.self.inside.savepoints.items ≡ c.pop.new.self.items ++ c.in-Some.savepoint ∷ [] = search rules in
    let same = same_from_push c.pop.new.self.items savepoints c.in-Some.savepoint savepoint
    (sym items ∙ ap (λ (x : DomainChannels). x.savepoints) c.self.view_is ∙ is) in
    let after : DomainChannels = record {
      held = c.roll_back_to.new.hold;
      kinds = c.self.inside.kinds.items;
      txn = c.roll_back_to.new.self;
      savepoints = c.pop.new.self.items;
    } in
    subst (λ (s : OpenSavepoint). IsRolledBackTo s c.args.self.now after) same.1
    (subst (λ (x : DomainChannels). IsRolledBackTo c.in-Some.savepoint x after) c.self.view_is
    (rolled_back c.in-Some.savepoint (record {
      held = c.self.inside.plain;
      kinds = c.self.inside.kinds.items;
      txn = c.self.inside.txn;
      savepoints = c.self.inside.savepoints.items;
    }) after c.roll_back_to.ensures.back c.roll_back_to.ensures.last c.roll_back_to.ensures.replies
    c.roll_back_to.ensures.deeds c.roll_back_to.ensures.rest))
