use Rattle.std.proofs.Common.{refl, ◌∙◌, ap, subst, List}
use Rattle.txc_base.specs.declared.kind.Kind.{Kind}
use Rattle.txc_txn.specs.Opening.{HasKinds}
use Rattle.txc_txn.specs.Plain.{chan_in}
use Rattle.yalwythen_domain.specs.Channels.{DomainChannels}
use Rattle.yalwythen_domain.proofs.Coming.{comes_so}
use Rattle.yalwythen_domain.proofs.channels.Channels.run_many.Goals as goal

pub returns-clause-comes : goal.returns-clause-comes
returns-clause-comes g c = comes_so c.as_slice.result.now c.args.self.now.kinds c.args.tag c.args.steps.items
    c.run_on.result c.run_on.result (chan_in c.self.inside.plain) (chan_in c.args.self.now.held)
    (chan_in c.run_on.new.plain) (chan_in c.run_on.new.plain)
    (c.as_slice.ensures.value ∙ ap (λ (x : DomainChannels). x.kinds) c.self.view_is) refl
    (ap (λ (x : DomainChannels). chan_in x.held) c.self.view_is) refl c.run_on.ensures.comes

pub invariant_of-self : goal.invariant_of-self
invariant_of-self g c = record {
  known = subst (λ (kinds : List Kind). HasKinds c.run_on.new.plain kinds) c.as_slice.ensures.value
      c.run_on.ensures.kinds;
  touched = λ n t. c.run_on.ensures.held n (c.self.invariant.touched n t);
  marks = c.self.invariant.marks;
}
