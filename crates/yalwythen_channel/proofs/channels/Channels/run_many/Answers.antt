use Rattle.std.proofs.Common.{refl, ◌∙◌, ap, subst, List}
use Rattle.txc_base.specs.declared.kind.Kind.{Kind}
use Rattle.txc_txn.specs.Opening.{HasKinds}
use Rattle.txc_txn.specs.Plain.{chan_in}
use Rattle.yalwythen_channel.specs.Channels.{TxnChannels}
use Rattle.yalwythen_channel.proofs.Endings.{comes_so}
use Rattle.yalwythen_channel.proofs.channels.Channels.run_many.Goals as goal

pub returns-clause-comes : goal.returns-clause-comes
returns-clause-comes g c = comes_so c.as_slice.result.now c.args.self.now.kinds c.args.tag c.args.steps.items
    c.run_on.result c.run_on.result (chan_in c.self.inside.plain) (chan_in c.args.self.now.held)
    (chan_in c.run_on.new.plain) (chan_in c.run_on.new.plain)
    (c.as_slice.ensures.value ∙ ap (λ (x : TxnChannels). x.kinds) c.self.view_is) refl
    (ap (λ (x : TxnChannels). chan_in x.held) c.self.view_is) refl c.run_on.ensures.comes

pub invariant_of-self : goal.invariant_of-self
invariant_of-self g c = record {
  known = subst (λ (kinds : List Kind). HasKinds c.run_on.new.plain kinds) c.as_slice.ensures.value
      c.run_on.ensures.kinds;
  as_many = c.run_on.ensures.length ∙ c.self.invariant.as_many;
  touched = λ n t. c.run_on.ensures.held n (c.self.invariant.touched n t);
  marks = c.self.invariant.marks;
}
