use Rattle.std.proofs.Common.{◌∙◌, ap}
use Rattle.yalwythen_channel.specs.Channels.{TxnChannels}
use Rattle.yalwythen_channel.proofs.JoiningChannels.{one_less, one_less_sound}
use Rattle.yalwythen_channel.proofs.channels.Channels.release.Goals as goal

pub invariant_of-self : goal.invariant_of-self
invariant_of-self g c = one_less_sound c.self.inside.plain c.pop.new.self c.pop.result c.self.inside.kinds.items
    c.pop-kind.new.self.items _ c.self.inside.txn c.self.invariant
    (ap (λ (x : TxnChannels). x.txn.touched.items) c.self.view_is ∙ c.requires.untouched) c.self.inside.kinds.ok.0
    c.pop-kind.ensures.rest c.pop.ensures.some
    c.pop.ensures.none

pub returns-clause-as_many : goal.returns-clause-as_many
returns-clause-as_many g c = one_less c.self.inside.plain c.pop.new.self c.pop.result c.self.inside.kinds.items
    c.pop-kind.new.self.items _ c.self.invariant.as_many c.self.inside.kinds.ok.0 c.pop-kind.ensures.rest
    c.pop.ensures.some c.pop.ensures.none
