use Rattle.std.proofs.Common.{rules, ◌≡◌, ◌∙◌, ap, length, ◌++◌, ◌∷◌, [], ℕ}
use Rattle.txc_chan.specs.Logged.{Logged}
use Rattle.txc_txn.specs.Plain.{chan_in}
use Rattle.yalwythen_domain.proofs.Sound.{one_more}
use Rattle.yalwythen_domain.proofs.channels.Channels.declare.Goals as goal

pub invariant_of-self-2 : goal.invariant_of-self-2
invariant_of-self-2 g c =
    let kinds : c.push_reserved.new.self.items ≡ c.self.inside.kinds.items ++ c.kind-kind.result ∷ [] = search rules in
    let number : c.len-number.result ≡ length c.self.inside.kinds.items = search rules in
    rw kinds
    (one_more c.self.inside.plain c.push.new.self c.self.inside.kinds.items c.kind-kind.result c.args.decl
    c.self.inside.txn c.self.invariant c.in_ok-push.ensures.ok c.in_ok-push.ensures.others
    (c.kind-kind.ensures ∙ ap (λ (l : Logged). l.decl.kind) c.chan.ensures
    ∙ ap (λ (n : ℕ). (chan_in c.push.new.self n).decl.kind) number))
