use Rattle.std.proofs.Common.{List, ℕ, subst}
use Rattle.std.proofs.lemmas.Option.{IfSome_then}
use Rattle.txc_base.specs.declared.kind.Kind.{Kind}
use Rattle.txc_table.specs.Seen.{IsBroadcastAt}
use Rattle.txc_table.proofs.table.Table.look.Goals as goal

pub returns-clause-broadcast : goal.returns-clause-broadcast
returns-clause-broadcast g c =
    let found : IsBroadcastAt c.kinds.result.now c.from-chan.result =
    c.is_broadcast_at.ensures c.if-not-is_broadcast_at.false in
    let there : IsBroadcastAt c.args.self.now.kinds c.from-chan.result =
    subst (λ (kinds : List Kind). IsBroadcastAt kinds c.from-chan.result) c.kinds.ensures found in
    let broadcast : IsBroadcastAt c.args.self.now.kinds c.args.chan =
    subst (λ (n : ℕ). IsBroadcastAt c.args.self.now.kinds n) c.from-chan.ensures there in
    IfSome_then c.look.result c.look.ensures.slot (λ _ _. broadcast)
