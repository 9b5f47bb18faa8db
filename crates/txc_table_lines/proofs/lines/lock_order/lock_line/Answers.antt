use Rattle.std.proofs.Common.{rules, ◌≡◌}
use Rattle.txc_table_lines.proofs.Sharing.{same_lock}
use Rattle.txc_table_lines.proofs.lines.lock_order.lock_line.Goals as goal

pub take-requires : goal.take-requires
take-requires g c =
    let at : c.from-number.result ≡ c.args.number = search rules in
    same_lock (λ lock. lock.label.value.line) _ _ _ _ _ _ _ _ c.shares.view_is c.lines.view_is c.requires.of at
    c.requires.there c.index_mut-share.ensures.value c.index.ensures
