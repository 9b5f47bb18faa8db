use Rattle.std.proofs.Common.{subst, ap, ◌≡◌, ◌∙◌, List, slice_get}
use Rattle.txc_base.specs.declared.kind.Kind.{Kind}
use Rattle.txc_table.specs.Table.{TableView}
use Rattle.txc_table_interests.specs.Interests.{interests_of}
use Rattle.txc_table.proofs.table.Table.transact_for.Goals as goal

pub try_until_kept-tried-requires-clause-interests : goal.try_until_kept-tried-requires-clause-interests
try_until_kept-tried-requires-clause-interests g c =
    subst (λ (kinds : List Kind). c.interests_of-interests.result.items
    ≡ interests_of (slice_get kinds) c.args.checked.now.declared c.args.checked.now.steps)
    (c.as_slice.ensures ∙ ap (λ (t : TableView). t.kinds) c.self.view_is)
    c.interests_of-interests.ensures
