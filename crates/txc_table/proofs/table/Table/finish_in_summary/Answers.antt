use Rattle.std.proofs.Common.{refl, rules}
use Rattle.txc_table.proofs.Reporting.{all_back, are_back, not_missing}
use Rattle.txc_table.proofs.table.Table.finish_in_summary.Goals as goal

pub into_summaries-requires : goal.into_summaries-requires
into_summaries-requires g c = are_back _ c.args.self _ _ c.seats.ensures c.as_slice.ensures.value
    (c.if-is_missing.ensures.no refl)
    c.requires.of

pub returns-in-Ok-clause-missing : goal.returns-in-Ok-clause-missing
returns-in-Ok-clause-missing g c =
    not_missing _ c.args.self _ _ c.seats.ensures c.as_slice.ensures.value (c.if-is_missing.ensures.no refl)

pub returns-in-Err-clause-missing : goal.returns-in-Err-clause-missing
returns-in-Err-clause-missing g c =
    not_missing _ c.args.self _ _ c.seats.ensures c.as_slice.ensures.value (c.if-is_missing.ensures.no refl)

pub returns-in-Err-clause-refused : goal.returns-in-Err-clause-refused
returns-in-Err-clause-refused g c =
    let back = all_back _ c.args.self _ _ c.seats.ensures c.as_slice.ensures.value (c.if-is_missing.ensures.no refl) in
    (search rules, search rules, back)
