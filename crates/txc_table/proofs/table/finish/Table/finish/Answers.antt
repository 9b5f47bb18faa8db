use Rattle.std.proofs.Common.{refl}
use Rattle.txc_table.proofs.Reporting.{are_back}
use Rattle.txc_table.proofs.table.finish.Table.finish.Goals as goal

pub into_idle-requires : goal.into_idle-requires
into_idle-requires g c =
    are_back _ c.args.self _ _ c.seats.ensures c.as_slice.ensures.value (c.if-is_missing.ensures.no refl) c.requires.of
