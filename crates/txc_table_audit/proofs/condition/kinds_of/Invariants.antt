use Rattle.std.proofs.Common.{◌≡◌, length, take}
use Rattle.txc_base.specs.declared.limits.TheConstants.{MAX_CHANNELS_OF_LARGE}
use Rattle.txc_chan.specs.Decls.{kinds_in}
use Rattle.txc_table_audit.proofs.condition.kinds_of.Given as goal

abbrev pub invariant-loop-chan : goal.invariant-loop-chan
invariant-loop-chan l = record {
  room : length l.kinds ≡ MAX_CHANNELS_OF_LARGE;
  so_far : take l.chan l.kinds ≡ kinds_in (take l.chan l.decls);
}
