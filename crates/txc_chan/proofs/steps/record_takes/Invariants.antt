use Rattle.std.proofs.Common.{◌≡◌, ℕ, ◌+◌, ◌-◌, ◌≤◌, ◌++◌, length, map, take}
use Rattle.txc_base.specs.declared.act.Act.TheVariants.{Took}
use Rattle.txc_base.specs.Log.{entries}
use Rattle.txc_chan.proofs.steps.record_takes.Given as goal

abbrev pub invariant-loop-item : goal.invariant-loop-item
invariant-loop-item g l = record {
  items : g.K.Log.entries l.log ≡ g.K.Log.entries l.initial.log ++ entries l.tag
      (map (Took 0) (take l.item-index l.items));
  count : g.K.Log.undoable l.log ≡ g.K.Log.undoable l.initial.log + l.item-index;
  room : (n : ℕ) → n ≤ length l.items - l.item-index → g.K.Log.HasRoom l.log n;
}
