use Rattle.std.proofs.Common.{take}
use Rattle.std.specs.Fmt.{HasWritten, IsPlainFormatter}
use Rattle.txc_base.specs.Text.{items_text}
use Rattle.txc_base.proofs.item.ItemsDisplay.fmt.Given as goal

abbrev pub invariant-loop-item : goal.invariant-loop-item
invariant-loop-item g l =
    IsPlainFormatter l.fn.f → HasWritten g.W.Write.write_str_gives l.fn.f (items_text (take l.item-index l.self.0.now))
    l.f
