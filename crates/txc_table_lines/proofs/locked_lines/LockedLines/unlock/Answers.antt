use Rattle.std.proofs.Common.{ap, arith, length, rules}
use Rattle.std.proofs.lemmas.List.{length-reverse}
use Rattle.txc_table_lines.specs.Locked.{IsLineThere}
use Rattle.txc_table_lines.proofs.Locking.{all_long}
use Rattle.txc_table_lines.proofs.Unlocking.{all_front, all_reverse, none_unlocked, one_longer, one_unlocked}
use Rattle.txc_table_lines.proofs.locked_lines.LockedLines.unlock.Goals as goal

pub loop-line-init : goal.loop-line-init
loop-line-init g c =
    let items = c.self.inside.lines.items in
    let back = c.reverse.ensures.items in
    let long = length-reverse items in
    record {
      lines = none_unlocked (λ lock. lock.label.value.line) _ items _ c.args.self c.self.invariant.1 back
          c.self.view_is;
      there = all_reverse IsLineThere items _ back c.self.invariant.0;
      room = omega (arith, ap length c.self.invariant.1, ap length back, long, c.self.invariant.2);
      enough = search (rules, all_long items c.args.self c.self.view_is, c.reverse.ensures.capacity);
    }

pub loop-line-preserved : goal.loop-line-preserved
loop-line-preserved g c =
    let inv = c.loop-line.invariant in
    let less = one_longer c.pop.new.self.items c.loop-line.lines.items c.in-Some.line c.in-Some.ensures.items in
    let more = one_longer c.loop-line.locks.items c.push_reserved.new.self.items c.into_lock.result
    c.push_reserved.ensures.items in
    record {
      lines = one_unlocked (λ lock. lock.label.value.line) c.loop-line.locks.items c.push_reserved.new.self.items
          c.into_lock.result c.loop-line.lines.items c.pop.new.self.items c.in-Some-line.line _ inv.lines
          (rw c.in-Some-line.is at c.in-Some.ensures.items) c.push_reserved.ensures.items c.into_lock.ensures;
      there = all_front IsLineThere c.loop-line.lines.items c.pop.new.self.items c.in-Some.line c.in-Some.ensures.items
          inv.there;
      room = omega (arith, inv.room, c.push_reserved.ensures.capacity, less, more);
      enough = omega (arith, inv.enough, c.in-Some.ensures.capacity);
    }
