use Rattle.std.proofs.Common.{Some, arith}
use Rattle.txc_table_lines.proofs.Unlocking.{one_clean, one_locked, one_longer, one_there}
use Rattle.txc_table_lines.proofs.lines.Lines.lock_all.Goals as goal

pub loop-lock-preserved : goal.loop-lock-preserved
loop-lock-preserved g c =
    let inv = c.loop-lock.invariant in
    let less = one_longer c.pop.new.self.items c.loop-lock.locks.items c.in-Some.lock c.in-Some.ensures.items in
    let more = one_longer c.loop-lock.lines.items c.push_reserved.new.self.items (Some c.new.result)
    c.push_reserved.ensures.items in
    record {
      lines = one_locked (λ lock. lock.label.value.line) c.loop-lock.locks.items c.pop.new.self.items c.in-Some.lock
          c.loop-lock.lines.items c.push_reserved.new.self.items c.new.result c.args.self inv.lines
          c.in-Some.ensures.items
          c.push_reserved.ensures.items c.new.ensures.line;
      there = one_there c.loop-lock.lines.items c.push_reserved.new.self.items c.new.result inv.there
          c.push_reserved.ensures.items;
      clean = one_clean c.loop-lock.lines.items c.push_reserved.new.self.items c.new.result inv.clean
          c.push_reserved.ensures.items
          c.new.ensures.clean;
      enough = omega (arith, inv.enough, c.push_reserved.ensures.capacity, less, more);
      room = omega (arith, inv.room, c.in-Some.ensures.capacity, less, more);
    }
