use Rattle.std.proofs.Common.{◌∙◌, ◌+◌, refl, subst, ap, arith, List, length}
use Rattle.std.proofs.lemmas.List.{length_push}
use Rattle.txc_chan.specs.Chan.{account_of, without_log}
use Rattle.txc_table_line.specs.LineChan.{LineChanView}
use Rattle.txc_table_lines.proofs.Accounting.{logged_more, logged_none}
use Rattle.txc_table_lines.specs.Accounted.{IsSnapshotAt}
use Rattle.txc_table_lines.specs.Locked.{line_decls_of, helds_of}
use Rattle.txc_table_lines.proofs.accounts.LockedLines+FullLog.accounts_without_logs.Goals as goal

pub loop-at-init : goal.loop-at-init
loop-at-init c = record {
  room = omega (arith, c.in_ok-accounts.ensures.capacity, c.len.ensures.value);
  many = ap length c.in_ok-accounts.ensures.items;
  made = logged_none (line_decls_of c.args.self.now) (helds_of c.args.self.now) c.in_ok-accounts.accounts.items
      c.in_ok-accounts.ensures.items;
  same = refl;
}

pub loop-at-preserved : goal.loop-at-preserved
loop-at-preserved c = record {
  room = omega (arith, c.push_reserved.ensures.capacity, c.loop-at.invariant.room);
  many = ap length c.push_reserved.ensures.items ∙ length_push c.loop-at.accounts.items c.in_ok-take_snapshot.field-0
      ∙ ap (λ n. n + 1) c.loop-at.invariant.many;
  made = logged_more (line_decls_of c.args.self.now) (helds_of c.args.self.now) c.loop-at.at c.loop-at.accounts.items
      c.push_reserved.new.self.items c.in_ok-take_snapshot.field-0 c.loop-at.invariant.many c.loop-at.invariant.made
      c.push_reserved.ensures.items
      (subst (λ (now : List LineChanView). IsSnapshotAt (λ held. without_log (account_of held)) (line_decls_of now)
      (helds_of now) c.loop-at.at c.in_ok-take_snapshot.field-0) c.loop-at.invariant.same
      c.in_ok-take_snapshot.ensures.ok);
  same = c.take_snapshot.ensures.same ∙ c.loop-at.invariant.same;
}
