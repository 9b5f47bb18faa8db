use Rattle.std.proofs.Common.{List, length, rules, subst}
use Rattle.txc_chan.specs.declared.decl.Decl.{Decl}
use Rattle.txc_table_line.specs.LineChan.{LineChanView}
use Rattle.txc_table_lines.specs.Accounted.{AreAccounts, with_logs}
use Rattle.txc_table_lines.specs.Locked.{helds_of, lines_of}
use Rattle.txc_table.specs.Table.{line_decls}
use Rattle.txc_table.proofs.Reporting.{declared_in}
use Rattle.txc_table.proofs.closing.buffers_for.Goals as goal

pub returns-in-Ok-accounts_without_logs-clause-buffers : goal.returns-in-Ok-accounts_without_logs-clause-buffers
returns-in-Ok-accounts_without_logs-clause-buffers c =
    let channels : List LineChanView = c.empty_shares.new.self in
    record {
      accounts = subst (λ (cs : List LineChanView). AreAccounts (line_decls (lines_of cs)) (helds_of cs) (length cs)
          (with_logs c.in-Ok-accounts_without_logs.accounts.items (helds_of cs))) c.empty_shares.ensures.same
          (subst (λ (ds : List Decl). AreAccounts ds (helds_of channels) (length channels)
          (with_logs c.in-Ok-accounts_without_logs.accounts.items (helds_of channels))) (declared_in channels)
          c.in-Ok-accounts_without_logs.ensures.ok);
      shares = record {
        ledgers = c.in-Ok.ensures.ledgers;
        parts = c.in-Ok.ensures.parts;
        amounts = c.in-Ok.ensures.amounts;
        made = c.in-Ok.ensures.made;
      };
      no_histories = search rules;
      room_for_histories = search rules;
      no_receipts = search rules;
      room_for_receipts = search rules;
    }
