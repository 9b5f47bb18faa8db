use Rattle.std.proofs.Common.{◌∙◌, ap, arith, List, slice_index_or, slice_set}
use Rattle.txc_base.specs.declared.entry.Entry.{Entry}
use Rattle.txc_chan.specs.declared.account.Account.{Account}
use Rattle.txc_table_lines.proofs.Accounting.{log_past, log_set}
use Rattle.txc_table_lines.proofs.accounts.set_log.Goals as goal

pub returns-then-at-len : goal.returns-then-at-len
returns-then-at-len c =
    let accounts : List Account = c.args.accounts.now.items in
    let was : Account = c.index_mut.result.now in
    ap (λ (a : Account). slice_set accounts c.args.at (record a { log = c.from_vec.result })) c.index_mut.ensures.value
    ∙ ap (λ (log : List Entry). slice_set accounts c.args.at
    (record (slice_index_or accounts c.args.at was) { log = log })) c.from_vec.ensures
    ∙ log_set accounts c.args.at c.args.log.items was (omega (arith, c.len.ensures, c.if-at-len.true))

pub returns-else-at-len : goal.returns-else-at-len
returns-else-at-len c = log_past c.args.accounts.now.items c.args.at c.args.log.items
    (omega (arith, c.len.ensures, c.if-at-len.false))
