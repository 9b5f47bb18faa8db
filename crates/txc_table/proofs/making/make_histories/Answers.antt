use Rattle.std.proofs.Common.{◌∙◌, ap, arith}
use Rattle.txc_table_seat.specs.Seated.{no_commits}
use Rattle.txc_table.proofs.Opening.{records_more}
use Rattle.txc_table.proofs.making.make_histories.Goals as goal

pub loop-number-preserved : goal.loop-number-preserved
loop-number-preserved g c =
    let more =
    records_more 0 c.args.channels c.loop-number.number c.loop-number.made.items c.push.new.self.items
    c.in_ok-new.field-0 c.loop-number.invariant.many c.loop-number.invariant.new c.in_ok-push.ensures.items
    (c.in_ok-new.ensures.commits ∙ ap no_commits (omega arith), c.in_ok-new.ensures.channels) in
    record { many = more.0; new = more.1 }
