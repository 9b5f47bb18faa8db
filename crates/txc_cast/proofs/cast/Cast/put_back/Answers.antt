use Rattle.std.proofs.Common.{ap, ◌∙◌, arith}
use Rattle.std.specs.Arc.{arc_value}
use Rattle.txc_cast.specs.Reader.{with_front}
use Rattle.txc_cast.specs.Kept.{items_shown}
use Rattle.txc_cast.specs.Standing.{reader_standing}
use Rattle.txc_cast.proofs.Readers.{changed}
use Rattle.txc_cast.proofs.Refused.{no_memory, is_reader, is_no_reader, none_to_read, can_read}
use Rattle.txc_cast.proofs.cast.Cast.put_back.Goals as goal

pub returns-clause-ok : goal.returns-clause-ok
returns-clause-ok c =
    rw (← c.self.view_is)
    (changed _ c.self.inside.tokens.items c.self.inside.cursors.items c.args.reader c.index_mut.result.now _
    (with_front c.args.item) (omega arith) c.index_mut.ensures.value
    (ap (reader_standing (items_shown c.self.inside.tokens.items)) c.in_ok-put_back.ensures.ok))

pub returns-then-reader-len-clause-refused : goal.returns-then-reader-len-clause-refused
returns-then-reader-len-clause-refused c =
    let inside = c.self.inside in
    let many = c.len.ensures ∙ inside.cursors.ok.0 in
    let past = c.if-reader-len.true in
    none_to_read c.args.self.now c.args.reader
    (is_no_reader (arc_value inside.items) inside.tokens.items inside.cursors.items c.args.self.now c.args.reader
    c.self.view_is (omega (arith, many, past)))

pub index_mut-requires : goal.index_mut-requires
index_mut-requires c =
    let many = c.len.ensures in
    let within = c.if-reader-len.false in
    omega (arith, many, within)

pub returns-in_err-put_back-clause-refused : goal.returns-in_err-put_back-clause-refused
returns-in_err-put_back-clause-refused c =
    let inside = c.self.inside in
    let many = c.len.ensures ∙ inside.cursors.ok.0 in
    let within = c.if-reader-len.false in
    let is = c.from_residual.ensures in
    no_memory _ is.0 is.1 ∙ can_read c.args.self.now c.args.reader
    (is_reader (arc_value inside.items) inside.tokens.items inside.cursors.items c.args.self.now c.args.reader
    c.self.view_is (omega (arith, many, within)))

pub returns-clause-refused : goal.returns-clause-refused
returns-clause-refused c =
    let inside = c.self.inside in
    let many = c.len.ensures ∙ inside.cursors.ok.0 in
    let within = c.if-reader-len.false in
    can_read c.args.self.now c.args.reader
    (is_reader (arc_value inside.items) inside.tokens.items inside.cursors.items c.args.self.now c.args.reader
    c.self.view_is (omega (arith, many, within)))
