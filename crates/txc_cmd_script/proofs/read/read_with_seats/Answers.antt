use Rattle.std.proofs.Common.{sym, ◌∙◌, ap, Vec, Global, map}
use Rattle.std.proofs.lemmas.List.{length-map}
use Rattle.std.proofs.lemmas.Result.{err_from_is_err_and}
use Rattle.txc_txn_check.specs.declared.checked.Checked.{Checked}
use Rattle.txc_chan.specs.Decls.{kinds_in}
use Rattle.txc_cmd_script.proofs.ScriptLemmas.{with_seats-ok, with_seats-err, sound}
use Rattle.txc_cmd_script.proofs.read.read_with_seats.Goals as goal

pub returns-in_err-seats-clause-err : goal.returns-in_err-seats-clause-err
returns-in_err-seats-clause-err c =
    let p = err_from_is_err_and c.from_residual-in_err-seats.result c.from_residual-in_err-seats.ensures.1 in
    let kinds = c.as_slice-2.ensures.value ∙ c.in_ok-kinds.ensures ∙ ap kinds_in c.as_slice.ensures.value in
    rw (p.1, p.2) (λ given. with_seats-err c.args.seats.now c.args.decls.items c.as_slice-2.result.now _
    (sym c.if-is_empty.ensures) c.if-seats-gt-MAX_SEATS.false kinds
    (c.in_err-seats.ensures.err given))

pub invariant_of-result : goal.invariant_of-result
invariant_of-result c =
    let items = λ (plans : Vec Checked Global). plans.items in
    let kinds = c.as_slice-2.ensures.value ∙ c.in_ok-kinds.ensures ∙ ap kinds_in c.as_slice.ensures.value in
    sound c.args.decls.items c.as_slice-2.result.now (map items c.in_ok-seats.seats.items) _ c.requires.few
    c.requires.made (sym c.if-is_empty.ensures) c.if-seats-gt-MAX_SEATS.false
    (length-map c.in_ok-seats.seats.items items ∙ c.in_ok-seats.ensures.all) kinds c.in_ok-seats.ensures.fits

pub returns-clause-ok : goal.returns-clause-ok
returns-clause-ok c =
    let items = λ (plans : Vec Checked Global). plans.items in
    let kinds = c.as_slice-2.ensures.value ∙ c.in_ok-kinds.ensures ∙ ap kinds_in c.as_slice.ensures.value in
    with_seats-ok c.args.seats.now c.args.decls.items c.as_slice-2.result.now (map items c.in_ok-seats.seats.items)
    (sym c.if-is_empty.ensures) c.if-seats-gt-MAX_SEATS.false kinds
    c.in_ok-seats.ensures.ok
