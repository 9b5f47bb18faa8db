use Rattle.std.proofs.Common.{◌≡◌, ◌+◌, ◌++◌, ◌∷◌, [], ◌<◌, List, sym, ◌∙◌, ap, drop, length, take, get_or, arith}
use Rattle.std.proofs.lemmas.List.{take_more, take_more_set, get_or-drop, length-drop, length-set}
use Rattle.std.proofs.lemmas.Option.{get_or_from_slice_get}
use Rattle.yalwythen_domain.specs.declared.account.Record.{Record}
use Rattle.yalwythen_domain.specs.Accounts.{account_records}
use Rattle.yalwythen_domain.proofs.account.copy_records.Goals as goal

pub loop-place-preserved : goal.loop-place-preserved
loop-place-preserved c =
    let records : List Record = account_records c.args.account.now in
    let rest : List Record = drop c.args.from records in
    let place = c.loop-place.place in
    let found = c.in-Some.found in
    let within : place < length rest =
    omega (
      arith,
      c.loop-place-test.true,
      c.min-count.ensures,
      c.saturating_sub.ensures,
      c.count-total.ensures,
      length-drop c.args.from records,
    ) in
    let there : place < length c.loop-place.out =
    omega (arith, c.loop-place-test.true, c.min-count.ensures, c.loop-place.invariant.length) in
    let here : get_or rest place found ≡ found =
    get_or-drop c.args.from records place found
    ∙ get_or_from_slice_get records (c.args.from + place) found found (sym c.record_at.ensures ∙ c.in-Some.is) in
    record {
      so_far = take_more_set c.loop-place.out place found there
          ∙ ap (λ (xs : List Record). xs ++ found ∷ []) c.loop-place.invariant.so_far
          ∙ ap (λ (x : Record). take place rest ++ x ∷ []) (sym here)
          ∙ sym (take_more rest place found within);
      length = length-set c.loop-place.out place found ∙ c.loop-place.invariant.length;
    }
