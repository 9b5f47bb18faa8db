use Rattle.std.proofs.Common.{ap, refl, true, map, ◌≡◌, ◌∙◌, string_bytes, subst, Result, Ok, Err, IfOk, IfErr}
use Rattle.std.proofs.Common.{MatchResult}
use Rattle.std.proofs.lemmas.Result.{IfOk-weaker}
use Rattle.clap.specs.Words.{App, app_of, is_simple_and_free, is_simple, fault_of, subcommand_of, FailsBy}
use Rattle.clap.proofs.OnLiterals.{clap_on_literals}
use Rattle.txc_cmd_io.specs.Words.{chanrun}
use Rattle.txc_cmd_io.proofs.words.find_matches.Goals as goal

is_free : is_simple_and_free chanrun ≡ true
unfolding clap_on_literals
is_free = refl

is_plain : is_simple chanrun ≡ true
unfolding clap_on_literals
is_plain = refl

when_ok : {T E : Type 0} (r : Result T E) (P : T → Type 0) (Q : E → Type 0) → MatchResult r P Q → IfOk r P
when_ok (Ok x) P Q h = h
when_ok (Err e) P Q h = tt

when_err : {T E : Type 0} (r : Result T E) (P : T → Type 0) (Q : E → Type 0) → MatchResult r P Q → IfErr r Q
when_err (Ok x) P Q h = tt
when_err (Err e) P Q h = h

IfOk-both : {T E : Type 0} (r : Result T E) (P Q : T → Type 0) → IfOk r P → IfOk r Q → IfOk r (λ x. P x × Q x)
IfOk-both (Ok x) P Q p q = (p, q)
IfOk-both (Err e) P Q p q = tt

pub returns : goal.returns
returns c =
    let app_is : app_of c.in_ok-command_line.field-0 ≡ chanrun = c.in_ok-command_line.ensures in
    let parse = c.try_get_matches_from in
    let words = map string_bytes c.args.words.now in
    let kinds : FailsBy (fault_of chanrun words) parse.result =
    subst (λ (a : App). FailsBy (fault_of a words) parse.result) app_is
    (parse.ensures.kinds (ap is_simple_and_free app_is ∙ is_free)) in
    record {
      ok = IfOk-both parse.result _ _ (when_ok parse.result _ _ kinds)
          (IfOk-weaker parse.result _ _ (λ m h. (h (ap is_simple app_is ∙ is_plain)).1
          ∙ ap (λ a. subcommand_of a words) app_is) parse.ensures.matches);
      err = when_err parse.result _ _ kinds;
    }
