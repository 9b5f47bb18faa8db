use Rattle.std.proofs.Common.{sym, subst, map, string_bytes, Result, Some, None, IfOk, IfErr, ◌≡◌}
use Rattle.txc_cmd_io.specs.declared.words.Action.{Action}
use Rattle.txc_cmd_io.specs.declared.words.ArgsFault.{ArgsFault}
use Rattle.txc_cmd_io.specs.declared.words.ArgsFault.TheVariants.{Usage}
use Rattle.txc_cmd_io.specs.Words.{action_in}
use Rattle.txc_cmd_io.proofs.WordLemmas.{request-ok, request-usage}
use Rattle.txc_cmd_io.proofs.words.parse_args.Goals as goal

pub returns : goal.returns
returns c =
    let words = map string_bytes c.args.words.now in
    let found = c.find_matches.result in
    let ok = c.find_matches.ensures.ok in
    let err = c.find_matches.ensures.err in
    record {
      ok = subst (λ (r : Result Action ArgsFault). IfOk r (λ a. action_in words ≡ Some a))
          (sym c.read_request.ensures) (request-ok words found ok err);
      usage = subst (λ (r : Result Action ArgsFault). IfErr r (λ e. e ≡ Usage → action_in words ≡ None))
          (sym c.read_request.ensures) (request-usage words found ok err);
    }
