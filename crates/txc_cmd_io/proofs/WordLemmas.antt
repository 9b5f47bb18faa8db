-- What clap finds in words, and what they then ask for.
use Rattle.std.proofs.Common.{◌≡◌, ◌≢◌, refl, sym, ap, ◌∙◌, inl, inr, List, [], ◌∷◌, Option, Some, None}
use Rattle.std.proofs.Common.{option_and_then, option_map, Result, Ok, Err, IfOk, IfErr}
use Rattle.clap.specs.Words.{Text, Kinds, HasKind, kind_of, fault_of, subcommand_of, subcommand_rows_of}
use Rattle.clap.specs.Words.{subcommand_name_of}
use Rattle.clap.specs.declared.error.Error.{Error}
use Rattle.clap.specs.declared.error.kind.ErrorKind.TheVariants.{OutOfMemory}
use Rattle.clap.specs.declared.parser.matches.ArgMatches.{ArgMatches}
use Rattle.clap.specs.declared.parser.matches.ArgMatches.TheViews.{out-ArgMatches}
use Rattle.txc_cmd_io.specs.declared.words.Action.{Action}
use Rattle.txc_cmd_io.specs.declared.words.ArgsFault.TheVariants.{Usage, NoMemory}
use Rattle.txc_cmd_io.specs.Words.{chanrun, action_named, action_in, fault_by, request_in, requested, unless_fault}

mapped : {X Y Z : Type 0} (f : X → Y) (g : Y → Z) (o : Option X)
    → option_map g (option_map f o) ≡ option_map (λ x. g (f x)) o
mapped f g None = refl
mapped f g (Some x) = refl

-- words that clap takes
pub action_in-ok : (words : List Text) (m : ArgMatches) → fault_of chanrun words ≡ []
    → subcommand_rows_of m ≡ subcommand_of chanrun words →
    action_in words ≡ option_and_then action_named (subcommand_name_of m)
unfolding action_in
action_in-ok words m free rows =
    rw (free, ← rows) (ap (option_and_then action_named) (mapped _ (λ p. p.0) (out-ArgMatches m).subcommand))

faulty : {X : Type 0} (e : Error) (kinds : Kinds) (o : Option X) → HasKind kinds e → kind_of e ≢ OutOfMemory
    → unless_fault kinds o ≡ None
faulty e [] o (inl h) ne = absurd (ne h)
faulty e [] o (inr h) ne = absurd h
faulty e (k ∷ ks) o h ne = refl

-- words that clap refuses
pub action_in-err : (words : List Text) (e : Error) → HasKind (fault_of chanrun words) e → kind_of e ≢ OutOfMemory
    → action_in words ≡ None
unfolding action_in
action_in-err words e h ne = faulty e _ _ h ne

module _ (words : List Text) (found : Result ArgMatches Error)
    (ok : IfOk found (λ m. (fault_of chanrun words ≡ []) × (subcommand_rows_of m ≡ subcommand_of chanrun words)))
    (err : IfErr found (HasKind (fault_of chanrun words))) where
  -- a request for an action is what the words request
  pub request-ok : IfOk (request_in found) (λ a. action_in words ≡ Some a)
  request-ok = of found ok
    where
      named : (o : Option Action) → action_in words ≡ o → IfOk (requested o) (λ a. action_in words ≡ Some a)
      named None is = tt
      named (Some a) is = is

      of : (r : Result ArgMatches Error)
          → IfOk r (λ m. (fault_of chanrun words ≡ []) × (subcommand_rows_of m ≡ subcommand_of chanrun words))
          → IfOk (request_in r) (λ a. action_in words ≡ Some a)
      of (Ok m) h = named (option_and_then action_named (subcommand_name_of m)) (action_in-ok words m h.0 h.1)
      of (Err e) h = tt

  -- words that are refused for another reason than memory request nothing
  pub request-usage : IfErr (request_in found) (λ e. e ≡ Usage → action_in words ≡ None)
  request-usage = of found ok err
    where
      named : (o : Option Action) → action_in words ≡ o
          → IfErr (requested o) (λ e. e ≡ Usage → action_in words ≡ None)
      named None is = λ _. is
      named (Some a) is = tt

      of : (r : Result ArgMatches Error)
          → IfOk r (λ m. (fault_of chanrun words ≡ []) × (subcommand_rows_of m ≡ subcommand_of chanrun words))
          → IfErr r (HasKind (fault_of chanrun words))
          → IfErr (request_in r) (λ e. e ≡ Usage → action_in words ≡ None)
      of (Ok m) h k = named (option_and_then action_named (subcommand_name_of m)) (action_in-ok words m h.0 h.1)
      of (Err e) h k = λ is. action_in-err words e k
          (λ kind. let no : NoMemory ≡ Usage = sym (ap fault_by kind) ∙ is in absurd (cc))
