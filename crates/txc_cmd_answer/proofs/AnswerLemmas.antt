-- What a program may answer.
use Rattle.std.proofs.Common.{◌≡◌, ◌≢◌, refl, sym, subst, ◌∙◌, ap, ℕ, ◌<◌, inl, inr, true, false, nat_lt, List}
use Rattle.std.proofs.Common.{length, take, Option, Some, None, IfSome, IfOk, IfErr, Result, Ok, Err, arith}
use Rattle.std.specs.Io.KnownBytes.{Appends}
use Rattle.std.proofs.lemmas.Bool.Decides.{eqb_tells, nat_tests}
use Rattle.std.proofs.lemmas.Option.{IfSome_then}
use Rattle.txc_cmd_script.specs.declared.fault.ScriptFault.{ScriptFault}
use Rattle.txc_cmd_script.specs.declared.fault.ScriptFault.TheVariants.{ReadFailed, TooLarge, NoMemory}
use Rattle.txc_cmd_io.specs.declared.words.Action.{Action}
use Rattle.txc_cmd_io.specs.declared.words.Action.TheVariants.{Check, Replay, Explore, Run}
use Rattle.txc_cmd_io.specs.declared.words.ArgsFault.{ArgsFault}
use Rattle.txc_cmd_io.specs.declared.words.ArgsFault.TheVariants.{Usage}
use Rattle.txc_cmd_io.specs.declared.words.ArgsFault.TheVariants as args_fault
use Rattle.txc_cmd_answer.specs.Answer.{AnswersBy, Answer, faulty, refused_by, IsWritten, MayAnswerBy, WroteWholeBy}
use Rattle.txc_cmd_script.specs.Reading.{max_bytes, script_in}
use Rattle.txc_cmd_script.specs.Script.{Script}

too_large : (bytes : List ℕ) → max_bytes < length bytes → script_in bytes ≡ Err TooLarge
unfolding script_in
too_large bytes long = let test : nat_lt max_bytes (length bytes) ≡ true = grind (arith, nat_tests) in rw test refl

-- what may be answered to `run` allows the fault of the script
abbrev pub TellsFaults : (Result Script ScriptFault → Answer → Type 0) → Type 0
TellsFaults MayRun = (fault : ScriptFault) (answer : Answer) → answer ≡ faulty fault → MayRun (Err fault) answer

too_large-answer : (MayRun : Result Script ScriptFault → Answer → Type 0) (action : Action) (bytes : List ℕ)
    (answer : Answer) → (action ≡ Run → TellsFaults MayRun) → max_bytes < length bytes → answer ≡ faulty TooLarge
    → AnswersBy MayRun (Some action) bytes answer
too_large-answer MayRun Check bytes answer tells long is = rw (too_large bytes long) is
too_large-answer MayRun Replay bytes answer tells long is = rw (too_large bytes long) is
too_large-answer MayRun Explore bytes answer tells long is = rw (too_large bytes long) is
too_large-answer MayRun Run bytes answer tells long is = rw (too_large bytes long) (tells refl TooLarge answer is)

-- after a read that failed, gave too much, or met no memory
pub may_fault : (MayRun : Result Script ScriptFault → Answer → Type 0) (known : Option (List ℕ)) (answer : Answer)
    (action : Action) (fault : ScriptFault) → (action ≡ Run → TellsFaults MayRun) → answer ≡ faulty fault
    → (fault ≢ NoMemory → fault ≢ ReadFailed → fault ≡ TooLarge)
    → (fault ≡ TooLarge → IfSome known (λ bytes. max_bytes < length bytes))
    → MayAnswerBy MayRun (Some action) known answer
may_fault MayRun known answer action fault tells is only long = record {
  refused = λ none. cc;
  answers = λ not_memory not_failed.
      let large : fault ≡ TooLarge = only (λ e. not_memory (is ∙ ap faulty e)) (λ e. not_failed (is ∙ ap faulty e)) in
      IfSome_then known (long large)
      (λ bytes h. too_large-answer MayRun action bytes answer tells h (is ∙ ap faulty large));
}

-- the definition's own answer
pub may_answer : (MayRun : Result Script ScriptFault → Answer → Type 0) (known : Option (List ℕ)) (answer : Answer)
    (action : Action) (bytes : List ℕ) → IfSome known (λ xs. bytes ≡ xs) → AnswersBy MayRun (Some action) bytes answer
    → MayAnswerBy MayRun (Some action) known answer
may_answer MayRun known answer action bytes same is = record {
  refused = λ none. cc;
  answers = λ _ _. IfSome_then known same
      (λ xs e. subst (λ (bs : List ℕ). AnswersBy MayRun (Some action) bs answer) e is);
}

-- what may be answered where another name of the same is asked
pub as_asked : (MayRun : Result Script ScriptFault → Answer → Type 0) (asked other : Option Action)
    (known : Option (List ℕ)) (answer : Answer) → asked ≡ other → MayAnswerBy MayRun other known answer
    → MayAnswerBy MayRun asked known answer
as_asked MayRun asked other known answer is may =
    subst (λ (a : Option Action). MayAnswerBy MayRun a known answer) (sym is) may

-- want of memory
pub may_lack : (MayRun : Result Script ScriptFault → Answer → Type 0) (asked : Option Action)
    (known : Option (List ℕ)) (answer : Answer) → answer ≡ faulty NoMemory → MayAnswerBy MayRun asked known answer
may_lack MayRun asked known answer is = record {
  refused = λ none not_memory. absurd (not_memory is);
  answers = λ not_memory _. absurd (not_memory is);
}

holds_always : {X : Type 0} (o : Option X) {P : X → Type 0} → ((x : X) → P x) → IfSome o P
holds_always None f = tt
holds_always (Some x) f = f x

-- words that request nothing
pub may_refuse : (MayRun : Result Script ScriptFault → Answer → Type 0) (asked : Option Action)
    (known : Option (List ℕ)) (answer : Answer) (fault : ArgsFault) → answer ≡ refused_by fault
    → (fault ≡ Usage → asked ≡ None) → MayAnswerBy MayRun asked known answer
may_refuse MayRun asked known answer Usage is none = record {
  refused = λ _ _. is;
  answers = λ _ _. holds_always known (λ bytes.
      subst (λ (a : Option Action). AnswersBy MayRun a bytes answer) (sym (none refl)) is);
}
may_refuse MayRun asked known answer args_fault.NoMemory is none = may_lack MayRun asked known answer is

module _ (MayRun : Result Script ScriptFault → Answer → Type 0) (f : Option Action → Option Action)
    (keeps_none : f None ≡ None) (named : Option Action) (known : Option (List ℕ)) (answer : Answer) where
  -- the answer to what words request is an answer to the words
  pub may_respond : (request : Result Action ArgsFault) → IfOk request (λ a. named ≡ Some a)
      → IfErr request (λ e. e ≡ Usage → named ≡ None) → IfErr request (λ e. answer ≡ refused_by e)
      → IfOk request (λ a. MayAnswerBy MayRun (f (Some a)) known answer) → MayAnswerBy MayRun (f named) known answer
  may_respond (Ok action) is none refuses may = as_asked MayRun (f named) (f (Some action)) known answer (ap f is) may
  may_respond (Err fault) is none refuses may =
      may_refuse MayRun (f named) known answer fault refuses (λ usage. ap f (none usage) ∙ keeps_none)

-- a reader from which nothing is read if words request nothing
pub unread_by : {P : Type 0} (f : Option Action → Option Action) (named : Option Action)
    (request : Result Action ArgsFault) → IfOk request (λ a. named ≡ Some a)
    → IfOk request (λ a. f (Some a) ≡ None → P) → IfErr request (λ _. P) → f named ≡ None → P
unread_by f named (Ok action) is holds refuses none = holds (sym (ap f is) ∙ none)
unread_by f named (Err fault) is holds refuses none = refuses

-- an action is not nothing
pub never_none : (P : Type 0) (request : Result Action ArgsFault)
    → IfOk request (λ a. ◌≡◌ {A = Option Action} (Some a) None → P)
never_none P (Ok action) = λ none. absurd (cc)
never_none P (Err fault) = tt

-- a status other than 1 tells that the whole was written
pub wrote_whole : (MayRun : Result Script ScriptFault → Answer → Type 0) (asked : Option Action)
    (known before after : Option (List ℕ)) (answer : Answer) (Flushed Failed : Type 0) (status : ℕ)
    → MayAnswerBy MayRun asked known answer → IsWritten answer before after Flushed Failed status
    → status ≢ 1 → WroteWholeBy MayRun asked known before after status
wrote_whole MayRun asked known before after answer Flushed Failed status may (inl whole) other = record {
  answer = answer;
  may = may;
  whole = whole.0;
  ends = whole.2;
}
wrote_whole MayRun asked known before after answer Flushed Failed status may (inr failed) other =
    absurd (other failed.1)
