-- How workers ended.
use Rattle.std.specs.Prelude.{ℕ, suc, Bool, true, false, ◌||◌, List, [], ◌∷◌, Option, Some, None, Result, Ok, Err}
use Rattle.std.specs.Prelude.{if◌then◌else◌}
use Rattle.yalwythen_work.specs.declared.transact_error.TransactError.{TransactError}
use Rattle.yalwythen_work.specs.declared.transact_error.TransactError.TheVariants.{Unfit, Unprepared, Stalled, Stopped}
use Rattle.yalwythen_work.specs.declared.worker_error.WorkerError.{WorkerError}

-- whether an error is not a stall
abbrev pub is_not_stall : TransactError → Bool
is_not_stall (Unfit fault) = true
is_not_stall Unprepared = true
is_not_stall (Stalled cause) = false
is_not_stall (Stopped stop) = true

-- the first error in the results of workers that are numbered from here on; stalls count only if the flag is set
abbrev pub first_error : Bool → ℕ → List (Result Unit TransactError) → Option WorkerError
first_error with_stalls number [] = None
first_error with_stalls number (Ok done ∷ ends) = first_error with_stalls (suc number) ends
first_error with_stalls number (Err error ∷ ends) = if with_stalls || is_not_stall error
    then Some (record { worker = number; error = error }) else first_error with_stalls (suc number) ends

-- an error as the result of a run
abbrev pub as_result : Option WorkerError → Result Unit WorkerError
as_result None = Ok tt
as_result (Some error) = Err error

-- the first error that is not a stall, or the first stall if there is none
abbrev pub error_or_stall : Option WorkerError → Option WorkerError → Result Unit WorkerError
error_or_stall None any = as_result any
error_or_stall (Some own) any = Err own

-- how the workers ended: all returned `Ok`, or the first error that is not a stall, or else the first stall
abbrev pub end_of : List (Result Unit TransactError) → Result Unit WorkerError
end_of ends = error_or_stall (first_error false 0 ends) (first_error true 0 ends)
