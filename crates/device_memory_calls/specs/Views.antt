-- What a run and an answer give: the rules' own call of the device that stands in the words and tables; a refused one leaves every word,
-- row and byte.
use Rattle.std.specs.Prelude.{◌≡◌, Bool, List, ℕ, length, get_or, eqb, Result, Ok, Err, ⊤}
use Rattle.std.specs.Result.{result_unwrap_or}
use Rattle.machine.specs.Machine.{pick}
use Rattle.rules.specs.Steps.{run_for}
use Rattle.rules.specs.Calls.{Ran, ran, call_run, call_answer}
use Rattle.rules.specs.declared.Ended.TheVariants.{Idle}
use Rattle.call_errors.specs.Answers.{answer_of}
use Rattle.call_errors.specs.declared.CallError.{CallError}
use Rattle.call_errors.specs.declared.CallError.TheVariants.{OtherMemory}
use Rattle.run_state.specs.Views.{Lent, desk_of, Refused}
use Rattle.device_memory_calls.specs.declared.Spent.{Spent}

-- what stands beside an answer: beside a refusal no units and idle
abbrev pub spent_beside : Result Spent CallError → Spent
spent_beside x = result_unwrap_or x (record { units = 0; ended = Idle })

-- what was spent, and the device that then stands, as the rules have it
abbrev pub ran_of : Result Spent CallError → Lent → Ran
ran_of x l' = record { answer = answer_of x; units = (spent_beside x).units; ended = (spent_beside x).ended; world = desk_of l' }

-- memory of another length than at making is refused
abbrev pub lent_memory : List ℕ → List ℕ → Result ⊤ CallError
lent_memory s m = pick (eqb (length m) (get_or s 0 0)) (Ok tt) (Err OtherMemory)

pub record CarriesOn (allowance : ℕ) (l : Lent) (x : Result Spent CallError) (l' : Lent) : Type 0 where
  pub carried : ran_of x l' ≡ ran (run_for allowance (desk_of l))

pub record Runs (allowance : ℕ) (l : Lent) (x : Result Spent CallError) (l' : Lent) : Type 0 where
  pub ran : ran_of x l' ≡ call_run (desk_of l) allowance
  pub still : Refused (answer_of x) → l' ≡ l

pub record Answers (good : Bool) (allowance : ℕ) (l : Lent) (x : Result Spent CallError) (l' : Lent) : Type 0 where
  pub ran : ran_of x l' ≡ call_answer (desk_of l) good allowance
  pub still : Refused (answer_of x) → l' ≡ l
