-- What the calls that are lent no guest memory give: the rules' own call of the device that stands in the words, whatever stands in the
-- tables that they are not lent.
use Rattle.std.specs.Prelude.{◌≡◌, List, ℕ, Result}
use Rattle.std.specs.Result.{result_unwrap_or}
use Rattle.rules.specs.State.{made}
use Rattle.rules.specs.Calls.{Value, no_range, RecordRead as RecordReadBy, call_read, call_record}
use Rattle.run_state.specs.Views.{Rests, state_in}
use Rattle.rules.specs.declared.Record.{Record}
use Rattle.call_errors.specs.Answers.{answer_of}
use Rattle.call_errors.specs.declared.CallError.{CallError}

-- beside a refusal stands 0
abbrev pub value_of : Result ℕ CallError → Value
value_of x = record { answer = answer_of x; value = result_unwrap_or x 0 }

-- and a record of zeros
abbrev pub record_read_of : Result Record CallError → RecordReadBy
record_read_of x = record { answer = answer_of x; range = result_unwrap_or x no_range }

-- a new device; no word is left of what was in work
pub record Makes (memory : ℕ) (s' : List ℕ) : Type 0 where
  pub new : (e a b ft st c : List ℕ) → state_in s' e a b ft st c ≡ made memory
  pub rests : Rests s'

pub record Reads (s : List ℕ) (offset : ℕ) (x : Result ℕ CallError) : Type 0 where
  pub value : (e a b ft st c : List ℕ) → value_of x ≡ call_read (state_in s e a b ft st c) offset

pub record GivesRecord (s c : List ℕ) (i : ℕ) (x : Result Record CallError) : Type 0 where
  pub hands : (e a b ft st : List ℕ) → record_read_of x ≡ call_record (state_in s e a b ft st c) i
