-- What the exports say: the values of a call, in one number or in five words.
use Rattle.std.specs.Prelude.{List, [], ◌∷◌, ℕ, ◌+◌, ◌*◌, Result}
use Rattle.rules.specs.Calls.{ended_number, Value, Ran}
use Rattle.rules.specs.declared.Record.{Record}
use Rattle.call_errors.specs.Answers.{answer_of}
use Rattle.call_errors.specs.declared.CallError.{CallError}
use Rattle.device_memory_calls.specs.Views.{spent_beside}
use Rattle.device_memory_calls.specs.declared.Spent.{Spent}

-- a value, the answer above it
abbrev pub said_beside : ℕ → ℕ → ℕ
said_beside value answer = value + 4294967296 * answer

-- a length that may be no u32, the answer above it: 2^56 times
abbrev pub said_long : ℕ → ℕ → ℕ
said_long length answer = length + 72057594037927936 * answer

-- a read's value, its answer above it
abbrev pub said_value : Value → ℕ
said_value x = said_beside x.value x.answer

-- a run's or an answer's answer, how it ended and its units, each above the one before
abbrev pub said_run : Ran → ℕ
said_run x = x.answer + (256 * ended_number x.ended + 65536 * x.units)

abbrev pub said_spent : Result Spent CallError → ℕ
said_spent x = answer_of x + (256 * ended_number (spent_beside x).ended + 65536 * (spent_beside x).units)

abbrev pub record_words : Record → List ℕ
record_words c = c.kind ∷ c.handle ∷ c.id ∷ c.gpa ∷ c.length ∷ []
