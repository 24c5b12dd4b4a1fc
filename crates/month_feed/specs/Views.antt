-- A submission as it is fed, and its own totals.
use Rattle.std.specs.Prelude.{Bool, ◌||◌, List, [], ◌∷◌, ◌++◌, map, ℕ, ◌-◌, eqb, Result, Ok, Err}
use Rattle.machine.specs.Machine.{pick}
use Rattle.rules.specs.Numbers.{done}
use Rattle.kept_resources.specs.Views.{records_of}
use Rattle.rules.specs.Month.{Finished, Totals, small, refusals, listed_error}
use Rattle.call_errors.specs.declared.CallError.{CallError}
use Rattle.call_errors.specs.declared.CallError.TheVariants.{TooMuch}

-- an error, units, and the first rows of a table of records
abbrev pub finished : ℕ → ℕ → ℕ → List ℕ → Finished
finished error units count l = record { error = error; units = units; records = records_of count l }

-- a sum, if it stays below 2^64
unfoldable pub within : ℕ → Result ℕ CallError
within n = pick (small n) (Ok n) (Err TooMuch)

abbrev pub good_error : ℕ → Bool
good_error e = eqb e done || listed_error e

-- the word that counts an error
unfoldable pub place_of : ℕ → ℕ
place_of e = pick (eqb e done) 0 (e - 9)

abbrev pub ended : ℕ → List ℕ
ended e = pick (eqb e done) 1 0 ∷ map (λ k. pick (eqb e k) 1 0) refusals

-- the totals of one submission that counts these
unfoldable pub only : ℕ → ℕ → ℕ → ℕ → ℕ → Totals
only e units read written top = record { sums = ended e ++ (units ∷ read ∷ written ∷ []); largest = top }
