-- How a run ends, and what waits settled with the host's answer: the rules' own, of the device that stands in the words.
use Rattle.std.specs.Prelude.{◌≡◌, Bool, List, ℕ}
use Rattle.rules.specs.Steps.{answered}
use Rattle.rules.specs.Calls.{ending}
use Rattle.rules.specs.declared.Ended.{Ended}
use Rattle.run_state.specs.Views.{world_in, desk_in}

-- how a run ends, whatever the rows and the memory are
pub record Ends (s : List ℕ) (x : Ended) : Type 0 where
  pub ended : (e r h dt ot c m : List ℕ) → x ≡ ending (world_in s e r h dt ot c m).state

-- what waits is settled, whatever stands in the tables
pub record SettlesAnswered (s m : List ℕ) (good : Bool) (s' m' : List ℕ) : Type 0 where
  pub settled : (e a b ft st c : List ℕ) → desk_in s' e a b ft st c m' ≡ answered good (desk_in s e a b ft st c m)
