-- What a run comes to: so many units of the rules' step machine, on a device's words and tables; the same tables stay the device's.
use Rattle.std.specs.Prelude.{◌≡◌, List, ℕ}
use Rattle.rules.specs.Steps.{run_for}
use Rattle.run_state.specs.Views.{sides_in}
use Rattle.run_turns.specs.Views.{Tables, world_with}

pub record RanFor (allowance : ℕ) (s : List ℕ) (t : Tables) (m : List ℕ) (units : ℕ) (s' : List ℕ) (t' : Tables) (m' : List ℕ) : Type 0 where
  pub run : record { state = world_with s' t' m'; units = units } ≡ run_for allowance (world_with s t m)
  pub side : sides_in s' ≡ sides_in s
