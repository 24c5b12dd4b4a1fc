-- What a run gives over what is lent, whichever tables are the device's.
use Rattle.std.specs.Prelude.{◌≡◌, ℕ}
use Rattle.rules.specs.Steps.{run_for}
use Rattle.run_state.specs.Views.{Lent, desk_of}

-- what was lent, the units, and what then stands
pub record RanOn (allowance : ℕ) (l : Lent) (units : ℕ) (l' : Lent) : Type 0 where
  pub run : record { state = desk_of l'; units = units } ≡ run_for allowance (desk_of l)
