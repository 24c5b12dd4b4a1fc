-- What holds of a device at rest, and is kept by each unit, holds of any device that was made or loaded, and called: whatever calls, whatever
-- memories. It may ask for a kind of memory, if every call was lent such. Assumes nothing.
use Rattle.std.specs.Prelude.{◌≡◌, ℕ, ◌≤◌, length}
use mathlib.Core.List.{List}
use Rattle.rules.specs.State.{Work, State, World}
use Rattle.rules.specs.State.Work.{resting}
use Rattle.rules.specs.Settle.{marked}
use Rattle.rules.specs.declared.Job.{Job}
use Rattle.rules.specs.declared.Registers.{Registers}
use Rattle.promises_of_units.specs.Called.{Called}
use Rattle.promises_of_units.specs.Called.Called.{makes, loads, calls}
use Rattle.promises_of_units.specs.Units.{Next}
use Rattle.promises_of_units.specs.Units.Unit.{works-on}

-- memory of the device's own length is lent
abbrev pub Lent : World → Type 0
Lent w = length w.mem ≡ w.state.memory

-- every memory that a device's calls were lent is of a kind
unfoldable pub EachLent : (List ℕ → Type 0) → (s : State) → Called s → Type 0
EachLent Kind s (makes memory) = 0 ≤ 0
EachLent Kind s (loads b good) = 0 ≤ 0
EachLent Kind s (calls {s = t} c m k) = Kind m × EachLent Kind t k

-- any memory at all
abbrev pub AnyMemory : List ℕ → Type 0
AnyMemory m = 0 ≤ 0

-- a fact about the work of a device, which is made for a memory length, and about the memories lent
pub record KeptByUnits (Kind : List ℕ → Type 0) (Fact : ℕ → Work → Type 0) : Type 0 where
  pub rests : (memory : ℕ) → Fact memory resting
  pub works-on : (w : World) → Lent w → Kind w.mem → (k next : Work) → Next w k next → Fact w.state.memory k → Fact w.state.memory next
  pub marks : (j : Job) (r : Registers) (m : List ℕ) → Kind m → Kind (marked j r m)

module _ {Kind : List ℕ → Type 0} {Fact : ℕ → Work → Type 0} (c : KeptByUnits Kind Fact) where
  abbrev pub Holds : State → Type 0
  Holds s = Fact s.memory s.work

  -- ---- by a unit, and by a run

  abbrev pub Lends : World → Type 0
  Lends w = Lent w × Kind w.mem
