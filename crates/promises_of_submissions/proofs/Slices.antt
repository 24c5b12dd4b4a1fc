-- The theorems of specs/Slices.antt, and what they rest on. Assumes nothing.
use Rattle.std.specs.Prelude.{◌≡◌, Bool, false, List}
use Rattle.machine.specs.Schedule.{Event, schedules}
use Rattle.rules.specs.State.{World}
use Rattle.rules.specs.Steps.{step, go, answered}
use Rattle.promises_of_submissions.specs.Slices.{played, waiting-stands-still, world_waits}

-- two schedules from one device and one memory that have spent the same units and had the same answers accepted stand in the
-- same state with the same memory
pub same-units-same-answers-same-world : (es fs : List (Event Bool)) (w : World) → (played es w).units ≡ (played fs w).units
    → (played es w).accepted ≡ (played fs w).accepted → (played es w).state ≡ (played fs w).state
same-units-same-answers-same-world = schedules go step world_waits answered waiting-stands-still
