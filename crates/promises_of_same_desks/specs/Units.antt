-- One unit of two devices that are the same desk, a run of them, and the host's answer: they come to the same memory and are the same desk after it, and
-- spend the same units. Assumes nothing.
use Rattle.std.specs.Prelude.{◌≡◌}
use Rattle.machine.specs.Machine.{Out}
use Rattle.rules.specs.State.{World}
use Rattle.promises_of_same_desks.specs.Desks.{SameWorld}

-- ---- a run

pub record SameOut (o q : Out World) : Type 0 where
  pub state : SameWorld o.state q.state
  pub units : o.units ≡ q.units
