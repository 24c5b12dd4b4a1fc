-- `outside` meets its contract, a law for each end. Assumes nothing.
use Rattle.floats.specs.Bits.{telling}
use Rattle.floats.proofs.outside.Goals as goal

pub returns-then-below : goal.returns-then-below
returns-then-below c = search telling

pub returns : goal.returns
returns c = search telling
