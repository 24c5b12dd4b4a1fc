-- `not_finite` meets its contract, a law for each end. Assumes nothing.
use Rattle.floats.specs.Bits.{telling}
use Rattle.floats.proofs.not_finite.Goals as goal

pub returns : goal.returns
returns c = search telling
