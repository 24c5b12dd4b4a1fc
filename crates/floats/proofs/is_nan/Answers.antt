-- `is_nan` meets its contract, a law for each end. Assumes nothing.
use Rattle.floats.specs.Bits.{telling}
use Rattle.floats.proofs.is_nan.Goals as goal

pub returns : goal.returns
returns c = search telling
