-- `float_of` meets its contract, a law for each end. Assumes nothing.
use Rattle.floats.specs.Bits.{telling}
use Rattle.floats.proofs.float_of.Goals as goal

pub float_from_bits-result : goal.float_from_bits-result
float_from_bits-result c = search telling

pub returns : goal.returns
returns c = search telling
