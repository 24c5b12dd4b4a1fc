-- `bits_of` meets its contract, a law for each end. Assumes nothing.
use Rattle.floats.specs.Bits.{telling}
use Rattle.floats.proofs.bits_of.Goals as goal

pub returns-then-x : goal.returns-then-x
returns-then-x c = search telling

pub float_to_bits-result : goal.float_to_bits-result
float_to_bits-result c = search telling

pub returns : goal.returns
returns c = search telling
