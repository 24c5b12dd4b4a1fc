-- `key` meets its contract, a law for each end. Assumes nothing.
use Rattle.floats.specs.Bits.{telling}
use Rattle.floats.proofs.key.Goals as goal

pub returns-then-bits-lt-SIGN_BIT : goal.returns-then-bits-lt-SIGN_BIT
returns-then-bits-lt-SIGN_BIT c = search telling

pub returns : goal.returns
returns c = search telling
