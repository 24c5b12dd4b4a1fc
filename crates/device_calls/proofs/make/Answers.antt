-- `make` meets its contract. Assumes nothing.
use Rattle.device_calls.specs.Calling.{making}
use Rattle.device_calls.proofs.make.Goals as goal

pub returns : goal.returns
returns c = search making
