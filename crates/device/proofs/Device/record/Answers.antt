-- `record` meets its contract. Assumes nothing.
use Rattle.device.specs.Calling.{calling}
use Rattle.device.proofs.Device.record.Goals as goal

pub returns : goal.returns
returns c = search calling
