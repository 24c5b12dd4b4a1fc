-- `on_release` meets its contract, a law for each end. Assumes nothing.
use Rattle.packet_share.specs.Release.{releasing}
use Rattle.packet_share.proofs.release.on_release.Goals as goal

pub returns-in_default : goal.returns-in_default
returns-in_default c = search releasing

pub returns : goal.returns
returns c = search releasing
