use Rattle.ring_descriptor.specs.Descriptor.{reading_descriptor}
use Rattle.ring_descriptor.proofs.descriptor.descriptor_at.Goals as goal

pub returns : goal.returns
returns c = search reading_descriptor
