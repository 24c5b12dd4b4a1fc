use Rattle.ring_descriptor.specs.Descriptor.{reaching}
use Rattle.ring_descriptor.proofs.descriptor.outside.Goals as goal

pub returns-then-long-eq0 : goal.returns-then-long-eq0
returns-then-long-eq0 c = search reaching

pub returns : goal.returns
returns c = search reaching
