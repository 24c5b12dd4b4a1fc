use Rattle.ring_descriptor.specs.Descriptor.{bounding}
use Rattle.ring_descriptor.proofs.descriptor.range_verdict.Goals as goal

pub returns-then-outside : goal.returns-then-outside
returns-then-outside c = search bounding

pub returns-then-outside-2 : goal.returns-then-outside-2
returns-then-outside-2 c = search bounding

pub returns : goal.returns
returns c = search bounding
