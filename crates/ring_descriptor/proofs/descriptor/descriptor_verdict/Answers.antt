use Rattle.ring_descriptor.specs.Descriptor.{describing}
use Rattle.ring_descriptor.proofs.descriptor.descriptor_verdict.Goals as goal

pub returns-then-d-lt-DESCRIPTOR_SIZE : goal.returns-then-d-lt-DESCRIPTOR_SIZE
returns-then-d-lt-DESCRIPTOR_SIZE c = search describing

pub returns-then-stride-d : goal.returns-then-stride-d
returns-then-stride-d c = search describing

pub returns-then-bad : goal.returns-then-bad
returns-then-bad c = search describing

pub returns-then-bad-2 : goal.returns-then-bad-2
returns-then-bad-2 c = search describing

pub returns : goal.returns
returns c = search describing
