use Rattle.ring_descriptor.specs.Descriptor.{ranging}
use Rattle.ring_descriptor.proofs.descriptor.bad.Goals as goal

pub returns-then-gpa-eq0 : goal.returns-then-gpa-eq0
returns-then-gpa-eq0 c = search ranging

pub returns-then-size-eq0 : goal.returns-then-size-eq0
returns-then-size-eq0 c = search ranging

pub returns-then-gpa-eq0-2 : goal.returns-then-gpa-eq0-2
returns-then-gpa-eq0-2 c = search ranging

pub returns : goal.returns
returns c = search ranging
