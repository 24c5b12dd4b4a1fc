-- `differs` meets its contract. Assumes nothing.
use Rattle.diff_bytes.specs.Differing.{differing_there}
use Rattle.diff_bytes.proofs.differs.Goals as goal

pub returns-in-Some-Some : goal.returns-in-Some-Some
returns-in-Some-Some c = search differing_there

pub returns-in-None-None : goal.returns-in-None-None
returns-in-None-None c = search differing_there

pub returns-in_default : goal.returns-in_default
returns-in_default c = search differing_there

pub returns-in_default-2 : goal.returns-in_default-2
returns-in_default-2 c = search differing_there
