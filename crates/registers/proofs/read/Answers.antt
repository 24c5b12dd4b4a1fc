-- `read` meets its contract. Assumes nothing.
use Rattle.registers.specs.Laws.{reading}
use Rattle.rules.specs.Lists.{lookup}
use Rattle.rules.specs.Registers.{register}
use Rattle.registers.proofs.read.Goals as goal

pub returns-in-0 : goal.returns-in-0
unfolding register lookup
returns-in-0 c = search reading

pub returns-in-4 : goal.returns-in-4
unfolding register lookup
returns-in-4 c = search reading

pub returns-in-8 : goal.returns-in-8
unfolding register lookup
returns-in-8 c = search reading

pub returns-in-12 : goal.returns-in-12
unfolding register lookup
returns-in-12 c = search reading

pub returns-in-256 : goal.returns-in-256
unfolding register lookup
returns-in-256 c = search reading

pub returns-in-260 : goal.returns-in-260
unfolding register lookup
returns-in-260 c = search reading

pub returns-in-264 : goal.returns-in-264
unfolding register lookup
returns-in-264 c = search reading

pub returns-in-268 : goal.returns-in-268
unfolding register lookup
returns-in-268 c = search reading

pub returns-in-288 : goal.returns-in-288
unfolding register lookup
returns-in-288 c = search reading

pub returns-in-292 : goal.returns-in-292
unfolding register lookup
returns-in-292 c = search reading

pub returns-in-304 : goal.returns-in-304
unfolding register lookup
returns-in-304 c = search reading

pub returns-in-308 : goal.returns-in-308
unfolding register lookup
returns-in-308 c = search reading

pub returns-in-768 : goal.returns-in-768
unfolding register lookup
returns-in-768 c = search reading

pub returns-in-772 : goal.returns-in-772
unfolding register lookup
returns-in-772 c = search reading

pub returns-in-784 : goal.returns-in-784
unfolding register lookup
returns-in-784 c = search reading

pub returns-in-788 : goal.returns-in-788
unfolding register lookup
returns-in-788 c = search reading

pub returns-in-792 : goal.returns-in-792
unfolding register lookup
returns-in-792 c = search reading

pub returns-in-796 : goal.returns-in-796
unfolding register lookup
returns-in-796 c = search reading

pub returns-in-800 : goal.returns-in-800
unfolding register lookup
returns-in-800 c = search reading

pub returns-in_default : goal.returns-in_default
unfolding register lookup
returns-in_default c = search reading
