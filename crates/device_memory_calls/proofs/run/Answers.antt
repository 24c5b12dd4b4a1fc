-- `run` meets its contract. Assumes nothing.
use Rattle.device_memory_calls.specs.Calling.{running, runs-on}
use Rattle.device_memory_calls.proofs.run.Goals as goal

pub returns-in-Err : goal.returns-in-Err
returns-in-Err c = search running

pub returns : goal.returns
returns c = runs-on c.own_memory.ensures c.in-Ok.is c.run_on-units.ensures c.ended_in.ensures
