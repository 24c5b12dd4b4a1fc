-- `answer` meets its contract. Assumes nothing.
use Rattle.std.proofs.Common.{rules}
use Rattle.device_memory_calls.specs.Calling.{answering, answers-on}
use Rattle.device_memory_calls.proofs.answer.Goals as goal

pub returns-in-Err : goal.returns-in-Err
returns-in-Err c = search answering

pub returns-then-words-lt-WAITING : goal.returns-then-words-lt-WAITING
returns-then-words-lt-WAITING c = search answering

pub returns-then-allowance-gt0 : goal.returns-then-allowance-gt0
returns-then-allowance-gt0 c = answers-on c.own_memory.ensures c.in-Ok.is (search rules) c.settle_answered.ensures c.run_on-units.ensures c.ended_in.ensures

pub returns : goal.returns
returns c = search answering
