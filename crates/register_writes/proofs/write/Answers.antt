-- `write` meets its contract. Assumes nothing.
use Rattle.register_writes.specs.Writing.{rewriting}
use Rattle.register_writes.proofs.write.Goals as goal

pub returns-in-256 : goal.returns-in-256
returns-in-256 c = search rewriting

pub returns-in-260 : goal.returns-in-260
returns-in-260 c = search rewriting

pub returns-in-264 : goal.returns-in-264
returns-in-264 c = search rewriting

pub returns-in-268 : goal.returns-in-268
returns-in-268 c = search rewriting

pub returns-in-288 : goal.returns-in-288
returns-in-288 c = search rewriting

pub returns-in-292 : goal.returns-in-292
returns-in-292 c = search rewriting

pub returns-in-512 : goal.returns-in-512
returns-in-512 c = search rewriting

pub returns-in-772 : goal.returns-in-772
returns-in-772 c = search rewriting

pub returns-in-776 : goal.returns-in-776
returns-in-776 c = search rewriting

pub returns-in_default : goal.returns-in_default
returns-in_default c = search rewriting
