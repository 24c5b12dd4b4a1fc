-- `record` meets its contract. Assumes nothing.
use Rattle.device_calls.specs.Calling.{handing}
use Rattle.device_calls.proofs.record.Goals as goal
use Rattle.device_calls.proofs.record.Goals.{then-words-lt-WAITING-via-then-words-lt-WAITING, then-words-lt-WAITING-via-else-words-lt-WAITING+then-at-rows_in}

pub returns-then-words-lt-WAITING : goal.returns-then-words-lt-WAITING
returns-then-words-lt-WAITING c =
    elim c.then-words-lt-WAITING.branch [ then-words-lt-WAITING-via-then-words-lt-WAITING w ↦ search handing | then-words-lt-WAITING-via-else-words-lt-WAITING+then-at-rows_in w ↦ search handing ]

pub returns : goal.returns
returns c = search handing
