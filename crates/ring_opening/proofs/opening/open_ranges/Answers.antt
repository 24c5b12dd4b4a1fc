use Rattle.ring_opening.specs.Opening.{opening_ranges}
use Rattle.ring_opening.proofs.opening.open_ranges.Goals as goal

pub returns-in-Err : goal.returns-in-Err
returns-in-Err c = search opening_ranges

pub returns-in-Err-open_stream : goal.returns-in-Err-open_stream
returns-in-Err-open_stream c = search opening_ranges

pub returns-in-Ok-open_stream : goal.returns-in-Ok-open_stream
returns-in-Ok-open_stream c = search opening_ranges
