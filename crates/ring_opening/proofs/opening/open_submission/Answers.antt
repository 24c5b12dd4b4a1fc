use Rattle.ring_opening.specs.Opening.{opening_submission}
use Rattle.ring_opening.proofs.opening.open_submission.Goals as goal

pub open_ranges-requires : goal.open_ranges-requires
open_ranges-requires c = search opening_submission

pub returns-in-Err : goal.returns-in-Err
returns-in-Err c = search opening_submission

pub returns-in-Err-range_verdict : goal.returns-in-Err-range_verdict
returns-in-Err-range_verdict c = search opening_submission

pub returns-in-Ok-range_verdict : goal.returns-in-Ok-range_verdict
returns-in-Ok-range_verdict c = search opening_submission
