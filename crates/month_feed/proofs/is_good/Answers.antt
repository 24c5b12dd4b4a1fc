-- `is_good` meets its contract, a law for each end. Assumes nothing.
use Rattle.month_feed.specs.Judging.{judging}
use Rattle.month_feed.proofs.is_good.Goals as goal

pub returns-then-count-le-MOST_RECORDS : goal.returns-then-count-le-MOST_RECORDS
returns-then-count-le-MOST_RECORDS c = search judging

pub returns-else-count-le-MOST_RECORDS : goal.returns-else-count-le-MOST_RECORDS
returns-else-count-le-MOST_RECORDS c = search judging

pub returns-in-10-to-30 : goal.returns-in-10-to-30
returns-in-10-to-30 c = search judging

pub returns-in_default : goal.returns-in_default
returns-in_default c = search judging

pub returns-in_default-2 : goal.returns-in_default-2
returns-in_default-2 c = search judging
