-- `place` meets its contract. Assumes nothing.
use Rattle.month_feed.specs.Judging.{placing}
use Rattle.month_feed.proofs.place.Goals as goal

pub returns-then-error-eq0 : goal.returns-then-error-eq0
returns-then-error-eq0 c = search placing

pub returns-else-error-eq0 : goal.returns-else-error-eq0
returns-else-error-eq0 c = search placing
