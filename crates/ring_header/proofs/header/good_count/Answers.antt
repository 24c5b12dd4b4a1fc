-- `good_count` meets its contract: none, too many, or by `count-apart`. Assumes nothing.
use Rattle.ring_header.specs.Header.{counting}
use Rattle.ring_header.proofs.header.good_count.Goals as goal

pub returns-then-n-eq0 : goal.returns-then-n-eq0
returns-then-n-eq0 c = search counting

pub returns-then-n-gt-MOST_SLOTS : goal.returns-then-n-gt-MOST_SLOTS
returns-then-n-gt-MOST_SLOTS c = search counting

pub returns : goal.returns
returns c = search counting
