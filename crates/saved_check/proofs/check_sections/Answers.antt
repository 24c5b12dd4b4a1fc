-- `check_sections` meets its contract. Assumes nothing.
use Rattle.saved_check.specs.Whole.{judging_sections}
use Rattle.saved_check.proofs.check_sections.Goals as goal

pub returns-then-count-gt-MOST_RESOURCES : goal.returns-then-count-gt-MOST_RESOURCES
returns-then-count-gt-MOST_RESOURCES c = search judging_sections

pub check_later-requires : goal.check_later-requires
check_later-requires c = search judging_sections

pub returns : goal.returns
returns c = search judging_sections
