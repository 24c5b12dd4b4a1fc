-- `wrong_header` meets its contract. Assumes nothing.
use Rattle.headers.specs.Header.{judging_header}
use Rattle.headers.proofs.wrong_header.Goals as goal

pub returns-then-range-header : goal.returns-then-range-header
returns-then-range-header c = search judging_header

pub returns-then-magic-wanted : goal.returns-then-magic-wanted
returns-then-magic-wanted c = search judging_header

pub returns-then-version-ne-GOOD_MAJOR : goal.returns-then-version-ne-GOOD_MAJOR
returns-then-version-ne-GOOD_MAJOR c = search judging_header

pub returns-then-bytes-header : goal.returns-then-bytes-header
returns-then-bytes-header c = search judging_header

pub returns : goal.returns
returns c = search judging_header
