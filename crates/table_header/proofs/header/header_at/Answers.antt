-- `header_at` meets its contract, by `header_read`. Assumes nothing.
use Rattle.table_header.specs.Header.{reading_header}
use Rattle.table_header.proofs.header.header_at.Goals as goal

pub returns : goal.returns
returns c = search reading_header
