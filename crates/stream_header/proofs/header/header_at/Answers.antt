-- `header_at` meets its contract, by `header_is`. Assumes nothing.
use Rattle.stream_header.specs.Header.{heading}
use Rattle.stream_header.proofs.header.header_at.Goals as goal

pub returns : goal.returns
returns c = search heading
