-- `header_verdict` meets its contract. Assumes nothing.
use Rattle.stream_header.specs.Header.{heading}
use Rattle.stream_header.proofs.header.header_verdict.Goals as goal

pub returns-then-wrong_header : goal.returns-then-wrong_header
returns-then-wrong_header c = search heading

pub returns : goal.returns
returns c = search heading
