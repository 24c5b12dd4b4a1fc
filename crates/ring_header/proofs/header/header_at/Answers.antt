use Rattle.ring_header.specs.Header.{reading_header}
use Rattle.ring_header.proofs.header.header_at.Goals as goal

pub returns : goal.returns
returns c = search reading_header
