-- `begin_packets` meets its contract. Assumes nothing.
use Rattle.run_begin.specs.Beginning.{begins-more, begins-none}
use Rattle.run_begin.proofs.begin_packets.Goals as goal

pub returns-then-size-gt-STREAM_HEADER_SIZE : goal.returns-then-size-gt-STREAM_HEADER_SIZE
returns-then-size-gt-STREAM_HEADER_SIZE c = search (begins-more, c.if-size-gt-STREAM_HEADER_SIZE.true, c.all-2-1.given, c.usize_to_word-n.ensures, c.low32-size.ensures, c.requires)

pub returns : goal.returns
returns c = search (begins-none, c.if-size-gt-STREAM_HEADER_SIZE.false, c.all-2-1.given, c.usize_to_word-n.ensures, c.low32-size.ensures, c.requires)
