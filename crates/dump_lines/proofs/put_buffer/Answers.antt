-- `put_buffer` meets its contract. Assumes nothing.
use Rattle.dump_lines.specs.Lines.{writing_buffer}
use Rattle.dump_lines.proofs.put_buffer.Goals as goal

pub fill-requires : goal.fill-requires
fill-requires c = search writing_buffer

pub returns : goal.returns
returns c = search writing_buffer
