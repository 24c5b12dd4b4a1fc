-- `put_dirty` meets its contract. Assumes nothing.
use Rattle.dump_lines.specs.Lines.{writing_dirty}
use Rattle.dump_lines.proofs.put_dirty.Goals as goal

pub fill-requires : goal.fill-requires
fill-requires c = search writing_dirty

pub returns : goal.returns
returns c = search writing_dirty
