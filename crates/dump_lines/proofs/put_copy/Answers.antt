-- `put_copy` meets its contract. Assumes nothing.
use Rattle.dump_lines.specs.Lines.{writing_copy}
use Rattle.dump_lines.proofs.put_copy.Goals as goal

pub fill-requires : goal.fill-requires
fill-requires c = search writing_copy

pub returns : goal.returns
returns c = search writing_copy
