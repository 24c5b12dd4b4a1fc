-- `put_destroy` meets its contract. Assumes nothing.
use Rattle.dump_lines.specs.Lines.{writing_destroy}
use Rattle.dump_lines.proofs.put_destroy.Goals as goal

pub fill-requires : goal.fill-requires
fill-requires c = search writing_destroy

pub returns : goal.returns
returns c = search writing_destroy
