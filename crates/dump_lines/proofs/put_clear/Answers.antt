-- `put_clear` meets its contract. Assumes nothing.
use Rattle.dump_lines.specs.Lines.{writing_clear}
use Rattle.dump_lines.proofs.put_clear.Goals as goal

pub fill-requires : goal.fill-requires
fill-requires c = search writing_clear

pub returns : goal.returns
returns c = search writing_clear
