-- `put_stopped` meets its contract. Assumes nothing.
use Rattle.dump_lines.specs.Lines.{writing_stopped}
use Rattle.dump_lines.proofs.put_stopped.Goals as goal

pub fill-requires : goal.fill-requires
fill-requires c = search writing_stopped

pub returns : goal.returns
returns c = search writing_stopped
