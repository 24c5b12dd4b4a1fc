-- `put_scissor` meets its contract. Assumes nothing.
use Rattle.dump_lines.specs.Lines.{writing_scissor}
use Rattle.dump_lines.proofs.put_scissor.Goals as goal

pub fill-requires : goal.fill-requires
fill-requires c = search writing_scissor

pub returns : goal.returns
returns c = search writing_scissor
