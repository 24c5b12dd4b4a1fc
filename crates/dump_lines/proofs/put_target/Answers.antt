-- `put_target` meets its contract. Assumes nothing.
use Rattle.dump_lines.specs.Lines.{writing_target}
use Rattle.dump_lines.proofs.put_target.Goals as goal

pub fill-requires : goal.fill-requires
fill-requires c = search writing_target

pub returns : goal.returns
returns c = search writing_target
