-- `put_viewport` meets its contract. Assumes nothing.
use Rattle.dump_lines.specs.Lines.{writing_viewport}
use Rattle.dump_lines.proofs.put_viewport.Goals as goal

pub fill-requires : goal.fill-requires
fill-requires c = search writing_viewport

pub returns : goal.returns
returns c = search writing_viewport
