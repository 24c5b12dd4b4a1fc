-- `put_export` meets its contract. Assumes nothing.
use Rattle.dump_lines.specs.Lines.{writing_export}
use Rattle.dump_lines.proofs.put_export.Goals as goal

pub fill-requires : goal.fill-requires
fill-requires c = search writing_export

pub returns : goal.returns
returns c = search writing_export
