-- `put_import` meets its contract. Assumes nothing.
use Rattle.dump_lines.specs.Lines.{writing_import}
use Rattle.dump_lines.proofs.put_import.Goals as goal

pub fill-requires : goal.fill-requires
fill-requires c = search writing_import

pub returns : goal.returns
returns c = search writing_import
