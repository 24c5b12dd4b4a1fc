-- `put_unknown` meets its contract. Assumes nothing.
use Rattle.dump_lines.specs.Lines.{writing_unknown}
use Rattle.dump_lines.proofs.put_unknown.Goals as goal

pub fill-requires : goal.fill-requires
fill-requires c = search writing_unknown

pub returns : goal.returns
returns c = search writing_unknown
