-- `put_release` meets its contract. Assumes nothing.
use Rattle.dump_lines.specs.Lines.{writing_release}
use Rattle.dump_lines.proofs.put_release.Goals as goal

pub fill-requires : goal.fill-requires
fill-requires c = search writing_release

pub returns : goal.returns
returns c = search writing_release
