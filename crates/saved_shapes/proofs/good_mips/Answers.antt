-- `good_mips` meets its contract. Assumes nothing.
use Rattle.saved_shapes.specs.Shapes.{counting}
use Rattle.saved_shapes.proofs.good_mips.Goals as goal

pub returns-then-mips-lt1 : goal.returns-then-mips-lt1
returns-then-mips-lt1 c = search counting

pub returns : goal.returns
returns c = search counting
