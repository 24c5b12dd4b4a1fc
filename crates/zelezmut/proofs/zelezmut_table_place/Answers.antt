-- `zelezmut_table_place` meets its contract. Assumes nothing.
use Rattle.zelezmut.specs.Saying.{saying_fault}
use Rattle.zelezmut.proofs.zelezmut_table_place.Goals as goal

pub returns : goal.returns
returns c = search saying_fault
