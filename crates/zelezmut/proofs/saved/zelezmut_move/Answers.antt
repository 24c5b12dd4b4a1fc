-- `zelezmut_move` meets its contract. Assumes nothing.
use Rattle.zelezmut.specs.Saying.{saying_saved}
use Rattle.zelezmut.proofs.saved.zelezmut_move.Goals as goal

pub returns : goal.returns
returns c = search saying_saved
