-- `zelezmut_dump` meets its contract. Assumes nothing.
use Rattle.zelezmut.specs.Saying.{saying_dumped}
use Rattle.zelezmut.proofs.dump.zelezmut_dump.Goals as goal

pub beside_long-requires : goal.beside_long-requires
beside_long-requires c = search saying_dumped

pub returns : goal.returns
returns c = search saying_dumped
