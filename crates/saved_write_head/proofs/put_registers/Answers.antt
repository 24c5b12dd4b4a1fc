-- `put_registers` meets its contract, by `registers-written`. Assumes nothing.
use Rattle.saved_write_head.specs.Head.{writing_registers}
use Rattle.saved_write_head.proofs.put_registers.Goals as goal

pub returns : goal.returns
returns c = search writing_registers
