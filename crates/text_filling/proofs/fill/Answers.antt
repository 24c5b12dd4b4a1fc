use Rattle.std.proofs.Common.{arith}
use Rattle.text_filling.specs.Filling.{filling, plain-on, fill_on}
use Rattle.text_filling.proofs.fill.Goals as goal

pub loop-c-init : goal.loop-c-init
loop-c-init c = (omega arith, search filling)

pub bounds-out-end : goal.bounds-out-end
bounds-out-end c = search filling

pub overflow_add-end : goal.overflow_add-end
overflow_add-end c = search filling

pub loop-c-preserved-then-taken-eq0 : goal.loop-c-preserved-then-taken-eq0
loop-c-preserved-then-taken-eq0 c = (omega arith, search plain-on)

pub put_piece-end-requires : goal.put_piece-end-requires
put_piece-end-requires c = search filling

pub overflow_add-next : goal.overflow_add-next
overflow_add-next c = search filling

pub loop-c-preserved : goal.loop-c-preserved
loop-c-preserved c = (search filling, search fill_on)

pub returns : goal.returns
returns c = search filling
