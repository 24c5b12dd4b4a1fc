use Rattle.std.proofs.Common.{arith}
use Rattle.run_packets.specs.Playing.{skipping}
use Rattle.run_packets.proofs.skip_unknown.Goals as goal

pub returns-then-at-bound : goal.returns-then-at-bound
returns-then-at-bound c = search skipping

pub overflow_sub-room : goal.overflow_sub-room
overflow_sub-room c = search skipping

pub loop-units-init : goal.loop-units-init
loop-units-init c = (omega arith, omega arith, search skipping)

pub unknown_size-size-requires : goal.unknown_size-size-requires
unknown_size-size-requires c = search skipping

pub returns-then-size-eq0 : goal.returns-then-size-eq0
returns-then-size-eq0 c = search skipping

pub overflow_add-at : goal.overflow_add-at
overflow_add-at c = search skipping

pub overflow_sub-room-in-loop-units : goal.overflow_sub-room-in-loop-units
overflow_sub-room-in-loop-units c = search skipping

pub loop-units-preserved : goal.loop-units-preserved
loop-units-preserved c = (search skipping, search skipping, search skipping)

pub returns : goal.returns
returns c = search skipping
