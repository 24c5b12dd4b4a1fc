-- `ample` meets its contract. Assumes nothing.
use Rattle.dump_room.specs.Fitting.{telling_ample}
use Rattle.dump_room.proofs.ample.Goals as goal

pub returns-then-room-lt90 : goal.returns-then-room-lt90
returns-then-room-lt90 c = search telling_ample

pub returns-then-long-room : goal.returns-then-long-room
returns-then-long-room c = search telling_ample

pub returns : goal.returns
returns c = search telling_ample
