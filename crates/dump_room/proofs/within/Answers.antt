-- `within` meets its contract. Assumes nothing.
use Rattle.dump_room.specs.Fitting.{telling_within}
use Rattle.dump_room.proofs.within.Goals as goal

pub returns-then-long-room : goal.returns-then-long-room
returns-then-long-room c = search telling_within

pub returns : goal.returns
returns c = search telling_within
