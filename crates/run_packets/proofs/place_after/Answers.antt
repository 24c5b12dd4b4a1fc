-- `place_after` meets its contract. Assumes nothing.
use Rattle.run_packets.specs.Playing.{going_after}
use Rattle.run_packets.proofs.place_after.Goals as goal

pub returns-in-Ok : goal.returns-in-Ok
returns-in-Ok c = search going_after

pub returns-in-Err : goal.returns-in-Err
returns-in-Err c = search going_after
