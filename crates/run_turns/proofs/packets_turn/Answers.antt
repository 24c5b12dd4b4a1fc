-- `packets_turn` meets its contract. Assumes nothing.
use Rattle.run_turns.specs.Turns.{turning_packets}
use Rattle.run_turns.proofs.packets_turn.Goals as goal

pub play_shared-played-requires : goal.play_shared-played-requires
play_shared-played-requires c = search turning_packets

pub land_packets-requires : goal.land_packets-requires
land_packets-requires c = search turning_packets

pub returns : goal.returns
returns c = search turning_packets
