-- `land_packets` meets its contract. Assumes nothing.
use Rattle.run_after_phase.specs.Landing.{landing_packets}
use Rattle.run_after_phase.proofs.land_packets.Goals as goal

pub returns-in-Going : goal.returns-in-Going
returns-in-Going c = search landing_packets

pub returns-in-Done : goal.returns-in-Done
returns-in-Done c = search landing_packets

pub returns-in-Broken : goal.returns-in-Broken
returns-in-Broken c = search landing_packets

pub returns-in-Left : goal.returns-in-Left
returns-in-Left c = search landing_packets
