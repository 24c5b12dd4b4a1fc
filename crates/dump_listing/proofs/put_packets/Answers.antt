use Rattle.dump_listing.specs.Packets.{going_all, Going-less}
use Rattle.dump_listing.proofs.put_packets.Goals as goal

pub loop-at-init : goal.loop-at-init
loop-at-init c = search going_all

pub put_next-requires : goal.put_next-requires
put_next-requires c = record { at_in_bounds = search going_all; at_in_bounds_2 = search going_all }

pub returns-in-Ended : goal.returns-in-Ended
returns-in-Ended c = search going_all

pub loop-at-smaller : goal.loop-at-smaller
loop-at-smaller c = search Going-less

pub loop-at-preserved : goal.loop-at-preserved
loop-at-preserved c = search going_all

pub returns : goal.returns
returns c = search going_all
