use Rattle.dump_room.specs.Fitting.{measuring, measuring_less}
use Rattle.dump_room.proofs.packets_fit.Goals as goal

pub loop-at-init : goal.loop-at-init
loop-at-init c = search measuring

pub put_next-requires : goal.put_next-requires
put_next-requires c = record { at_in_bounds = search measuring; at_in_bounds_2 = search measuring }

pub within-requires : goal.within-requires
within-requires c = search measuring

pub returns-in-Ended : goal.returns-in-Ended
returns-in-Ended c = search measuring

pub returns-then-last-left : goal.returns-then-last-left
returns-then-last-left c = search measuring

pub loop-at-smaller : goal.loop-at-smaller
loop-at-smaller c = search measuring_less

pub loop-at-preserved : goal.loop-at-preserved
loop-at-preserved c = search measuring

pub returns : goal.returns
returns c = search measuring
