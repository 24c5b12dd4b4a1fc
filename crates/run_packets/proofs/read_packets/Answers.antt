use Rattle.std.proofs.Common.{arith}
use Rattle.run_packets.specs.Playing.{playing_on}
use Rattle.run_packets.proofs.read_packets.Goals as goal

pub inner_bound-bound-requires : goal.inner_bound-bound-requires
inner_bound-bound-requires c = search playing_on

pub loop-units-init : goal.loop-units-init
loop-units-init c = (omega arith, search playing_on, search playing_on, search playing_on)

pub step_packet-t-requires : goal.step_packet-t-requires
step_packet-t-requires c = search playing_on

pub returns-in_default : goal.returns-in_default
returns-in_default c = search playing_on

pub skip_unknown-s-requires : goal.skip_unknown-s-requires
skip_unknown-s-requires c = search playing_on

pub loop-units-smaller-then-t : goal.loop-units-smaller-then-t
loop-units-smaller-then-t c = search playing_on

pub loop-units-preserved-then-t : goal.loop-units-preserved-then-t
loop-units-preserved-then-t c = (search playing_on, search playing_on, search playing_on, search playing_on)

pub loop-units-smaller : goal.loop-units-smaller
loop-units-smaller c = search playing_on

pub loop-units-preserved : goal.loop-units-preserved
loop-units-preserved c = (omega arith, search playing_on, search playing_on, search playing_on)

pub returns : goal.returns
returns c = search playing_on
