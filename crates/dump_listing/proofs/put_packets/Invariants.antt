-- `put_packets` meets its contract. The invariant: what is left of the text is the listing from the present place of the stream on. Assumes nothing.
use Rattle.std.proofs.Common.{◌-◌, length}
use Rattle.dump_next.specs.Rest.{rest_from}
use Rattle.rules.specs.Layouts.{stream_header_size}
use Rattle.text_numbers.specs.Writing.{Writes}
use Rattle.dump_listing.proofs.put_packets.Given as goal

abbrev pub invariant-loop-at : goal.invariant-loop-at
invariant-loop-at l = Writes 0 (rest_from l.strict l.dump stream_header_size) l.initial.out (rest_from l.strict l.dump l.at) l.end l.out

abbrev pub decreases-loop-at : goal.decreases-loop-at
decreases-loop-at l = length l.dump - l.at
