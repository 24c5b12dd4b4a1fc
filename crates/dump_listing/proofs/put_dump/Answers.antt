-- `put_dump` meets its contract. Assumes nothing.
use Rattle.std.proofs.Common.{rules}
use Rattle.dump_listing.specs.Packets.{going_dump, good-put}
use Rattle.dump_listing.proofs.put_dump.Goals as goal

pub put_error-requires : goal.put_error-requires
put_error-requires c = search going_dump

pub slice_bounds-put_packets-end : goal.slice_bounds-put_packets-end
slice_bounds-put_packets-end c = search going_dump

pub put_packets-requires : goal.put_packets-requires
put_packets-requires c = search going_dump

pub returns-in-Err : goal.returns-in-Err
returns-in-Err c = search going_dump

pub returns-in-Ok : goal.returns-in-Ok
returns-in-Ok c = search (good-put, rules)
