-- `list_dump` meets its contract. Assumes nothing.
use Rattle.dump_listing.specs.Packets.{listing_dump}
use Rattle.dump_listing.proofs.list_dump.Goals as goal

pub put_dump-length-requires : goal.put_dump-length-requires
put_dump-length-requires c = search listing_dump

pub returns-then-not-dump_fits : goal.returns-then-not-dump_fits
returns-then-not-dump_fits c = search listing_dump

pub returns : goal.returns
returns c = search listing_dump
