-- `put_listing` meets its contract. Assumes nothing.
use Rattle.dump_listing.specs.Inputs.{going_listing}
use Rattle.dump_listing.proofs.put_listing.Goals as goal

pub put_bad_input-requires : goal.put_bad_input-requires
put_bad_input-requires c = search going_listing

pub returns-then-input-eq0 : goal.returns-then-input-eq0
returns-then-input-eq0 c = search going_listing

pub put_bad_input-requires-then-input-gt1 : goal.put_bad_input-requires-then-input-gt1
put_bad_input-requires-then-input-gt1 c = search going_listing

pub returns-then-input-gt1 : goal.returns-then-input-gt1
returns-then-input-gt1 c = search going_listing

pub put_bad_input-requires-then-input-gt-LONGEST_DUMP : goal.put_bad_input-requires-then-input-gt-LONGEST_DUMP
put_bad_input-requires-then-input-gt-LONGEST_DUMP c = search going_listing

pub returns-then-input-gt-LONGEST_DUMP : goal.returns-then-input-gt-LONGEST_DUMP
returns-then-input-gt-LONGEST_DUMP c = search going_listing

pub put_dump-requires : goal.put_dump-requires
put_dump-requires c = search going_listing

pub returns : goal.returns
returns c = search going_listing
