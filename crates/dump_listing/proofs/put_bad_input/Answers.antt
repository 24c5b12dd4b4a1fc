-- `put_bad_input` meets its contract. Assumes nothing.
use Rattle.dump_listing.specs.Inputs.{writing_bad_input}
use Rattle.dump_listing.proofs.put_bad_input.Goals as goal

pub fill-requires : goal.fill-requires
fill-requires c = search writing_bad_input

pub returns : goal.returns
returns c = search writing_bad_input
