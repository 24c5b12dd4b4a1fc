-- `list` meets its contract: there is room for every listing. Assumes nothing.
use Rattle.dump_listing.specs.Inputs.{listing_all}
use Rattle.dump_listing.proofs.list.Goals as goal

pub put_listing-requires : goal.put_listing-requires
put_listing-requires c = search listing_all

pub returns : goal.returns
returns c = search listing_all
