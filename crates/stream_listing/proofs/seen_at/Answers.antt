-- `seen_at` meets its contract. Assumes nothing.
use Rattle.stream_listing.specs.Seen.{seeing}
use Rattle.stream_listing.proofs.seen_at.Goals as goal

pub u32_at-op-requires : goal.u32_at-op-requires
u32_at-op-requires c = search seeing

pub returns-then-unknown : goal.returns-then-unknown
returns-then-unknown c = search seeing

pub returns-in-Err : goal.returns-in-Err
returns-in-Err c = search seeing

pub returns-else-unknown : goal.returns-else-unknown
returns-else-unknown c = search seeing
