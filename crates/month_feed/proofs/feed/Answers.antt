-- `feed` meets its contract. Assumes nothing.
use Rattle.std.proofs.Common.{rules}
use Rattle.month_feed.specs.Feeding.{feeding, feed-reads-over, feed-writes-over, feed-merged}
use Rattle.month_feed.proofs.feed.Goals as goal

pub returns-then-not-is_good : goal.returns-then-not-is_good
returns-then-not-is_good c = search feeding

pub bytes-requires : goal.bytes-requires
bytes-requires c = search feeding

pub bytes-requires-2 : goal.bytes-requires-2
bytes-requires-2 c = search feeding

pub returns-in_err-read : goal.returns-in_err-read
returns-in_err-read c = feed-reads-over _ _ _ _ _ _ c.is_good.ensures (search rules) _ (search rules) (search rules) _ _ _ c.bytes.ensures c.in_err-read.was c.from_residual.ensures.1

pub returns-in_err-written : goal.returns-in_err-written
returns-in_err-written c = feed-writes-over _ _ _ _ _ _ c.is_good.ensures (search rules) _ (search rules) (search rules) _ _ _ c.bytes-2.ensures c.in_err-written.was c.from_residual-in_err-written.ensures.1

pub largest-requires : goal.largest-requires
largest-requires c = search feeding

pub single-one-requires : goal.single-one-requires
single-one-requires c = search feeding

pub returns : goal.returns
returns c = feed-merged _ _ _ _ _ _ c.is_good.ensures (search rules) _ (search rules) _ _ _ _ _ c.bytes.ensures c.in_ok-read.was c.bytes-2.ensures c.in_ok-written.was c.largest.ensures _ _ _ c.single-one.ensures c.merge.ensures
