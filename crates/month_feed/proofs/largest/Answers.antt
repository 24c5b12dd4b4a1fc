use Rattle.month_feed.specs.Scanning.{scanning_writes}
use Rattle.month_feed.proofs.largest.Goals as goal

pub loop-i-init : goal.loop-i-init
loop-i-init c = search scanning_writes

pub loop-i-preserved : goal.loop-i-preserved
loop-i-preserved c = search scanning_writes

pub returns : goal.returns
returns c = search scanning_writes
