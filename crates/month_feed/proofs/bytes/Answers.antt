use Rattle.month_feed.specs.Scanning.{scanning_bytes}
use Rattle.month_feed.proofs.bytes.Goals as goal

pub loop-i-init : goal.loop-i-init
loop-i-init c = search scanning_bytes

pub returns-then-reaches : goal.returns-then-reaches
returns-then-reaches c = search scanning_bytes

pub loop-i-preserved : goal.loop-i-preserved
loop-i-preserved c = search scanning_bytes

pub returns : goal.returns
returns c = search scanning_bytes
