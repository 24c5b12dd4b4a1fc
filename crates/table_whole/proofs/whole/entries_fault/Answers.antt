use Rattle.table_whole.specs.Whole.{scanning}
use Rattle.table_whole.proofs.whole.entries_fault.Goals as goal

pub scan-init : goal.scan-init
scan-init c = search scanning

pub loop-j-preserved : goal.loop-j-preserved
loop-j-preserved c = search scanning

pub scan-preserved : goal.scan-preserved
scan-preserved c = search scanning

pub returns-after-scan : goal.returns-after-scan
returns-after-scan c = search scanning

pub returns-then-not-sound : goal.returns-then-not-sound
returns-then-not-sound c = search scanning

pub returns-then-earlier-e : goal.returns-then-earlier-e
returns-then-earlier-e c = search scanning
