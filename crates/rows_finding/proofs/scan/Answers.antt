use Rattle.std.proofs.Common.{arith}
use Rattle.rows_finding.specs.Finding.{scanning}
use Rattle.rows_finding.proofs.scan.Goals as goal

pub loop-i-init : goal.loop-i-init
loop-i-init g c = (omega arith, search scanning)
