use Rattle.rows_finding.specs.Finding.{scanning}
use Rattle.rows_finding.proofs.by_eight.Goals as goal

pub returns-then-i-count : goal.returns-then-i-count
returns-then-i-count g c = search scanning
