-- `of_one` meets its contract: a law for each answer. Assumes nothing.
use Rattle.rows_finding.specs.Finding.{finding}
use Rattle.rows_finding.proofs.of_one.Goals as goal

pub returns-then-is_at : goal.returns-then-is_at
returns-then-is_at g c = search finding

pub returns : goal.returns
returns g c = search finding
