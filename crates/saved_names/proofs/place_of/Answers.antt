use Rattle.std.proofs.Common.{arith}
use Rattle.saved_names.specs.Scan.{scanning}
use Rattle.saved_names.proofs.place_of.Goals as goal

pub returns-then-field_at-name : goal.returns-then-field_at-name
returns-then-field_at-name c = (search scanning, (omega arith, omega arith))

pub loop-preserved : goal.loop-preserved
loop-preserved c = (omega arith, search scanning)

pub returns : goal.returns
returns c = (search scanning, omega arith)
