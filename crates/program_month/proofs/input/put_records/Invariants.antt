-- `input::put_records` meets its contract. Assumes nothing.
use Rattle.std.proofs.Common.{◌≡◌}
use Rattle.kept_resources.specs.Views.{records_of}
use Rattle.program_month.specs.Input.{records_in}
use Rattle.program_month.proofs.input.put_records.Given as goal

abbrev pub invariant-loop-i : goal.invariant-loop-i
invariant-loop-i l = records_of l.i l.records ≡ records_in l.bytes l.i
