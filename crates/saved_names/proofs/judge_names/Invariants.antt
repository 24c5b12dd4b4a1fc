-- `judge_names` meets its contract. The invariant: what the rules of all names come to is what those of the names left come to, from where the
-- loop stands. Assumes nothing.
use Rattle.std.specs.Prelude.{Ok}
use Rattle.std.proofs.Common.{◌≡◌, ◌-◌, ◌+◌, ◌*◌}
use Rattle.rules.specs.Loaded.{names_rules}
use Rattle.saved_fields.specs.Judging.{judge_rules}
use Rattle.saved_names.specs.Scan.{resources_of}
use Rattle.saved_names.proofs.judge_names.Given as goal

abbrev pub invariant-loop : goal.invariant-loop
invariant-loop l = (l.at ≡ l.first + 8 * l.counter) × (judge_rules (Ok tt) (names_rules l.n (resources_of l.file l.count) l.file l.first 0) ≡ judge_rules l.check (names_rules (l.n - l.counter) (resources_of l.file l.count) l.file l.at l.before))
