-- `check_resources` meets its contract. The invariant: what the rules of all resources come to is what those of the resources left come to, from
-- where the loop stands. Assumes nothing.
use Rattle.std.proofs.Common.{◌≡◌, ◌-◌, ◌+◌, ◌*◌}
use Rattle.rules.specs.Loaded.{resources_rules}
use Rattle.saved_fields.specs.Judging.{judge_rules}
use Rattle.saved_check.proofs.check_resources.Given as goal

abbrev pub invariant-loop : goal.invariant-loop
invariant-loop l = (l.at ≡ l.first + 48 * l.counter) × (judge_rules l.initial.check (resources_rules l.count l.file l.first 0) ≡ judge_rules l.check (resources_rules (l.count - l.counter) l.file l.at l.before))
