-- `judge_tokens` meets its contract. The invariant: what the rules of all tokens come to is what those of the tokens left come to, from where
-- the loop stands. Assumes nothing.
use Rattle.std.specs.Prelude.{Ok}
use Rattle.std.proofs.Common.{◌≡◌, ◌-◌, ◌+◌, ◌*◌}
use Rattle.rules.specs.Loaded.{tokens_rules}
use Rattle.saved_fields.specs.Judging.{judge_rules}
use Rattle.saved_names.specs.Scan.{resources_of}
use Rattle.saved_tokens.proofs.judge_tokens.Given as goal

abbrev pub invariant-loop : goal.invariant-loop
invariant-loop l = (l.at ≡ l.first + 12 * l.counter) × (judge_rules (Ok tt) (tokens_rules l.n (resources_of l.file l.count) l.file l.first 0) ≡ judge_rules l.check (tokens_rules (l.n - l.counter) (resources_of l.file l.count) l.file l.at l.before))
