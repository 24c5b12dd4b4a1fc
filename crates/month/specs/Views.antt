-- Totals by value as the rule book's totals. Assumes nothing.
use Rattle.std.specs.Prelude.{◌≡◌, List, [], ℕ}
use Rattle.std.proofs.Common.{rules}
use Rattle.rules.specs.Month.{totals}
use Rattle.rules.specs.Month.{Totals as Rules, Fed as FedBy}
use Rattle.call_errors.specs.Answers.{answer_of}
use Rattle.month_totals.specs.Views.{totals_in, Leaves, Zeroes}
use Rattle.month.specs.declared.Totals.{Totals}
use Rattle.month.specs.declared.Fed.{Fed}

abbrev pub totals_of : Totals → Rules
totals_of t = totals_in t.words

abbrev pub fed_of : Fed → FedBy
fed_of r = record { answer = answer_of r.answer; totals = totals_of r.totals }

pub zeroes : (l : List ℕ) → Zeroes l → totals_in l ≡ totals []
zeroes l h = h.words

pub leaves : (f : FedBy) (r : ℕ) (m : List ℕ) → Leaves f r m → ◌≡◌ {A = FedBy} (record { answer = r; totals = totals_in m }) f
leaves f r m h = rw (h.answer, h.words)

pub ruleset by_value = (zeroes, leaves, rules)
