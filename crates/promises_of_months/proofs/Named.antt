-- The theorems of specs/Named.antt, and what they rest on. Assumes nothing.
use Rattle.std.specs.Prelude.{◌≡◌, refl, Bool, true, false, List, ℕ}
use Rattle.std.proofs.Common.{sym, ◌∙◌, arith}
use Rattle.rules.specs.Lists.{pushed}
use Rattle.rules.specs.Month.{Finished, below, totals, counted, good_feed, feed_answer}
use Rattle.rules.specs.Numbers.{too_much}
use Rattle.promises_of_months.specs.Counted.{nine-when}
use Rattle.promises_of_months.proofs.Counted.{month-below, exactly}
use Rattle.promises_of_months.specs.Named.{Nine, Small, all_small, small-below}

-- of any feeds
pub month-small : (ss : List Finished) → Small (counted ss)
month-small ss = all_small (counted ss) (month-below ss)

pub nine-exactly : (xs : List Finished) (s : Finished) → Nine xs s
nine-exactly xs s =
    record {
      only = λ h. (((exactly xs s).nine h).0, λ m. absurd (let z : ◌≡◌ {A = Bool} false true = sym ((exactly xs s).nine h).1 ∙ small-below (pushed xs s) m in let y : ◌≡◌ {A = ℕ} 0 1 = cc in omega arith));
      when = λ g m. by_test g m (below (totals (pushed xs s))) refl;
    }
  where
    by_test : good_feed s ≡ true → (Small (pushed xs s) → ⊥) → (b : Bool) → below (totals (pushed xs s)) ≡ b → feed_answer xs s ≡ too_much
    by_test g m true e = absurd (m (all_small (pushed xs s) e))
    by_test g m false e = nine-when xs s g e
