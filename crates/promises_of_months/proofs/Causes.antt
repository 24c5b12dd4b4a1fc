-- The theorems of specs/Causes.antt, and what they rest on. Assumes nothing.
use Rattle.std.proofs.Math.Path.{◌≡◌, refl}
use Rattle.std.proofs.Common.{arith}
use Rattle.std.specs.Prelude.{Bool}
use Rattle.std.proofs.Math.Bool.{true, false}
use mathlib.Core.List.{List}
use Rattle.rules.specs.Lists.{pushed}
use Rattle.rules.specs.Numbers.{too_much}
use Rattle.rules.specs.Month.{Finished, good_feed, feed_answer}
use Rattle.promises_of_months.specs.Counted.{ten-when}
use Rattle.promises_of_months.proofs.Counted.{exactly}
use Rattle.promises_of_months.specs.Named.{Small}
use Rattle.promises_of_months.proofs.Named.{nine-exactly}
use Rattle.promises_of_months.specs.Causes.{Cause, NineBelow, Ten, cause-bad, cause-of}

-- ---- the answers

pub ten-exactly : (xs : List Finished) (s : Finished) → Ten xs s
ten-exactly xs s = record { only = λ h. cause-of s ((exactly xs s).ten h); when = λ c. ten-when xs s (cause-bad s c) }

pub nine-after-ten : (xs : List Finished) (s : Finished) → NineBelow xs s
nine-after-ten xs s =
    record {
      only = λ h. (λ c. let e : feed_answer xs s ≡ 10 = ten-when xs s (cause-bad s c) in absurd (omega arith), ((nine-exactly xs s).only h).1);
      when = λ n m. by_test n m (good_feed s) refl;
    }
  where
    by_test : (Cause s → ⊥) → (Small (pushed xs s) → ⊥) → (g : Bool) → good_feed s ≡ g → feed_answer xs s ≡ too_much
    by_test n m true e = (nine-exactly xs s).when e m
    by_test n m false e = absurd (n (cause-of s e))
