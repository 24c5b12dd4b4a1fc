-- The 26 words as totals, and what a call on them leaves.
use Rattle.std.specs.Prelude.{◌≡◌, List, [], ℕ, get_or, take}
use Rattle.rules.specs.Month.{Finished, Totals, Fed, totals, merged, fed}

abbrev pub totals_in : List ℕ → Totals
totals_in l = record { sums = take 25 l; largest = get_or l 25 0 }

-- an answer, and the words as they are left
pub record Leaves (f : Fed) (r : ℕ) (m : List ℕ) : Type 0 where
  pub answer : r ≡ f.answer
  pub words : totals_in m ≡ f.totals

abbrev pub Merges : List ℕ → Totals → ℕ → List ℕ → Type 0
Merges l b r m = Leaves (merged (totals_in l) b) r m

abbrev pub Feeds : List ℕ → Finished → ℕ → List ℕ → Type 0
Feeds l s r m = Leaves (fed (totals_in l) s) r m

pub record Zeroes (m : List ℕ) : Type 0 where
  pub words : totals_in m ≡ totals []
