-- What the code that puts the words to rest asks. Assumes nothing.
use Rattle.std.specs.Prelude.{◌≡◌, refl, List, ℕ}
use Rattle.std.proofs.Common.{rules}
use Rattle.run_state.specs.Views.{work_words, zeroed, rested}

pub rests : (s : List ℕ) → zeroed work_words s ≡ rested s
unfolding rested
rests s = refl

pub ruleset resting_words = (rests, rules)
