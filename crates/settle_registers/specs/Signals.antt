-- What a submission's end makes of the registers' numbers: a law for each way to a return. Assumes nothing.
use Rattle.std.specs.Prelude.{◌≡◌, refl, Bool, true, false, not, ◌&&◌, ◌||◌, ℕ, ◌+◌, ◌≤◌, ◌<◌, ltb}
use Rattle.std.proofs.Common.{rules, lt-ltb, le-ltb}
use Rattle.rules.specs.Shapes.{larger}
use Rattle.rules.specs.Settle.{one_more}

module _ (completed signal : ℕ) where
  pub completed-rises : completed < signal → signal ≡ larger completed signal
  completed-rises h = rw (lt-ltb completed signal h)

  pub completed-stays : signal ≤ completed → completed ≡ larger completed signal
  completed-stays h = rw (le-ltb completed signal h)

  module _ (fenced silent : Bool) where
    pub stays-fenced : fenced ≡ true → true ≡ (fenced || (ltb completed signal && not silent))
    stays-fenced f = rw f

    pub silent-stays : fenced ≡ false → silent ≡ true → false ≡ (fenced || (ltb completed signal && not silent))
    silent-stays f s = rw (f, s) (by (ltb completed signal))
      where
        by : (b : Bool) → false ≡ (b && false)
        by true = refl
        by false = refl

    pub fenced-if-it-rose : fenced ≡ false → silent ≡ false → ltb completed signal ≡ (fenced || (ltb completed signal && not silent))
    fenced-if-it-rose f s = rw (f, s) (by (ltb completed signal))
      where
        by : (b : Bool) → b ≡ (b && true)
        by true = refl
        by false = refl

pub counted-enough : (n : ℕ) → 4294967295 ≤ n → n ≡ one_more n
counted-enough n h = rw (le-ltb n 4294967295 h)

pub counted-on : (n : ℕ) → n < 4294967295 → n + 1 ≡ one_more n
counted-on n h = rw (lt-ltb n 4294967295 h)

pub ruleset signalling = (completed-rises, completed-stays, stays-fenced, silent-stays, fenced-if-it-rose, counted-enough, counted-on, rules)
