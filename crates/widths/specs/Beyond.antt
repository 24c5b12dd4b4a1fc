-- A sum held against a bound, though the sum is never made; and what the answer says. Assumes nothing.
use Rattle.std.specs.Prelude.{◌≡◌, refl, Bool, true, false, not, ℕ, ◌+◌, ◌-◌, ◌≤◌, ◌<◌, ltb, leb}
use Rattle.std.proofs.Common.{sym, arith, rules, ltb-true, ltb-false, lt-ltb, le-ltb, le-leb}
use Rattle.std.proofs.lemmas.Bool.{lt-leb}

-- ---- beyond

module _ (at n bytes : ℕ) where
  pub long : bytes < n → true ≡ ltb bytes (at + n)
  long h = let w : bytes < at + n = omega arith in sym (lt-ltb _ _ w)

  pub short : n ≤ bytes → ltb (bytes - n) at ≡ ltb bytes (at + n)
  short h = by_test (ltb (bytes - n) at) refl
    where
      by_test : (t : Bool) → ltb (bytes - n) at ≡ t → t ≡ ltb bytes (at + n)
      by_test true e =
          let w : bytes < at + n = omega (arith, ltb-true (bytes - n) at e) in
          sym (lt-ltb _ _ w)
      by_test false e =
          let w : at + n ≤ bytes = omega (arith, ltb-false (bytes - n) at e) in
          sym (le-ltb _ _ w)

pub ruleset reaching = (long, short, rules)

-- ---- what its callers use

-- within is not above
pub leb-ltb : (a b : ℕ) → leb a b ≡ not (ltb b a)
leb-ltb a b = by_test (ltb b a) refl
  where
    by_test : (t : Bool) → ltb b a ≡ t → leb a b ≡ not t
    by_test true h = lt-leb a b (ltb-true b a h)
    by_test false h = le-leb a b (ltb-false b a h)
