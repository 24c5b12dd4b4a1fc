-- Which table of resources is the device's: what a run's code asks. Assumes nothing.
use Rattle.std.specs.Prelude.{◌≡◌, List, ℕ, get_or}
use Rattle.std.proofs.Common.{sym, ap, ◌∙◌, rules}
use Rattle.std.proofs.Math.Bool.{true, false}
use Rattle.machine.specs.Machine.{run_none}
use Rattle.rules.specs.Steps.{step, go}
use Rattle.run_state.specs.Views.{set_in, Sides, desk_in, lent}
use Rattle.run_state.specs.Reading.{unset, is_set}
use Rattle.run_turns.specs.Views.{tables, world_with}
use Rattle.run_loop.specs.Views.{RanFor}
use Rattle.run_sides.specs.Views.{RanOn}

-- ---- run_on

pub on-nothing : (allowance : ℕ) (s e a b ft st c m : List ℕ) → allowance ≡ 0 → RanOn allowance (lent s e a b ft st c m) 0 (lent s e a b ft st c m)
on-nothing allowance s e a b ft st c m z = record { run = rw (z, run_none go step (desk_in s e a b ft st c m)) }

module _ (allowance u : ℕ) (s e ft st c m s' e' ft' st' c' m' : List ℕ) where
  pub on-first : (a b b' : List ℕ) → get_or s 28 0 ≡ 0 → RanFor allowance s (tables e a b ft st c) m u s' (tables e' a b' ft' st' c') m'
      → RanOn allowance (lent s e a b ft st c m) u (lent s' e' a b' ft' st' c' m')
  unfolding world_with
  on-first a b b' z x =
      let here : set_in (get_or s 28 0) ≡ false = unset (get_or s 28 0) z in
      let there : set_in (get_or s' 28 0) ≡ false = unset (get_or s' 28 0) (ap (λ (k : Sides). k.resources) x.side ∙ z) in
      record { run = rw (here, there) x.run }

  pub on-second : (a b a' : List ℕ) → (get_or s 28 0 ≡ 0 → ⊥) → RanFor allowance s (tables e b a ft st c) m u s' (tables e' b a' ft' st' c') m'
      → RanOn allowance (lent s e a b ft st c m) u (lent s' e' a' b ft' st' c' m')
  unfolding world_with
  on-second a b a' n x =
      let here : set_in (get_or s 28 0) ≡ true = is_set (get_or s 28 0) n in
      let there : set_in (get_or s' 28 0) ≡ true = is_set (get_or s' 28 0) (λ z. n (sym (ap (λ (k : Sides). k.resources) x.side) ∙ z)) in
      record { run = rw (here, there) x.run }

pub ruleset choosing = (on-nothing, on-first, on-second, rules)
