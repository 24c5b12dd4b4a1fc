-- What the tests of a float's bits say, a law for each end. Assumes nothing.
use Rattle.std.specs.Prelude.{◌≡◌, refl, Bool, true, false, not, ℕ, ◌+◌, ◌-◌, ◌*◌, ◌%◌, ◌≤◌, ◌<◌, T, ltb, leb, eqb, Float}
use Rattle.std.specs.Bool.{beq}
use Rattle.std.proofs.Common.{true≢false, arith, rules, lt-ltb, le-ltb}
use Rattle.std.proofs.Math.Dec.{eqb_refl}
use Rattle.std.specs.Float.{nan, inf, fin, binary32}
use Rattle.std.specs.Float.Ieee.{up, down, level, ne, is_nan, nan_bits, to_bits}
use Rattle.std.specs.Float.Ieee.Bits.{nan_bits_above, is_true}
use Rattle.rules.specs.Floats.{bits_of, sign_bit, infinity, is_nan_bits, not_finite, key, below, float_zero, float_one, outside}

-- ---- is_nan, not_finite

pub nan-told : (b : ℕ) → ltb infinity (b % sign_bit) ≡ is_nan_bits b
unfolding is_nan_bits
nan-told b = refl

pub not-finite-told : (b : ℕ) → leb infinity (b % sign_bit) ≡ not_finite b
unfolding not_finite
not-finite-told b = refl

-- ---- key, below, outside

module _ (b : ℕ) where
  pub key-up : b < sign_bit → sign_bit + b ≡ key b
  unfolding key
  key-up h = rw (lt-ltb _ _ h)

  pub key-down : sign_bit ≤ b → sign_bit - (b - sign_bit) ≡ key b
  unfolding key
  key-down h = rw (le-ltb _ _ h) (omega arith)

pub below-told : (a b x y : ℕ) → x ≡ key a → y ≡ key b → ltb x y ≡ below a b
unfolding below
below-told a b x y p q = rw (p, q)

module _ (b : ℕ) (x : Bool) (is : x ≡ below b float_zero) where
  pub outside_below : x ≡ true → true ≡ outside b
  outside_below t = rw (← is, t)

  pub outside_above : (y : Bool) → x ≡ false → y ≡ below float_one b → y ≡ outside b
  outside_above y t e = rw (← is, t) e

-- ---- float_of, bits_of

pub a-number : (b : ℕ) → is_nan_bits b ≡ false → T (not (nan_bits binary32 b))
unfolding is_nan_bits
a-number b e = rw (nan_bits_above binary32 b, e) tt

same_sign : (s : Bool) → beq s s ≡ true
same_sign true = refl
same_sign false = refl

level-self : (s : Bool) (a : ℕ) → level s a s a ≡ true
level-self s a = rw (is_true (eqb a a) (eqb_refl a), same_sign s)

-- the bits that stand for all NaNs: the highest of the fraction's alone
abbrev any_nan : ℕ
any_nan = 2143289344

pub only_nan : (x : Float) → ne x x ≡ true → any_nan ≡ bits_of x
unfolding ne to_bits
only_nan nan e = refl
only_nan (inf s) e = cc (same_sign s)
only_nan (fin s m e) h = cc (level-self s (m * up e * down e))

pub no_nan : (x : Float) → ne x x ≡ false → T (not (is_nan x))
unfolding ne is_nan
no_nan nan e = absurd (true≢false e)
no_nan (inf s) e = tt
no_nan (fin s m e) h = tt

pub ruleset telling =
    (nan-told, not-finite-told, key-up, key-down, below-told, outside_below, outside_above, a-number, only_nan, no_nan, rules)
