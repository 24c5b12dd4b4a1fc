-- What the machine's signed numbers come to, a law for each end. Assumes nothing.
use Rattle.std.specs.Prelude.{◌≡◌, refl, Bool, true, false, ℕ, zero, suc, ◌+◌, ◌-◌, ◌≤◌, ◌<◌, min, T, ℤ, pos, negsuc, nat_abs, ◌-ℤ◌}
use Rattle.std.proofs.Common.{sym, ap, ◌∙◌, true≢false, arith, rules, lt-ltb, le-ltb, Fits, SFits, to_z, of_z}
use Rattle.std.specs.Int.Signed.{lt_z, non_neg}
use mir.Syntax.{w32}
use mir.ValLaws.{to_z-of_z, to_z_pos}
use Rattle.machine.specs.Machine.{pick}
use Rattle.rules.specs.Layouts.{signed}
use Rattle.rules.specs.StatePackets.{negative, begins, ends, common}

-- a signed number, read back from the bits that the machine has for it
abbrev held : ℤ → ℤ
held x = to_z w32 (of_z w32 x)

-- ---- -1 less a number

from_less : (n : ℕ) → negsuc 0 -ℤ negsuc n ≡ pos n
from_less n =
    let w : 1 ≤ suc n = omega arith in
    rw (le-ltb (suc n) 1 w) (ap pos (omega arith))

to-less : (n : ℕ) → negsuc 0 -ℤ pos n ≡ negsuc n
to-less zero = refl
to-less (suc n) = ap negsuc (omega arith)

-- ---- signed_of

module _ (word : ℕ) where
  pub low_word : word < 2147483648 → to_z w32 word ≡ signed word
  unfolding signed
  low_word h = rw (lt-ltb _ _ h)

  module _ (h : 2147483648 ≤ word) where
    high-less : negsuc 0 -ℤ to_z w32 (4294967295 - word) ≡ negsuc (4294967295 - word)
    high-less =
        let w : 4294967295 - word < 2147483648 = omega arith in
        rw (to_z_pos w32 (4294967295 - word) w) (to-less (4294967295 - word))

    pub high_fits : SFits w32 (negsuc 0 -ℤ to_z w32 (4294967295 - word))
    high_fits = rw high-less (record { sfits = omega arith })

    pub high_word : to_z w32 (of_z w32 (negsuc 0 -ℤ to_z w32 (4294967295 - word))) ≡ signed word
    unfolding signed
    high_word = to_z-of_z w32 _ high_fits ∙ high-less ∙ rw (le-ltb _ _ h)

-- ---- is_negative

below-zero : (x : ℤ) → lt_z x (pos 0) ≡ negative x
below-zero (pos n) = le-ltb n 0 (omega arith)
below-zero (negsuc n) = refl

pub negative-told : (x : ℤ) → SFits w32 x → lt_z (held x) (pos 0) ≡ negative x
negative-told x f = rw (to_z-of_z w32 x f) (below-zero x)

-- ---- size_of

less_one : (x : ℤ) → true ≡ negative x → negsuc 0 -ℤ x ≡ pos (nat_abs x - 1)
less_one (pos n) e = absurd (true≢false e)
less_one (negsuc n) e = from_less n ∙ ap pos (omega arith)

size_fits : (x : ℤ) → SFits w32 x → nat_abs x ≤ 2147483648
size_fits (pos n) f = omega arith
size_fits (negsuc n) f = omega arith

size-not-zero : (x : ℤ) → true ≡ negative x → 0 < nat_abs x
size-not-zero (pos n) e = absurd (true≢false e)
size-not-zero (negsuc n) e = omega arith

plain : (x : ℤ) → false ≡ negative x → T (non_neg x)
plain (pos n) e = tt
plain (negsuc n) e = absurd (true≢false (sym e))

module _ (x : ℤ) (f : SFits w32 x) (b : Bool) (is : b ≡ negative (held x)) where
  told : b ≡ negative x
  told = is ∙ ap negative (to_z-of_z w32 x f)

  module _ (t : b ≡ true) where
    less-is : negsuc 0 -ℤ held x ≡ pos (nat_abs x - 1)
    less-is = rw (to_z-of_z w32 x f) (less_one x (sym t ∙ told))

    pub less-fits : SFits w32 (negsuc 0 -ℤ held x)
    less-fits = rw less-is (record { sfits = omega (arith, size_fits x f) })

    less-held : held (negsuc 0 -ℤ held x) ≡ pos (nat_abs x - 1)
    less-held = to_z-of_z w32 _ less-fits ∙ less-is

    pub less-cast : T (non_neg (held (negsuc 0 -ℤ held x))) × Fits w32 (nat_abs (held (negsuc 0 -ℤ held x)))
    less-cast = rw less-held (tt, record { fits = omega (arith, size_fits x f) })

    pub one-more-fits : Fits w32 (nat_abs (held (negsuc 0 -ℤ held x)) + 1)
    one-more-fits = rw less-held (record { fits = omega (arith, size_fits x f) })

    pub size-negative : nat_abs (held (negsuc 0 -ℤ held x)) + 1 ≡ nat_abs x
    size-negative = rw less-held (omega (arith, size-not-zero x (sym t ∙ told)))

  pub size-cast : b ≡ false → T (non_neg (held x)) × Fits w32 (nat_abs (held x))
  size-cast t = rw (to_z-of_z w32 x f) (plain x (sym t ∙ told), record { fits = omega (arith, size_fits x f) })

-- ---- begins, ends, common

begins-at : (b : Bool) (x : ℤ) → b ≡ negative x → pick b 0 (nat_abs x) ≡ begins x
begins-at b (pos n) e = rw e
begins-at b (negsuc n) e = rw e

ends_at : (b : Bool) (x : ℤ) (long : ℕ) → b ≡ negative x → pick b (long - nat_abs x) (nat_abs x + long) ≡ ends x long
ends_at b (pos n) long e = rw e
ends_at b (negsuc n) long e = rw e

module _ (x : ℤ) (f : SFits w32 x) (b : Bool) (is : b ≡ negative (held x)) where
  pub begins-before : b ≡ true → 0 ≡ begins x
  begins-before t = rw t at (begins-at b x (is ∙ ap negative (to_z-of_z w32 x f)))

  module _ (from : ℕ) (size : from ≡ nat_abs (held x)) where
    pub begins-there : b ≡ false → from ≡ begins x
    begins-there t = size ∙ ap nat_abs (to_z-of_z w32 x f) ∙ (rw t at (begins-at b x (is ∙ ap negative (to_z-of_z w32 x f))))

    module _ (long : ℕ) where
      pub ends-before : (end : ℕ) → b ≡ true → end ≡ long - from → end ≡ ends x long
      ends-before end t e =
          e ∙ rw (size, to_z-of_z w32 x f) (rw t at (ends_at b x long (is ∙ ap negative (to_z-of_z w32 x f))))

      pub ends_there : b ≡ false → from + long ≡ ends x long
      ends_there t =
          rw (size, to_z-of_z w32 x f) (rw t at (ends_at b x long (is ∙ ap negative (to_z-of_z w32 x f))))

pub common-told : (x long : ℤ) → SFits w32 x → SFits w32 long → (side n end near from r : ℕ) → n ≡ nat_abs (held long) → end ≡ ends (held x) n → near ≡ min end side
    → from ≡ begins (held x) → r ≡ near - from → r ≡ common x (nat_abs long) side
unfolding common
common-told x long f g side n end near from r sized ended nearest begun e =
    rw (e, nearest, ended, begun, sized, to_z-of_z w32 x f, to_z-of_z w32 long g)

pub ruleset signs =
    (low_word, high_fits, high_word, negative-told, less-fits, one-more-fits, size-negative, begins-before, begins-there, ends-before, ends_there, common-told, rules)
