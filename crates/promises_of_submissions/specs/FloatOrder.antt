-- Wish 7: "Floats are compared in the order of IEEE 754 as told from their u32 bits, -0 equal to 0." The rules' order of two words that are no
-- NaN's is the order of the floats that they are. Assumes nothing.
use Rattle.std.specs.Prelude.{◌≡◌, refl, Bool, true, false, ltb, leb, ℤ, pos, Float}
use Rattle.std.proofs.Common.{sym, ap, ◌∙◌, zero-mul, mul-pos, le_of_mul-le-mul_right}
use Rattle.std.proofs.Math.Logic.{⊎_elim}
use Prim.Native.Nat.{ℕ, zero, suc, ◌+◌, ◌-◌, ◌*◌, ◌/◌, ◌%◌, ◌^◌, ◌≤◌, ◌<◌}
use Rattle.std.proofs.Math.Nat.{mul-le-mul_left, mul-le-mul_right, mul-lt-mul_of_pos_right, two-pow-succ}
use native.Mathlib.Omega.{arith}
use borrow.Author.Tests.{lt-ltb, le-ltb, le-leb, lt-leb, ne_eqb, ltb-false}
use Rattle.std.proofs.Math.Pow.{pow_mono, pow_pos}
use Rattle.std.specs.Float.{nan, inf, fin, binary32}
use Rattle.std.specs.Float.Ieee.{up, down, lt, of_fields, of_bits}
use Rattle.std.specs.Float.Ieee as Ieee
use Rattle.std.specs.Float.Ieee.Exact.{HasValue, odd_sign}
use Rattle.std.specs.Float.Ieee.Fits.{down_pos}
use Rattle.std.specs.Float.Ieee.Order.{transfer}
use Rattle.rules.specs.Floats.{float_of, infinity, sign_bit, is_nan_bits, key, below, float_zero, float_one}
use Rattle.words.specs.Over.{below_or_not}

-- ---- a float's fields

-- a fraction's digits, and those of the digit before them
abbrev digits : ℕ
digits = 8388608

-- the size of a float by its exponent's field and its fraction, in units of the smallest one
units : ℕ → ℕ → ℕ
units zero t = t * 2 ^ 0
units (suc x) t = (digits + t) * 2 ^ x

-- it grows with the fields
module _ (t u : ℕ) (few : t < digits) (less : u < digits) where
  grows : (x y : ℕ) → x * digits + t < y * digits + u → units x t < units y u
  unfolding units
  grows zero zero h = omega arith
  grows zero (suc y) h =
      let p : 0 < 2 ^ y = pow_pos y in
      let l : (digits + u) * 1 ≤ (digits + u) * 2 ^ y = mul-le-mul_left (digits + u) p in
      omega arith
  grows (suc x) zero h = absurd (omega arith)
  grows (suc x) (suc y) h = ⊎_elim further within (below_or_not x y)
    where
      further : x < y → (digits + t) * 2 ^ x < (digits + u) * 2 ^ y
      further l =
          let twice : 2 ^ suc x ≡ 2 ^ x + 2 ^ x = two-pow-succ x in
          let up_to : 2 ^ suc x ≤ 2 ^ y = pow_mono l in
          let one : (digits + t) * 2 ^ x < (digits + digits) * 2 ^ x = mul-lt-mul_of_pos_right (omega arith) (pow_pos x) in
          let two : digits * 2 ^ y ≤ (digits + u) * 2 ^ y = mul-le-mul_right (2 ^ y) (omega arith) in
          omega arith

      within : y ≤ x → (digits + t) * 2 ^ x < (digits + u) * 2 ^ y
      within l =
          let same : x ≡ y = omega arith in
          rw same (mul-lt-mul_of_pos_right (omega arith) (pow_pos y))

-- so it compares as they do
same_test : (a b c d : ℕ) → (a < b → c < d) → (b ≤ a → d ≤ c) → ltb c d ≡ ltb a b
same_test a b c d yes-then no-then =
    ⊎_elim (λ h. rw (lt-ltb a b h, lt-ltb c d (yes-then h))) (λ h. rw (le-ltb a b h, le-ltb c d (no-then h))) (below_or_not a b)

module _ (x t y u : ℕ) (few : t < digits) (less : u < digits) where
  units-compare : ltb (units x t) (units y u) ≡ ltb (x * digits + t) (y * digits + u)
  units-compare =
      same_test (x * digits + t) (y * digits + u) (units x t) (units y u) (grows t u few less x y)
      (λ h. ⊎_elim (λ l. omega (arith, grows u t less few y x l)) (λ l. equal (omega arith) (omega arith)) (below_or_not (y * digits + u) (x * digits + t)))
    where
      equal : x ≡ y → t ≡ u → units y u ≤ units x t
      equal p q = rw (p, q) (omega arith)

-- ---- two floats of known size

-- x / de and y / dd are a / c and b / c
module _ (x y de dd a b c : ℕ) (some : 0 < c) (ends : 0 < de) (last : 0 < dd) (p : x * c ≡ a * de) (q : y * c ≡ b * dd) where
  crosses : ltb (x * dd) (y * de) ≡ ltb a b
  crosses =
      same_test a b (x * dd) (y * de)
      (λ h. ⊎_elim (λ l. l)
      (λ l. absurd (let back : b ≤ a = le_of_mul-le-mul_right (transfer b a c c y x dd de last ends (sym q) (sym p) l) some in omega arith))
      (below_or_not (x * dd) (y * de)))
      (λ h. transfer y x dd de b a c c some some q p (mul-le-mul_right c h))

-- one of them is none exactly if the other is
module _ (x de dd a c : ℕ) (p : x * c ≡ a * de) where
  is_some : 0 < de → 0 < dd → 0 < a → 0 < x * dd
  is_some ends last h =
      ⊎_elim (λ l. mul-pos l last)
      (λ l. absurd (let z : x ≡ 0 = omega arith in let w : x * c ≡ 0 = rw z (zero-mul c) in omega (arith, mul-pos h ends)))
      (below_or_not 0 x)

  is_none : 0 < c → a ≡ 0 → x * dd ≡ 0
  is_none some z =
      let w : x * c ≡ 0 = p ∙ rw z (zero-mul de) in
      ⊎_elim (λ l. absurd (omega (arith, mul-pos l some))) (λ l. let n : x ≡ 0 = omega arith in rw n (zero-mul dd)) (below_or_not 0 x)

module _ (c : ℕ) (some : 0 < c) (m n : ℕ) (e d : ℤ) (a b : ℕ) (p : m * up e * c ≡ a * down e) (q : n * up d * c ≡ b * down d) where
  abbrev one : ℕ
  one = m * up e * down d

  abbrev other : ℕ
  other = n * up d * down e

  either-some : ltb 0 (one + other) ≡ ltb 0 (a + b)
  either-some =
      same_test 0 (a + b) 0 (one + other)
      (λ h. ⊎_elim (λ l. omega (arith, is_some (m * up e) (down e) (down d) a c p (down_pos e) (down_pos d) l))
      (λ l. omega (arith, is_some (n * up d) (down d) (down e) b c q (down_pos d) (down_pos e) (omega arith)))
      (below_or_not 0 a))
      (λ h. omega (arith, is_none (m * up e) (down e) (down d) a c p some (omega arith), is_none (n * up d) (down d) (down e) b c q some (omega arith)))

  by-signs : (s t : Bool) → Ieee.below s one t other ≡ Ieee.below s a t b
  by-signs false false = crosses (m * up e) (n * up d) (down e) (down d) a b c some (down_pos e) (down_pos d) p q
  by-signs false true = refl
  by-signs true false = either-some
  by-signs true true = crosses (n * up d) (m * up e) (down d) (down e) b a c some (down_pos d) (down_pos e) q p

values-compare : (c : ℕ) → 0 < c → (v w : Float) (s t : Bool) (a b : ℕ) → HasValue v s a c → HasValue w t b c → lt v w ≡ Ieee.below s a t b
unfolding lt
values-compare c some nan w s t a b p q = absurd p
values-compare c some (inf r) w s t a b p q = absurd p
values-compare c some (fin r m e) nan s t a b p q = absurd q
values-compare c some (fin r m e) (inf k) s t a b p q = absurd q
values-compare c some (fin r m e) (fin k n d) s t a b p q = rw (p.0, q.0) (by-signs c some m n e d a b p.1 q.1 s t)

-- ---- what the fields of a float say

-- finite below the highest exponent
fields_value : (s : Bool) (x t : ℕ) → x < 255 → HasValue (of_fields binary32 s x t) s (units x t) (2 ^ 149)
unfolding of_fields units
fields_value s zero t h = odd_sign 24 s t 0 149
fields_value s (suc x) t h = rw (ne_eqb (suc x) 255 (λ z. omega arith)) (odd_sign 24 s (digits + t) x 149)

-- and an infinity there, unless it is a NaN
fields-end : (s : Bool) (x t : ℕ) → 255 ≤ x → x * digits + t ≤ infinity → (of_fields binary32 s x t ≡ inf s) × (x * digits + t ≡ infinity)
unfolding of_fields
fields-end s x t h k = let p : x ≡ 255 = omega arith in let q : t ≡ 0 = omega arith in (rw (p, q), rw (p, q))

-- an infinity is beyond every finite float
end-first : (w : Float) (s t : Bool) (b c n : ℕ) → HasValue w t b c → n < infinity → lt (inf s) w ≡ Ieee.below s infinity t n
unfolding lt
end-first nan s t b c n q h = absurd q
end-first (inf k) s t b c n q h = absurd q
end-first (fin k m e) false false b c n q h = sym (le-ltb infinity n (omega arith))
end-first (fin k m e) false true b c n q h = refl
end-first (fin k m e) true false b c n q h = sym (lt-ltb 0 (infinity + n) (omega arith))
end-first (fin k m e) true true b c n q h = sym (lt-ltb n infinity h)

end-last : (v : Float) (s t : Bool) (a c n : ℕ) → HasValue v s a c → n < infinity → lt v (inf t) ≡ Ieee.below s n t infinity
unfolding lt
end-last nan s t a c n q h = absurd q
end-last (inf k) s t a c n q h = absurd q
end-last (fin k m e) false false a c n q h = sym (lt-ltb n infinity h)
end-last (fin k m e) false true a c n q h = refl
end-last (fin k m e) true false a c n q h = sym (lt-ltb 0 (n + infinity) (omega arith))
end-last (fin k m e) true true a c n q h = sym (le-ltb infinity n (omega arith))

end-both : (s t : Bool) → lt (inf s) (inf t) ≡ Ieee.below s infinity t infinity
unfolding lt
end-both false false = refl
end-both false true = refl
end-both true false = refl
end-both true true = refl

-- two floats by their signs and the rest of their bits
module _ (s k : Bool) (x t y u : ℕ) (few : t < digits) (less : u < digits) (no_nan : x * digits + t ≤ infinity) (none : y * digits + u ≤ infinity) where
  abbrev first : ℕ
  first = x * digits + t

  abbrev second : ℕ
  second = y * digits + u

  units-some : (i j : ℕ) → j < digits → 0 < i * digits + j → 0 < units i j
  unfolding units
  units-some i j l h = grows 0 j (omega arith) l 0 i h

  units-none : (i j : ℕ) → i * digits + j ≡ 0 → units i j ≡ 0
  unfolding units
  units-none i j h = let p : i ≡ 0 = omega arith in let q : j ≡ 0 = omega arith in rw (p, q)

  by-sizes : (s k : Bool) → Ieee.below s (units x t) k (units y u) ≡ Ieee.below s first k second
  by-sizes false false = units-compare x t y u few less
  by-sizes false true = refl
  by-sizes true false =
      same_test 0 (first + second) 0 (units x t + units y u)
      (λ h. ⊎_elim (λ l. omega (arith, units-some x t few l)) (λ l. omega (arith, units-some y u less (omega arith))) (below_or_not 0 first))
      (λ h. omega (arith, units-none x t (omega arith), units-none y u (omega arith)))
  by-sizes true true = units-compare y u x t less few

  fields-compare : lt (of_fields binary32 s x t) (of_fields binary32 k y u) ≡ Ieee.below s first k second
  fields-compare = ⊎_elim (λ h. ⊎_elim (finite h) (over h) (below_or_not y 255)) (λ h. ⊎_elim (under h) (neither h) (below_or_not y 255)) (below_or_not x 255)
    where
      finite : x < 255 → y < 255 → lt (of_fields binary32 s x t) (of_fields binary32 k y u) ≡ Ieee.below s first k second
      finite h l =
          values-compare (2 ^ 149) (pow_pos 149) (of_fields binary32 s x t) (of_fields binary32 k y u) s k (units x t) (units y u) (fields_value s x t h) (fields_value k y u l)
          ∙ by-sizes s k

      over : x < 255 → 255 ≤ y → lt (of_fields binary32 s x t) (of_fields binary32 k y u) ≡ Ieee.below s first k second
      over h l =
          let end : (of_fields binary32 k y u ≡ inf k) × (second ≡ infinity) = fields-end k y u l none in
          rw (end.0, end.1) (end-last (of_fields binary32 s x t) s k (units x t) (2 ^ 149) first (fields_value s x t h) (omega arith))

      under : 255 ≤ x → y < 255 → lt (of_fields binary32 s x t) (of_fields binary32 k y u) ≡ Ieee.below s first k second
      under h l =
          let end : (of_fields binary32 s x t ≡ inf s) × (first ≡ infinity) = fields-end s x t h no_nan in
          rw (end.0, end.1) (end-first (of_fields binary32 k y u) s k (units y u) (2 ^ 149) second (fields_value k y u l) (omega arith))

      neither : 255 ≤ x → 255 ≤ y → lt (of_fields binary32 s x t) (of_fields binary32 k y u) ≡ Ieee.below s first k second
      neither h l =
          let end : (of_fields binary32 s x t ≡ inf s) × (first ≡ infinity) = fields-end s x t h no_nan in
          let end' : (of_fields binary32 k y u ≡ inf k) × (second ≡ infinity) = fields-end k y u l none in
          rw (end.0, end.1, end'.0, end'.1) (end-both s k)

-- ---- the rules' order goes by the same numbers

module _ (a b : ℕ) (fits : a < 2 ^ 32) (small : b < 2 ^ 32) where
  keys-compare : below a b ≡ Ieee.below (leb sign_bit a) (a % sign_bit) (leb sign_bit b) (b % sign_bit)
  unfolding below key
  keys-compare = ⊎_elim (λ h. ⊎_elim (up_up h) (up-down h) (below_or_not b sign_bit)) (λ h. ⊎_elim (down-up h) (down-down h) (below_or_not b sign_bit)) (below_or_not a sign_bit)
    where
      up_up : a < sign_bit → b < sign_bit → below a b ≡ Ieee.below (leb sign_bit a) (a % sign_bit) (leb sign_bit b) (b % sign_bit)
      up_up h l = rw (lt-ltb a sign_bit h, lt-ltb b sign_bit l, lt-leb sign_bit a h, lt-leb sign_bit b l) (same_test (a % sign_bit) (b % sign_bit) (sign_bit + a) (sign_bit + b) (λ z. omega arith) (λ z. omega arith))

      up-down : a < sign_bit → sign_bit ≤ b → below a b ≡ Ieee.below (leb sign_bit a) (a % sign_bit) (leb sign_bit b) (b % sign_bit)
      up-down h l = rw (lt-ltb a sign_bit h, le-ltb b sign_bit l, lt-leb sign_bit a h, le-leb sign_bit b l) (le-ltb (sign_bit + a) (sign_bit + sign_bit - b) (omega arith))

      down-up : sign_bit ≤ a → b < sign_bit → below a b ≡ Ieee.below (leb sign_bit a) (a % sign_bit) (leb sign_bit b) (b % sign_bit)
      down-up h l = rw (le-ltb a sign_bit h, lt-ltb b sign_bit l, le-leb sign_bit a h, lt-leb sign_bit b l) (same_test 0 (a % sign_bit + b % sign_bit) (sign_bit + sign_bit - a) (sign_bit + b) (λ z. omega arith) (λ z. omega arith))

      down-down : sign_bit ≤ a → sign_bit ≤ b → below a b ≡ Ieee.below (leb sign_bit a) (a % sign_bit) (leb sign_bit b) (b % sign_bit)
      down-down h l = rw (le-ltb a sign_bit h, le-ltb b sign_bit l, le-leb sign_bit a h, le-leb sign_bit b l) (same_test (b % sign_bit) (a % sign_bit) (sign_bit + sign_bit - a) (sign_bit + sign_bit - b) (λ z. omega arith) (λ z. omega arith))

-- ---- and so it is the floats' own

-- a word's exponent and fraction are all of it but the sign
rest-is : (n : ℕ) → n % sign_bit ≡ n % sign_bit / digits * digits + n % digits
rest-is n = omega arith

no-nan-rest : (n : ℕ) → is_nan_bits n ≡ false → n % sign_bit / digits * digits + n % digits ≤ infinity
unfolding is_nan_bits
no-nan-rest n e = omega (arith, rest-is n, ltb-false infinity (n % sign_bit) e)

-- of two words that are no NaN's
pub below-is-the-order : (a b : ℕ) → a < 2 ^ 32 → b < 2 ^ 32 → is_nan_bits a ≡ false → is_nan_bits b ≡ false → below a b ≡ lt (float_of a) (float_of b)
unfolding of_bits
below-is-the-order a b fits small p q =
    let s : Bool = leb sign_bit a in
    let k : Bool = leb sign_bit b in
    keys-compare a b fits small
    ∙ (ap (λ (n : ℕ). Ieee.below s n k (b % sign_bit)) (rest-is a)
    ∙ (ap (λ (n : ℕ). Ieee.below s (a % sign_bit / digits * digits + a % digits) k n) (rest-is b)
    ∙ sym (fields-compare s k (a % sign_bit / digits) (a % digits) (b % sign_bit / digits) (b % digits) (omega arith) (omega arith) (no-nan-rest a p) (no-nan-rest b q))))

-- the two bounds that the rules name are 0 and 1, and -0 is not below 0
pub record TheBounds : Type 0 where
  pub zero_is : float_of float_zero ≡ fin false 0 (pos 0)
  pub one-is : float_of float_one ≡ fin false 1 (pos 0)
  pub minus-zero : (below sign_bit float_zero ≡ false) × (below float_zero sign_bit ≡ false)

pub the_bounds : TheBounds
unfolding of_bits below key
the_bounds = record { zero_is = refl; one-is = refl; minus-zero = (refl, refl) }
