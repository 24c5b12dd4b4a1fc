-- How many digits a number has: the laws that counting them asks for. Assumes nothing.
use Rattle.std.specs.Prelude.{◌≡◌, refl, [], ◌∷◌, ◌++◌, ℕ, ◌+◌, ◌/◌, ◌^◌, ◌≤◌, ◌<◌, length}
use Rattle.std.proofs.Common.{ap, arith, rules, Fits, length-append}
use Rattle.std.specs.Int.{w64}
use Rattle.rules.specs.Text.{decimal}
use Rattle.text_numbers.specs.Numbers.{decimal_digit, decimal-more}
use Rattle.text_numbers.specs.Digits.{decimal-length}

-- ---- few_digits

module _ (n : ℕ) where
  one_more : 10 ≤ n → n < 2 ^ 64 → length (decimal n) ≡ 1 + length (decimal (n / 10))
  one_more h g = rw (decimal-more n h g, length-append) (omega arith)

  pub one-digit : n < 10 → 1 ≡ length (decimal n)
  one-digit h = rw (decimal_digit n h)

module _ (n : ℕ) where
  pub two_digits : 10 ≤ n → n < 100 → 2 ≡ length (decimal n)
  two_digits h g = rw (one_more n h (omega arith), ← one-digit (n / 10) (omega arith))

module _ (n : ℕ) where
  pub three-digits : 100 ≤ n → n < 1000 → 3 ≡ length (decimal n)
  three-digits h g = rw (one_more n (omega arith) (omega arith), ← two_digits (n / 10) (omega arith) (omega arith))

module _ (n : ℕ) where
  pub four-digits : 1000 ≤ n → n < 10000 → 4 ≡ length (decimal n)
  four-digits h g = rw (one_more n (omega arith) (omega arith), ← three-digits (n / 10) (omega arith) (omega arith))

  four-more : 10000 ≤ n → n < 2 ^ 64 → length (decimal n) ≡ 4 + length (decimal (n / 10000))
  four-more h g =
      let e : n / 10 / 10 / 10 / 10 ≡ n / 10000 = omega arith in
      let f : length (decimal (n / 10 / 10 / 10 / 10)) ≡ length (decimal (n / 10000)) = ap (λ k. length (decimal k)) e in
      omega
      (arith, one_more n (omega arith) g, one_more (n / 10) (omega arith) (omega arith), one_more (n / 10 / 10) (omega arith) (omega arith), one_more (n / 10 / 10 / 10) (omega arith) (omega arith), f)

-- a count of digits is small
pub count_fits : (j k n : ℕ) → k ≡ length (decimal n) → j ≤ 16 → Fits w64 (j + k)
count_fits j k n e h = record { fits = omega (arith, decimal-length n) }

pub ruleset counting_few = (one-digit, two_digits, three-digits, four-digits, rules)

module _ (n : ℕ) (g : n < 2 ^ 64) where
  pub digits_4 : 10000 ≤ n → (k : ℕ) → k ≡ length (decimal (n / 10000)) → 4 + k ≡ length (decimal n)
  digits_4 h k e = omega (arith, four-more n h g)

  pub digits_8 : 100000000 ≤ n → (k : ℕ) → k ≡ length (decimal (n / 100000000)) → 8 + k ≡ length (decimal n)
  digits_8 h k e =
      let z : n / 10000 / 10000 ≡ n / 100000000 = omega arith in
      let f : length (decimal (n / 10000 / 10000)) ≡ length (decimal (n / 100000000)) = ap (λ j. length (decimal j)) z in
      omega (arith, four-more n (omega arith) g, four-more (n / 10000) (omega arith) (omega arith), f)

  pub digits-12 : 1000000000000 ≤ n → (k : ℕ) → k ≡ length (decimal (n / 1000000000000)) → 12 + k ≡ length (decimal n)
  digits-12 h k e =
      let z : n / 100000000 / 10000 ≡ n / 1000000000000 = omega arith in
      let f : length (decimal (n / 100000000 / 10000)) ≡ length (decimal (n / 1000000000000)) = ap (λ j. length (decimal j)) z in
      omega (arith, digits_8 (omega arith) (length (decimal (n / 100000000))) refl, four-more (n / 100000000) (omega arith) (omega arith), f)

  pub digits-16 : 10000000000000000 ≤ n → (k : ℕ) → k ≡ length (decimal (n / 10000000000000000)) → 16 + k ≡ length (decimal n)
  digits-16 h k e =
      let z : n / 1000000000000 / 10000 ≡ n / 10000000000000000 = omega arith in
      let f : length (decimal (n / 1000000000000 / 10000)) ≡ length (decimal (n / 10000000000000000)) = ap (λ j. length (decimal j)) z in
      omega (arith, digits-12 (omega arith) (length (decimal (n / 1000000000000))) refl, four-more (n / 1000000000000) (omega arith) (omega arith), f)

pub ruleset counting = (count_fits, digits_4, digits_8, digits-12, digits-16, rules)
