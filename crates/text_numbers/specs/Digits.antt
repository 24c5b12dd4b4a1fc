-- Laws of digits: how many there are, that they read back as the number, and that there is no leading zero.
-- Assumes nothing.
use Rattle.std.specs.Prelude.{◌≡◌, refl, Bool, true, false, List, [], ◌∷◌, ◌++◌, ℕ, zero, suc, ◌+◌, ◌-◌, ◌*◌, ◌/◌, ◌%◌, ◌^◌, ◌≤◌, ◌<◌, ltb, length, get_or}
use Rattle.std.proofs.Common.{sym, ◌∙◌, ⊎_elim, pow-suc, arith, lit<, lit≤, lt-ltb, le-ltb, length-append}
use Rattle.std.proofs.Math.Nat.{pow-zero, mod-one, one-le-pow}
use Rattle.std.proofs.Math.Arith.{mod-mul}
use Rattle.std.proofs.Math.ListN.{get_or-append}
use Rattle.machine.specs.Machine.{pick}
use Rattle.words.specs.Over.{below_or_not}
use Rattle.rules.specs.Text.{digit, hex_digit, hex, decimal_in, decimal}
use Rattle.text_numbers.specs.Numbers.{decimal_digit, decimal-more, decimal-some}

-- ---- a property of decimal digits, from those of the number without its last digit

module _ (P : ℕ → Type 0) (one : (n : ℕ) → n < 10 → P n) (more : (n : ℕ) → 10 ≤ n → n < 2 ^ 64 → P (n / 10) → P n) where
  within : (k n : ℕ) → n < k → n < 2 ^ 64 → P n
  within zero n h g = absurd (omega arith)
  within (suc k) n h g = ⊎_elim (λ s. one n s) (λ l. more n l g (within k (n / 10) (omega arith) (omega arith))) (below_or_not n 10)

  pub by_digits : (n : ℕ) → n < 2 ^ 64 → P n
  by_digits n g = within (suc n) n (omega arith) g

-- ---- how many

in-length : (k n : ℕ) → length (decimal_in k n) ≤ k
unfolding decimal_in
in-length zero n = omega arith
in-length (suc k) n = by_test (ltb n 10) (in-length k (n / 10))
  where
    by_test : (t : Bool) → length (decimal_in k (n / 10)) ≤ k → length (pick t (digit n ∷ []) (decimal_in k (n / 10) ++ (digit (n % 10) ∷ []))) ≤ suc k
    by_test true h = omega arith
    by_test false h = rw length-append (omega arith)

pub decimal-length : (n : ℕ) → length (decimal n) ≤ 20
unfolding decimal
decimal-length n = in-length 20 n

-- ---- they read back

-- the number that decimal digits say
unfoldable pub said_after : ℕ → List ℕ → ℕ
said_after n [] = n
said_after n (d ∷ ds) = said_after (10 * n + (d - 48)) ds

said-last : (n : ℕ) (xs : List ℕ) (d : ℕ) → said_after n (xs ++ (d ∷ [])) ≡ 10 * said_after n xs + (d - 48)
unfolding said_after
said-last n [] d = refl
said-last n (x ∷ xs) d = said-last (10 * n + (x - 48)) xs d

pub reads-back : (n : ℕ) → n < 2 ^ 64 → said_after 0 (decimal n) ≡ n
unfolding said_after
reads-back = by_digits (λ n. said_after 0 (decimal n) ≡ n) (λ n h. rw (decimal_digit n h) (omega arith))
    (λ n h g e. rw (decimal-more n h g, said-last 0 (decimal (n / 10)) (digit (n % 10)), e) (omega arith))

-- ---- no leading zero: a number whose first digit is 0 is 0

pub no-leading-zero : (n : ℕ) → n < 2 ^ 64 → get_or (decimal n) 0 0 ≡ 48 → n ≡ 0
no-leading-zero = by_digits (λ n. get_or (decimal n) 0 0 ≡ 48 → n ≡ 0) one more
  where
    one : (n : ℕ) → n < 10 → get_or (decimal n) 0 0 ≡ 48 → n ≡ 0
    one n h e = let f : 48 + n ≡ 48 = rw (decimal_digit n h) at e in omega arith

    more : (n : ℕ) → 10 ≤ n → n < 2 ^ 64 → (get_or (decimal (n / 10)) 0 0 ≡ 48 → n / 10 ≡ 0) → get_or (decimal n) 0 0 ≡ 48 → n ≡ 0
    more n h g f e =
        let front : get_or (decimal (n / 10)) 0 0 ≡ 48 =
        sym (get_or-append (decimal (n / 10)) (digit (n % 10) ∷ []) 0 0 (decimal-some (n / 10))) ∙ (rw (decimal-more n h g) at e) in
        let z : n / 10 ≡ 0 = f front in
        omega arith

-- ---- hexadecimal digits read back as the lowest digits of the number

-- the number that a hexadecimal digit says
unfoldable pub hex_said : ℕ → ℕ
hex_said c = pick (ltb c 58) (c - 48) (c - 87)

unfoldable pub hex_said_after : ℕ → List ℕ → ℕ
hex_said_after n [] = n
hex_said_after n (d ∷ ds) = hex_said_after (16 * n + hex_said d) ds

hex-said-last : (n : ℕ) (xs : List ℕ) (d : ℕ) → hex_said_after n (xs ++ (d ∷ [])) ≡ 16 * hex_said_after n xs + hex_said d
unfolding hex_said_after
hex-said-last n [] d = refl
hex-said-last n (x ∷ xs) d = hex-said-last (16 * n + hex_said x) xs d

hex-digit-said : (d : ℕ) → d < 16 → hex_said (hex_digit d) ≡ d
unfolding hex_said hex_digit
hex-digit-said d h =
    ⊎_elim
    (λ s. let k : 48 + d < 58 = omega arith in rw (lt-ltb d 10 s, lt-ltb (48 + d) 58 k) (omega arith))
    (λ l. let k : 58 ≤ 87 + d = omega arith in rw (le-ltb d 10 l, le-ltb (87 + d) 58 k) (omega arith))
    (below_or_not d 10)

pub hex-reads-back : (k n : ℕ) → hex_said_after 0 (hex k n) ≡ n % 16 ^ k
unfolding hex hex_said_after
hex-reads-back zero n = rw (pow-zero, mod-one)
hex-reads-back (suc k) n =
    rw (hex-said-last 0 (hex k (n / 16)) (hex_digit (n % 16)), hex-reads-back k (n / 16), hex-digit-said (n % 16) (omega arith), pow-suc 16 k, mod-mul n (one-le-pow k 16 (lit≤ tt)) (lit< tt)) (omega arith)
