-- Numbers as text: laws of their digits, and those that their writers ask for. Assumes nothing.
use Rattle.std.specs.Prelude.{◌≡◌, refl, Bool, true, false, ltb, length, set}
use Rattle.std.proofs.Common.{sym, subst, ⊎_elim, pow-suc, rules, lt-ltb, le-ltb, Fits, length-append}
use Rattle.std.proofs.Math.Path.{ap}
use mathlib.Core.List.{List, [], ◌∷◌, ◌++◌}
use Prim.Native.Nat.{ℕ, zero, suc, ◌+◌, ◌-◌, ◌/◌, ◌%◌, ◌^◌, ◌≤◌, ◌<◌}
use native.Mathlib.Omega.{arith}
use Rattle.std.specs.Int.{w64}
use Rattle.machine.specs.Machine.{pick}
use Rattle.words.specs.Over.{below_or_not}
use Rattle.rules.specs.Text.{digit, hex_digit, hex, decimal_in, decimal}
use Rattle.text_numbers.specs.Writing.{Puts, Backs, backs-start, backs-end, backs-length, backs-room, backs-next}

-- ---- decimal

-- more digits than there are say nothing
decimal-fuel : (k k' n : ℕ) → n < 10 ^ suc k → n < 10 ^ suc k' → decimal_in (suc k) n ≡ decimal_in (suc k') n
unfolding decimal_in
decimal-fuel zero zero n h h' = refl
decimal-fuel zero (suc k') n h h' = let s : n < 10 = h in rw (lt-ltb n 10 s)
decimal-fuel (suc k) zero n h h' = let s : n < 10 = h' in rw (lt-ltb n 10 s)
decimal-fuel (suc k) (suc k') n h h' =
    ⊎_elim
    (λ s. rw (lt-ltb n 10 s))
    (λ l. rw (le-ltb n 10 l, decimal-fuel k k' (n / 10) (omega (arith, pow-suc 10 (suc k))) (omega (arith, pow-suc 10 (suc k')))))
    (below_or_not n 10)

module _ (n : ℕ) where
  pub decimal_digit : n < 10 → decimal n ≡ digit n ∷ []
  unfolding decimal decimal_in
  decimal_digit h = rw (lt-ltb n 10 h)

  pub decimal-more : 10 ≤ n → n < 2 ^ 64 → decimal n ≡ decimal (n / 10) ++ (digit (n % 10) ∷ [])
  unfolding decimal decimal_in
  decimal-more h g = rw (le-ltb n 10 h) (ap (λ l. l ++ (digit (n % 10) ∷ [])) (decimal-fuel 18 19 (n / 10) (omega arith) (omega arith)))

-- ---- put_decimal

-- it has a digit at least
pub decimal-some : (n : ℕ) → 1 ≤ length (decimal n)
unfolding decimal decimal_in
decimal-some n = by_test (ltb n 10)
  where
    by_test : (t : Bool) → 1 ≤ length (pick t (digit n ∷ []) (decimal_in 19 (n / 10) ++ (digit (n % 10) ∷ [])))
    by_test true = omega arith
    by_test false = rw length-append (omega arith)

module _ (n at : ℕ) (b : List ℕ) (room : at + length (decimal n) ≤ length b) where
  pub decimal-start : (i : ℕ) → i ≡ length (decimal n) → Backs at (decimal n) b (decimal n) i b
  decimal-start i e = backs-start at (decimal n) b i e

  module _ (rest i : ℕ) (m : List ℕ) (w : Backs at (decimal n) b (decimal rest) i m) where
    pub decimal-left : 1 ≤ i
    decimal-left = omega (arith, w.left, decimal-some rest)

    pub decimal-kept : length m ≡ length b
    decimal-kept = backs-length at (decimal n) b room (decimal rest) i m w

    pub decimal-place : at + (i - 1) < length m
    decimal-place = omega (arith, decimal-left, backs-room at (decimal n) b room (decimal rest) i m w)

    pub decimal-fits : length b < 2 ^ 64 → Fits w64 (at + (i - 1))
    decimal-fits h = record { fits = omega (arith, decimal-place, decimal-kept) }

    pub decimal-next : 10 ≤ rest → rest < 2 ^ 64 → (d : ℕ) → d ≡ digit (rest % 10) → Backs at (decimal n) b (decimal (rest / 10)) (i - 1) (set m (at + (i - 1)) d)
    decimal-next h g d e = rw e (backs-next at (decimal n) b room (decimal (rest / 10)) (digit (rest % 10)) i m (rw (decimal-more rest h g) at w))

    module _ (few : rest < 10) where
      pub decimal-first : at < length m
      decimal-first = omega (arith, decimal-place)

      pub decimal-whole : (d count : ℕ) → d ≡ digit rest → count ≡ length (decimal n) → Puts at (decimal n) b (at + count) (set m at d)
      decimal-whole d count e k =
          let v : Backs at (decimal n) b ([] ++ (digit rest ∷ [])) i m = rw (decimal_digit rest few) at w in
          let z : at + (i - 1) ≡ at = omega (arith, v.left) in
          rw (k, e)
          (rw z at (backs-end at (decimal n) b (i - 1) (set m (at + (i - 1)) (digit rest)) (backs-next at (decimal n) b room [] (digit rest) i m v)))

-- what is left of a number's text while i of its digits are
unfoldable pub digits_left : ℕ → ℕ → List ℕ
digits_left zero rest = []
digits_left (suc i) rest = decimal rest

module _ (n at : ℕ) (b : List ℕ) (room : at + length (decimal n) ≤ length b) where
  pub digits-start : (i : ℕ) → i ≡ length (decimal n) → Backs at (decimal n) b (digits_left i n) i b
  unfolding digits_left
  digits-start zero e = absurd (omega (arith, decimal-some n))
  digits-start (suc i) e = backs-start at (decimal n) b (suc i) e

  digits-step : (rest i : ℕ) (m : List ℕ) → Backs at (decimal n) b (decimal rest) (suc i) m → rest < 2 ^ 64
      → Backs at (decimal n) b (digits_left i (rest / 10)) i (set m (at + i) (digit (rest % 10)))
  unfolding digits_left
  digits-step rest zero m w g =
      ⊎_elim
      (λ h.
      let same : rest % 10 ≡ rest = omega arith in
      let v : Backs at (decimal n) b ([] ++ (digit rest ∷ [])) 1 m = rw (decimal_digit rest h) at w in
      rw same (backs-next at (decimal n) b room [] (digit rest) 1 m v))
      (λ h. absurd (omega (arith, w.left, decimal-some (rest / 10), ap length (decimal-more rest h g), length-append (decimal (rest / 10)) (digit (rest % 10) ∷ []))))
      (below_or_not rest 10)
  digits-step rest (suc i) m w g =
      ⊎_elim
      (λ h. absurd (omega (arith, w.left, ap length (decimal_digit rest h))))
      (λ h.
      let less : suc (suc i) - 1 ≡ suc i = omega arith in
      rw less at (backs-next at (decimal n) b room (decimal (rest / 10)) (digit (rest % 10)) (suc (suc i)) m (rw (decimal-more rest h g) at w)))
      (below_or_not rest 10)

  module _ (rest i : ℕ) (m : List ℕ) (w : Backs at (decimal n) b (digits_left i rest) i m) where
    pub digits-kept : length m ≡ length b
    digits-kept = backs-length at (decimal n) b room (digits_left i rest) i m w

    pub digits-end : i ≤ 0 → (count : ℕ) → count ≡ length (decimal n) → Puts at (decimal n) b (at + count) m
    unfolding digits_left
    digits-end h count k =
        let z : i ≡ 0 = omega arith in
        let v : Backs at (decimal n) b [] 0 m = rw z at w in
        rw k (backs-end at (decimal n) b 0 m v)

    module _ (some : 0 < i) where
      pub digits-place : at + (i - 1) < length m
      digits-place = omega (arith, backs-room at (decimal n) b room (digits_left i rest) i m w)

      pub digits-fit : length b < 2 ^ 64 → Fits w64 (at + (i - 1))
      digits-fit h = record { fits = omega (arith, digits-place, digits-kept) }

      pub digits-next : rest < 2 ^ 64 → (d : ℕ) → d ≡ digit (rest % 10) → Backs at (decimal n) b (digits_left (i - 1) (rest / 10)) (i - 1) (set m (at + (i - 1)) d)
      unfolding digits_left
      digits-next g d e =
          let s : i ≡ suc (i - 1) = omega arith in
          let v : Backs at (decimal n) b (digits_left (suc (i - 1)) rest) (suc (i - 1)) m = subst (λ (k : ℕ). Backs at (decimal n) b (digits_left k rest) k m) s w in
          rw e (digits-step rest (i - 1) m v g)

pub ruleset writing_decimal = (decimal-start, decimal-left, decimal-kept, decimal-place, decimal-fits, decimal-first, decimal-whole, digits-start, digits-kept, digits-end, digits-place, digits-fit, rules)

-- ---- hex_digit, put_hex

pub hex-low : (d r : ℕ) → d < 10 → r ≡ 48 + d → r ≡ hex_digit d
unfolding hex_digit
hex-low d r h e = rw (lt-ltb d 10 h) e

pub hex-high : (d r : ℕ) → 10 ≤ d → r ≡ 87 + d → r ≡ hex_digit d
unfolding hex_digit
hex-high d r h e = rw (le-ltb d 10 h) e

pub hex-length : (k n : ℕ) → length (hex k n) ≡ k
unfolding hex
hex-length zero n = refl
hex-length (suc k) n = rw (length-append) (omega (arith, hex-length k (n / 16)))

module _ (count n at : ℕ) (b : List ℕ) (room : at + count ≤ length b) where
  hex-room : at + length (hex count n) ≤ length b
  hex-room = omega (arith, hex-length count n)

  pub hex-start : Backs at (hex count n) b (hex count n) count b
  hex-start = backs-start at (hex count n) b count (sym (hex-length count n))

  module _ (rest i : ℕ) (m : List ℕ) (w : Backs at (hex count n) b (hex i rest) i m) where
    pub hex-kept : length m ≡ length b
    hex-kept = backs-length at (hex count n) b hex-room (hex i rest) i m w

    pub hex-whole : i ≤ 0 → Puts at (hex count n) b (at + count) m
    unfolding hex
    hex-whole h =
        let z : i ≡ 0 = omega arith in
        let v : Backs at (hex count n) b [] 0 m = rw z at w in
        rw (hex-length count n) at (backs-end at (hex count n) b 0 m v)

    module _ (some : 0 < i) where
      pub hex-place : at + (i - 1) < length m
      hex-place = omega (arith, backs-room at (hex count n) b hex-room (hex i rest) i m w)

      pub hex-fits : length b < 2 ^ 64 → Fits w64 (at + (i - 1))
      hex-fits h = record { fits = omega (arith, hex-place, hex-kept) }

      hex-more : hex i rest ≡ hex (i - 1) (rest / 16) ++ (hex_digit (rest % 16) ∷ [])
      unfolding hex
      hex-more = let e : i ≡ suc (i - 1) = omega arith in ap (λ k. hex k rest) e

      pub hex-next : (d : ℕ) → d ≡ hex_digit (rest % 16) → Backs at (hex count n) b (hex (i - 1) (rest / 16)) (i - 1) (set m (at + (i - 1)) d)
      hex-next d e = rw e (backs-next at (hex count n) b hex-room (hex (i - 1) (rest / 16)) (hex_digit (rest % 16)) i m (rw hex-more at w))

pub ruleset writing_hex = (hex-low, hex-high, hex-start, hex-kept, hex-whole, hex-place, hex-fits, rules)
