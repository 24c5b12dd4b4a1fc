-- The full chain in one shift: as many mips as halvings of the larger side, and one.
-- Assumes nothing.
use Rattle.std.specs.Prelude.{◌≡◌, Bool, true, false, ℕ, zero, suc, ◌+◌, ◌-◌, ◌*◌, ◌/◌, ◌^◌, ◌≤◌, ◌<◌, ltb, leb}
use Rattle.std.proofs.Math.Path.{refl, sym}
use Rattle.std.proofs.Common.{not-suc-le-zero, le-div_iff_mul-le, div-lt_iff_lt-mul, arith, lit<, ltb-true, ltb-false, le-leb}
use Rattle.std.proofs.Math.Nat.{two-pow-succ, one-le-pow}
use Rattle.std.proofs.lemmas.Bool.{lt-leb}
use Rattle.rules.specs.Shapes.{larger, halvings, full_chain}
use Rattle.texture_shapes.specs.Formats.{pick-le}
use Rattle.texture_shapes.specs.Bounds.{longest_chain}

pub halvings-le : (j n : ℕ) → halvings j n ≤ j
unfolding halvings
halvings-le zero n = omega arith
halvings-le (suc j) n = pick-le (leb n 1) 0 (suc (halvings j (n / 2))) (suc j) (omega arith) (omega (arith, halvings-le j (n / 2)))

pub enough-halvings : (k j n : ℕ) → k ≤ j → 2 ^ k ≤ n → k ≤ halvings j n
unfolding halvings
enough-halvings zero j n h p = omega arith
enough-halvings (suc k) zero n h p = absurd (not-suc-le-zero h)
enough-halvings (suc k) (suc j) n h p =
    let double : 2 ^ suc k ≡ 2 ^ k + 2 ^ k = two-pow-succ k in
    let some : 1 ≤ 2 ^ k = one-le-pow k 2 (lit< tt) in
    rw (lt-leb n 1 (omega arith)) (omega (arith, enough-halvings k j (n / 2) (omega arith) (omega arith)))

pub too-few-halvings : (k j n : ℕ) → n < 2 ^ suc k → halvings j n ≤ k
unfolding halvings
too-few-halvings k zero n p = omega arith
too-few-halvings zero (suc j) n p = rw (le-leb n 1 (omega arith)) (omega arith)
too-few-halvings (suc k) (suc j) n p =
    pick-le
    (leb n 1)
    0
    (suc (halvings j (n / 2)))
    (suc k)
    (omega arith)
    (omega (arith, too-few-halvings k j (n / 2) (omega (arith, two-pow-succ (suc k)))))

module _ (w h mips : ℕ) where
  pub one-always : mips ≤ 1 → true ≡ leb mips (full_chain w h)
  unfolding full_chain
  one-always p = sym (le-leb mips (full_chain w h) (omega arith))

  pub beyond-longest : longest_chain < mips → false ≡ leb mips (full_chain w h)
  unfolding full_chain
  beyond-longest p = sym (lt-leb mips (full_chain w h) (omega (arith, halvings-le 14 (larger w h))))

  pub by-shift : (n : ℕ) → n ≡ larger w h → 1 < mips → mips ≤ longest_chain → ltb 0 (n / 2 ^ (mips - 1)) ≡ leb mips (full_chain w h)
  unfolding full_chain
  by-shift n e lo hi = by (ltb 0 (n / 2 ^ (mips - 1))) refl
    where
      some : 0 < 2 ^ (mips - 1)
      some = one-le-pow (mips - 1) 2 (lit< tt)

      one_more : suc (mips - 2) ≡ mips - 1
      one_more = omega arith

      by : (v : Bool) → ltb 0 (n / 2 ^ (mips - 1)) ≡ v → v ≡ leb mips (full_chain w h)
      by true t =
          let reached : 1 * 2 ^ (mips - 1) ≤ n = (le-div_iff_mul-le some).0 (ltb-true 0 (n / 2 ^ (mips - 1)) t) in
          let k : mips - 1 ≤ halvings 14 (larger w h) = rw (← e) (enough-halvings (mips - 1) 14 n (omega arith) (omega arith)) in
          sym (le-leb mips (full_chain w h) (omega arith))
      by false t =
          let left : n < 1 * 2 ^ (mips - 1) = (div-lt_iff_lt-mul some).0 (omega (arith, ltb-false 0 (n / 2 ^ (mips - 1)) t)) in
          let k : halvings 14 (larger w h) ≤ mips - 2 = rw (← e) (too-few-halvings (mips - 2) 14 n (rw one_more (omega arith))) in
          sym (lt-leb mips (full_chain w h) (omega arith))

pub ruleset chaining = (one-always, beyond-longest, by-shift)
