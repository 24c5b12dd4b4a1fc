-- What a format alone decides: the bytes of its unit, and how many blocks a side takes.
-- The ranges are those that a `match` on the format tests. Assumes nothing.
use Rattle.std.specs.Prelude.{◌≡◌, Bool, ◌||◌, ℕ, ◌+◌, ◌-◌, ◌/◌, ◌≤◌, ◌<◌}
use Rattle.std.proofs.Math.Path.{refl}
use Rattle.std.proofs.Math.Bool.{true, false}
use Rattle.std.proofs.Common.{arith, lit≤}
use Rattle.std.proofs.Math.Dec.{eqb}
use borrow.Author.Tests.{eqb-true, eqb-false, ne_eqb, lt-ltb, le-ltb}
use Rattle.machine.specs.Machine.{pick}
use Rattle.rules.specs.Shapes.{larger, block_bytes, block_side, blocks, tight}
use Rattle.rules.specs.declared.Shape.{Shape}

pub pick-le : (t : Bool) (x y k : ℕ) → x ≤ k → y ≤ k → pick t x y ≤ k
pick-le true x y k p q = p
pick-le false x y k p q = q

pub left-larger : (a b : ℕ) → b ≤ a → a ≡ larger a b
left-larger a b h = rw (le-ltb a b h)

pub right-larger : (a b : ℕ) → a < b → b ≡ larger a b
right-larger a b h = rw (lt-ltb a b h)

pub ruleset comparing = (left-larger, right-larger)

-- ---- units

module _ (f : ℕ) where
  pub pixel-unit : 1 ≤ f → f < 4 → 4 ≡ block_bytes f
  unfolding block_bytes
  pixel-unit lo hi = by_first (eqb f 1) refl
    where
      by-second : (v : Bool) → eqb f 2 ≡ v → (f ≡ 1 → ⊥) → 4 ≡ block_bytes f
      by-second true e n = rw (eqb-true f 2 e)
      by-second false e n =
          let three : f ≡ 3 = omega (arith, n, eqb-false f 2 e) in
          rw three

      by_first : (v : Bool) → eqb f 1 ≡ v → 4 ≡ block_bytes f
      by_first true e = rw (eqb-true f 1 e)
      by_first false e = by-second (eqb f 2) refl (eqb-false f 1 e)

  pub small-block-unit : f ≡ 64 → 8 ≡ block_bytes f
  unfolding block_bytes
  small-block-unit e = rw e

  pub large-block-unit : 64 ≤ f → f < 67 → (f ≡ 64 → ⊥) → 16 ≡ block_bytes f
  unfolding block_bytes
  large-block-unit lo hi n = by (eqb f 65) refl
    where
      by : (v : Bool) → eqb f 65 ≡ v → 16 ≡ block_bytes f
      by true e = rw (eqb-true f 65 e)
      by false e =
          let last : f ≡ 66 = omega (arith, n, eqb-false f 65 e) in
          rw last

  other : (f ≡ 1 → ⊥) → (f ≡ 2 → ⊥) → (f ≡ 3 → ⊥) → (f ≡ 64 → ⊥) → (f ≡ 65 → ⊥) → (f ≡ 66 → ⊥) → 0 ≡ block_bytes f
  unfolding block_bytes
  other a b c d e g = rw (ne_eqb f 1 a, ne_eqb f 2 b, ne_eqb f 3 c, ne_eqb f 64 d, ne_eqb f 65 e, ne_eqb f 66 g)

  pub below-pixels : f < 1 → 0 ≡ block_bytes f
  below-pixels h = other (λ e. omega arith) (λ e. omega arith) (λ e. omega arith) (λ e. omega arith) (λ e. omega arith) (λ e. omega arith)

  pub between-units : 4 ≤ f → f < 64 → 0 ≡ block_bytes f
  between-units g h = other (λ e. omega arith) (λ e. omega arith) (λ e. omega arith) (λ e. omega arith) (λ e. omega arith) (λ e. omega arith)

  pub above-blocks : 67 ≤ f → 0 ≡ block_bytes f
  above-blocks h = other (λ e. omega arith) (λ e. omega arith) (λ e. omega arith) (λ e. omega arith) (λ e. omega arith) (λ e. omega arith)

pub ruleset units = (pixel-unit, small-block-unit, large-block-unit, below-pixels, between-units, above-blocks)

pub unit-le : (f : ℕ) → block_bytes f ≤ 16
unfolding block_bytes
unit-le f =
    let large : pick (eqb f 65 || eqb f 66) 16 0 ≤ 16 = pick-le (eqb f 65 || eqb f 66) 16 0 16 (lit≤ tt) (lit≤ tt) in
    pick-le (eqb f 1 || (eqb f 2 || eqb f 3)) 4 _ 16 (lit≤ tt) (pick-le (eqb f 64) 8 _ 16 (lit≤ tt) large)

-- ---- blocks

module _ (f n : ℕ) where
  pub block-format : 64 ≤ f → f < 67 → (n + 3) / 4 ≡ blocks f n
  unfolding blocks block_side
  block-format lo hi = by_first (eqb f 64) refl
    where
      by-second : (v : Bool) → eqb f 65 ≡ v → (f ≡ 64 → ⊥) → (n + 3) / 4 ≡ blocks f n
      by-second true e no64 = rw (eqb-true f 65 e)
      by-second false e no64 =
          let last : f ≡ 66 = omega (arith, no64, eqb-false f 65 e) in
          rw last

      by_first : (v : Bool) → eqb f 64 ≡ v → (n + 3) / 4 ≡ blocks f n
      by_first true e = rw (eqb-true f 64 e)
      by_first false e = by-second (eqb f 65) refl (eqb-false f 64 e)

  pixel-format : (f ≡ 64 → ⊥) → (f ≡ 65 → ⊥) → (f ≡ 66 → ⊥) → n ≡ blocks f n
  unfolding blocks block_side
  pixel-format a b c = rw (ne_eqb f 64 a, ne_eqb f 65 b, ne_eqb f 66 c) (omega arith)

  pub below-block-formats : f < 64 → n ≡ blocks f n
  below-block-formats h = pixel-format (λ e. omega arith) (λ e. omega arith) (λ e. omega arith)

  pub above-block-formats : 67 ≤ f → n ≡ blocks f n
  above-block-formats h = pixel-format (λ e. omega arith) (λ e. omega arith) (λ e. omega arith)

pub ruleset blocking = (block-format, below-block-formats, above-block-formats)

per-side : (t : Bool) (n : ℕ) → (n + (pick t 4 1 - 1)) / pick t 4 1 ≤ n
per-side true n = omega arith
per-side false n = omega arith

pub blocks-le : (f n : ℕ) → blocks f n ≤ n
unfolding blocks block_side
blocks-le f n = per-side (eqb f 64 || (eqb f 65 || eqb f 66)) n

some-per-side : (t : Bool) (n : ℕ) → 0 < n → 0 < (n + (pick t 4 1 - 1)) / pick t 4 1
some-per-side true n h = omega arith
some-per-side false n h = omega arith

pub blocks-positive : (f n : ℕ) → 0 < n → 0 < blocks f n
unfolding blocks block_side
blocks-positive f n h = some-per-side (eqb f 64 || (eqb f 65 || eqb f 66)) n h

-- ---- the least pitch

-- the tight row of mip 0 of a shape of this format and width, whatever else it has
abbrev pub minimum : ℕ → ℕ → ℕ
minimum format width = tight (record { format = format; width = width; height = 1; mips = 1; layers = 1 }) 0

pub minimum-of-shape : (s : Shape) → minimum s.format s.width ≡ tight s 0
unfolding tight
minimum-of-shape s = refl
