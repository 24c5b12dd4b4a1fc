-- A side and a row of a mip: what the code asks. Assumes nothing.
use Rattle.std.specs.Prelude.{◌≡◌, ℕ, ◌-◌, ◌*◌, ◌/◌, ◌^◌, ◌≤◌, ◌<◌}
use Rattle.std.proofs.Common.{mul-le-mul, arith, lit≤, rules}
use Rattle.rules.specs.Shapes.{larger, block_bytes, blocks, mip_side, tight}
use Rattle.rules.specs.declared.Shape.{Shape}
use Rattle.texture_shapes.specs.Formats.{unit-le, blocks-le}
use Rattle.texture_shapes.specs.Bounds.{mip-side-le}

-- ---- a side and a row

pub side-shifted : (n m r : ℕ) → r ≡ larger 1 (n / 2 ^ m) → r ≡ mip_side n m
unfolding mip_side
side-shifted n m r e = e

pub side-fits : (n m r : ℕ) → r ≡ mip_side n m → n < 2 ^ 32 → r < 2 ^ 32
side-fits n m r e h = rw e (omega (arith, mip-side-le n m (2 ^ 32 - 1) (lit≤ tt) (omega arith)))

pub row_fits : (f n b u : ℕ) → n < 2 ^ 32 → b ≡ blocks f n → u ≡ block_bytes f → b * u < 2 ^ 64
row_fits f n b u h e g =
    let bound : b * u ≤ 2 ^ 32 * 16 = mul-le-mul {n₂ = 2 ^ 32} {m₂ = 16} (rw e (omega (arith, blocks-le f n))) (rw g (unit-le f)) in
    omega arith

pub row-is-tight : (s : Shape) (m n b u : ℕ) → n ≡ mip_side s.width m → b ≡ blocks s.format n → u ≡ block_bytes s.format → b * u ≡ tight s m
unfolding tight
row-is-tight s m n b u d e f = rw (e, f, d)

pub ruleset measuring = (side-shifted, side-fits, row_fits, row-is-tight, rules)
