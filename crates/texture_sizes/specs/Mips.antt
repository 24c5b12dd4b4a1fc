-- One mip as the code works it out: its sides, its rows, its bytes, and their sum over the mips before it.
-- Assumes nothing.
use Rattle.std.specs.Prelude.{◌≡◌, ℕ, ◌*◌, ◌^◌, ◌≤◌, ◌<◌}
use Rattle.std.proofs.Common.{le_trans, mul-le-mul, arith, lit≤, rules}
use borrow.Author.Tests.{ne_eqb}
use Rattle.rules.specs.Numbers.{longest_side}
use Rattle.rules.specs.Shapes.{blocks, mip_side, tight, rows, mip_bytes}
use Rattle.rules.specs.declared.Shape.{Shape}
use Rattle.texture_shapes.specs.Formats.{blocks-le}
use Rattle.texture_shapes.specs.Bounds.{Bounded, most_of_mip, mip-side-le, tight-le, mip-bytes-le}
use Rattle.texture_shapes.specs.Rows.{side-fits}

-- ---- the bytes of a mip

module _ (s : Shape) (b : Bounded s) (f m n r : ℕ) (d : n ≡ mip_side s.height m) (e : r ≡ blocks f n) where
  few-rows : r ≤ longest_side
  few-rows = rw (e, d) (le_trans (blocks-le f (mip_side s.height m)) (mip-side-le s.height m longest_side (lit≤ tt) b.height))

  pub pitch-rows-fit : (p : ℕ) → p < 2 ^ 32 → p * r < 2 ^ 64
  pitch-rows-fit p h =
      let bound : p * r ≤ 2 ^ 32 * longest_side = mul-le-mul {n₂ = 2 ^ 32} {m₂ = longest_side} (omega arith) few-rows in
      omega arith

  pub tight-rows-fit : (t : ℕ) → t ≡ tight s m → t * r < 2 ^ 64
  tight-rows-fit t g =
      let bound : t * r ≤ longest_side * 16 * longest_side =
      mul-le-mul {n₂ = longest_side * 16} {m₂ = longest_side} (rw g (tight-le s b m)) few-rows in
      omega arith

module _ (s : Shape) (p m n r : ℕ) (d : n ≡ mip_side s.height m) (e : r ≡ blocks s.format n) where
  pub first-mip : m ≡ 0 → p * r ≡ mip_bytes s p m
  unfolding mip_bytes rows
  first-mip z = rw (e, d, z)

  pub later-mip : (t : ℕ) → t ≡ tight s m → (m ≡ 0 → ⊥) → t * r ≡ mip_bytes s p m
  unfolding mip_bytes rows
  later-mip t f z = rw (e, d, f, ne_eqb m 0 z)

  module _ (b : Bounded s) (h : p < 2 ^ 32) where
    pub first-mip-le : m ≡ 0 → p * r ≤ most_of_mip
    first-mip-le z = rw (first-mip z) (mip-bytes-le s b p h m)

    pub later-mip-le : (t : ℕ) → t ≡ tight s m → (m ≡ 0 → ⊥) → t * r ≤ most_of_mip
    later-mip-le t f z = rw (later-mip t f z) (mip-bytes-le s b p h m)

pub ruleset weighing = (side-fits, pitch-rows-fit, tight-rows-fit, first-mip, later-mip, first-mip-le, later-mip-le, rules)
