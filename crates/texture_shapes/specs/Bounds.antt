-- How large the numbers of a shape within the limits can be, so that no sum or product of the code wraps.
-- Assumes nothing.
use Prim.Native.Nat.{ℕ, zero, suc, ◌*◌, ◌/◌, ◌%◌, ◌^◌, ◌≤◌, ◌<◌}
use Rattle.std.proofs.Math.Nat.{le_trans, mul-le-mul}
use Rattle.std.proofs.Common.{div-le_self, lit≤}
use native.Mathlib.Omega.{arith}
use Rattle.std.specs.Prelude.{eqb, ltb}
use Rattle.rules.specs.Numbers.{longest_side, most_layers}
use Rattle.rules.specs.Shapes.{block_bytes, mip_side, tight, rows, mip_bytes, offset_of, subresources}
use Rattle.rules.specs.declared.Shape.{Shape}
use Rattle.texture_shapes.specs.Formats.{pick-le, unit-le, blocks-le}

-- the mips of the longest side's full chain
abbrev pub longest_chain : ℕ
longest_chain = 15

-- the limits that a good shape keeps
pub record Bounded (s : Shape) : Type 0 where
  pub format : 0 < block_bytes s.format
  pub some-width : 1 ≤ s.width
  pub width : s.width ≤ longest_side
  pub some-height : 1 ≤ s.height
  pub height : s.height ≤ longest_side
  pub some-mips : 1 ≤ s.mips
  pub mips : s.mips ≤ longest_chain
  pub some-layers : 1 ≤ s.layers
  pub layers : s.layers ≤ most_layers

-- no mip takes more: a pitch below 2^32, and at most 2^14 rows
abbrev pub most_of_mip : ℕ
most_of_mip = 2 ^ 46

pub mip-side-le : (n m k : ℕ) → 1 ≤ k → n ≤ k → mip_side n m ≤ k
unfolding mip_side
mip-side-le n m k p q = pick-le (ltb 1 (n / 2 ^ m)) (n / 2 ^ m) 1 k (le_trans (div-le_self n (2 ^ m)) q) p

module _ (s : Shape) (b : Bounded s) where
  pub few-subresources : subresources s ≤ most_layers * longest_chain
  few-subresources = mul-le-mul b.layers b.mips

  pub rows-le : (m : ℕ) → rows s m ≤ longest_side
  unfolding rows
  rows-le m = le_trans (blocks-le s.format (mip_side s.height m)) (mip-side-le s.height m longest_side (lit≤ tt) b.height)

  pub tight-le : (m : ℕ) → tight s m ≤ longest_side * 16
  unfolding tight
  tight-le m =
      mul-le-mul
      (le_trans (blocks-le s.format (mip_side s.width m)) (mip-side-le s.width m longest_side (lit≤ tt) b.width))
      (unit-le s.format)

  module _ (p : ℕ) (h : p < 2 ^ 32) where
    pub mip-bytes-le : (m : ℕ) → mip_bytes s p m ≤ most_of_mip
    unfolding mip_bytes
    mip-bytes-le m =
        let t : tight s m ≤ longest_side * 16 = tight-le m in
        mul-le-mul (pick-le (eqb m 0) p (tight s m) (2 ^ 32) (omega arith) (omega arith)) (rows-le m)

    pub offset-le : (i : ℕ) → offset_of s p i ≤ i * most_of_mip
    unfolding offset_of
    offset-le zero = omega arith
    offset-le (suc i) = omega (arith, offset-le i, mip-bytes-le (i % s.mips))
