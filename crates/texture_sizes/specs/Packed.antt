-- What a caller may count on of a texture's bytes: none for a bad shape, some for a good one, and never too many.
-- Assumes nothing.
use Rattle.std.specs.Prelude.{◌≡◌, Bool, not, ltb, eqb}
use Rattle.std.proofs.Math.Path.{refl}
use Rattle.std.proofs.Math.Bool.{true, false}
use Prim.Native.Nat.{ℕ, zero, suc, ◌-◌, ◌*◌, ◌/◌, ◌^◌, ◌≤◌, ◌<◌}
use Rattle.std.proofs.Common.{mul-le-mul, ltb-true, ne_eqb}
use Rattle.std.proofs.Math.Nat.{zero-mod}
use native.Mathlib.Omega.{arith}
use Rattle.machine.specs.Machine.{pick}
use Rattle.rules.specs.Numbers.{most_layers}
use Rattle.rules.specs.Shapes.{mip_side, tight, rows, mip_bytes, offset_of, subresources, good_backed, texture_bytes, packed_size}
use Rattle.rules.specs.declared.Shape.{Shape}
use Rattle.texture_shapes.specs.Formats.{blocks-positive}
use Rattle.texture_shapes.specs.Bounds.{Bounded, longest_chain, few-subresources, offset-le}
use Rattle.texture_shapes.specs.Good.{keeps-limits, backed-shape, backed-pitch}

mul-positive : (a b : ℕ) → 0 < a → 0 < b → 0 < a * b
mul-positive a b p q = mul-le-mul {n₁ = 1} {m₁ = 1} p q

mip-side-positive : (n m : ℕ) → 0 < mip_side n m
unfolding mip_side
mip-side-positive n m = by (ltb 1 (n / 2 ^ m)) refl
  where
    by : (t : Bool) → ltb 1 (n / 2 ^ m) ≡ t → 0 < pick t (n / 2 ^ m) 1
    by true e = omega (arith, ltb-true 1 (n / 2 ^ m) e)
    by false e = omega arith

module _ (s : Shape) (p : ℕ) where
  pub backed-limits : good_backed s p ≡ true → Bounded s
  backed-limits g = keeps-limits s (backed-shape s p g)

  pub packed-bad : good_backed s p ≡ false → packed_size s p ≡ 0
  unfolding packed_size
  packed-bad g = rw g

  pub packed-good : good_backed s p ≡ true → packed_size s p ≡ texture_bytes s p
  unfolding packed_size
  packed-good g = rw g

  tight-positive : good_backed s p ≡ true → 0 < tight s 0
  unfolding tight
  tight-positive g = mul-positive _ _ (blocks-positive s.format _ (mip-side-positive s.width 0)) (backed-limits g).format

  first-mip-positive : good_backed s p ≡ true → 0 < mip_bytes s p 0
  unfolding mip_bytes rows
  first-mip-positive g =
      let least : tight s 0 ≤ p = backed-pitch s p g in
      mul-positive p _ (omega (arith, tight-positive g)) (blocks-positive s.format _ (mip-side-positive s.height 0))

  offset-positive : good_backed s p ≡ true → (i : ℕ) → 0 < offset_of s p (suc i)
  unfolding offset_of
  offset-positive g zero = rw (zero-mod) (omega (arith, first-mip-positive g))
  offset-positive g (suc i) = omega (arith, offset-positive g i)

  pub packed-positive : good_backed s p ≡ true → 0 < packed_size s p
  unfolding texture_bytes
  packed-positive g =
      let some : 0 < subresources s = mul-positive s.layers s.mips (backed-limits g).some-layers (backed-limits g).some-mips in
      let next : subresources s ≡ suc (subresources s - 1) = omega arith in
      rw (packed-good g, next) (offset-positive g (subresources s - 1))

  -- so its size alone says whether a backed texture is good
  pub good-by-size : good_backed s p ≡ not (eqb (packed_size s p) 0)
  good-by-size = by (good_backed s p) refl
    where
      by : (v : Bool) → good_backed s p ≡ v → v ≡ not (eqb (packed_size s p) 0)
      by true g =
          let some : packed_size s p ≡ 0 → ⊥ = λ z. omega (arith, packed-positive g) in
          rw (ne_eqb _ _ some)
      by false g = rw (packed-bad g)

  pub offset-small : Bounded s → p < 2 ^ 32 → (i : ℕ) → i ≤ subresources s → offset_of s p i < 2 ^ 58
  offset-small b h i le =
      let n : subresources s ≤ most_layers * longest_chain = few-subresources s b in
      omega (arith, offset-le s b p h i)

  pub packed-small : p < 2 ^ 32 → packed_size s p < 2 ^ 58
  unfolding packed_size texture_bytes
  packed-small h = by (good_backed s p) refl
    where
      by : (v : Bool) → good_backed s p ≡ v → pick v (texture_bytes s p) 0 < 2 ^ 58
      by true g = offset-small (backed-limits g) h (subresources s) (omega arith)
      by false g = omega arith
