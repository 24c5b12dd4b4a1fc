-- Whole layers and the mips after them, as the code works them out: the texture's bytes, and the start of a part.
-- Assumes nothing.
use Rattle.std.specs.Prelude.{◌≡◌, Bool, true, false, not, ℕ, ◌+◌, ◌*◌, ◌/◌, ◌%◌, ◌^◌, ◌≤◌, ◌<◌, None}
use Rattle.std.proofs.Common.{sym, ◌∙◌, le_refl, le_trans, mul-le-mul, mul_comm, mod-lt, div-le_self, arith, rules}
use Rattle.std.proofs.Math.Bool.{and-false}
use Rattle.std.proofs.Math.Nat.{div-le_of_le-mul}
use borrow.Author.Tests.{not-true, not-false, le-ltb}
use Rattle.rules.specs.Numbers.{most_layers}
use Rattle.rules.specs.Shapes.{offset_of, subresources, good_backed, texture_bytes, packed_size, start_of}
use Rattle.rules.specs.declared.Shape.{Shape}
use Rattle.texture_shapes.specs.Bounds.{Bounded, longest_chain, most_of_mip, few-subresources}
use Rattle.texture_sizes.specs.Layers.{offset-of-layer}
use Rattle.texture_sizes.specs.Packed.{backed-limits, packed-bad, packed-good}

module _ (s : Shape) (p : ℕ) where
  pub past-is-nowhere : (i : ℕ) → subresources s ≤ i → None ≡ start_of s p i
  unfolding start_of
  past-is-nowhere i h = rw (le-ltb i (subresources s) h, and-false)

  module _ (b : Bool) (e : b ≡ good_backed s p) where
    pub bad-is-nothing : not b ≡ true → 0 ≡ packed_size s p
    bad-is-nothing n = sym (packed-bad s p (sym e ∙ not-true b n))

    pub bad-is-nowhere : (i : ℕ) → not b ≡ true → None ≡ start_of s p i
    unfolding start_of
    bad-is-nowhere i n = rw (← e, not-true b n)

    module _ (n : not b ≡ false) where
      pub good-limits : Bounded s
      good-limits = backed-limits s p (sym e ∙ not-false b n)

      pub some-mips : 0 < s.mips
      some-mips = good-limits.some-mips

      pub count_fits : subresources s < 2 ^ 32
      count_fits = omega (arith, few-subresources s good-limits)

      pub mip-within : (i : ℕ) → i % s.mips ≤ s.mips
      mip-within i = omega (arith, mod-lt i some-mips)

      module _ (o : ℕ) (f : o ≡ offset_of s p s.mips) where
        pub all-layers : o * s.layers ≡ packed_size s p
        unfolding texture_bytes
        all-layers = rw (packed-good s p (sym e ∙ not-false b n), offset-of-layer s p s.layers, f, mul_comm)

      -- no product or sum wraps, of the bytes below any mip of a layer
      module _ (o k : ℕ) (f : o ≤ k * most_of_mip) (h : k ≤ s.mips) where
        layer-small : o ≤ longest_chain * most_of_mip
        layer-small = omega (arith, good-limits.mips)

        pub all-layers-fit : o * s.layers < 2 ^ 64
        all-layers-fit =
            let bound : o * s.layers ≤ longest_chain * most_of_mip * most_layers = mul-le-mul {n₂ = longest_chain * most_of_mip} {m₂ = most_layers} layer-small good-limits.layers in
            omega arith

        module _ (i : ℕ) (j : i ≤ subresources s) where
          before_small : o * (i / s.mips) ≤ longest_chain * most_of_mip * most_layers
          before_small =
              mul-le-mul
              {n₂ = longest_chain * most_of_mip}
              {m₂ = most_layers}
              layer-small
              (le_trans (div-le_of_le-mul s.mips (rw (mul_comm s.mips s.layers) j)) good-limits.layers)

          pub layers-before-fit : o * (i / s.mips) < 2 ^ 64
          layers-before-fit = omega (arith, before_small)

          pub start_fits : (q l : ℕ) → q ≤ l * most_of_mip → l ≤ s.mips → o * (i / s.mips) + q < 2 ^ 64
          start_fits q l g k' = omega (arith, before_small, good-limits.mips)

pub layer_fits : (i m : ℕ) → i < 2 ^ 32 → i / m < 2 ^ 64
layer_fits i m h = omega (arith, div-le_self i m)

pub ruleset packing = (le_refl, good-limits, some-mips, bad-is-nothing, all-layers, all-layers-fit, rules)
