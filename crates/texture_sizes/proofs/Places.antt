-- Whole layers and the mips after them, as the code works them out: the texture's bytes, and the start of a part.
-- Assumes nothing.
use Rattle.std.specs.Prelude.{◌≡◌, Bool, false, not, ℕ, ◌+◌, ◌*◌, ◌/◌, ◌%◌, ◌<◌, Some}
use Rattle.std.proofs.Common.{sym, ap, ◌∙◌, le_refl, le_of_lt, mul_comm, div-add-mod', rules}
use borrow.Author.Tests.{not-false, lt-ltb}
use Rattle.rules.specs.Shapes.{offset_of, subresources, good_backed, start_of}
use Rattle.rules.specs.declared.Shape.{Shape}
use Rattle.texture_sizes.specs.Layers.{offset-of-mip}
use Rattle.texture_sizes.specs.Places.{bad-is-nowhere, count_fits, good-limits, layer_fits, layers-before-fit, mip-within, past-is-nowhere, some-mips, start_fits}

module _ (s : Shape) (p : ℕ) where
  split-place : (i o q : ℕ) → o ≡ offset_of s p s.mips → q ≡ offset_of s p (i % s.mips) → offset_of s p i ≡ o * (i / s.mips) + q
  split-place i o q f g = ap (offset_of s p) (sym (div-add-mod' i s.mips)) ∙ (offset-of-mip s p (i / s.mips) (i % s.mips) ∙ rw (f, g, mul_comm))

  module _ (b : Bool) (e : b ≡ good_backed s p) where
    module _ (n : not b ≡ false) where
      module _ (o : ℕ) (f : o ≡ offset_of s p s.mips) where
        pub start-found : (i q : ℕ) → q ≡ offset_of s p (i % s.mips) → i < subresources s → Some (o * (i / s.mips) + q) ≡ start_of s p i
        unfolding start_of
        start-found i q g k = rw (← e, not-false b n, lt-ltb i (subresources s) k, split-place i o q f g)

pub ruleset starting = (
  le_refl,
  le_of_lt,
  good-limits,
  some-mips,
  count_fits,
  mip-within,
  layer_fits,
  layers-before-fit,
  bad-is-nowhere,
  past-is-nowhere,
  start-found,
  start_fits,
  rules,
)
