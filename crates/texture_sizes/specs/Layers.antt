-- Layers are alike: the bytes of one layer, times the layers, are the bytes of the texture.
-- Assumes nothing.
use Rattle.std.specs.Prelude.{◌≡◌}
use Rattle.std.proofs.Math.Path.{refl}
use Prim.Native.Nat.{ℕ, zero, suc, ◌+◌, ◌*◌, ◌%◌, ◌≤◌, ◌<◌}
use Rattle.std.proofs.Common.{add-zero, add-suc, add_assoc, zero-mul, arith, rules}
use Rattle.std.proofs.Math.Nat.{suc-mul, mul-add-mod_self_right, mod-eq_of_lt}
use Rattle.std.proofs.Math.Numerals.{add-one}
use Rattle.rules.specs.Shapes.{mip_bytes, offset_of}
use Rattle.rules.specs.declared.Shape.{Shape}

module _ (s : Shape) (p : ℕ) where
  pub offset-in-layer : (l m : ℕ) → offset_of s p (l * s.mips + m) ≡ offset_of s p (l * s.mips) + offset_of s p m
  unfolding offset_of
  offset-in-layer l zero = rw (add-zero, add-zero)
  offset-in-layer l (suc m) = rw (add-suc (l * s.mips) m, offset-in-layer l m, mul-add-mod_self_right l s.mips m, add_assoc)

  pub offset-of-layer : (l : ℕ) → offset_of s p (l * s.mips) ≡ l * offset_of s p s.mips
  unfolding offset_of
  offset-of-layer zero = rw (zero-mul, zero-mul)
  offset-of-layer (suc l) = rw (suc-mul l s.mips, offset-in-layer l s.mips, offset-of-layer l, suc-mul l (offset_of s p s.mips))

  -- where mip m of layer l stands
  pub offset-of-mip : (l m : ℕ) → offset_of s p (l * s.mips + m) ≡ l * offset_of s p s.mips + offset_of s p m
  offset-of-mip l m = rw (offset-in-layer l m, offset-of-layer l)

  pub offset-none : 0 ≡ offset_of s p 0
  unfolding offset_of
  offset-none = refl

  module _ (end m o : ℕ) (e : o ≡ offset_of s p m) where
    pub offset-next : (b : ℕ) → b ≡ mip_bytes s p m → m < end → end ≤ s.mips → o + b ≡ offset_of s p (m + 1)
    unfolding offset_of
    offset-next b f h k =
        let within : m % s.mips ≡ m = mod-eq_of_lt (omega arith) in
        rw (e, f, add-one m, within)

    pub offset-at-end : m ≤ end → end ≤ m → o ≡ offset_of s p end
    offset-at-end h k =
        let same : end ≡ m = omega arith in
        rw (e, same)

pub ruleset summing = (offset-none, offset-next, offset-at-end, rules)
