-- The theorems of specs/Offsets.antt, and what they rest on. Assumes nothing.
use Rattle.std.specs.Prelude.{◌≡◌, length}
use Rattle.std.proofs.Math.Path.{refl, ap}
use Rattle.std.proofs.Common.{sym, ◌∙◌, arith}
use mathlib.Core.List.{List, [], ◌∷◌}
use Prim.Native.Nat.{ℕ, zero, suc, ◌+◌, ◌≤◌, max}
use Rattle.rules.specs.Difference.{differing}
use Rattle.diff_bytes.specs.Differing.{first_of, from_offset, next_start}
use Rattle.promises_of_difference.specs.Offsets.{ask, asked_on, split_off, then_on}

-- ---- the next offset, asked again and again

module _ (x y : List ℕ) where
  asks : (k from : ℕ) (l : List ℕ) → from_offset x y from ≡ l → length l ≤ k → asked_on (ask x y) k from ≡ l
  unfolding asked_on
  asks zero from [] e h = refl
  asks zero from (i ∷ l) e h = absurd (omega arith)
  asks (suc k) from [] e h = ap (λ o. then_on o (asked_on (ask x y) k)) (next_start x y from ∙ ap first_of e)
  asks (suc k) from (i ∷ l) e h =
      ap (λ o. then_on o (asked_on (ask x y) k)) (next_start x y from ∙ ap first_of e)
      ∙ ap (λ r. i ∷ r) (asks k (i + 1) l (sym ((split_off x y) (max (length x) (length y)) from i l (omega arith) e)) (omega arith))

  -- from offset 0 on, this gives the whole list, in order
  pub next-gives-all : (k : ℕ) → length (differing x y) ≤ k → asked_on (ask x y) k 0 ≡ differing x y
  next-gives-all k h = asks k 0 (differing x y) refl h
