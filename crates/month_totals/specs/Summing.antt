-- Sums of two lists, word by word. Assumes nothing.
use Rattle.std.proofs.Math.Path.{◌≡◌, refl}
use Rattle.std.proofs.Common.{ap, add-one, arith, drop_of_length-le}
use Rattle.std.specs.Prelude.{Bool, ◌&&◌, length, get_or, drop}
use Rattle.std.proofs.Math.Bool.{true, false}
use mathlib.Core.List.{List, [], ◌∷◌}
use Prim.Native.Nat.{ℕ, zero, suc, ◌+◌, ◌≤◌, ◌<◌}
use Rattle.std.proofs.Math.Seq.{drop-cons}
use Rattle.rules.specs.Month.{every, added}

pub length-added : (a b : List ℕ) → length a ≡ length b → length (added a b) ≡ length a
unfolding added
length-added [] b h = refl
length-added (x ∷ a) [] h = absurd (omega arith)
length-added (x ∷ a) (y ∷ b) h = ap suc (length-added a b (omega arith))

pub get_or-added : (a b : List ℕ) (i : ℕ) → i < length a → i < length b → get_or (added a b) i 0 ≡ get_or a i 0 + get_or b i 0
unfolding added
get_or-added [] b i h k = absurd (omega arith)
get_or-added (x ∷ a) [] i h k = absurd (omega arith)
get_or-added (x ∷ a) (y ∷ b) zero h k = refl
get_or-added (x ∷ a) (y ∷ b) (suc i) h k = get_or-added a b i (omega arith) (omega arith)

module _ {A : Type 0} (t : A → Bool) where
  -- one that passes is left out
  pub every-next : (l : List A) (i : ℕ) (d : A) → i < length l → t (get_or l i d) ≡ true → every t (drop i l) ≡ every t (drop (i + 1) l)
  unfolding every
  every-next l i d h e = rw (add-one, drop-cons l i d h, e)

  pub every-not : (l : List A) (i : ℕ) (d : A) → i < length l → t (get_or l i d) ≡ false → every t (drop i l) ≡ false
  unfolding every
  every-not l i d h e = rw (drop-cons l i d h, e)

  pub every-end : (l : List A) (i : ℕ) → length l ≤ i → every t (drop i l) ≡ true
  unfolding every
  every-end l i h = rw (drop_of_length-le l {i = i} h)

  pub every-at : (l : List A) (i : ℕ) (d : A) → i < length l → every t l ≡ true → t (get_or l i d) ≡ true
  unfolding every
  every-at [] i d h e = absurd (omega arith)
  every-at (x ∷ l) zero d h e = first (t x) (every t l) e
    where
      first : (a b : Bool) → a && b ≡ true → a ≡ true
      first true b p = refl
      first false b p = p
  every-at (x ∷ l) (suc i) d h e = every-at l i d (omega arith) (rest (t x) (every t l) e)
    where
      rest : (a b : Bool) → a && b ≡ true → b ≡ true
      rest true b p = p
      rest false b p = absurd (let z : ◌≡◌ {A = Bool} false true = p in let q : ◌≡◌ {A = ℕ} 0 1 = cc in omega arith)
