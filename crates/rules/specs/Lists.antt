-- Lists whose members have a key, and a part of a list written over.
use Rattle.std.specs.Prelude.{List, [], ◌∷◌, ◌++◌, ℕ, zero, suc, ◌+◌, ◌-◌, eqb, length, take, drop}
use Rattle.machine.specs.Machine.{pick}

pub data Found (A : Type 0) : Type 0 where
  none : Found A
  found : A → Found A

module _ {A : Type 0} where
  -- b over the members from `at` on
  unfoldable pub over : ℕ → List A → List A → List A
  over at b m = take at m ++ (b ++ drop (at + length b) m)

  -- one more, after those that are there
  abbrev pub pushed : List A → A → List A
  pushed xs x = xs ++ (x ∷ [])

  -- without the one at i: the last one takes its place. The order of such a list says nothing.
  unfoldable pub removed : ℕ → List A → List A
  removed i xs = take (length xs - 1) (over i (drop (length xs - 1) xs) xs)

  -- the i-th, where there is one
  unfoldable pub nth : List A → ℕ → Found A
  nth [] i = none
  nth (x ∷ xs) zero = found x
  nth (x ∷ xs) (suc i) = nth xs i

module _ {A : Type 0} (key : A → ℕ) (k : ℕ) where
  -- "stops at the first hit": the first that has the key
  unfoldable pub lookup : List A → Found A
  lookup [] = none
  lookup (x ∷ xs) = pick (eqb (key x) k) (found x) (lookup xs)

  -- and its place, which is the length where there is none
  unfoldable pub index_of : List A → ℕ
  index_of [] = 0
  index_of (x ∷ xs) = pick (eqb (key x) k) 0 (suc (index_of xs))
