-- What the functions of this crate ask for: a law for each way to a return, with the tests on the way as its premises.
-- Assumes nothing.
use Rattle.std.specs.Prelude.{◌≡◌, refl, ℕ, ◌+◌, ◌*◌, ◌≤◌, get_or, Option, Some, None}
use Rattle.std.proofs.Common.{sym, rules, eq-eqb, ne_eqb}
use mathlib.Core.List.{List, [], ◌∷◌}
use Rattle.rules.specs.Lists.{lookup}
use Rattle.rules.specs.Lists.Found.{none}
use Rattle.rules.specs.Registers.{bit, status, read_offset, readable, register}
use Rattle.rules.specs.declared.Registers.{Registers}
use Rattle.run_state.specs.Views.{set_in, registers_in}
use Rattle.registers.specs.Map.{shown}

-- ---- a key that no member has

-- what a `match` knows past its arms: x is none of these keys
abbrev pub Misses : Type 0 → List ℕ → ℕ → Type 0
Misses N [] x = N
Misses N (k ∷ ks) x = Misses (N × (x ≡ k → ⊥)) ks x

module _ {A : Type 0} (key : A → ℕ) (k : ℕ) where
  abbrev pub keys : List A → List ℕ
  keys [] = []
  keys (x ∷ xs) = key x ∷ keys xs

  pub missed : (N : Type 0) (xs : List A) → Misses N (keys xs) k → N × (lookup key k xs ≡ none)
  unfolding lookup
  missed N [] n = (n, refl)
  missed N (x ∷ xs) p =
      let q : (N × (k ≡ key x → ⊥)) × (lookup key k xs ≡ none) = missed (N × (k ≡ key x → ⊥)) xs p in
      (q.0.0, rw (ne_eqb (key x) k (λ e. q.0.1 (sym e))) q.1)

-- ---- read

module _ (r : Registers) (offset : ℕ) where
  -- an arm of the match
  pub shows-at : (k v : ℕ) → offset ≡ k → Some v ≡ shown (register r k) → Some v ≡ shown (register r offset)
  shows-at k v e h = rw e h

  pub shows_nothing : Misses (Unit {0}) (keys read_offset offset (readable r)) offset → None ≡ shown (register r offset)
  unfolding register
  shows_nothing p = rw (missed read_offset offset (Unit {0}) (readable r) p).1

pub same-value : (v w : ℕ) → v ≡ w → Some v ≡ Some w
same-value v w e = rw e

pub ruleset reading = (shows-at, shows_nothing, same-value, rules)

-- ---- bit, status

pub bit-clear : (x : ℕ) → x ≡ 0 → 0 ≡ bit (set_in x)
bit-clear x e = rw (eq-eqb x 0 e)

pub bit-set : (x : ℕ) → (x ≡ 0 → ⊥) → 1 ≡ bit (set_in x)
bit-set x n = rw (ne_eqb x 0 n)

pub status-is : (s : List ℕ) (x y : ℕ) → (x ≡ bit (set_in (get_or s 6 0))) × (x ≤ 1) → (y ≡ bit (set_in (get_or s 7 0))) × (y ≤ 1) → x + 2 * y ≡ status (registers_in s)
status-is s x y a b = rw (a.0, b.0)

pub ruleset bits = (bit-clear, bit-set, status-is, rules)
