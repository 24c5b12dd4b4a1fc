-- One word of each row, changed wherever it has a certain number: any width, any word, any reading of a row. Assumes nothing.
use Rattle.std.specs.Prelude.{◌≡◌, Bool, List, [], ◌∷◌, ◌⊎◌, eqb, get_or, drop, set}
use Rattle.std.proofs.Math.Path.{refl, ap}
use Rattle.std.proofs.Common.{sym, ◌∙◌, inl, inr, zero-add, suc-add, mul-le-mul_left, mul-suc, rules, eq-eqb, ne_eqb, Fits, length-set}
use Rattle.std.proofs.Math.Bool.{true, false}
use Rattle.std.proofs.Math.Logic.{⊎_elim}
use Prim.Native.Nat.{ℕ, zero, suc, ◌+◌, ◌*◌, ◌-◌, ◌≤◌, ◌<◌, ◌%◌, ◌^◌}
use Rattle.std.proofs.Math.Numerals.{add-one}
use native.Mathlib.Omega.{arith}
use Rattle.std.specs.Int.{w64}
use Rattle.std.proofs.Math.ListN.{length, take}
use Rattle.machine.specs.Machine.{pick}
use Rattle.words.specs.Over.{below_or_not, sets_over, part-before, drop-after}
use Rattle.rows.specs.Rows.{row_at, table, tab-ext, row_field}

-- the word at a place is `new`, if its lower half was `old`
unfoldable pub word_renamed : ℕ → ℕ → ℕ → List ℕ → List ℕ
word_renamed place old new l = pick (eqb (get_or l place 0 % 2 ^ 32) old) (set l place new) l

-- the same of word `at` of each of the first rows, one after the other
unfoldable pub rows_renamed : ℕ → ℕ → ℕ → ℕ → ℕ → List ℕ → List ℕ
rows_renamed w at old new zero l = l
rows_renamed w at old new (suc i) l = word_renamed (w * i + at) old new (rows_renamed w at old new i l)

-- ---- rename_word

module _ (place old new v : ℕ) (l : List ℕ) (is : v ≡ get_or l place 0 % 4294967296) where
  pub word-changed : v ≡ old → set l place new ≡ word_renamed place old new l
  unfolding word_renamed
  word-changed h = rw (eq-eqb _ _ (sym is ∙ h))

  pub word-stays : (v ≡ old → ⊥) → l ≡ word_renamed place old new l
  unfolding word_renamed
  word-stays h = rw (ne_eqb _ _ (λ p. h (is ∙ p)))

pub ruleset renaming_word = (word-changed, word-stays, rules)

-- ---- what becomes of a row

pub length-word : (place old new : ℕ) (l : List ℕ) → length (word_renamed place old new l) ≡ length l
unfolding word_renamed
length-word place old new l = by_test (eqb (get_or l place 0 % 2 ^ 32) old)
  where
    by_test : (t : Bool) → length (pick t (set l place new) l) ≡ length l
    by_test true = length-set l place new
    by_test false = refl

drop-set : (k i : ℕ) (l : List ℕ) (v : ℕ) → drop k (set l (k + i) v) ≡ set (drop k l) i v
drop-set zero i l v = rw zero-add
drop-set (suc k) i [] v = refl
drop-set (suc k) i (x ∷ l) v = rw suc-add (drop-set k i l v)

take-set : (k i : ℕ) (l : List ℕ) (v : ℕ) → i < k → take k (set l i v) ≡ set (take k l) i v
take-set zero i l v h = absurd (omega arith)
take-set (suc k) i [] v h = refl
take-set (suc k) zero (x ∷ l) v h = refl
take-set (suc k) (suc i) (x ∷ l) v h = ap {B = List ℕ} (λ r. x ∷ r) (take-set k i l v (omega arith))

-- row i + 1 begins where row i ends
row_ends : (w i j : ℕ) → i < j → w * i + w ≤ w * j
row_ends w i j h = omega (arith, mul-le-mul_left w h, mul-suc w i)

module _ (w at old new : ℕ) (inside : at < w) where
  set-row : (i : ℕ) (l : List ℕ) → row_at w (set l (w * i + at) new) i ≡ set (row_at w l i) at new
  unfolding row_at
  set-row i l = rw (drop-set (w * i) at l new, take-set w at (drop (w * i) l) new inside)

  set_other : (i j : ℕ) (l : List ℕ) → w * i + at < length l → (i < j) ⊎ (j < i) → row_at w (set l (w * i + at) new) j ≡ row_at w l j
  unfolding row_at
  set_other i j l room (inl h) =
      rw (sets_over (w * i + at) (new ∷ []) l (omega arith))
      (ap (λ x. take w x) (drop-after (w * i + at) (new ∷ []) l (omega arith) (w * j) (omega (arith, row_ends w i j h))))
  set_other i j l room (inr h) =
      rw (sets_over (w * i + at) (new ∷ []) l (omega arith))
      (part-before (w * i + at) (new ∷ []) l (omega arith) w (w * j) (omega (arith, row_ends w j i h)))

  -- a word of row i changes, and so does the row
  word-of-row : (i : ℕ) (l : List ℕ) → row_at w (word_renamed (w * i + at) old new l) i ≡ word_renamed at old new (row_at w l i)
  unfolding word_renamed
  word-of-row i l = rw (row_field w l i at inside) (by_test (eqb (get_or l (w * i + at) 0 % 2 ^ 32) old))
    where
      by_test : (t : Bool) → row_at w (pick t (set l (w * i + at) new) l) i ≡ pick t (set (row_at w l i) at new) (row_at w l i)
      by_test true = set-row i l
      by_test false = refl

  -- and no other row does
  word-of-other : (i j : ℕ) (l : List ℕ) → w * i + at < length l → (i < j) ⊎ (j < i) → row_at w (word_renamed (w * i + at) old new l) j ≡ row_at w l j
  unfolding word_renamed
  word-of-other i j l room apart = by_test (eqb (get_or l (w * i + at) 0 % 2 ^ 32) old)
    where
      by_test : (t : Bool) → row_at w (pick t (set l (w * i + at) new) l) j ≡ row_at w l j
      by_test true = set_other i j l room apart
      by_test false = refl

  pub length-rows : (n : ℕ) (l : List ℕ) → length (rows_renamed w at old new n l) ≡ length l
  unfolding rows_renamed
  length-rows zero l = refl
  length-rows (suc n) l = length-word (w * n + at) old new _ ∙ length-rows n l

  -- the rows behind the first n stay
  row-behind : (n k : ℕ) (l : List ℕ) → w * n ≤ length l → n ≤ k → row_at w (rows_renamed w at old new n l) k ≡ row_at w l k
  unfolding rows_renamed
  row-behind zero k l room h = refl
  row-behind (suc n) k l room h =
      let e : length (rows_renamed w at old new n l) ≡ length l = length-rows n l in
      let f : w * n + w ≤ w * suc n = row_ends w n (suc n) (omega arith) in
      word-of-other n k (rows_renamed w at old new n l) (omega arith) (inl (omega arith)) ∙ row-behind n k l (omega arith) (omega arith)

  -- each of the first n rows has its word changed
  row-renamed : (n k : ℕ) (l : List ℕ) → w * n ≤ length l → k < n → row_at w (rows_renamed w at old new n l) k ≡ word_renamed at old new (row_at w l k)
  unfolding rows_renamed
  row-renamed zero k l room h = absurd (omega arith)
  row-renamed (suc n) k l room h =
      let e : length (rows_renamed w at old new n l) ≡ length l = length-rows n l in
      let f : w * n + w ≤ w * suc n = row_ends w n (suc n) (omega arith) in
      ⊎_elim
      (λ q. word-of-other n k (rows_renamed w at old new n l) (omega arith) (inr q) ∙ row-renamed n k l (omega arith) q)
      (λ q.
      let s : k ≡ n = omega arith in
      rw s (word-of-row n (rows_renamed w at old new n l) ∙ ap (λ r. word_renamed at old new r) (row-behind n n l (omega arith) (omega arith))))
      (below_or_not k n)

  -- so the table is that of the rows, each with its word changed
  pub table-renamed : {E : Type 0} (f : List ℕ → E) (n : ℕ) (l : List ℕ) → w * n ≤ length l
      → table f w n (rows_renamed w at old new n l) ≡ table (λ r. f (word_renamed at old new r)) w n l
  unfolding table
  table-renamed f n l room = tab-ext _ _ 0 n (λ k p q. ap f (row-renamed n k l room (omega arith)))

  -- ---- rename_rows

  pub rename-start : (l : List ℕ) → l ≡ rows_renamed w at old new 0 l
  unfolding rows_renamed
  rename-start l = refl

  module _ (n i : ℕ) (l m : List ℕ) (part : m ≡ rows_renamed w at old new i l) where
    pub rename-length : length m ≡ length l
    rename-length = rw (part, length-rows i l)

    pub rename-place : w * n ≤ length l → i < n → w * i + at < length m
    rename-place room h = omega (arith, rename-length, row_ends w i n h)

    pub rename-row-fits : w * n ≤ length l → i < n → length l * 8 < 2 ^ 63 → Fits w64 (w * i)
    rename-row-fits room h small = record { fits = omega (arith, rename-length, rename-place room h) }

    pub rename-place-fits : w * n ≤ length l → i < n → length l * 8 < 2 ^ 63 → Fits w64 (w * i + at)
    rename-place-fits room h small = record { fits = omega (arith, rename-length, rename-place room h) }

    pub rename-next : (word : ℕ) (k : List ℕ) → (word ≡ new) × (word < 4294967296) → k ≡ word_renamed (w * i + at) old word m → k ≡ rows_renamed w at old new (i + 1) l
    unfolding rows_renamed
    rename-next word k same e = rw (e, part, add-one, same.0)

    pub rename-end : i ≤ n → n ≤ i → m ≡ rows_renamed w at old new n l
    rename-end h q = let e : i ≡ n = omega arith in part ∙ ap (λ j. rows_renamed w at old new j l) e

pub ruleset renaming_rows = (rename-start, rename-length, rename-place, rename-row-fits, rename-place-fits, rename-next, rename-end, rules)
