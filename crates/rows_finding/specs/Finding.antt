-- The scan for a row's key: what its code asks. Assumes nothing.
use Rattle.std.specs.Prelude.{◌≡◌, Option, Some, None, Bool, true, false, eqb, List, ℕ, ◌+◌, ◌*◌, ◌-◌, ◌≤◌, ◌<◌, ◌%◌, length, get_or}
use Rattle.std.proofs.Common.{sym, ◌∙◌, eqb-true, le_refl, mul-le-mul, mul-le-mul_left, arith, rules}
use Rattle.std.proofs.lemmas.Bool.{eqb-false}
use Rattle.rules.specs.Lists.{index_of}
use Rattle.rows.specs.Rows.{row_at, row_field, table, length-table}
use Rattle.rows.specs.Keys.{place_of, before-end, past-end}
use Rattle.rows_finding.specs.Among.{key_in, Among, eight-left, one-here, one_later, joining, scanning_by_eight}

-- ---- of_one

module _ (word : ℕ) (reading : ℕ → ℕ) (k w : ℕ) (l : List ℕ) (i : ℕ) (wide : word < w) (b : Bool) (is : b ≡ eqb (reading (get_or l (w * i + word) 0)) k) where
  read : key_in word reading (row_at w l i) ≡ reading (get_or l (w * i + word) 0)
  read = rw (row_field w l i word wide)

  pub found-here : b ≡ true → Among (λ r. r) (key_in word reading) k w l i 1 0
  found-here p = one-here (λ r. r) (key_in word reading) k w l i (read ∙ eqb-true _ _ (sym is ∙ p))

  pub not_here : b ≡ false → Among (λ r. r) (key_in word reading) k w l i 1 1
  not_here p = one_later (λ r. r) (key_in word reading) k w l i (λ q. eqb-false _ _ (sym is ∙ p) (sym read ∙ q))

pub ruleset finding = (found-here, not_here, joining)

-- ---- of_two, of_four, of_eight

-- a row's index is no larger than its place in words
pub index-fits : (v w i m : ℕ) (l : List ℕ) → (v < w) × (w * (i + m) ≤ length l) → i + m ≤ length l
index-fits v w i m l pre = let wide : 0 < w = omega arith in omega (arith, pre.1, mul-le-mul wide (le_refl (i + m)))

-- ---- by_eight, find_row

-- the next rows are within the list
module _ (v w i n : ℕ) (l : List ℕ) (pre : (v < w) × (w * n ≤ length l)) where
  room : (m : ℕ) → i + m ≤ n → w * (i + m) ≤ length l
  room m h = omega (arith, pre.1, mul-le-mul_left w h)

  pub eight-room : i ≤ n → (n - i) % 8 ≡ 0 → (i ≡ n → ⊥) → w * (i + 8) ≤ length l
  eight-room g e h = room 8 (eight-left i n (g, e) h)

  pub few-room : i < n % 8 → w * (i + 1) ≤ length l
  few-room h = room 1 (omega arith)

pub ruleset scanning = (eight-room, few-room, scanning_by_eight)

-- ---- find_row: the scan's index as a place

module _ (word : ℕ) (reading : ℕ → ℕ) (k w n p : ℕ) (l : List ℕ) (is : p ≡ index_of (key_in word reading) k (table (λ r. r) w n l)) where
  pub row-there : p < n → Some p ≡ place_of (key_in word reading) k (table (λ r. r) w n l)
  unfolding place_of
  row-there h = rw (length-table (λ r. r) w n l, ← is) (sym (before-end n p h))

  pub row-nowhere : n ≤ p → None ≡ place_of (key_in word reading) k (table (λ r. r) w n l)
  unfolding place_of
  row-nowhere h = rw (length-table (λ r. r) w n l, ← is) (sym (past-end n p h))

pub ruleset placing = (row-there, row-nowhere, rules)
