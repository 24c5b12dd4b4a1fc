-- Two totals merged, word by word. Assumes nothing.
use Rattle.std.specs.Prelude.{◌≡◌, Bool, true, not, List, ℕ, ◌+◌, ◌≤◌, ◌<◌, max, ltb, take, drop, set, replicate}
use Rattle.std.proofs.Math.Path.{refl, sym, ap}
use Rattle.std.proofs.Common.{◌∙◌, arith, rules, get_or-take, length-take-le, take_all, take_at, get_or-set_same}
use Rattle.std.proofs.Math.Bool.{false}
use borrow.Author.Tests.{lt-ltb, le-ltb, ltb-true, ltb-false, not-true, not-false}
use Rattle.std.proofs.Math.ListN.{length, get_or, get_or-eq_default}
use Rattle.std.proofs.lemmas.List.{get_or-replicate, take-set-le}
use Rattle.rules.specs.Lists.{over}
use Rattle.words.specs.Over.{get_d_after}
use Rattle.rows.specs.Rows.{copied_words, words-start, words-length, words-next, words-end}
use Rattle.rules.specs.Month.{every, added, small, below, joined, merged, totals, sum, greatest}
use Rattle.month_totals.specs.Views.{totals_in, Merges, Zeroes}
use Rattle.month_totals.specs.Summing.{length-added, get_or-added, every-next, every-not, every-end, every-at}

-- ---- the one test of 2^64

pub reaches-beyond : (a b : ℕ) (t : Bool) → t ≡ ltb 18446744073709551615 (a + b) → t ≡ not (small (a + b))
reaches-beyond a b true p =
    let g : 18446744073709551615 < a + b = ltb-true 18446744073709551615 (a + b) (sym p) in
    rw (le-ltb (a + b) 18446744073709551616 (omega arith))
reaches-beyond a b false p =
    let g : a + b ≤ 18446744073709551615 = ltb-false 18446744073709551615 (a + b) (sym p) in
    rw (lt-ltb (a + b) 18446744073709551616 (omega arith))

pub ruleset reaching = (reaches-beyond, rules)

-- ---- two totals

abbrev pub sums_of : List ℕ → List ℕ → List ℕ
sums_of a b = added (take 25 a) (take 25 b)

-- whether the sums from i on are below 2^64
unfoldable pub fit_from : List ℕ → List ℕ → ℕ → Bool
fit_from a b i = every small (drop i (sums_of a b))

module _ (a b : List ℕ) (long : length a ≡ 26) (long-b : length b ≡ 26) where
  front-a : length (take 25 a) ≡ 25
  front-a = length-take-le 25 a (omega arith)

  front-b : length (take 25 b) ≡ 25
  front-b = length-take-le 25 b (omega arith)

  pub length-sums : length (sums_of a b) ≡ 25
  length-sums = length-added (take 25 a) (take 25 b) (front-a ∙ sym front-b) ∙ front-a

  pub sum-at : (i : ℕ) → i < 25 → get_or (sums_of a b) i 0 ≡ get_or a i 0 + get_or b i 0
  sum-at i h =
      let p : length (take 25 a) ≡ 25 = front-a in
      let q : length (take 25 b) ≡ 25 = front-b in
      get_or-added (take 25 a) (take 25 b) i (omega arith) (omega arith) ∙ rw (get_or-take 25 a i 0 h, get_or-take 25 b i 0 h)

  pub fit_next : (i : ℕ) → i < 25 → (t : Bool) → t ≡ not (small (get_or a i 0 + get_or b i 0)) → t ≡ false → fit_from a b i ≡ fit_from a b (i + 1)
  unfolding fit_from
  fit_next i h t p w =
      let g : get_or a i 0 + get_or b i 0 < 18446744073709551616 = ltb-true (get_or a i 0 + get_or b i 0) 18446744073709551616 (not-false (small (get_or a i 0 + get_or b i 0)) (sym p ∙ w)) in
      let n : length (sums_of a b) ≡ 25 = length-sums in
      let e : get_or (sums_of a b) i 0 ≡ get_or a i 0 + get_or b i 0 = sum-at i h in
      every-next small (sums_of a b) i 0 (omega arith) (lt-ltb (get_or (sums_of a b) i 0) 18446744073709551616 (omega arith))

  pub fit-not : (i : ℕ) → i < 25 → (t : Bool) → t ≡ not (small (get_or a i 0 + get_or b i 0)) → t ≡ true → fit_from a b i ≡ false
  unfolding fit_from
  fit-not i h t p w =
      let g : 18446744073709551616 ≤ get_or a i 0 + get_or b i 0 = ltb-false (get_or a i 0 + get_or b i 0) 18446744073709551616 (not-true (small (get_or a i 0 + get_or b i 0)) (sym p ∙ w)) in
      let n : length (sums_of a b) ≡ 25 = length-sums in
      let e : get_or (sums_of a b) i 0 ≡ get_or a i 0 + get_or b i 0 = sum-at i h in
      every-not small (sums_of a b) i 0 (omega arith) (le-ltb (get_or (sums_of a b) i 0) 18446744073709551616 (omega arith))

  pub fit-end : (i : ℕ) → 25 ≤ i → fit_from a b i ≡ true
  unfolding fit_from
  fit-end i h = every-end small (sums_of a b) i (rw length-sums h)

  -- ---- the loop that tests

  pub fit-whole : fit_from a b 0 ≡ below (joined (totals_in a) (totals_in b))
  unfolding fit_from
  fit-whole = refl

  pub fit-no : (i : ℕ) → fit_from a b 0 ≡ fit_from a b i → i < 25 → (t : Bool) → t ≡ not (small (get_or a i 0 + get_or b i 0)) → t ≡ true → false ≡ below (joined (totals_in a) (totals_in b))
  fit-no i e h t p w = sym (sym fit-whole ∙ e ∙ fit-not i h t p w)

  pub fit_on : (i : ℕ) → fit_from a b 0 ≡ fit_from a b i → i < 25 → (t : Bool) → t ≡ not (small (get_or a i 0 + get_or b i 0)) → t ≡ false → fit_from a b 0 ≡ fit_from a b (i + 1)
  fit_on i e h t p w = e ∙ fit_next i h t p w

  pub fit-yes : (i : ℕ) → fit_from a b 0 ≡ fit_from a b i → 25 ≤ i → true ≡ below (joined (totals_in a) (totals_in b))
  fit-yes i e h = sym (sym fit-whole ∙ e ∙ fit-end i h)

  -- ---- the loop that adds

  pub add_start : a ≡ copied_words 25 (sums_of a b) a 0
  add_start = words-start 25 (sums_of a b) a

  module _ (pre : below (joined (totals_in a) (totals_in b)) ≡ true) (k : ℕ) (m : List ℕ) (part : m ≡ copied_words 25 (sums_of a b) a k) where
    enough : (25 ≤ length (sums_of a b)) × (25 ≤ length a)
    enough = let n : length (sums_of a b) ≡ 25 = length-sums in (omega arith, omega arith)

    pub add-value : k < 25 → get_or m k 0 + get_or b k 0 ≡ get_or (sums_of a b) k 0
    add-value h =
        let n : length (sums_of a b) ≡ 25 = length-sums in
        let t : length (take k (sums_of a b)) ≡ k = length-take-le k (sums_of a b) (omega arith) in
        let e : get_or m k 0 ≡ get_or a k 0 = rw part (get_d_after 0 (take k (sums_of a b)) a (omega arith) k 0 (omega arith)) in
        rw e (sym (sum-at k h))

    pub add-fits : k < 25 → get_or m k 0 + get_or b k 0 < 18446744073709551616
    add-fits h =
        let n : length (sums_of a b) ≡ 25 = length-sums in
        let e : get_or m k 0 + get_or b k 0 ≡ get_or (sums_of a b) k 0 = add-value h in
        let l : get_or (sums_of a b) k 0 < 18446744073709551616 = ltb-true (get_or (sums_of a b) k 0) 18446744073709551616 (every-at small (sums_of a b) k 0 (omega arith) pre) in
        omega arith

    pub add-next : k < 25 → set m k (get_or m k 0 + get_or b k 0) ≡ copied_words 25 (sums_of a b) a (k + 1)
    add-next h = ap (λ v. set m k v) (add-value h) ∙ words-next 25 (sums_of a b) a enough k m part h

    pub add-length : k ≤ 25 → length m ≡ 26
    add-length h = words-length 25 (sums_of a b) a enough k m part h ∙ long

    pub add-end : k ≤ 25 → 25 ≤ k → m ≡ over 0 (sums_of a b) a
    add-end h q =
        let n : length (sums_of a b) ≤ 25 = omega (arith, length-sums) in
        words-end 25 (sums_of a b) a enough k m part h q ∙ ap (λ s. over 0 s a) (take_all 25 (sums_of a b) n)

pub ruleset fitting = (fit-no, fit_on, fit-yes, rules)

pub ruleset adding = (add_start, add-fits, add-next, add-length, add-end, rules)

-- ---- the totals of nothing

abbrev pub cleared : List ℕ → ℕ → List ℕ
cleared l k = copied_words 26 (replicate 26 0) l k

module _ (l : List ℕ) (long : length l ≡ 26) where
  clear_room : (26 ≤ length {A = ℕ} (replicate 26 0)) × (26 ≤ length l)
  clear_room = (omega arith, omega arith)

  pub clear-start : l ≡ cleared l 0
  clear-start = words-start 26 (replicate 26 0) l

  module _ (k : ℕ) (m : List ℕ) (part : m ≡ cleared l k) where
    pub clear-length : k ≤ 26 → length m ≡ 26
    clear-length h = words-length 26 (replicate 26 0) l clear_room k m part h ∙ long

    pub clear_next : k < 26 → set m k 0 ≡ cleared l (k + 1)
    clear_next h = ap (λ v. set m k v) (sym (get_or-replicate 26 k 0 0 h)) ∙ words-next 26 (replicate 26 0) l clear_room k m part h

    pub clear-end : k ≤ 26 → 26 ≤ k → Zeroes m
    unfolding over totals sum greatest
    clear-end h q =
        let e : m ≡ over 0 (replicate 26 0) l = words-end 26 (replicate 26 0) l clear_room k m part h q in
        record { words = ap totals_in e }

pub ruleset clearing = (clear-start, clear-length, clear_next, clear-end, rules)

-- ---- both: what merge leaves

module _ (a b : List ℕ) (t : Bool) (e : t ≡ below (joined (totals_in a) (totals_in b))) where
  pub merge-refused : not t ≡ true → Merges a (totals_in b) 9 a
  unfolding merged
  merge-refused h =
      let no : below (joined (totals_in a) (totals_in b)) ≡ false = sym e ∙ not-true t h in
      record { answer = rw no; words = rw no }

  pub merge-may : not t ≡ false → below (joined (totals_in a) (totals_in b)) ≡ true
  merge-may h = sym e ∙ not-false t h

module _ (a b : List ℕ) (long : length a ≡ 26) (long-b : length b ≡ 26) where
  module _ (t : Bool) (e : t ≡ below (joined (totals_in a) (totals_in b))) (h : not t ≡ false) (m : List ℕ) (sum : m ≡ over 0 (sums_of a b) a) where
    good : below (joined (totals_in a) (totals_in b)) ≡ true
    good = sym e ∙ not-false t h

    front-m : length (sums_of a b) ≡ 25
    front-m = length-sums a b long long-b

    pub merge-last : get_or m 25 0 ≡ get_or a 25 0
    merge-last = let n : length (sums_of a b) ≡ 25 = front-m in rw sum (get_d_after 0 (sums_of a b) a (omega arith) 25 0 (omega arith))

    pub merge-front : take 25 m ≡ sums_of a b
    unfolding over
    merge-front = rw sum (take_at (sums_of a b) _ 25 front-m)

    leaves : (n : List ℕ) → take 25 n ≡ sums_of a b → get_or n 25 0 ≡ max (get_or a 25 0) (get_or b 25 0) → Merges a (totals_in b) 0 n
    unfolding merged
    leaves n p q = record { answer = rw good; words = rw (good, p, q) }

    pub merge-kept : get_or b 25 0 ≤ get_or m 25 0 → Merges a (totals_in b) 0 m
    merge-kept g = let l : get_or m 25 0 ≡ get_or a 25 0 = merge-last in leaves m merge-front (omega arith)

    pub merge-larger : length m ≡ 26 → get_or m 25 0 < get_or b 25 0 → Merges a (totals_in b) 0 (set m 25 (get_or b 25 0))
    merge-larger w g =
        let l : get_or m 25 0 ≡ get_or a 25 0 = merge-last in
        let s : get_or (set m 25 (get_or b 25 0)) 25 0 ≡ get_or b 25 0 = get_or-set_same m 25 (get_or b 25 0) 0 (omega arith) in
        leaves (set m 25 (get_or b 25 0)) (take-set-le 25 m 25 (get_or b 25 0) (omega arith) ∙ merge-front) (omega arith)

    pub merge-greatest : length m ≡ 26 → (v : ℕ) → v ≡ max (get_or m 25 0) (get_or b 25 0) → Merges a (totals_in b) 0 (set m 25 v)
    merge-greatest w v e =
        let l : get_or m 25 0 ≡ get_or a 25 0 = merge-last in
        let s : get_or (set m 25 v) 25 0 ≡ v = get_or-set_same m 25 v 0 (omega arith) in
        leaves (set m 25 v) (take-set-le 25 m 25 v (omega arith) ∙ merge-front) (s ∙ (e ∙ ap (λ k. max k (get_or b 25 0)) l))

pub ruleset merging = (merge-refused, merge-may, merge-kept, merge-larger, merge-greatest, rules)

-- ---- one total

pub total_here : (l : List ℕ) (i k : ℕ) → k ≡ i → get_or l k 0 ≡ get_or l i 0
total_here l i k h = rw h

pub total-past : (l : List ℕ) (i k : ℕ) → length l ≡ 26 → k ≡ i → 26 ≤ k → 0 ≡ get_or l i 0
total-past l i k long h p = sym (get_or-eq_default l 0 {n = i} (omega arith))

pub ruleset totalling = (total_here, total-past, rules)
