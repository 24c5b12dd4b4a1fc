-- One submission is fed: its own totals, and the result of merging them into others. Assumes nothing.
use Rattle.std.specs.Prelude.{◌≡◌, Bool, not, ◌&&◌, ◌||◌, List, [], ◌∷◌, ◌++◌, ℕ, ◌+◌, ◌≤◌, ◌<◌, eqb, get_or, take, set, replicate, Result, Ok, Err, ⊤}
use Rattle.std.proofs.Math.Path.{refl, sym}
use Rattle.std.proofs.Common.{ap, ◌∙◌, add-zero, arith, rules, length-take-le}
use Rattle.std.proofs.Math.Bool.{true, false}
use Rattle.std.proofs.Math.Nat.{max-zero}
use borrow.Author.Tests.{leb-true, ltb-true, ltb-false, not-true, not-false}
use Rattle.std.proofs.Math.Dec.{leb}
use Rattle.std.proofs.Math.ListN.{length}
use Rattle.machine.specs.Machine.{pick}
use Rattle.rules.specs.Numbers.{most, reads, writes}
use Rattle.rows.specs.Rows.{length-table}
use Rattle.kept_resources.specs.Views.{record_of, records_of}
use Rattle.rules.specs.Month.{Finished, totals, sum, greatest, every, small, added, merged, fed, length_in, bytes_in, largest_write, listed_kind, alone, good_feed}
use Rattle.month_totals.specs.Views.{totals_in, Merges, Feeds}
use Rattle.month_totals.specs.Summing.{get_or-added, length-added, every-at}
use Rattle.std.specs.Result.{IsErrAnd}
use Rattle.std.proofs.lemmas.Result.{err_from_is_err_and}
use Rattle.call_errors.specs.Answers.{answer_of}
use Rattle.call_errors.specs.declared.CallError.{CallError}
use Rattle.call_errors.specs.declared.CallError.TheVariants.{TooMuch}
use Rattle.month_feed.specs.Views.{finished, within, good_error, place_of, ended, only}
use Rattle.month_feed.specs.Judging.{both, counts-one}

-- ---- its own totals, in words

pub single-words : (e u read written top at v : ℕ) → good_error e ≡ true → (at ≡ place_of e) × (at < 22) → (v ≡ u) × (v < 4294967296)
    → totals_in (set (set (set (set (set (replicate 26 0) at 1) 22 v) 23 read) 24 written) 25 top) ≡ only e u read written top
unfolding only
single-words e u read written top at v good p q =
    let a : set (replicate 26 0) at 1 ≡ ended e ++ (0 ∷ 0 ∷ 0 ∷ 0 ∷ []) = ap (λ k. set (replicate 26 0) k 1) p.0 ∙ counts-one e good in
    ap (λ m. totals_in (set (set (set (set m 22 v) 23 read) 24 written) 25 top)) a ∙ rw q.0

pub ruleset Single-of = (single-words, rules)

-- and by the rules
pub single-is : (s : Finished) → totals (s ∷ []) ≡ only s.error s.units (bytes_in reads s) (bytes_in writes s) (largest_write s)
unfolding totals sum greatest only
single-is s = simp (add-zero, max-zero)

-- ---- a sum of bytes, below 2^64 or not

by-small : (n : ℕ) (t : Bool) → small n ≡ t → pick t (Ok n) (Err TooMuch) ≡ within n
unfolding within
by-small n t h = rw h

pub told-reached : (n : ℕ) (r : CallError) → within n ≡ Err r → (18446744073709551616 ≤ n) × (r ≡ TooMuch)
told-reached n r h = by_test (small n) refl
  where
    by_test : (t : Bool) → small n ≡ t → (18446744073709551616 ≤ n) × (r ≡ TooMuch)
    by_test true e = let q : Ok n ≡ Err r = by-small n true e ∙ h in cc
    by_test false e = let q : Err TooMuch ≡ Err r = by-small n false e ∙ h in let same : r ≡ TooMuch = cc in (ltb-false n 18446744073709551616 e, same)

pub told_below : (n m : ℕ) → within n ≡ Ok m → m ≡ n
told_below n m h = by_test (small n) refl
  where
    by_test : (t : Bool) → small n ≡ t → m ≡ n
    by_test true e = let q : Ok n ≡ Ok m = by-small n true e ∙ h in cc
    by_test false e = let q : Err TooMuch ≡ Ok m = by-small n false e ∙ h in cc

-- ---- totals that would reach 2^64

module _ (l : List ℕ) (long : length l ≡ 26) (e u read written top : ℕ) where
  abbrev sums_after : List ℕ
  sums_after = added (take 25 l) (ended e ++ (u ∷ read ∷ written ∷ []))

  -- a word that is too much of itself
  over-at : (i : ℕ) → i < 25 → 18446744073709551616 ≤ get_or (ended e ++ (u ∷ read ∷ written ∷ [])) i 0 → every small sums_after ≡ false
  over-at i h p = by_test (every small sums_after) refl
    where
      by_test : (t : Bool) → every small sums_after ≡ t → every small sums_after ≡ false
      by_test false q = q
      by_test true q =
          let n : length (take 25 l) ≡ 25 = length-take-le 25 l (omega arith) in
          let m : length sums_after ≡ 25 = length-added (take 25 l) (ended e ++ (u ∷ read ∷ written ∷ [])) n ∙ n in
          let g : get_or sums_after i 0 ≡ get_or (take 25 l) i 0 + get_or (ended e ++ (u ∷ read ∷ written ∷ [])) i 0 = get_or-added (take 25 l) (ended e ++ (u ∷ read ∷ written ∷ [])) i (omega arith) (omega arith) in
          let s : get_or sums_after i 0 < 18446744073709551616 = ltb-true (get_or sums_after i 0) 18446744073709551616 (every-at small sums_after i 0 (omega arith) q) in
          absurd (omega arith)

  pub reads_over : 18446744073709551616 ≤ read → merged (totals_in l) (only e u read written top) ≡ record { answer = 9; totals = totals_in l }
  unfolding merged only
  reads_over p = rw (over-at 23 (omega arith) p)

  pub writes-over : 18446744073709551616 ≤ written → merged (totals_in l) (only e u read written top) ≡ record { answer = 9; totals = totals_in l }
  unfolding merged only
  writes-over p = rw (over-at 24 (omega arith) p)

-- ---- fed

module _ (l r : List ℕ) (e u n : ℕ) (t : Bool) (judged : t ≡ good_feed (finished e 0 n r)) where
  -- units are not judged
  same-judged : good_feed (finished e 0 n r) ≡ good_feed (finished e u n r)
  unfolding good_feed
  same-judged = refl

  pub feed-bad : not t ≡ true → Feeds l (finished e u n r) 10 l
  unfolding fed
  feed-bad h =
      let no : good_feed (finished e u n r) ≡ false = sym same-judged ∙ sym judged ∙ not-true t h in
      record { answer = rw no; words = rw no }

  module _ (go : not t ≡ false) where
    good : good_feed (finished e u n r) ≡ true
    good = sym same-judged ∙ sym judged ∙ not-false t go

    pub feed-error : good_error e ≡ true
    unfolding good_feed
    feed-error = first (eqb e 0) (leb 10 e && leb e 30) _ _ good
      where
        first : (a b c d : Bool) → (a || (b && c)) && d ≡ true → a || b ≡ true
        first true b c d p = refl
        first false true c d p = refl
        first false false c d p = p

    module _ (k : ℕ) (same : k ≡ n) where
      pub feed-count : k ≤ most
      unfolding good_feed
      feed-count =
          let tail : leb (length (records_of n r)) 64 && every listed_kind (records_of n r) ≡ true = (both (alone (finished e u n r)) (leb (length (records_of n r)) 64 && every listed_kind (records_of n r)) good).1 in
          let p : leb (length (records_of n r)) 64 ≡ true = (both (leb (length (records_of n r)) 64) (every listed_kind (records_of n r)) tail).0 in
          let q : length (records_of n r) ≤ 64 = leb-true (length (records_of n r)) 64 p in
          omega (arith, length-table record_of 5 n r)

      fed-is : fed (totals_in l) (finished e u n r) ≡ merged (totals_in l) (only e u (sum (length_in reads) (records_of k r)) (sum (length_in writes) (records_of k r)) (greatest (length_in writes) (records_of k r)))
      unfolding fed
      fed-is = rw (good, same) (ap (merged (totals_in l)) (single-is (finished e u n r)))

      -- what a refusal of a sum is handed on as
      leaves-over : (c : CallError) (y : Result ⊤ CallError) → c ≡ TooMuch → IsErrAnd y (λ z. z ≡ c) → fed (totals_in l) (finished e u n r) ≡ record { answer = 9; totals = totals_in l }
          → Feeds l (finished e u n r) (answer_of y) l
      leaves-over c y q h p = let z = err_from_is_err_and y h in record { answer = rw (z.1, z.2, q, p); words = rw p }

      pub feed-reads-over : length l ≡ 26 → (x : Result ℕ CallError) (c : CallError) (y : Result ⊤ CallError) → x ≡ within (sum (length_in reads) (records_of k r)) → x ≡ Err c
          → IsErrAnd y (λ z. z ≡ c) → Feeds l (finished e u n r) (answer_of y) l
      feed-reads-over w x c y p q h = let o = told-reached _ c (sym p ∙ q) in leaves-over c y o.1 h (fed-is ∙ reads_over l w e u _ _ _ o.0)

      pub feed-writes-over : length l ≡ 26 → (x : Result ℕ CallError) (c : CallError) (y : Result ⊤ CallError) → x ≡ within (sum (length_in writes) (records_of k r)) → x ≡ Err c
          → IsErrAnd y (λ z. z ≡ c) → Feeds l (finished e u n r) (answer_of y) l
      feed-writes-over w x c y p q h = let o = told-reached _ c (sym p ∙ q) in leaves-over c y o.1 h (fed-is ∙ writes-over l w e u _ _ _ o.0)

      pub feed-merged : (read written top : ℕ) (x y : Result ℕ CallError) → x ≡ within (sum (length_in reads) (records_of k r)) → x ≡ Ok read → y ≡ within (sum (length_in writes) (records_of k r)) → y ≡ Ok written
          → top ≡ greatest (length_in writes) (records_of k r) → (one m : List ℕ) (a : ℕ) → totals_in one ≡ only e u read written top → Merges l (totals_in one) a m → Feeds l (finished e u n r) a m
      feed-merged read written top x y p p' q q' g one m a o d =
          let f : fed (totals_in l) (finished e u n r) ≡ merged (totals_in l) (totals_in one) =
          fed-is ∙ ap (merged (totals_in l)) (sym (o ∙ rw (told_below _ _ (sym p ∙ p'), told_below _ _ (sym q ∙ q'), g))) in
          record { answer = rw f d.answer; words = rw f d.words }

pub ruleset feeding = (feed-bad, feed-error, feed-count, rules)
