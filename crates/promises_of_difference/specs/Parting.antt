-- The streams part nowhere exactly if their packets are equal, else at the least index whose class is not equal. Assumes nothing.
use Rattle.std.specs.Prelude.{◌≡◌, refl, List, [], ◌∷◌, map, ℕ, zero, suc, ◌+◌, ◌<◌, None, Option, Some}
use Rattle.std.proofs.Common.{sym, ap, ◌∙◌, arith}
use Rattle.rules.specs.Lists.{Found, nth}
use Rattle.rules.specs.Lists.Found.{none, found}
use Rattle.rules.specs.Dump.{Listed}
use Rattle.rules.specs.Difference.{class_both, class_of, parted_by, parted}
use Rattle.rules.specs.declared.Class.{Class}
use Rattle.rules.specs.declared.Class.TheVariants.{Equal, SameOpcode, OtherOpcode, OnlyFirst, OnlySecond, Neither}
use Rattle.promises_of_difference.specs.Classes.{Means, class-means, means-class}

-- the packets as bytes
abbrev pub all_bytes : List Listed → List (List ℕ)
all_bytes ps = map (λ (p : Listed). p.bytes) ps

-- ---- nowhere, exactly if the packets are equal

equal-bytes : (p q : Listed) → class_both p.bytes q.bytes ≡ Equal → p.bytes ≡ q.bytes
equal-bytes p q e = by-class (class_both p.bytes q.bytes) e (class-means (found p) (found q))
  where
    by-class : (c : Class) → c ≡ Equal → Means c (found p) (found q) → p.bytes ≡ q.bytes
    by-class c e m =
        let b : Means Equal (found p) (found q) = rw e at m in
        let f : b.p ≡ p = same b.p p b.first in
        let g : b.q ≡ q = same b.q q b.second in
        ap (λ (z : Listed). z.bytes) (sym f) ∙ (b.bytes ∙ ap (λ (z : Listed). z.bytes) g)
      where
        same : (u v : Listed) → found v ≡ found u → u ≡ v
        same u v e = cc

bytes-equal : (p q : Listed) → p.bytes ≡ q.bytes → class_both p.bytes q.bytes ≡ Equal
bytes-equal p q e = means-class Equal (found p) (found q) (record { p = p; q = q; first = refl; second = refl; bytes = e })

never_on : (c : Class) (i : ℕ) (later : Option ℕ) → (c ≡ Neither → ⊥) → parted_by c i later ≡ None → (c ≡ Equal) × (later ≡ None)
never_on Equal i later n e = (refl, e)
never_on SameOpcode i later n e = absurd (let z : ◌≡◌ {A = ℕ} 0 1 = cc in omega arith)
never_on OtherOpcode i later n e = absurd (let z : ◌≡◌ {A = ℕ} 0 1 = cc in omega arith)
never_on OnlyFirst i later n e = absurd (let z : ◌≡◌ {A = ℕ} 0 1 = cc in omega arith)
never_on OnlySecond i later n e = absurd (let z : ◌≡◌ {A = ℕ} 0 1 = cc in omega arith)
never_on Neither i later n e = absurd (n refl)

two-there : (p q : Listed) → class_both p.bytes q.bytes ≡ Neither → ⊥
two-there p q e =
    let m : Means Neither (found p) (found q) = rw e at (class-means (found p) (found q)) in
    let f : ◌≡◌ {A = Found Listed} (found p) none = m.0 in
    let z : ◌≡◌ {A = ℕ} 0 1 = cc in
    omega arith

pub never-equal : (i : ℕ) (ps qs : List Listed) → parted i ps qs ≡ None → all_bytes ps ≡ all_bytes qs
unfolding parted
never-equal i [] [] e = refl
never-equal i [] (q ∷ qs) e = absurd (let z : ◌≡◌ {A = ℕ} 0 1 = cc in omega arith)
never-equal i (p ∷ ps) [] e = absurd (let z : ◌≡◌ {A = ℕ} 0 1 = cc in omega arith)
never-equal i (p ∷ ps) (q ∷ qs) e =
    let n = never_on (class_both p.bytes q.bytes) i (parted (i + 1) ps qs) (two-there p q) e in
    rw (equal-bytes p q n.0, never-equal (i + 1) ps qs n.1)

pub equal-never : (i : ℕ) (ps qs : List Listed) → all_bytes ps ≡ all_bytes qs → parted i ps qs ≡ None
unfolding parted
equal-never i [] [] e = refl
equal-never i [] (q ∷ qs) e = absurd (let z : ◌≡◌ {A = ℕ} 0 1 = cc in omega arith)
equal-never i (p ∷ ps) [] e = absurd (let z : ◌≡◌ {A = ℕ} 0 1 = cc in omega arith)
equal-never i (p ∷ ps) (q ∷ qs) e =
    let a : p.bytes ≡ q.bytes = cc in
    let b : all_bytes ps ≡ all_bytes qs = cc in
    ap (λ c. parted_by c i (parted (i + 1) ps qs)) (bytes-equal p q a) ∙ equal-never (i + 1) ps qs b

-- ---- else at the least index whose class is not equal

-- both lists have equal packets up to an index, and there they do not
pub record PartsHere (ps qs : List Listed) (j : ℕ) : Type 0 where
  pub before : (k : ℕ) → k < j → class_of (nth ps k) (nth qs k) ≡ Equal
  pub here : class_of (nth ps j) (nth qs j) ≡ Equal → ⊥
  pub there : class_of (nth ps j) (nth qs j) ≡ Neither → ⊥

pub record PartsAfter (i : ℕ) (ps qs : List Listed) (j : ℕ) : Type 0 where
  pub further : ℕ
  pub is : j ≡ i + further
  pub parts : PartsHere ps qs further

-- the first pair is not equal, or what is behind it parts
pub data Splits (c : Class) (i j : ℕ) (later : Option ℕ) : Type 0 where
  at_once : (c ≡ Equal → ⊥) → i ≡ j → Splits c i j later
  behind : c ≡ Equal → later ≡ Some j → Splits c i j later

splits : (c : Class) (i j : ℕ) (later : Option ℕ) → parted_by c i later ≡ Some j → Splits c i j later
splits Equal i j later e = behind refl e
splits SameOpcode i j later e = at_once (λ h. let z : ◌≡◌ {A = ℕ} 0 1 = cc in omega arith) cc
splits OtherOpcode i j later e = at_once (λ h. let z : ◌≡◌ {A = ℕ} 0 1 = cc in omega arith) cc
splits OnlyFirst i j later e = at_once (λ h. let z : ◌≡◌ {A = ℕ} 0 1 = cc in omega arith) cc
splits OnlySecond i j later e = at_once (λ h. let z : ◌≡◌ {A = ℕ} 0 1 = cc in omega arith) cc
splits Neither i j later e = absurd (let z : ◌≡◌ {A = ℕ} 0 1 = cc in omega arith)

-- at the first pair
at_first : (i j : ℕ) (ps qs : List Listed) → i ≡ j → (class_of (nth ps 0) (nth qs 0) ≡ Equal → ⊥) → (class_of (nth ps 0) (nth qs 0) ≡ Neither → ⊥) → PartsAfter i ps qs j
at_first i j ps qs e n m = record { further = 0; is = omega arith; parts = record { before = λ k h. absurd (omega arith); here = n; there = m } }

-- behind an equal pair
at-later : (i j : ℕ) (p q : Listed) (ps qs : List Listed) → class_both p.bytes q.bytes ≡ Equal → PartsAfter (i + 1) ps qs j → PartsAfter i (p ∷ ps) (q ∷ qs) j
unfolding nth
at-later i j p q ps qs e a =
    let is : j ≡ i + 1 + a.further = a.is in
    record {
      further = suc a.further;
      is = omega arith;
      parts = record { before = by_index; here = a.parts.here; there = a.parts.there };
    }
  where
    by_index : (k : ℕ) → k < suc a.further → class_of (nth (p ∷ ps) k) (nth (q ∷ qs) k) ≡ Equal
    by_index zero h = e
    by_index (suc k) h = a.parts.before k (omega arith)

parts-after : (i j : ℕ) (ps qs : List Listed) → parted i ps qs ≡ Some j → PartsAfter i ps qs j
unfolding parted nth
parts-after i j [] [] e = absurd (let z : ◌≡◌ {A = ℕ} 0 1 = cc in omega arith)
parts-after i j [] (q ∷ qs) e =
    let s : i ≡ j = cc in
    at_first i j [] (q ∷ qs) s (λ h. let z : ◌≡◌ {A = ℕ} 0 1 = cc in omega arith) (λ h. let z : ◌≡◌ {A = ℕ} 0 1 = cc in omega arith)
parts-after i j (p ∷ ps) [] e =
    let s : i ≡ j = cc in
    at_first i j (p ∷ ps) [] s (λ h. let z : ◌≡◌ {A = ℕ} 0 1 = cc in omega arith) (λ h. let z : ◌≡◌ {A = ℕ} 0 1 = cc in omega arith)
parts-after i j (p ∷ ps) (q ∷ qs) e =
    by-split (splits (class_both p.bytes q.bytes) i j (parted (i + 1) ps qs) e) (λ d. parts-after (i + 1) j ps qs d)
  where
    by-split : Splits (class_both p.bytes q.bytes) i j (parted (i + 1) ps qs) → (parted (i + 1) ps qs ≡ Some j → PartsAfter (i + 1) ps qs j) → PartsAfter i (p ∷ ps) (q ∷ qs) j
    by-split (at_once n s) on = at_first i j (p ∷ ps) (q ∷ qs) s n (two-there p q)
    by-split (behind c d) on = at-later i j p q ps qs c (on d)

pub parts-at-least : (j : ℕ) (ps qs : List Listed) → parted 0 ps qs ≡ Some j → PartsHere ps qs j
parts-at-least j ps qs e =
    let a = parts-after 0 j ps qs e in
    let s : a.further ≡ j = omega (arith, a.is) in
    rw s at a.parts
