-- When a submission is not refused with 10, and the word that counts its error. Assumes nothing.
use Rattle.std.specs.Prelude.{◌≡◌, Bool, true, false, ◌&&◌, ◌⊎◌, ℕ, zero, suc, ◌+◌, ◌-◌, ◌≤◌, ◌<◌, eqb, leb, set, replicate}
use Rattle.std.proofs.Math.Path.{refl, ap}
use Rattle.std.proofs.Common.{sym, subst, ◌∙◌, ⊎_elim, arith, rules}
use mathlib.Core.List.{List, [], ◌∷◌, ◌++◌}
use borrow.Author.Tests.{le-leb, lt-leb, leb-true, eq-eqb, ne_eqb}
use Rattle.std.proofs.Math.ListN.{length}
use Rattle.rows.specs.Rows.{length-table}
use Rattle.rows.specs.Keys.{same_or_not}
use Rattle.words.specs.Over.{below_or_not}
use Rattle.kept_resources.specs.Views.{record_of, records_of}
use Rattle.rules.specs.Month.{every, listed_kind, good_feed}
use Rattle.month_feed.specs.Views.{finished, good_error, place_of, ended}

module _ (e u n : ℕ) (l : List ℕ) where
  many : length (records_of n l) ≡ n
  many = length-table record_of 5 n l

  pub error-low : (e ≡ 0 → ⊥) → e < 10 → false ≡ good_feed (finished e u n l)
  unfolding good_feed
  error-low p h = rw (ne_eqb e 0 p, lt-leb 10 e h)

  pub error-high : (e ≡ 0 → ⊥) → 10 ≤ e → 30 < e → false ≡ good_feed (finished e u n l)
  unfolding good_feed
  error-high p g h = rw (ne_eqb e 0 p, le-leb 10 e g, lt-leb e 30 h)

  pub error-records : (e ≡ 0 → ⊥) → 10 ≤ e → e ≤ 30 → (n ≡ 0 → ⊥) → false ≡ good_feed (finished e u n l)
  unfolding good_feed
  error-records p g h q = rw (ne_eqb e 0 p, le-leb 10 e g, le-leb e 30 h, many, ne_eqb n 0 q)

  pub error-alone : (e ≡ 0 → ⊥) → 10 ≤ e → e ≤ 30 → n ≡ 0 → true ≡ good_feed (finished e u n l)
  unfolding good_feed every
  error-alone p g h q =
      let none : records_of n l ≡ [] = nothing (records_of n l) (many ∙ q) in
      rw (ne_eqb e 0 p, le-leb 10 e g, le-leb e 30 h, none)
    where
      nothing : {A : Type 0} (xs : List A) → length xs ≡ 0 → xs ≡ []
      nothing [] h = refl
      nothing (x ∷ xs) h = absurd (omega arith)

  pub error-counted : (e ≡ 0 → ⊥) → 10 ≤ e → e ≤ 30 → eqb n 0 ≡ good_feed (finished e u n l)
  error-counted p g h = ⊎_elim (λ q. rw (eq-eqb n 0 q) (error-alone p g h q)) (λ q. rw (ne_eqb n 0 q) (error-records p g h q)) (same_or_not n 0)

  pub too_long : e ≡ 0 → 64 < n → false ≡ good_feed (finished e u n l)
  unfolding good_feed
  too_long p h = rw (eq-eqb e 0 p, many, lt-leb n 64 h)

  pub too-many : e ≡ 0 → 64 < n → leb n 64 ≡ good_feed (finished e u n l)
  too-many p h = rw (lt-leb n 64 h) (too_long p h)

  pub by-kinds : e ≡ 0 → n ≤ 64 → (k : ℕ) → k ≡ n → (t : Bool) → t ≡ every listed_kind (records_of k l) → t ≡ good_feed (finished e u n l)
  unfolding good_feed
  by-kinds p h k q t r = rw (eq-eqb e 0 p, many, le-leb n 64 h) (r ∙ ap (λ i. every listed_kind (records_of i l)) q)

pub ruleset judging = (error-low, error-high, error-records, error-alone, error-counted, too_long, too-many, by-kinds, rules)

-- ---- the word that counts an error

pub both : (a b : Bool) → a && b ≡ true → (a ≡ true) × (b ≡ true)
both true b p = (refl, p)
both false b p = absurd (let z : ◌≡◌ {A = Bool} false true = p in let q : ◌≡◌ {A = ℕ} 0 1 = cc in omega arith)

-- a good error is 0, or from 10 to 30
pub error-range : (e : ℕ) → good_error e ≡ true → (e ≡ 0 → ⊥) → (10 ≤ e) × (e ≤ 30)
error-range e h p =
    let g : leb 10 e && leb e 30 ≡ true = rw (ne_eqb e 0 p) at h in
    let q : (leb 10 e ≡ true) × (leb e 30 ≡ true) = both (leb 10 e) (leb e 30) g in
    (leb-true 10 e q.0, leb-true e 30 q.1)

module _ (e : ℕ) (good : good_error e ≡ true) where
  pub place-zero : e ≡ 0 → 0 ≡ place_of e
  unfolding place_of
  place-zero p = rw (eq-eqb e 0 p)

  pub place-room : (e ≡ 0 → ⊥) → 9 ≤ e
  place-room p = let r : (10 ≤ e) × (e ≤ 30) = error-range e good p in omega arith

  pub place-error : (e ≡ 0 → ⊥) → (k : ℕ) → k ≡ e - 9 → k ≡ place_of e
  unfolding place_of
  place-error p k h = rw (ne_eqb e 0 p) h

  pub place-small : (e ≡ 0 → ⊥) → (k : ℕ) → k ≡ e - 9 → k < 22
  place-small p k h = let r : (10 ≤ e) × (e ≤ 30) = error-range e good p in omega arith

pub ruleset placing = (place-zero, place-room, place-error, place-small, rules)

-- what holds of every number of a range holds of one in it
abbrev pub AllFrom : (ℕ → Type 0) → ℕ → ℕ → Type 0
AllFrom P zero k = 0 ≤ 0
AllFrom P (suc n) k = P k × AllFrom P n (suc k)

pub between : (P : ℕ → Type 0) (n k : ℕ) → AllFrom P n k → (e : ℕ) → k ≤ e → e < k + n → P e
between P zero k a e g h = absurd (omega arith)
between P (suc n) k a e g h =
    ⊎_elim
    (λ p. subst P (sym p) a.0)
    (λ p. between P n (suc k) a.1 e (by-omega p) (omega arith))
    (same_or_not e k)
  where
    by-omega : (e ≡ k → ⊥) → suc k ≤ e
    by-omega p = ⊎_elim (λ r. absurd (p (omega arith))) (λ r. r) (below_or_not e (suc k))

-- the words of a submission with this error, and with no units and bytes
abbrev Counts : ℕ → Type 0
Counts e = set (replicate 26 0) (place_of e) 1 ≡ ended e ++ (0 ∷ 0 ∷ 0 ∷ 0 ∷ [])

counts_each : AllFrom Counts 21 10
unfolding place_of
counts_each = (refl, (refl, (refl, (refl, (refl, (refl, (refl, (refl, (refl, (refl, (refl, (refl, (refl, (refl, (refl, (refl, (refl, (refl, (refl, (refl, (refl, omega arith)))))))))))))))))))))

pub counts-one : (e : ℕ) → good_error e ≡ true → Counts e
unfolding place_of
counts-one e good =
    ⊎_elim
    (λ p. subst Counts (sym p) refl)
    (λ p. let r : (10 ≤ e) × (e ≤ 30) = error-range e good p in between Counts 21 10 counts_each e r.0 (omega arith))
    (same_or_not e 0)
