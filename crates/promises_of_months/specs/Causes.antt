-- The causes of answer 10, and that there are no others; 9 exactly where there is none of them and a named total would reach 2^64.
-- Assumes nothing.
use Rattle.std.proofs.Math.Path.{◌≡◌, refl}
use Rattle.std.proofs.Common.{ap, ◌∙◌, ⊎_elim, arith}
use Rattle.std.specs.Prelude.{Bool, ◌&&◌, ℕ, ◌≤◌, ◌<◌, leb}
use Rattle.std.proofs.Math.Bool.{true, false}
use mathlib.Core.List.{List, [], ◌∷◌, ◌++◌}
use borrow.Author.Tests.{eq-eqb, ne_eqb, le-leb, lt-leb}
use Rattle.std.proofs.Math.ListN.{length}
use Rattle.rules.specs.Lists.{pushed}
use Rattle.rules.specs.Numbers.{too_much, bad_feed}
use Rattle.rules.specs.declared.Record.{Record}
use Rattle.rules.specs.Month.{Finished, alone, every, listed_kind, good_feed, feed_answer}
use Rattle.rows.specs.Keys.{same_or_not}
use Rattle.words.specs.Over.{below_or_not}
use Rattle.promises_of_months.specs.Named.{Small}

-- "An unlisted error or kind, more than 64 records, or records beside an error": the listed errors are 10 to 30
pub data Cause (s : Finished) : Type 0 where
  error-below : (s.error ≡ 0 → ⊥) → s.error < 10 → Cause s
  error-above : 30 < s.error → Cause s
  beside-an-error : (s.error ≡ 0 → ⊥) → (length s.records ≡ 0 → ⊥) → Cause s
  above-64 : 64 < length s.records → Cause s
  unlisted-kind : (before after : List Record) (c : Record) → s.records ≡ before ++ (c ∷ after) → listed_kind c ≡ false → Cause s

-- ---- each cause makes a submission bad

and-false : (a : Bool) → a && false ≡ false
and-false true = refl
and-false false = refl

with-unlisted : (before after : List Record) (c : Record) → listed_kind c ≡ false → every listed_kind (before ++ (c ∷ after)) ≡ false
unfolding every
with-unlisted [] after c h = rw h
with-unlisted (b ∷ before) after c h = rw (with-unlisted before after c h) (and-false (listed_kind b))

pub cause-bad : (s : Finished) → Cause s → good_feed s ≡ false
unfolding good_feed
cause-bad s (error-below p h) = rw (ne_eqb s.error 0 p, lt-leb 10 s.error h)
cause-bad s (error-above h) = rw (ne_eqb s.error 0 (λ e. omega arith), le-leb 10 s.error (omega arith), lt-leb s.error 30 h)
cause-bad s (beside-an-error p q) = rw (ne_eqb s.error 0 p, ne_eqb (length s.records) 0 q, and-false)
cause-bad s (above-64 h) = rw (lt-leb (length s.records) 64 h) (and-false (alone s))
cause-bad s (unlisted-kind before after c e h) = rw (ap (every listed_kind) e ∙ with-unlisted before after c h, and-false (leb (length s.records) 64)) (and-false (alone s))

-- ---- a bad submission has one of the causes

pub record Unlisted (rs : List Record) : Type 0 where
  pub before : List Record
  pub after : List Record
  pub one : Record
  pub whole : rs ≡ before ++ (one ∷ after)
  pub kind : listed_kind one ≡ false

find-unlisted : (rs : List Record) → every listed_kind rs ≡ false → Unlisted rs
unfolding every
find-unlisted [] h = absurd (let q : ◌≡◌ {A = ℕ} 0 1 = cc in omega arith)
find-unlisted (r ∷ rs) h = by_kind (λ g. find-unlisted rs g) (listed_kind r) refl
  where
    by_kind : (every listed_kind rs ≡ false → Unlisted rs) → (t : Bool) → listed_kind r ≡ t → Unlisted (r ∷ rs)
    by_kind later false e = record { before = []; after = rs; one = r; whole = refl; kind = e }
    by_kind later true e =
        let u : Unlisted rs = later (rw e at h) in
        record { before = r ∷ u.before; after = u.after; one = u.one; whole = ap (λ x. r ∷ x) u.whole; kind = u.kind }

module _ (s : Finished) (bad : good_feed s ≡ false) where
  cause-of-error : (s.error ≡ 0 → ⊥) → 10 ≤ s.error → s.error ≤ 30 → length s.records ≡ 0 → Cause s
  unfolding good_feed every
  cause-of-error p g h n =
      let none : s.records ≡ [] = nothing s.records n in
      absurd (let z : ◌≡◌ {A = Bool} true false = rw (ne_eqb s.error 0 p, le-leb 10 s.error g, le-leb s.error 30 h, none) at bad in let q : ◌≡◌ {A = ℕ} 0 1 = cc in omega arith)
    where
      nothing : {A : Type 0} (xs : List A) → length xs ≡ 0 → xs ≡ []
      nothing [] h = refl
      nothing (x ∷ xs) h = absurd (omega arith)

  cause-of-records : s.error ≡ 0 → length s.records ≤ 64 → Cause s
  unfolding good_feed
  cause-of-records p h =
      let kinds : every listed_kind s.records ≡ false = rw (eq-eqb s.error 0 p, le-leb (length s.records) 64 h) at bad in
      let u : Unlisted s.records = find-unlisted s.records kinds in
      unlisted-kind u.before u.after u.one u.whole u.kind

  pub cause-of : Cause s
  cause-of =
      ⊎_elim
      (λ p. ⊎_elim (λ h. cause-of-records p (omega arith)) (λ h. above-64 h) (below_or_not (length s.records) 65))
      (λ p. ⊎_elim (λ h. error-below p h) (λ g. ⊎_elim (λ h. ⊎_elim (λ n. cause-of-error p g (omega arith) n) (λ n. beside-an-error p n) (same_or_not (length s.records) 0)) (λ h. error-above h) (below_or_not s.error 31)) (below_or_not s.error 10))
      (same_or_not s.error 0)

-- ---- the answers

-- 10 exactly where one of the causes holds, whatever was counted before
pub record Ten (xs : List Finished) (s : Finished) : Type 0 where
  pub only : feed_answer xs s ≡ bad_feed → Cause s
  pub when : Cause s → feed_answer xs s ≡ bad_feed

-- 9 exactly where none of them holds and a named total would reach 2^64
pub record NineBelow (xs : List Finished) (s : Finished) : Type 0 where
  pub only : feed_answer xs s ≡ too_much → (Cause s → ⊥) × (Small (pushed xs s) → ⊥)
  pub when : (Cause s → ⊥) → (Small (pushed xs s) → ⊥) → feed_answer xs s ≡ too_much
