-- The six classes are told apart exactly by what the two streams have at an index. Assumes nothing.
use Rattle.std.specs.Prelude.{◌≡◌, Bool, true, false, List, [], ◌∷◌, ℕ, eqb}
use Rattle.std.proofs.Math.Path.{refl}
use Rattle.std.proofs.Common.{sym, ap, ◌∙◌, arith, eq-eqb, ne_eqb, eqb-true}
use Rattle.machine.specs.Machine.{pick}
use Rattle.rules.specs.Layouts.{word}
use Rattle.rules.specs.Lists.{Found}
use Rattle.rules.specs.Lists.Found.{none, found}
use Rattle.rules.specs.Dump.{Listed}
use Rattle.rules.specs.Difference.{differing, same_opcode, class_both, class_of}
use Rattle.rules.specs.declared.Class.{Class}
use Rattle.rules.specs.declared.Class.TheVariants.{Equal, SameOpcode, OtherOpcode, OnlyFirst, OnlySecond, Neither}
use Rattle.promises_of_difference.specs.Offsets.{none-differ-equal, equal-none-differ}

-- both streams have a packet there, and their bytes are so
pub record Both (f g : Found Listed) (so : List ℕ → List ℕ → Type 0) : Type 0 where
  pub p : Listed
  pub q : Listed
  pub first : f ≡ found p
  pub second : g ≡ found q
  pub bytes : so p.bytes q.bytes

-- a stream has one there
abbrev There : Found Listed → Type 0
There f = (p : Listed) × (f ≡ found p)

-- what a class says of the two streams at an index
abbrev pub Means : Class → Found Listed → Found Listed → Type 0
Means Equal f g = Both f g (λ x y. x ≡ y)
Means SameOpcode f g = Both f g (λ x y. (word x 0 ≡ word y 0) × (x ≡ y → ⊥))
Means OtherOpcode f g = Both f g (λ x y. word x 0 ≡ word y 0 → ⊥)
Means OnlyFirst f g = There f × (g ≡ none)
Means OnlySecond f g = (f ≡ none) × There g
Means Neither f g = (f ≡ none) × (g ≡ none)

-- ---- each class says so

module _ (p q : Listed) where
  abbrev x : List ℕ
  x = p.bytes

  abbrev y : List ℕ
  y = q.bytes

  not-empty : (i : ℕ) (l : List ℕ) → differing x y ≡ i ∷ l → x ≡ y → ⊥
  not-empty i l d e =
      let f : ◌≡◌ {A = List ℕ} [] (i ∷ l) = sym (equal-none-differ x) ∙ (ap (λ z. differing x z) e ∙ d) in
      let z : ◌≡◌ {A = ℕ} 0 1 = cc in
      omega arith

  true-false : (t : Bool) → t ≡ true → t ≡ false → ⊥
  true-false true e f = let z : ◌≡◌ {A = ℕ} 0 1 = cc in omega arith
  true-false false e f = let z : ◌≡◌ {A = ℕ} 0 1 = cc in omega arith

  by_test : (t : Bool) (l : List ℕ) → eqb (word x 0) (word y 0) ≡ t → differing x y ≡ l → Means (pick t (same_opcode l) OtherOpcode) (found p) (found q)
  by_test true [] e d = record { p = p; q = q; first = refl; second = refl; bytes = none-differ-equal x y d }
  by_test true (i ∷ l) e d = record { p = p; q = q; first = refl; second = refl; bytes = (eqb-true (word x 0) (word y 0) e, not-empty i l d) }
  by_test false l e d = record { p = p; q = q; first = refl; second = refl; bytes = λ s. true-false (eqb (word x 0) (word y 0)) (eq-eqb (word x 0) (word y 0) s) e }

  both-mean : Means (class_both x y) (found p) (found q)
  unfolding class_both
  both-mean = by_test (eqb (word x 0) (word y 0)) (differing x y) refl refl

pub class-means : (f g : Found Listed) → Means (class_of f g) f g
class-means none none = (refl, refl)
class-means none (found q) = (refl, (q, refl))
class-means (found p) none = ((p, refl), refl)
class-means (found p) (found q) = both-mean p q

-- ---- and no other class does

equal-class : (x y : List ℕ) → x ≡ y → class_both x y ≡ Equal
unfolding class_both
equal-class x y e = rw (← e, eq-eqb (word x 0) (word x 0) refl, equal-none-differ x)

by-list : (l : List ℕ) → (l ≡ [] → ⊥) → same_opcode l ≡ SameOpcode
by-list [] n = absurd (n refl)
by-list (i ∷ l) n = refl

same_class : (x y : List ℕ) → word x 0 ≡ word y 0 → (x ≡ y → ⊥) → class_both x y ≡ SameOpcode
unfolding class_both
same_class x y e n = rw (eq-eqb (word x 0) (word y 0) e) (by-list (differing x y) (λ d. n (none-differ-equal x y d)))

other-class : (x y : List ℕ) → (word x 0 ≡ word y 0 → ⊥) → class_both x y ≡ OtherOpcode
unfolding class_both
other-class x y n = rw (ne_eqb (word x 0) (word y 0) n)

both-class : (f g : Found Listed) (p q : Listed) → f ≡ found p → g ≡ found q → class_of f g ≡ class_both p.bytes q.bytes
both-class f g p q e d = rw (e, d)

pub means-class : (c : Class) (f g : Found Listed) → Means c f g → class_of f g ≡ c
means-class Equal f g b = both-class f g b.p b.q b.first b.second ∙ equal-class b.p.bytes b.q.bytes b.bytes
means-class SameOpcode f g b = both-class f g b.p b.q b.first b.second ∙ same_class b.p.bytes b.q.bytes b.bytes.0 b.bytes.1
means-class OtherOpcode f g b = both-class f g b.p b.q b.first b.second ∙ other-class b.p.bytes b.q.bytes b.bytes
means-class OnlyFirst f g b = rw (b.0.1, b.1)
means-class OnlySecond f g b = rw (b.0, b.1.1)
means-class Neither f g b = rw (b.0, b.1)
