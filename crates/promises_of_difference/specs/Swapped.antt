-- Swapping the streams swaps first and second, and changes nothing else. Assumes nothing.
use Rattle.std.specs.Prelude.{◌≡◌, refl, Bool, true, false, List, [], ◌∷◌, ◌⊎◌, ℕ, ◌+◌, ◌-◌, eqb, ⊤, Result, Ok, Err}
use Rattle.std.proofs.Common.{sym, ap, ◌∙◌, ⊎_elim, arith, eq-eqb, eqb-true}
use Rattle.machine.specs.Machine.{pick}
use Rattle.rules.specs.Layouts.{word}
use Rattle.rules.specs.Lists.{Found, nth}
use Rattle.rules.specs.Lists.Found.{none, found}
use Rattle.rules.specs.Dump.{Listed}
use Rattle.rules.specs.Difference.{refused_stream, packets, fault, checked, check, differing_from, differing, same_opcode, class_both, offsets_both, class_of, offsets_of, class_at, offsets_at, parted_by, parted}
use Rattle.rules.specs.declared.Class.{Class}
use Rattle.rules.specs.declared.Class.TheVariants.{Equal, SameOpcode, OtherOpcode, OnlyFirst, OnlySecond, Neither}
use Rattle.rules.specs.declared.RefusedStream.{RefusedStream}
use Rattle.rules.specs.Judging.{Verdict}
use Rattle.rule_laws.specs.Fine.{broken-not-fine}

-- first and second exchanged
abbrev pub swapped : Class → Class
swapped Equal = Equal
swapped SameOpcode = SameOpcode
swapped OtherOpcode = OtherOpcode
swapped OnlyFirst = OnlySecond
swapped OnlySecond = OnlyFirst
swapped Neither = Neither

-- ---- two packets

eqb-swaps : (m n : ℕ) → eqb n m ≡ eqb m n
eqb-swaps m n = by_test (eqb m n) refl
  where
    other : (t : Bool) → eqb m n ≡ false → eqb n m ≡ t → eqb n m ≡ false
    other true e d = absurd (let f : eqb m n ≡ true = eq-eqb m n (sym (eqb-true n m d)) in let z : ◌≡◌ {A = ℕ} 0 1 = cc in omega arith)
    other false e d = d

    by_test : (t : Bool) → eqb m n ≡ t → eqb n m ≡ t
    by_test true e = eq-eqb n m (sym (eqb-true m n e))
    by_test false e = other (eqb n m) e refl

differing-swaps : (i : ℕ) (x y : List ℕ) → differing_from i y x ≡ differing_from i x y
unfolding differing_from
differing-swaps i [] [] = refl
differing-swaps i [] (n ∷ y) = ap (λ l. i ∷ l) (differing-swaps (i + 1) [] y)
differing-swaps i (m ∷ x) [] = ap (λ l. i ∷ l) (differing-swaps (i + 1) x [])
differing-swaps i (m ∷ x) (n ∷ y) = rw (eqb-swaps m n, differing-swaps (i + 1) x y)

module _ (x y : List ℕ) where
  class-both-swaps : class_both y x ≡ class_both x y
  unfolding class_both
  class-both-swaps = rw (eqb-swaps (word x 0) (word y 0), differing-swaps 0 x y)

  offsets-both-swap : offsets_both y x ≡ offsets_both x y
  unfolding offsets_both
  offsets-both-swap = rw (eqb-swaps (word x 0) (word y 0), differing-swaps 0 x y)

-- a class of two packets is neither of "only in one"
both-keep : (x y : List ℕ) → class_both x y ≡ swapped (class_both x y)
unfolding class_both
both-keep x y = by_test (eqb (word x 0) (word y 0)) (differing x y)
  where
    by_test : (t : Bool) (l : List ℕ) → pick t (same_opcode l) OtherOpcode ≡ swapped (pick t (same_opcode l) OtherOpcode)
    by_test true [] = refl
    by_test true (i ∷ l) = refl
    by_test false l = refl

-- ---- a pair

pub class-swaps : (f g : Found Listed) → class_of g f ≡ swapped (class_of f g)
class-swaps none none = refl
class-swaps none (found q) = refl
class-swaps (found p) none = refl
class-swaps (found p) (found q) = class-both-swaps p.bytes q.bytes ∙ both-keep p.bytes q.bytes

pub offsets-swap : (f g : Found Listed) → offsets_of g f ≡ offsets_of f g
offsets-swap none none = refl
offsets-swap none (found q) = refl
offsets-swap (found p) none = refl
offsets-swap (found p) (found q) = offsets-both-swap p.bytes q.bytes

-- ---- two streams

pub parted-swaps : (i : ℕ) (ps qs : List Listed) → parted i qs ps ≡ parted i ps qs
unfolding parted
parted-swaps i [] [] = refl
parted-swaps i [] (q ∷ qs) = refl
parted-swaps i (p ∷ ps) [] = refl
parted-swaps i (p ∷ ps) (q ∷ qs) =
    ap (λ c. parted_by c i (parted (i + 1) qs ps)) (class-both-swaps p.bytes q.bytes)
    ∙ ap (λ l. parted_by (class_both p.bytes q.bytes) i l) (parted-swaps (i + 1) ps qs)

-- the same refusal, of the other stream
abbrev pub other_stream : Result ⊤ RefusedStream → Result ⊤ RefusedStream
other_stream (Ok _) = Ok tt
other_stream (Err r) = Err (refused_stream r.why (3 - r.which))

checked-swaps : (v w : Verdict) → ((v ≡ Ok tt) ⊎ (w ≡ Ok tt)) → checked w v ≡ other_stream (checked v w)
checked-swaps (Ok _) (Ok _) h = refl
checked-swaps (Ok _) (Err r) h = refl
checked-swaps (Err r) (Ok _) h = refl
checked-swaps (Err r) (Err q) h = ⊎_elim (λ e. absurd (broken-not-fine r e)) (λ e. absurd (broken-not-fine q e)) h

-- unless both break a rule, of which the first is told
pub check-swaps : (b c : List ℕ) → ((fault b ≡ Ok tt) ⊎ (fault c ≡ Ok tt)) → check c b ≡ other_stream (check b c)
check-swaps b c h = checked-swaps (fault b) (fault c) h

pub record Swaps (b c : List ℕ) : Type 0 where
  pub parting : parted 0 (packets c) (packets b) ≡ parted 0 (packets b) (packets c)
  pub classes : (i : ℕ) → class_at c b i ≡ swapped (class_at b c i)
  pub offsets : (i : ℕ) → offsets_at c b i ≡ offsets_at b c i

pub streams-swap : (b c : List ℕ) → Swaps b c
streams-swap b c =
    record {
      parting = parted-swaps 0 (packets b) (packets c);
      classes = λ i. class-swaps (nth (packets b) i) (nth (packets c) i);
      offsets = λ i. offsets-swap (nth (packets b) i) (nth (packets c) i);
    }
