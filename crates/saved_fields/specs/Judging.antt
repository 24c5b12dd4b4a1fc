-- Rules judged one after the other: the first that is broken is kept. Assumes nothing.
use Rattle.std.specs.Prelude.{◌≡◌, refl, Bool, true, false, not, ◌&&◌, ◌||◌, List, [], ◌∷◌, ◌++◌, ℕ, ◌+◌, ◌*◌, ◌≤◌, ltb, eqb, length, ⊤, Result, Ok, Err}
use Rattle.std.proofs.Common.{arith, ltb-false, le-ltb, eq-eqb, ne_eqb, eqb-true}
use Rattle.std.proofs.lemmas.Bool.{eqb-false}
use Rattle.machine.specs.Machine.{pick}
use Rattle.rules.specs.Lists.{Found}
use Rattle.rules.specs.Lists.Found.{none, found}
use Rattle.rules.specs.Layouts.{word, long}
use Rattle.words.specs.Fields.{le-add}
use Rattle.rules.specs.Loaded.{Rule, missing, first_broken}

-- what is found of a file: it is good, or the first rule that it breaks is reported at this place
abbrev pub FileCheck : Type 0
FileCheck = Result ⊤ ℕ

-- what is found of it, by the first rule that it breaks
abbrev pub checked : Found ℕ → FileCheck
checked none = Ok tt
checked (found place) = Err place

-- one rule more
abbrev pub judge_rule : FileCheck → Rule → FileCheck
judge_rule (Ok _) r = pick r.broken (Err r.place) (Ok tt)
judge_rule (Err place) r = Err place

-- and some more, in their order
unfoldable pub judge_rules : FileCheck → List Rule → FileCheck
judge_rules c [] = c
judge_rules c (r ∷ rs) = judge_rules (judge_rule c r) rs

-- the rule of a field, in a file of so many bytes
abbrev pub rule : ℕ → ℕ → Bool → Rule
rule bytes at kept = record { place = at; broken = ltb bytes (at + 4) || not kept }

-- "or a byte follows the last", in a file of so many bytes
abbrev pub ends : ℕ → ℕ → Rule
ends bytes end = record { place = end; broken = ltb end bytes }

-- a field as it is read: 0 where it is not all there
abbrev pub seen : List ℕ → ℕ → ℕ
seen b at = pick (missing b at) 0 (word b at)

-- ---- laws

pub once-bad : (place : ℕ) (rs : List Rule) → judge_rules (Err place) rs ≡ Err place
unfolding judge_rules
once-bad place [] = refl
once-bad place (r ∷ rs) = once-bad place rs

pub judged-first : (rs : List Rule) → judge_rules (Ok tt) rs ≡ checked (first_broken rs)
unfolding judge_rules first_broken
judged-first [] = refl
judged-first (r ∷ rs) = by r.broken (judged-first rs)
  where
    by : (v : Bool) → judge_rules (Ok tt) rs ≡ checked (first_broken rs) → judge_rules (pick v (Err r.place) (Ok tt)) rs ≡ checked (pick v (found r.place) (first_broken rs))
    by true later = once-bad r.place rs
    by false later = later

pub judged-append : (c : FileCheck) (xs ys : List Rule) → judge_rules c (xs ++ ys) ≡ judge_rules (judge_rules c xs) ys
unfolding judge_rules
judged-append c [] ys = refl
judged-append c (x ∷ xs) ys = judged-append (judge_rule c x) xs ys

-- of a field that is not there nothing else is asked
pub same-rule : (bytes at : ℕ) (kept kept' : Bool) → (at + 4 ≤ bytes → kept ≡ kept') → rule bytes at kept ≡ rule bytes at kept'
same-rule bytes at kept kept' same = by (ltb bytes (at + 4)) refl
  where
    by : (v : Bool) → ltb bytes (at + 4) ≡ v → ◌≡◌ {A = Rule} (record { place = at; broken = v || not kept }) (record { place = at; broken = v || not kept' })
    by true h = refl
    by false h = rw (same (ltb-false bytes (at + 4) h))

pub seen-there : (b : List ℕ) (at : ℕ) → at + 4 ≤ length b → seen b at ≡ word b at
seen-there b at h = rw (le-ltb (length b) (at + 4) h)

-- a number of two fields is 0 where both are
pub zero-by-halves : (b : List ℕ) (at : ℕ) → at + 4 ≤ length b → eqb (long b at) 0 ≡ (eqb (word b at) 0 && eqb (word b (at + 4)) 0)
zero-by-halves b at h = rw (le-add 4 4 at b h) (by (word b at) (word b (at + 4)) (eqb (word b at) 0) (eqb (word b (at + 4)) 0) refl refl)
  where
    by : (l u : ℕ) (v w : Bool) → eqb l 0 ≡ v → eqb u 0 ≡ w → eqb (l + 4294967296 * u) 0 ≡ (v && w)
    by l u true true p q = eq-eqb (l + 4294967296 * u) 0 (omega (arith, eqb-true l 0 p, eqb-true u 0 q))
    by l u true false p q = ne_eqb (l + 4294967296 * u) 0 (λ z. eqb-false u 0 q (omega arith))
    by l u false w p q = ne_eqb (l + 4294967296 * u) 0 (λ z. eqb-false l 0 p (omega arith))
