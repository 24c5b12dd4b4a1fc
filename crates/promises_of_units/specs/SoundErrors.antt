-- The last error stays sound: its code is 0 or listed, its count 0 exactly with code 0, and then its fence and its place. What a submission's end and a
-- bad ring make of it. Assumes nothing.
use Rattle.std.specs.Prelude.{◌≡◌, refl, Bool, true, false, ◌||◌, ℕ, ◌+◌, ◌-◌, ◌^◌, ◌≤◌, ltb, leb, Err, Ok}
use Rattle.std.proofs.Common.{arith, leb-true, ltb-false}
use Rattle.machine.specs.Machine.{pick}
use Rattle.rules.specs.Numbers.{bad_ring}
use Rattle.rules.specs.Judging.{Finding, at_place, Verdict}
use Rattle.rules.specs.Judging.Finding.{fine, broken}
use Rattle.rules.specs.Settle.{one_more}
use Rattle.rule_laws.specs.Fine.{both_left}
use Rattle.rule_laws.specs.Listed.{listed, Listed}

-- what a step finds is nothing, or a listed error
abbrev pub ListedFinding : Finding → Type 0
ListedFinding fine = 0 ≤ 0
ListedFinding (broken f) = listed f.code ≡ true

pub found-listed : (place : ℕ) (v : Verdict) → Listed v → ListedFinding (at_place place v)
found-listed place (Ok _) l = l
found-listed place (Err r) l = l

-- "count + 1 (stops at 4294967295)" is never 0
pub counted : (n : ℕ) → one_more n ≡ 0 → ⊥
counted n = by_test (ltb n (2 ^ 32 - 1)) refl
  where
    by_test : (b : Bool) → ltb n (2 ^ 32 - 1) ≡ b → pick b (n + 1) n ≡ 0 → ⊥
    by_test true t e = omega arith
    by_test false t e = let enough : 2 ^ 32 - 1 ≤ n = ltb-false n (2 ^ 32 - 1) t in omega arith

-- a listed number is not 0
pub listed-some : (n : ℕ) → listed n ≡ true → n ≡ 0 → ⊥
listed-some n l e = let enough : bad_ring ≤ n = leb-true bad_ring n (both_left (leb bad_ring n) _ l) in omega arith

pub either : (a b : Bool) → b ≡ true → a || b ≡ true
either true b e = refl
either false b e = e
