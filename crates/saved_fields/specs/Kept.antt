-- Rules that are all kept: each of them is, and the fields that they ask for are there. Assumes nothing.
use Rattle.std.specs.Prelude.{◌≡◌, refl, Bool, true, false, not, ◌||◌, List, ◌++◌, ℕ, ◌+◌, ◌≤◌, length, Err, Ok}
use Rattle.std.proofs.Common.{sym, ap, ◌∙◌, arith, ltb-false}
use Rattle.std.proofs.lemmas.Bool.{not-false}
use Rattle.machine.specs.Machine.{pick}
use Rattle.rules.specs.Loaded.{Rule, must, missing}
use Rattle.saved_fields.specs.Judging.{judge_rule, judge_rules, once-bad, judged-append, FileCheck}

pub was-good : (c : FileCheck) (rs : List Rule) → judge_rules c rs ≡ Ok tt → c ≡ Ok tt
was-good (Ok _) rs e = refl
was-good (Err place) rs e = sym (once-bad place rs) ∙ e

pub front-good : (c : FileCheck) (xs ys : List Rule) → judge_rules c (xs ++ ys) ≡ Ok tt → judge_rules c xs ≡ Ok tt
front-good c xs ys e = was-good (judge_rules c xs) ys (sym (judged-append c xs ys) ∙ e)

pub kept : (c : FileCheck) (r : Rule) → judge_rule c r ≡ Ok tt → r.broken ≡ false
kept (Ok _) r e = by r.broken e
  where
    by : (v : Bool) → ◌≡◌ {A = FileCheck} (pick v (Err r.place) (Ok tt)) (Ok tt) → v ≡ false
    by true e = cc
    by false e = refl
kept (Err place) r e = cc

-- a field that is not missing, and what is asked of it
pub there : (b : List ℕ) (at : ℕ) (k : Bool) → missing b at || not k ≡ false → (at + 4 ≤ length b) × (k ≡ true)
there b at k = by (missing b at) refl
  where
    by : (v : Bool) → missing b at ≡ v → v || not k ≡ false → (at + 4 ≤ length b) × (k ≡ true)
    by true g e = absurd (let z : ◌≡◌ {A = ℕ} 0 1 = cc in omega arith)
    by false g e = (ltb-false (length b) (at + 4) g, not-false k e)

-- the same of a rule that is judged
pub kept_there : (c : FileCheck) (b : List ℕ) (at : ℕ) (k : Bool) → judge_rule c (must b at k) ≡ Ok tt → (at + 4 ≤ length b) × (k ≡ true)
kept_there c b at k e = there b at k (kept c (must b at k) e)

-- rules that are the same where all before them are kept
pub same_after : (c : FileCheck) (xs ys : List Rule) → (c ≡ Ok tt → xs ≡ ys) → judge_rules c xs ≡ judge_rules c ys
same_after (Ok _) xs ys e = ap (judge_rules (Ok tt)) (e refl)
same_after (Err place) xs ys e = once-bad place xs ∙ sym (once-bad place ys)
