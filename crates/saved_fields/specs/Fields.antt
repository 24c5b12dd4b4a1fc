-- What the reading and the judging of a field ask: a law for each end. Assumes nothing.
use Rattle.std.specs.Prelude.{◌≡◌, Bool, true, false, not, List, ℕ, ◌+◌, ◌≤◌, ◌<◌, eqb, leb, length, Err, Ok}
use Rattle.std.proofs.Common.{sym, ap, ◌∙◌, arith, rules, lt-ltb, le-ltb}
use Rattle.rules.specs.Layouts.{word}
use Rattle.rules.specs.Loaded.{must}
use Rattle.saved_fields.specs.Judging.{rule, ends, judge_rule, seen, same-rule, seen-there, FileCheck}

-- ---- field_at

module _ (b : List ℕ) (at place : ℕ) (here : place ≡ at) where
  pub not_there : length b < place + 4 → 0 ≡ seen b at
  not_there h = rw (lt-ltb (length b) (at + 4) (omega arith))

  pub reads-field : (r : ℕ) → place + 4 ≤ length b → r ≡ word b place → r ≡ seen b at
  reads-field r h e = rw (← here, e) (sym (seen-there b place h))

pub ruleset reading_field = (not_there, reads-field, rules)

-- ---- must

module _ (c : FileCheck) (bytes at : ℕ) (kept : Bool) where
  module _ (good : c ≡ Ok tt) (place : ℕ) (here : place ≡ at) where
    pub is-missing : bytes < place + 4 → Err at ≡ judge_rule c (rule bytes at kept)
    is-missing h = rw (good, lt-ltb bytes (at + 4) (omega arith))

    module _ (there : place + 4 ≤ bytes) where
      pub is-broken : not kept ≡ true → Err at ≡ judge_rule c (rule bytes at kept)
      is-broken h = rw (good, le-ltb bytes (at + 4) (omega arith), h)

      pub is-kept : not kept ≡ false → Ok tt ≡ judge_rule c (rule bytes at kept)
      is-kept h = rw (good, le-ltb bytes (at + 4) (omega arith), h)

pub ruleset judging_field = (is-missing, is-broken, is-kept, rules)

-- ---- must_be_there, must_be, must_be_at_most

module _ (b : List ℕ) (c r : FileCheck) (at n v : ℕ) (is : v ≡ seen b at) where
  -- what is asked of the field as it is read is asked of the field
  asks : (f : ℕ → Bool) → r ≡ judge_rule c (rule (length b) at (f v)) → r ≡ judge_rule c (must b at (f (word b at)))
  asks f e = e ∙ ap (judge_rule c) (same-rule (length b) at (f v) (f (word b at)) (λ h. ap f (is ∙ seen-there b at h)))

  pub asks-equal : r ≡ judge_rule c (rule (length b) at (eqb v n)) → r ≡ judge_rule c (must b at (eqb (word b at) n))
  asks-equal = asks (λ k. eqb k n)

  pub asks-at-most : r ≡ judge_rule c (rule (length b) at (leb v n)) → r ≡ judge_rule c (must b at (leb (word b at) n))
  asks-at-most = asks (λ k. leb k n)

pub ruleset asking_field = (asks-equal, asks-at-most, rules)

-- ---- must_end

module _ (c : FileCheck) (bytes end place : ℕ) (good : c ≡ Ok tt) (here : place ≡ end) where
  pub follows : place < bytes → Err end ≡ judge_rule c (ends bytes end)
  follows h = rw (good, lt-ltb end bytes (omega arith))

  pub nothing-follows : bytes ≤ place → Ok tt ≡ judge_rule c (ends bytes end)
  nothing-follows h = rw (good, le-ltb end bytes (omega arith))

pub ruleset ending = (follows, nothing-follows, rules)
