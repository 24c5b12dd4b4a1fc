-- The rules of section 3, one other name after the other, as the code judges them. Assumes nothing.
use Rattle.std.specs.Prelude.{◌≡◌, Bool, true, false, ◌&&◌, List, [], ◌∷◌, ◌++◌, ℕ, zero, suc, ◌+◌, ◌-◌, ◌≤◌, ◌<◌, ltb, leb, length, None, Option, Some, Err, Ok}
use Rattle.std.proofs.Math.Path.{refl, sym, ap}
use Rattle.std.proofs.Common.{◌∙◌, arith, rules, le-ltb, lt-ltb, le-leb, leb-true, leb-false}
use Rattle.std.proofs.lemmas.Bool.{lt-leb}
use Rattle.rules.specs.Numbers.{most}
use Rattle.rules.specs.Lists.{lookup}
use Rattle.rules.specs.Layouts.{word}
use Rattle.rules.specs.Packets.{handle_of}
use Rattle.rules.specs.Saved.{name_bytes}
use Rattle.rules.specs.Loaded.{Rule, must, loaded_resources, is_free, may_be_shared, name_rules, names_rules}
use Rattle.rules.specs.declared.Resource.{Resource}
use Rattle.saved_fields.specs.Judging.{judge_rule, judge_rules, rule, seen, same-rule, seen-there, once-bad, FileCheck}
use Rattle.saved_fields.specs.Kept.{kept_there}
use Rattle.saved_fields.specs.Items.{items-start, items-turn, items-end}
use Rattle.saved_names.specs.Scan.{stands, resources_of}

-- section 3, its count with it
abbrev pub section_3_names : List Resource → List ℕ → ℕ → List Rule
section_3_names rs b at = must b at (leb (length rs + word b at) most) ∷ names_rules (word b at) rs b (at + 4) 0

-- ---- good_name, good_lowest

module _ (before name : ℕ) (v : Bool) where
  pub not-below : name ≤ before → false ≡ (ltb before name && v)
  not-below h = rw (le-ltb before name h)

  pub below : (w : Bool) → before < name → w ≡ v → w ≡ (ltb before name && v)
  below w h e = rw (lt-ltb before name h, e)

module _ (b : List ℕ) (rs : List Resource) (before name : ℕ) (p : Option ℕ) (h : before < name) (is : lookup handle_of name rs ≡ stands b p) where
  pub free-name : p ≡ None → true ≡ (ltb before name && is_free (lookup handle_of name rs))
  free-name e = rw (lt-ltb before name h, is, e)

  pub taken-name : (at : ℕ) → p ≡ Some at → false ≡ (ltb before name && is_free (lookup handle_of name rs))
  taken-name at e = rw (lt-ltb before name h, is, e)

pub ruleset naming = (not-below, below, free-name, taken-name, rules)

-- ---- judge_name

module _ (rs : List Resource) (b : List ℕ) (at before : ℕ) where
  pub judges-name : (name lowest : ℕ) (free shared : Bool) (c c₁ c₂ : FileCheck) → name ≡ seen b at → lowest ≡ seen b (at + 4)
      → free ≡ (ltb before name && is_free (lookup handle_of name rs)) → c₁ ≡ judge_rule c (rule (length b) at free)
      → shared ≡ (ltb lowest name && may_be_shared (lookup handle_of lowest rs)) → c₂ ≡ judge_rule c₁ (rule (length b) (at + 4) shared)
      → c₂ ≡ judge_rules c (name_rules rs b at before)
  unfolding judge_rules
  judges-name name lowest free shared c c₁ c₂ n l f e₁ s e₂ =
      let first : rule (length b) at free ≡ must b at (ltb before (word b at) && is_free (lookup handle_of (word b at) rs)) =
      same-rule (length b) at free (ltb before (word b at) && is_free (lookup handle_of (word b at) rs)) (λ h. rw (f, n, seen-there b at h)) in
      let second : rule (length b) (at + 4) shared ≡ must b (at + 4) (ltb (word b (at + 4)) (word b at) && may_be_shared (lookup handle_of (word b (at + 4)) rs)) =
      same-rule (length b) (at + 4) shared (ltb (word b (at + 4)) (word b at) && may_be_shared (lookup handle_of (word b (at + 4)) rs)) (λ h.
      rw (s, n, l, seen-there b at (omega arith), seen-there b (at + 4) h)) in
      rw (e₂, e₁, first, second)

pub ruleset judging_name = (judges-name, rules)

-- ---- judge_names

module _ (rs : List Resource) (b : List ℕ) where
  pub no_names : (at before : ℕ) → names_rules 0 rs b at before ≡ []
  unfolding names_rules
  no_names at before = refl

  pub names-step : (n at before : ℕ) → names_rules (suc n) rs b at before ≡ name_rules rs b at before ++ names_rules n rs b (at + name_bytes) (word b at)
  unfolding names_rules
  names-step n at before = refl

  -- a name whose rules are kept is there, with its lowest name
  pub name-there : (c : FileCheck) (at before : ℕ) → judge_rules c (name_rules rs b at before) ≡ Ok tt → at + 4 + 4 ≤ length b
  unfolding judge_rules
  name-there c at before e =
      (kept_there (judge_rule c (must b at (ltb before (word b at) && is_free (lookup handle_of (word b at) rs)))) b (at + 4)
      (ltb (word b (at + 4)) (word b at) && may_be_shared (lookup handle_of (word b (at + 4)) rs)) e).0

  module _ (n first : ℕ) where
    pub names-start : judge_rules (Ok tt) (names_rules n rs b first 0) ≡ judge_rules (Ok tt) (names_rules (n - 0) rs b first 0)
    names-start = items-start (name_rules rs b) (λ n. names_rules n rs b) (word b) 8 no_names names-step (Ok tt) n first

    module _ (c : FileCheck) (i at before : ℕ) (inv : judge_rules (Ok tt) (names_rules n rs b first 0) ≡ judge_rules c (names_rules (n - i) rs b at before)) where
      pub names-turn : (k : ℕ) (c' : FileCheck) → i < n → c' ≡ judge_rules c (name_rules rs b at before) → k ≡ seen b at
          → judge_rules (Ok tt) (names_rules n rs b first 0) ≡ judge_rules c' (names_rules (n - (i + 1)) rs b (at + 8) k)
      names-turn k c' h e is =
          items-turn (name_rules rs b) (λ n. names_rules n rs b) (word b) 8 no_names names-step (Ok tt) n first c i at before inv k c' h e (λ good.
          let end : at + 4 + 4 ≤ length b = name-there c at before (sym e ∙ good) in
          is ∙ seen-there b at (omega arith))

      pub names-end : n ≤ i → c ≡ judge_rules (Ok tt) (names_rules n rs b first 0)
      names-end h = items-end (name_rules rs b) (λ n. names_rules n rs b) (word b) 8 no_names names-step (Ok tt) n first c i at before inv h

pub ruleset judging_names = (names-start, names-turn, names-end, rules)

-- ---- check_names

pub length-loaded : (n : ℕ) (b : List ℕ) (at : ℕ) → length (loaded_resources n b at) ≡ n
unfolding loaded_resources
length-loaded zero b at = refl
length-loaded (suc n) b at = ap suc (length-loaded n b (at + 48))

module _ (b : List ℕ) (count at n : ℕ) (c : FileCheck) (few : count ≤ 64) (is : n ≡ seen b at) (judged : c ≡ judge_rule (Ok tt) (rule (length b) at (leb n (64 - count)))) where
  within : (m : ℕ) → leb m (64 - count) ≡ leb (length (resources_of b count) + m) 64
  within m = rw (length-loaded count b 96) (by (leb m (64 - count)) refl)
    where
      by : (v : Bool) → leb m (64 - count) ≡ v → v ≡ leb (count + m) 64
      by true h = let less = leb-true m (64 - count) h in sym (le-leb (count + m) 64 (omega arith))
      by false h = let more = leb-false m (64 - count) h in sym (lt-leb (count + m) 64 (omega arith))

  counted : c ≡ judge_rule (Ok tt) (must b at (leb (length (resources_of b count) + word b at) most))
  counted =
      judged ∙ ap (judge_rule (Ok tt)) (same-rule (length b) at (leb n (64 - count)) (leb (length (resources_of b count) + word b at) most) (λ h.
      rw (is, seen-there b at h) (within (word b at))))

  abbrev names : List Rule
  names = names_rules (word b at) (resources_of b count) b (at + 4) 0

  pub too-many-names : (p : ℕ) → c ≡ Err p → c ≡ judge_rules (Ok tt) (section_3_names (resources_of b count) b at)
  unfolding judge_rules
  too-many-names p e = sym (ap (λ x. judge_rules x names) (sym counted ∙ e) ∙ (once-bad p names ∙ sym e))

  module _ (good : c ≡ Ok tt) where
    count-there : (at + 4 ≤ length b) × (leb n (64 - count) ≡ true)
    count-there = kept_there (Ok tt) b at (leb n (64 - count)) (sym judged ∙ good)

    pub few-names : n ≤ 64
    few-names = let less = leb-true n (64 - count) count-there.1 in omega arith

    pub judges-section-3 : (r : FileCheck) → r ≡ judge_rules (Ok tt) (names_rules n (resources_of b count) b (at + 4) 0) → r ≡ judge_rules (Ok tt) (section_3_names (resources_of b count) b at)
    unfolding judge_rules
    judges-section-3 r e =
        e ∙ (ap (λ k. judge_rules (Ok tt) (names_rules k (resources_of b count) b (at + 4) 0)) (is ∙ seen-there b at count-there.0) ∙ ap (λ x. judge_rules x names) (sym good ∙ counted))

pub ruleset judging_section_3 = (too-many-names, few-names, judges-section-3, rules)
