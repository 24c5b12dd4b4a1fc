-- The rules of a file's sections are reported no further on than the longest file ends, so the bytes of its number can be added. Assumes nothing.
use Rattle.std.specs.Prelude.{◌≡◌, refl, Bool, true, false, List, [], ◌∷◌, ◌++◌, ℕ, zero, suc, ◌+◌, ◌*◌, ◌≤◌, leb, Err, Ok}
use Rattle.std.proofs.Common.{sym, subst, mul-suc, rules}
use native.Mathlib.Omega.{arith}
use borrow.Author.Tests.{leb-true}
use Rattle.machine.specs.Machine.{pick}
use Rattle.rules.specs.Numbers.{most_tokens}
use Rattle.rules.specs.Layouts.{word, long}
use Rattle.rules.specs.Saved.{more_registers, count_place, head_bytes}
use Rattle.rules.specs.Loaded.{Rule, must, resource_rules, resources_rules, end_rule, tokens_place, end_place, head_rules, name_rules, names_rules, token_rules, tokens_rules, section_4_rules, section_3_rules, sections_rules}
use Rattle.rules.specs.declared.Resource.{Resource}
use Rattle.saved_fields.specs.Judging.{judge_rule, judge_rules, once-bad, judged-append, FileCheck}
use Rattle.saved_fields.specs.Kept.{kept_there}
use Rattle.saved_names.specs.Scan.{resources_of}
use Rattle.saved_names.specs.Names.{section_3_names, no_names, names-step}
use Rattle.rules.specs.declared.Form.{Form}
use Rattle.rules.specs.declared.Form.TheVariants.{One, Two}
use Rattle.saved_tokens.specs.Tokens.{no-tokens, tokens-step}
use Rattle.saved_check.specs.Whole.{no-resources, resources-step, names_count, few-names, names-counted, later, head-kept, rest, sections-in-turn}

-- the end of the longest file: 96 + 48 * 64 + 4 + 8 * 64 + 4 + 12 * 256
abbrev furthest_end : ℕ
furthest_end = 6760

abbrev pub Near : FileCheck → Type 0
Near (Ok _) = 0 ≤ 0
Near (Err place) = place ≤ furthest_end

abbrev AllNear : List Rule → Type 0
AllNear [] = 0 ≤ 0
AllNear (r ∷ rs) = (r.place ≤ furthest_end) × AllNear rs

-- ---- rules in general

near-rule : (c : FileCheck) (r : Rule) → Near c → r.place ≤ furthest_end → Near (judge_rule c r)
near-rule (Ok _) r h p = by r.broken
  where
    by : (v : Bool) → Near (pick v (Err r.place) (Ok tt))
    by true = p
    by false = h
near-rule (Err place) r h p = h

near-rules : (c : FileCheck) (rs : List Rule) → Near c → AllNear rs → Near (judge_rules c rs)
unfolding judge_rules
near-rules c [] h all = h
near-rules c (r ∷ rs) h all = near-rules (judge_rule c r) rs (near-rule c r h all.0) all.1

-- rules that count only where those before them are kept
near_next : (c : FileCheck) (rs : List Rule) → Near c → (c ≡ Ok tt → Near (judge_rules (Ok tt) rs)) → Near (judge_rules c rs)
near_next (Ok _) rs h next = next refl
near_next (Err place) rs h next = subst Near (sym (once-bad place rs)) h

near-then : (c : FileCheck) (xs ys : List Rule) → Near (judge_rules c xs) → (judge_rules c xs ≡ Ok tt → Near (judge_rules (Ok tt) ys)) → Near (judge_rules c (xs ++ ys))
near-then c xs ys h next = subst Near (sym (judged-append c xs ys)) (near_next (judge_rules c xs) ys h next)

near-both : (xs ys : List Rule) → AllNear xs → AllNear ys → AllNear (xs ++ ys)
near-both [] ys h all = all
near-both (x ∷ xs) ys h all = (h.0, near-both xs ys h.1 all)

module _ (item : ℕ → ℕ → List Rule) (items : ℕ → ℕ → ℕ → List Rule) (key : ℕ → ℕ) (width : ℕ)
    (empty : (at before : ℕ) → items 0 at before ≡ [])
    (step : (n at before : ℕ) → items (suc n) at before ≡ item at before ++ items n (at + width) (key at))
    (near : (at before : ℕ) → at + width ≤ furthest_end → AllNear (item at before)) where
  near-items : (n at before : ℕ) → at + width * n ≤ furthest_end → AllNear (items n at before)
  near-items zero at before h = subst AllNear (sym (empty at before)) (omega arith)
  near-items (suc n) at before h =
      subst AllNear (sym (step n at before))
      (near-both (item at before) (items n (at + width) (key at)) (near at before (omega (arith, mul-suc width n))) (near-items n (at + width) (key at) (omega (arith, mul-suc width n))))

-- ---- the parts of a file

near-head : (f : Form) (b : List ℕ) → AllNear (head_rules f b)
near-head One b = search rules
near-head Two b = search rules

near-resource : (b : List ℕ) (at before : ℕ) → at + 48 ≤ furthest_end → AllNear (resource_rules b at before)
near-resource b at before h =
    (omega arith, (omega arith, (omega arith, (omega arith, (omega arith, (omega arith, (omega arith, (omega arith, (omega arith, (omega arith, (omega arith, (omega arith, omega arith))))))))))))

module _ (rs : List Resource) (b : List ℕ) where
  near-name : (at before : ℕ) → at + 8 ≤ furthest_end → AllNear (name_rules rs b at before)
  near-name at before h = (omega arith, (omega arith, omega arith))

  near-token : (at before : ℕ) → at + 12 ≤ furthest_end → AllNear (token_rules rs b at before)
  near-token at before h = (omega arith, (omega arith, (omega arith, omega arith)))

  near-section-4 : (at : ℕ) → at ≤ 3684 → Near (judge_rules (Ok tt) (section_4_rules rs b at))
  unfolding section_4_rules judge_rules
  near-section-4 at h =
      near-then (Ok tt) (must b at (leb (word b at) most_tokens) ∷ []) (tokens_rules (word b at) rs b (at + 4) 0 ++ (end_rule b (end_place at (word b at)) ∷ []))
      (near-rule (Ok tt) (must b at (leb (word b at) most_tokens)) (omega arith) (omega arith)) (λ good.
      let few = leb-true (word b at) most_tokens (kept_there (Ok tt) b at (leb (word b at) most_tokens) good).1 in
      near-rules (Ok tt) (tokens_rules (word b at) rs b (at + 4) 0 ++ (end_rule b (end_place at (word b at)) ∷ [])) (omega arith)
      (near-both (tokens_rules (word b at) rs b (at + 4) 0) (end_rule b (end_place at (word b at)) ∷ [])
      (near-items (token_rules rs b) (λ n. tokens_rules n rs b) (long b) 12 (no-tokens rs b) (tokens-step rs b) near-token (word b at) (at + 4) 0 (omega arith))
      (omega arith, omega arith)))

module _ (b : List ℕ) (n : ℕ) (few : n ≤ 64) where
  abbrev at : ℕ
  at = 96 + 48 * n

  near-names : Near (judge_rules (Ok tt) (section_3_names (resources_of b n) b at))
  unfolding judge_rules
  near-names =
      near-then (Ok tt) (names_count b n at ∷ []) (names_rules (word b at) (resources_of b n) b (at + 4) 0)
      (near-rule (Ok tt) (names_count b n at) (omega arith) (omega arith)) (λ good.
      let less = (few-names b n at good).1 in
      near-rules (Ok tt) (names_rules (word b at) (resources_of b n) b (at + 4) 0) (omega arith)
      (near-items (name_rules (resources_of b n) b) (λ n₁. names_rules n₁ (resources_of b n) b) (word b) 8 (no_names (resources_of b n) b) (names-step (resources_of b n) b) (near-name (resources_of b n) b) (word b at) (at + 4) 0 (omega arith)))

  near-shared : Near (judge_rules (Ok tt) (section_3_rules (resources_of b n) b at))
  unfolding section_3_rules judge_rules
  near-shared =
      near-then (Ok tt) (section_3_names (resources_of b n) b at) (section_4_rules (resources_of b n) b (tokens_place at (word b at))) near-names (λ good.
      let less = (names-counted b n at good).1 in
      near-section-4 (resources_of b n) b (tokens_place at (word b at)) (omega arith))

  near-later : (f : Form) → Near (judge_rules (Ok tt) (later f b n))
  near-later One = near-rules (Ok tt) (later One b n) (omega arith) (omega arith, omega arith)
  near-later Two = near-shared

few-more : (f : Form) → more_registers f ≤ 1
few-more One = omega arith
few-more Two = omega arith

pub near-sections : (f : Form) (b : List ℕ) → Near (judge_rules (Ok tt) (sections_rules f b))
near-sections f b =
    let w : ℕ = word b (count_place f) in
    subst Near (sym (sections-in-turn b f))
    (near_next (judge_rules (Ok tt) (head_rules f b)) (rest b f w) (near-rules (Ok tt) (head_rules f b) (omega arith) (near-head f b)) (λ good.
    let few : w ≤ 64 = (head-kept f b good).1 in
    near-then (Ok tt) (resources_rules w b (head_bytes f) 0) (later f b w)
    (near-rules (Ok tt) (resources_rules w b (head_bytes f) 0) (omega arith)
    (near-items (resource_rules b) (λ n. resources_rules n b) (word b) 48 (no-resources b) (resources-step b) (near-resource b) w (head_bytes f) 0 (omega (arith, few-more f)))) (λ _. near-later b w few f)))
