-- The rules of a saved desk's head in five parts, and what the code of each asks. Assumes nothing.
use Rattle.std.specs.Prelude.{◌≡◌, Bool, not, ◌&&◌, ◌||◌, List, [], ◌∷◌, ℕ, ◌+◌, ◌*◌, ◌≤◌, ◌<◌, leb, length, Ok}
use Rattle.std.proofs.Math.Path.{ap}
use Rattle.std.proofs.Common.{◌∙◌, arith, rules}
use Rattle.std.proofs.Math.Bool.{true, false}
use borrow.Author.Tests.{eq-eqb, ne_eqb, le-leb, lt-leb}
use Rattle.std.proofs.Math.Dec.{eqb}
use Rattle.machine.specs.Machine.{pick}
use Rattle.rules.specs.Numbers.{device_magic, version, features, most, bad_ring}
use Rattle.rules.specs.Layouts.{word, long}
use Rattle.rules.specs.Saved.{more_registers}
use Rattle.rules.specs.Loaded.{Rule, must, any, good_code, good_error, detail_rules, head_rules}
use Rattle.saved_fields.specs.Judging.{judge_rule, judge_rules, rule, seen, same-rule, seen-there, zero-by-halves, FileCheck}
use Rattle.rules.specs.declared.Form.{Form}
use Rattle.rules.specs.declared.Form.TheVariants.{One, Two}

-- ---- the head in five parts; the fourth is `detail-rules`

abbrev pub fixed_rules : ℕ → List ℕ → List Rule
fixed_rules count b =
    must b 0 (eqb (word b 0) count)
    ∷ must b 4 (eqb (word b 4) device_magic)
    ∷ must b 8 (eqb (word b 8) version)
    ∷ must b 12 (eqb (word b 12) features)
    ∷ must b 16 (eqb (word b 16) 0)
    ∷ []

abbrev pub ring_rules : List ℕ → List Rule
ring_rules b =
    any b 20 ∷ any b 24 ∷ any b 28 ∷ must b 32 (leb (word b 32) 1) ∷ any b 36 ∷ any b 40 ∷ any b 44 ∷ any b 48 ∷ []

abbrev pub status_rules : List ℕ → List Rule
status_rules b =
    must b 52 (leb (word b 52) 3)
    ∷ any b 56
    ∷ must b 60 (good_code (word b 60))
    ∷ any b 64
    ∷ any b 68
    ∷ must b 72 (good_error (word b 60) (long b 64) (word b 72))
    ∷ []

abbrev pub memory_rules : List ℕ → ℕ → List Rule
memory_rules b at = any b at ∷ any b (at + 4) ∷ must b (at + 8) (leb (word b (at + 8)) 1) ∷ must b (at + 12) (leb (word b (at + 12)) most) ∷ []

-- ---- good_code

module _ (code : ℕ) where
  pub no_code : code ≡ 0 → true ≡ good_code code
  no_code h = rw (eq-eqb code 0 h)

  module _ (some : code ≡ 0 → ⊥) where
    pub low-code : code < 10 → false ≡ good_code code
    low-code h = rw (ne_eqb code 0 some, lt-leb bad_ring code h)

    pub listed-code : 10 ≤ code → leb code 30 ≡ good_code code
    listed-code h = rw (ne_eqb code 0 some, le-leb bad_ring code h)

pub ruleset coding = (no_code, low-code, listed-code, rules)

-- ---- good_error

-- the same of the fence's halves
abbrev pub good_error_by_halves : ℕ → ℕ → ℕ → ℕ → Bool
good_error_by_halves code low high count =
    pick (eqb code 0) ((eqb low 0 && eqb high 0) && eqb count 0) (not (eqb count 0))

module _ (code low high count : ℕ) where
  pub some-error : (code ≡ 0 → ⊥) → not (eqb count 0) ≡ good_error_by_halves code low high count
  some-error h = rw (ne_eqb code 0 h)

  module _ (no : code ≡ 0) where
    pub low-fence : (low ≡ 0 → ⊥) → false ≡ good_error_by_halves code low high count
    low-fence h = rw (eq-eqb code 0 no, ne_eqb low 0 h)

    module _ (lower : low ≡ 0) where
      pub high-fence : (high ≡ 0 → ⊥) → false ≡ good_error_by_halves code low high count
      high-fence h = rw (eq-eqb code 0 no, eq-eqb low 0 lower, ne_eqb high 0 h)

      pub no-fence : high ≡ 0 → eqb count 0 ≡ good_error_by_halves code low high count
      no-fence h = rw (eq-eqb code 0 no, eq-eqb low 0 lower, eq-eqb high 0 h)

pub ruleset tying = (some-error, low-fence, high-fence, no-fence, rules)

-- ---- the five parts, and the head

module _ (b : List ℕ) where
  pub judges-fixed : (n : ℕ) (c₁ c₂ c₃ c₄ c₅ : FileCheck) → c₁ ≡ judge_rule (Ok tt) (must b 0 (eqb (word b 0) n)) → c₂ ≡ judge_rule c₁ (must b 4 (eqb (word b 4) device_magic))
      → c₃ ≡ judge_rule c₂ (must b 8 (eqb (word b 8) version)) → c₄ ≡ judge_rule c₃ (must b 12 (eqb (word b 12) features))
      → c₅ ≡ judge_rule c₄ (must b 16 (eqb (word b 16) 0)) → c₅ ≡ judge_rules (Ok tt) (fixed_rules n b)
  unfolding judge_rules
  judges-fixed n c₁ c₂ c₃ c₄ c₅ e₁ e₂ e₃ e₄ e₅ = rw (e₅, e₄, e₃, e₂, e₁)

  pub judges-ring : (c₀ c₁ c₂ c₃ c₄ c₅ c₆ c₇ c₈ : FileCheck) → c₁ ≡ judge_rule c₀ (any b 20) → c₂ ≡ judge_rule c₁ (any b 24)
      → c₃ ≡ judge_rule c₂ (any b 28) → c₄ ≡ judge_rule c₃ (must b 32 (leb (word b 32) 1))
      → c₅ ≡ judge_rule c₄ (any b 36) → c₆ ≡ judge_rule c₅ (any b 40) → c₇ ≡ judge_rule c₆ (any b 44) → c₈ ≡ judge_rule c₇ (any b 48)
      → c₈ ≡ judge_rules c₀ (ring_rules b)
  unfolding judge_rules
  judges-ring c₀ c₁ c₂ c₃ c₄ c₅ c₆ c₇ c₈ e₁ e₂ e₃ e₄ e₅ e₆ e₇ e₈ = rw (e₈, e₇, e₆, e₅, e₄, e₃, e₂, e₁)

  module _ (code low high count : ℕ) (is_code : code ≡ seen b 60) (is-low : low ≡ seen b 64) (is-high : high ≡ seen b 68) (is-count : count ≡ seen b 72) where
    code-rule : rule (length b) 60 (good_code code) ≡ must b 60 (good_code (word b 60))
    code-rule = same-rule (length b) 60 (good_code code) (good_code (word b 60)) (λ h. rw (is_code, seen-there b 60 h))

    error-rule : rule (length b) 72 (good_error_by_halves code low high count) ≡ must b 72 (good_error (word b 60) (long b 64) (word b 72))
    error-rule =
        same-rule (length b) 72 (good_error_by_halves code low high count) (good_error (word b 60) (long b 64) (word b 72)) (λ h.
        rw (is_code, is-low, is-high, is-count, zero-by-halves b 64 (omega arith), seen-there b 60 (omega arith), seen-there b 64 (omega arith), seen-there b 68 (omega arith), seen-there b 72 h))

    pub judges-status : (good tied : Bool) (c₀ c₁ c₂ c₃ c₄ c₅ c₆ : FileCheck) → c₁ ≡ judge_rule c₀ (must b 52 (leb (word b 52) 3)) → c₂ ≡ judge_rule c₁ (any b 56)
        → good ≡ good_code code → c₃ ≡ judge_rule c₂ (rule (length b) 60 good) → c₄ ≡ judge_rule c₃ (any b 64) → c₅ ≡ judge_rule c₄ (any b 68)
        → tied ≡ good_error_by_halves code low high count → c₆ ≡ judge_rule c₅ (rule (length b) 72 tied)
        → c₆ ≡ judge_rules c₀ (status_rules b)
    unfolding judge_rules
    judges-status good tied c₀ c₁ c₂ c₃ c₄ c₅ c₆ e₁ e₂ g e₃ e₄ e₅ t e₆ = rw (e₆, e₅, e₄, e₃, e₂, e₁, g, t, code-rule, error-rule)

  module _ (f : Form) (c r : FileCheck) where
    pub no-detail : f ≡ One → c ≡ judge_rules c (detail_rules f b)
    unfolding judge_rules
    no-detail e = rw e

    module _ (two : f ≡ Two) (code : ℕ) (is : code ≡ seen b 60) where
      pub no-code-detail : code ≡ 0 → r ≡ judge_rule c (must b 76 (eqb (word b 76) 0)) → r ≡ judge_rules c (detail_rules f b)
      unfolding judge_rules
      no-code-detail z e =
          rw two (e ∙ ap (judge_rule c) (same-rule (length b) 76 (eqb (word b 76) 0) (not (eqb (word b 60) 0) || eqb (word b 76) 0) (λ h.
          let zero : word b 60 ≡ 0 = rw (← seen-there b 60 (omega arith), ← is) z in
          rw (eq-eqb (word b 60) 0 zero))))

      pub some-code-detail : (code ≡ 0 → ⊥) → r ≡ judge_rule c (any b 76) → r ≡ judge_rules c (detail_rules f b)
      unfolding judge_rules
      some-code-detail n e =
          rw two (e ∙ ap (judge_rule c) (same-rule (length b) 76 true (not (eqb (word b 60) 0) || eqb (word b 76) 0) (λ h.
          let some : eqb (word b 60) 0 ≡ false = ne_eqb (word b 60) 0 (λ z. n (is ∙ (seen-there b 60 (omega arith) ∙ z))) in
          rw some)))

  pub judges-memory : (at : ℕ) (c₀ c₁ c₂ c₃ c₄ : FileCheck) → c₁ ≡ judge_rule c₀ (any b at) → c₂ ≡ judge_rule c₁ (any b (at + 4))
      → c₃ ≡ judge_rule c₂ (must b (at + 8) (leb (word b (at + 8)) 1)) → c₄ ≡ judge_rule c₃ (must b (at + 12) (leb (word b (at + 12)) 64))
      → c₄ ≡ judge_rules c₀ (memory_rules b at)
  unfolding judge_rules
  judges-memory at c₀ c₁ c₂ c₃ c₄ e₁ e₂ e₃ e₄ = rw (e₄, e₃, e₂, e₁)

  pub judges-head : (f : Form) (m : ℕ) (c₁ c₂ c₃ c₄ c₅ : FileCheck) → m ≡ more_registers f → c₁ ≡ judge_rules (Ok tt) (fixed_rules (21 + m) b)
      → c₂ ≡ judge_rules c₁ (ring_rules b) → c₃ ≡ judge_rules c₂ (status_rules b) → c₄ ≡ judge_rules c₃ (detail_rules f b)
      → c₅ ≡ judge_rules c₄ (memory_rules b (76 + 4 * m)) → c₅ ≡ judge_rules (Ok tt) (head_rules f b)
  unfolding judge_rules
  judges-head One m c₁ c₂ c₃ c₄ c₅ n e₁ e₂ e₃ e₄ e₅ = rw (e₅, e₄, e₃, e₂, e₁, n)
  judges-head Two m c₁ c₂ c₃ c₄ c₅ n e₁ e₂ e₃ e₄ e₅ = rw (e₅, e₄, e₃, e₂, e₁, n)

pub ruleset judging_head = (judges-fixed, judges-ring, judges-status, no-detail, no-code-detail, some-code-detail, judges-memory, judges-head, rules)
