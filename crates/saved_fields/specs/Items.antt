-- The rules of items that stand one after the other, each of so many bytes and each after the key of the one before it: what a loop over them asks,
-- and what is known of each where all rules are kept. Assumes nothing.
use Rattle.std.specs.Prelude.{◌≡◌, List, [], ◌++◌, ℕ, zero, suc, ◌+◌, ◌*◌, ◌-◌, ◌≤◌, ◌<◌, Ok}
use Rattle.std.proofs.Math.Path.{sym}
use Rattle.std.proofs.Common.{ap, subst, ◌∙◌, mul-suc, mul-zero}
use Rattle.std.proofs.Math.Nat.{sub-zero}
use native.Mathlib.Omega.{arith}
use Rattle.rules.specs.Loaded.{Rule}
use Rattle.saved_fields.specs.Judging.{judge_rules, judged-append, FileCheck}
use Rattle.saved_fields.specs.Kept.{front-good, same_after}

module _ (item : ℕ → ℕ → List Rule) (items : ℕ → ℕ → ℕ → List Rule) (key : ℕ → ℕ) (width : ℕ)
    (empty : (at before : ℕ) → items 0 at before ≡ [])
    (step : (n at before : ℕ) → items (suc n) at before ≡ item at before ++ items n (at + width) (key at)) where
  -- ---- a loop over n of them, which stands at the i-th

  module _ (c₀ : FileCheck) (n start : ℕ) where
    pub items-start : judge_rules c₀ (items n start 0) ≡ judge_rules c₀ (items (n - 0) start 0)
    items-start = rw (sub-zero n)

    module _ (c : FileCheck) (i at before : ℕ) (inv : judge_rules c₀ (items n start 0) ≡ judge_rules c (items (n - i) at before)) where
      -- the key may be read wrong where the item breaks a rule
      pub items-turn : (k : ℕ) (c' : FileCheck) → i < n → c' ≡ judge_rules c (item at before) → (c' ≡ Ok tt → k ≡ key at)
          → judge_rules c₀ (items n start 0) ≡ judge_rules c' (items (n - (i + 1)) (at + width) k)
      items-turn k c' h e read =
          let m : ℕ = n - (i + 1) in
          let next : n - i ≡ suc m = omega arith in
          let all : judge_rules c₀ (items n start 0) ≡ judge_rules c' (items m (at + width) (key at)) =
          inv ∙ rw (next, step m at before, e) (judged-append c (item at before) (items m (at + width) (key at))) in
          all ∙ same_after c' (items m (at + width) (key at)) (items m (at + width) k) (λ good. ap (items m (at + width)) (sym (read good)))

      pub items-end : n ≤ i → c ≡ judge_rules c₀ (items n start 0)
      unfolding judge_rules
      items-end h =
          let none : n - i ≡ 0 = omega arith in
          sym (inv ∙ rw (none, empty at before))

  -- ---- all rules kept

  pub next-kept : (n : ℕ) (c : FileCheck) (at before : ℕ) → judge_rules c (items (suc n) at before) ≡ Ok tt
      → (judge_rules c (item at before) ≡ Ok tt) × (judge_rules (judge_rules c (item at before)) (items n (at + width) (key at)) ≡ Ok tt)
  next-kept n c at before e =
      let all : judge_rules c (item at before ++ items n (at + width) (key at)) ≡ Ok tt = ap (judge_rules c) (sym (step n at before)) ∙ e in
      (front-good c (item at before) (items n (at + width) (key at)) all, sym (judged-append c (item at before) (items n (at + width) (key at))) ∙ all)

  -- all are there
  pub reach : (bytes : ℕ) → ((c : FileCheck) (at before : ℕ) → judge_rules c (item at before) ≡ Ok tt → at + width ≤ bytes)
      → (n : ℕ) (c : FileCheck) (at before : ℕ) → at ≤ bytes → judge_rules c (items n at before) ≡ Ok tt → at + width * n ≤ bytes
  reach bytes asks zero c at before h e = omega (arith, mul-zero width)
  reach bytes asks (suc n) c at before h e =
      let both = next-kept n c at before e in
      let more : at + width + width * n ≤ bytes =
      reach bytes asks n (judge_rules c (item at before)) (at + width) (key at) (asks c at before both.0) both.1 in
      omega (arith, mul-suc width n)

  -- what the rules of an item say holds of each
  pub each : (P : ℕ → Type 0) → ((c : FileCheck) (at before : ℕ) → judge_rules c (item at before) ≡ Ok tt → P at)
      → (n : ℕ) (c : FileCheck) (at before : ℕ) → judge_rules c (items n at before) ≡ Ok tt → (i : ℕ) → i < n → P (at + width * i)
  each P asks zero c at before e i h = absurd (omega arith)
  each P asks (suc n) c at before e zero h =
      let here : at ≡ at + width * 0 = omega (arith, mul-zero width) in
      subst P here (asks c at before (next-kept n c at before e).0)
  each P asks (suc n) c at before e (suc i) h =
      let later : at + width + width * i ≡ at + width * suc i = omega (arith, mul-suc width i) in
      subst P later (each P asks n (judge_rules c (item at before)) (at + width) (key at) (next-kept n c at before e).1 i (omega arith))
