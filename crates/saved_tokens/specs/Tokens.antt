-- The rules of section 4, one token after the other, as the code judges them. Assumes nothing.
use Rattle.std.specs.Prelude.{◌≡◌, Bool, true, ◌||◌, List, [], ◌∷◌, ◌++◌, ℕ, suc, ◌+◌, ◌*◌, ◌-◌, ◌≤◌, ◌<◌, ltb, leb, eqb, length, Err, Ok}
use Rattle.std.proofs.Math.Path.{refl, sym, ap}
use Rattle.std.proofs.Common.{◌∙◌, arith, rules, lt-ltb, le-ltb, eq-eqb, ne_eqb, leb-true}
use Rattle.machine.specs.Machine.{pick}
use Rattle.rules.specs.Numbers.{no_name}
use Rattle.rules.specs.Lists.{lookup}
use Rattle.rules.specs.Layouts.{word, long}
use Rattle.rules.specs.Packets.{handle_of}
use Rattle.rules.specs.Saved.{token_bytes}
use Rattle.rules.specs.Loaded.{Rule, must, any, end_rule, may_be_shared, token_rules, tokens_rules, end_place, section_4_rules}
use Rattle.rules.specs.declared.Resource.{Resource}
use Rattle.saved_fields.specs.Judging.{judge_rule, judge_rules, rule, ends, seen, same-rule, seen-there, once-bad, judged-append, FileCheck}
use Rattle.saved_fields.specs.Kept.{kept_there}
use Rattle.saved_fields.specs.Items.{items-start, items-turn, items-end}

-- a number of two fields as it is read: 0 where it is not all there
abbrev pub seen_long : List ℕ → ℕ → ℕ
seen_long b at = pick (ltb (length b) (at + 8)) 0 (long b at)

-- no token stands further on: 3,684 + 4 + 12 * 256
abbrev pub furthest_token : ℕ
furthest_token = 6760

-- ---- long_at

seen-long-there : (b : List ℕ) (at : ℕ) → at + 8 ≤ length b → seen_long b at ≡ long b at
seen-long-there b at h = rw (le-ltb (length b) (at + 8) h)

module _ (b : List ℕ) (at place : ℕ) (here : place ≡ at) where
  pub long-not-there : length b < place + 8 → 0 ≡ seen_long b at
  long-not-there h = rw (lt-ltb (length b) (at + 8) (omega arith))

  pub reads-long : (r : ℕ) → place + 8 ≤ length b → r ≡ long b place → r ≡ seen_long b at
  reads-long r h e = rw (← here, e) (sym (seen-long-there b place h))

pub ruleset reading_long = (long-not-there, reads-long, rules)

-- ---- may_be_bound

module _ (name : ℕ) (v : Bool) where
  pub spent : name ≡ 0 → true ≡ (eqb name no_name || v)
  spent e = rw (eq-eqb name 0 e)

  pub bound : (w : Bool) → (name ≡ 0 → ⊥) → w ≡ v → w ≡ (eqb name no_name || v)
  bound w n e = rw (ne_eqb name 0 n, e)

pub ruleset binding = (spent, bound, rules)

-- ---- judge_token

module _ (rs : List Resource) (b : List ℕ) (at before : ℕ) where
  pub judges-token : (token name : ℕ) (v : Bool) (c c₁ c₂ c₃ : FileCheck) → c₁ ≡ judge_rule c (any b at) → token ≡ seen_long b at
      → c₂ ≡ judge_rule c₁ (rule (length b) (at + 4) (ltb before token)) → name ≡ seen b (at + 8)
      → v ≡ (eqb name no_name || may_be_shared (lookup handle_of name rs)) → c₃ ≡ judge_rule c₂ (rule (length b) (at + 8) v)
      → c₃ ≡ judge_rules c (token_rules rs b at before)
  unfolding judge_rules
  judges-token token name v c c₁ c₂ c₃ e₁ t e₂ n s e₃ =
      let rises : rule (length b) (at + 4) (ltb before token) ≡ must b (at + 4) (ltb before (long b at)) =
      same-rule (length b) (at + 4) (ltb before token) (ltb before (long b at)) (λ h. rw (t, seen-long-there b at (omega arith))) in
      let binds : rule (length b) (at + 8) v ≡ must b (at + 8) (eqb (word b (at + 8)) no_name || may_be_shared (lookup handle_of (word b (at + 8)) rs)) =
      same-rule (length b) (at + 8) v (eqb (word b (at + 8)) no_name || may_be_shared (lookup handle_of (word b (at + 8)) rs)) (λ h. rw (s, n, seen-there b (at + 8) h)) in
      rw (e₃, e₂, e₁, rises, binds)

pub ruleset judging_token = (judges-token, rules)

-- ---- judge_tokens

module _ (rs : List Resource) (b : List ℕ) where
  pub no-tokens : (at before : ℕ) → tokens_rules 0 rs b at before ≡ []
  unfolding tokens_rules
  no-tokens at before = refl

  pub tokens-step : (n at before : ℕ) → tokens_rules (suc n) rs b at before ≡ token_rules rs b at before ++ tokens_rules n rs b (at + token_bytes) (long b at)
  unfolding tokens_rules
  tokens-step n at before = refl

  -- a token whose rules are kept is there, with its name
  pub token-there : (c : FileCheck) (at before : ℕ) → judge_rules c (token_rules rs b at before) ≡ Ok tt → at + 8 + 4 ≤ length b
  unfolding judge_rules
  token-there c at before e =
      (kept_there (judge_rule (judge_rule c (any b at)) (must b (at + 4) (ltb before (long b at)))) b (at + 8)
      (eqb (word b (at + 8)) no_name || may_be_shared (lookup handle_of (word b (at + 8)) rs)) e).0

  module _ (n first : ℕ) where
    pub tokens-start : judge_rules (Ok tt) (tokens_rules n rs b first 0) ≡ judge_rules (Ok tt) (tokens_rules (n - 0) rs b first 0)
    tokens-start = items-start (token_rules rs b) (λ n. tokens_rules n rs b) (long b) 12 no-tokens tokens-step (Ok tt) n first

    module _ (c : FileCheck) (i at before : ℕ) (inv : judge_rules (Ok tt) (tokens_rules n rs b first 0) ≡ judge_rules c (tokens_rules (n - i) rs b at before)) where
      pub tokens-turn : (k : ℕ) (c' : FileCheck) → i < n → c' ≡ judge_rules c (token_rules rs b at before) → k ≡ seen_long b at
          → judge_rules (Ok tt) (tokens_rules n rs b first 0) ≡ judge_rules c' (tokens_rules (n - (i + 1)) rs b (at + 12) k)
      tokens-turn k c' h e is =
          items-turn (token_rules rs b) (λ n. tokens_rules n rs b) (long b) 12 no-tokens tokens-step (Ok tt) n first c i at before inv k c' h e (λ good.
          let end : at + 8 + 4 ≤ length b = token-there c at before (sym e ∙ good) in
          is ∙ seen-long-there b at (omega arith))

      pub tokens-end : n ≤ i → c ≡ judge_rules (Ok tt) (tokens_rules n rs b first 0)
      tokens-end h = items-end (token_rules rs b) (λ n. tokens_rules n rs b) (long b) 12 no-tokens tokens-step (Ok tt) n first c i at before inv h

pub ruleset judging_tokens = (tokens-start, tokens-turn, tokens-end, rules)

-- ---- check_tokens

module _ (b : List ℕ) (at n : ℕ) (c : FileCheck) (is : n ≡ seen b at) (judged : c ≡ judge_rule (Ok tt) (must b at (leb (word b at) 256))) where
  -- what comes after the count
  abbrev rest : List Resource → ℕ → List Rule
  rest rs m = tokens_rules m rs b (at + 4) 0 ++ (end_rule b (end_place at m) ∷ [])

  pub too-many-tokens : (rs : List Resource) (p : ℕ) → c ≡ Err p → c ≡ judge_rules (Ok tt) (section_4_rules rs b at)
  unfolding judge_rules section_4_rules
  too-many-tokens rs p e =
      sym (ap (λ x. judge_rules x (rest rs (word b at))) (sym judged ∙ e) ∙ (once-bad p (rest rs (word b at)) ∙ sym e))

  module _ (good : c ≡ Ok tt) where
    count-there : (at + 4 ≤ length b) × (leb (word b at) 256 ≡ true)
    count-there = kept_there (Ok tt) b at (leb (word b at) 256) (sym judged ∙ good)

    real : n ≡ word b at
    real = is ∙ seen-there b at count-there.0

    pub few-tokens : n ≤ 256
    few-tokens = let less = leb-true (word b at) 256 count-there.1 in omega (arith, real)

    pub tokens-fit : 12 * n < 4294967296
    tokens-fit = omega (arith, few-tokens)

    pub end_fits : at ≤ 3684 → at + 4 + 12 * n < 4294967296
    end_fits h = omega (arith, few-tokens)

    pub judges-section-4 : (rs : List Resource) (d r : FileCheck) → d ≡ judge_rules (Ok tt) (tokens_rules n rs b (at + 4) 0)
        → r ≡ judge_rule d (ends (length b) (at + 4 + 12 * n)) → r ≡ judge_rules (Ok tt) (section_4_rules rs b at)
    unfolding judge_rules section_4_rules
    judges-section-4 rs d r e f =
        let all : r ≡ judge_rules (Ok tt) (rest rs n) =
        f ∙ rw e (sym (judged-append (Ok tt) (tokens_rules n rs b (at + 4) 0) (end_rule b (end_place at n) ∷ []))) in
        all ∙ (ap (λ k. judge_rules (Ok tt) (rest rs k)) real ∙ ap (λ x. judge_rules x (rest rs (word b at))) (sym good ∙ judged))

pub ruleset judging_section_4 = (too-many-tokens, few-tokens, tokens-fit, end_fits, judges-section-4, rules)
