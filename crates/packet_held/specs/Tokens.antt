-- The tokens of a submission, in its own table or still in the device's: what their code asks. Assumes nothing.
use Rattle.std.specs.Prelude.{◌≡◌, refl, Bool, true, false, not, List, [], ◌∷◌, ℕ, ◌+◌, ◌≤◌, ◌<◌, get_or}
use Rattle.std.proofs.Common.{sym, ap, ◌∙◌, arith, rules, Fits}
use Rattle.std.proofs.lemmas.Bool.{not-true, not-false}
use Rattle.std.specs.Int.{w32}
use Rattle.machine.specs.Machine.{pick}
use Rattle.rules.specs.Numbers.{most_tokens, no_name}
use Rattle.rules.specs.Lists.{over, pushed}
use Rattle.rules.specs.Names.{rebind}
use Rattle.rules.specs.declared.Token.{Token}
use Rattle.rows.specs.Rows.{row_at, get_or-table}
use Rattle.kept_tokens.specs.Views.{token_of_row, tokens_of, spent_at}
use Rattle.kept_tokens.specs.Tokens.{is_bound, rebind-unbound}
use Rattle.packet_ranges.specs.Views.{rebind-same}
use Rattle.packet_held.specs.declared.tokens.HeldTokens.{HeldTokens}

-- by the device's rows and the submission's own
abbrev pub tokens_held : HeldTokens → List ℕ → List ℕ → List Token
tokens_held x dt ot = tokens_of x.used (pick x.copied ot dt)

-- the tokens then are these, and their rows are there
pub record Retokened (dt : List ℕ) (ts : List Token) (y : HeldTokens) (ot' : List ℕ) : Type 0 where
  pub tokens : tokens_held y dt ot' ≡ ts
  pub room : y.used ≤ most_tokens

abbrev no_token : Token
no_token = record { name = no_name; token = 0 }

-- ---- chosen, chosen_tokens

module _ (copied : Bool) (device own : List ℕ) where
  pub chosen-device : copied ≡ false → device ≡ pick copied own device
  chosen-device f = rw f

  pub chosen-own : copied ≡ true → own ≡ pick copied own device
  chosen-own t = rw t

pub ruleset choosing = (chosen-device, chosen-own, rules)

-- ---- has_token

pub has_chosen : (x : HeldTokens) (dt ot l : List ℕ) (name i : ℕ) (b : Bool) → l ≡ pick x.copied ot dt → i ≡ x.used → b ≡ is_bound name (tokens_of i l)
    → b ≡ is_bound name (tokens_held x dt ot)
has_chosen x dt ot l name i b here same is = rw (← here, ← same) is

pub ruleset having = (has_chosen, rules)

-- ---- take_own_tokens

module _ (x : HeldTokens) (dt ot : List ℕ) where
  pub tokens-owned-before : not x.copied ≡ false → tokens_of x.used ot ≡ tokens_held x dt ot
  tokens-owned-before f = rw (not-false x.copied f)

  pub tokens-owned-now : (i : ℕ) (ot' : List ℕ) → not x.copied ≡ true → i ≡ x.used → tokens_of i ot' ≡ tokens_of i dt → tokens_of x.used ot' ≡ tokens_held x dt ot
  tokens-owned-now i ot' t same e = rw (not-true x.copied t, ← same) e

pub ruleset owning_tokens = (tokens-owned-before, tokens-owned-now, rules)

-- ---- rebound, with_token, without_token

module _ (x : HeldTokens) (dt ot : List ℕ) (room : x.used ≤ most_tokens) where
  pub rebound-same : (old new : ℕ) → old ≡ new → Retokened dt (rebind old new (tokens_held x dt ot)) x ot
  rebound-same old new e = record { tokens = rw e (sym (rebind-same new (tokens_held x dt ot))); room = room }

  pub rebound-none : (old new : ℕ) (b : Bool) → b ≡ is_bound old (tokens_held x dt ot) → not b ≡ true → Retokened dt (rebind old new (tokens_held x dt ot)) x ot
  rebound-none old new b is t = record { tokens = sym (rebind-unbound old new (tokens_held x dt ot) (sym is ∙ not-true b t)); room = room }

  module _ (ot₁ : List ℕ) (same : tokens_of x.used ot₁ ≡ tokens_held x dt ot) where
    pub rebound-each : (old new i : ℕ) (ot' : List ℕ) → i ≡ x.used → tokens_of i ot' ≡ rebind old new (tokens_of i ot₁)
        → Retokened dt (rebind old new (tokens_held x dt ot)) (record { used = x.used; copied = true }) ot'
    rebound-each old new i ot' is e = record { tokens = (rw (← is) e) ∙ ap (rebind old new) same; room = room }

module _ (x : HeldTokens) (dt ot : List ℕ) (new : Bool) (t : Token) (room : (x.used ≤ most_tokens) × (new ≡ true → x.used < most_tokens)) where
  pub none-added : not new ≡ true → Retokened dt (pick new (pushed (tokens_held x dt ot) t) (tokens_held x dt ot)) x ot
  none-added n = rw (not-true new n) (record { tokens = refl; room = room.0 })

  pub one-added : (i : ℕ) (ot₁ ot' : List ℕ) → not new ≡ false → tokens_of x.used ot₁ ≡ tokens_held x dt ot → i ≡ x.used → tokens_of (i + 1) ot' ≡ pushed (tokens_of i ot₁) t
      → Retokened dt (pick new (pushed (tokens_held x dt ot) t) (tokens_held x dt ot)) (record { used = x.used + 1; copied = true }) ot'
  one-added i ot₁ ot' n same is e =
      let more : x.used < most_tokens = room.1 (not-false new n) in
      let pushes : tokens_of (x.used + 1) ot' ≡ pushed (tokens_of x.used ot₁) t = rw (← is) e in
      rw (not-false new n) (record { tokens = pushes ∙ ap (λ (ts : List Token). pushed ts t) same; room = omega arith })

  pub one-counts : not new ≡ false → Fits w32 (x.used + 1)
  one-counts n =
      let more : x.used < most_tokens = room.1 (not-false new n) in
      record { fits = omega arith }

  pub one_place : (i : ℕ) → not new ≡ false → i ≡ x.used → i < most_tokens
  one_place i n is = rw is (room.1 (not-false new n))

-- what stands at a place of two tables that have the same tokens
same-spent : (n i : ℕ) (l m : List ℕ) → i < n → tokens_of n l ≡ tokens_of n m → spent_at l i ≡ spent_at m i
same-spent n i l m h same =
    let there : token_of_row (row_at 2 l i) ≡ token_of_row (row_at 2 m i) =
    sym (get_or-table token_of_row 2 n l i no_token h) ∙ (ap (λ (ts : List Token). get_or ts i no_token) same ∙ get_or-table token_of_row 2 n m i no_token h) in
    ap (λ (t : Token). record { name = no_name; token = t.token }) there

pub one-spent : (x : HeldTokens) (dt ot ot₁ ot' : List ℕ) (place i : ℕ) → (x.used ≤ most_tokens) × (place < x.used) → tokens_of x.used ot₁ ≡ tokens_held x dt ot
    → i ≡ x.used → tokens_of i ot' ≡ over place (spent_at ot₁ place ∷ []) (tokens_of i ot₁)
    → Retokened dt (over place (spent_at (pick x.copied ot dt) place ∷ []) (tokens_held x dt ot)) (record { used = x.used; copied = true }) ot'
one-spent x dt ot ot₁ ot' place i pre same is e' =
    let e : tokens_of x.used ot' ≡ over place (spent_at ot₁ place ∷ []) (tokens_of x.used ot₁) = rw (← is) e' in
    let row : spent_at ot₁ place ≡ spent_at (pick x.copied ot dt) place = same-spent x.used place ot₁ (pick x.copied ot dt) pre.1 same in
    record {
      tokens = e ∙ (ap (λ (k : Token). over place (k ∷ []) (tokens_of x.used ot₁)) row ∙ ap (over place (spent_at (pick x.copied ot dt) place ∷ [])) same);
      room = pre.0;
    }

pub ruleset rebinding = (rebound-same, rebound-none, rebound-each, rules)

pub ruleset adding = (none-added, one_place, one-counts, one-added, rules)

pub ruleset spending = (one-spent, rules)
