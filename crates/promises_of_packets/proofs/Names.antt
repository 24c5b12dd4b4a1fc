-- The theorems of specs/Names.antt, and what they rest on. Assumes nothing.
use Rattle.std.specs.Prelude.{◌≡◌, Bool, get_or, take}
use Rattle.std.proofs.Math.Path.{refl, sym, ap}
use Rattle.std.proofs.Common.{subst, ◌∙◌, ⊎_elim, eq-eqb, ne_eqb, eqb-true}
use Rattle.std.proofs.Math.Bool.{true, false}
use mathlib.Core.List.{List, [], ◌∷◌, ◌++◌}
use Prim.Native.Nat.{ℕ, zero, suc, ◌+◌}
use native.Mathlib.Omega.{arith}
use Rattle.std.proofs.Math.Dec.{eqb}
use Rattle.std.proofs.Math.ListN.{length, drop}
use Rattle.machine.specs.Machine.{pick}
use Rattle.rules.specs.Lists.{lookup, index_of, over}
use Rattle.rules.specs.Lists.Found.{found}
use Rattle.rules.specs.Names.{token_of, without_token}
use Rattle.rules.specs.declared.Token.{Token}
use Rattle.rows.specs.Keys.{same_or_not, Once, lookup-nil, lookup-here, lookup-later, index-here, index-later}
use Rattle.promises_of_packets.specs.Names.{none-not-found, spend, spent}

-- ---- a token released: the first that has the number, spent

module _ (token : ℕ) where
  nothing-spent : (spend token) [] ≡ []
  unfolding spend
  nothing-spent = refl

  spend-here : (t : Token) (ts : List Token) → t.token ≡ token → (spend token) (t ∷ ts) ≡ (spent token) ∷ ts
  unfolding spend
  spend-here t ts e = rw (eq-eqb t.token token e)

  spend-later : (t : Token) (ts : List Token) → (t.token ≡ token → ⊥) → (spend token) (t ∷ ts) ≡ t ∷ (spend token) ts
  unfolding spend
  spend-later t ts n = rw (ne_eqb t.token token n)

  over-here : (t : Token) (ts : List Token) → over 0 ((spent token) ∷ []) (t ∷ ts) ≡ (spent token) ∷ ts
  unfolding over
  over-here t ts = refl

  over-later : (i : ℕ) (t : Token) (ts : List Token) → over (suc i) ((spent token) ∷ []) (t ∷ ts) ≡ t ∷ over i ((spent token) ∷ []) ts
  unfolding over
  over-later i t ts = let e : suc i + 1 ≡ suc (i + 1) = omega arith in ap (λ n. t ∷ (take i ts ++ ((spent token) ∷ drop n (t ∷ ts)))) e

  without-is-spend : (ts : List Token) (x : Token) → lookup token_of token ts ≡ found x → without_token token ts ≡ (spend token) ts
  without-is-spend [] x e = absurd (none-not-found x (sym (lookup-nil token_of token) ∙ e))
  without-is-spend (t ∷ ts) x e =
      ⊎_elim
      (λ h. ap (λ i. over i ((spent token) ∷ []) (t ∷ ts)) (index-here token_of token t ts h) ∙ (over-here t ts ∙ sym (spend-here t ts h)))
      (λ h. ap (λ i. over i ((spent token) ∷ []) (t ∷ ts)) (index-later token_of token t ts h)
      ∙ (over-later (index_of token_of token ts) t ts
      ∙ (ap (λ l. t ∷ l) (without-is-spend ts x (sym (lookup-later token_of token t ts h) ∙ e)) ∙ sym (spend-later t ts h))))
      (same_or_not t.token token)

  length-spend : (ts : List Token) → length ((spend token) ts) ≡ length ts
  unfolding spend
  length-spend [] = refl
  length-spend (t ∷ ts) = by_test (eqb t.token token) (length-spend ts)
    where
      by_test : (b : Bool) → length ((spend token) ts) ≡ length ts → length (pick b ((spent token) ∷ ts) (t ∷ (spend token) ts)) ≡ length (t ∷ ts)
      by_test true later = refl
      by_test false later = rw later

  spend-key : (ts : List Token) (d : Token) (i : ℕ) → (get_or ((spend token) ts) i d).token ≡ (get_or ts i d).token
  unfolding spend
  spend-key [] d i = refl
  spend-key (t ∷ ts) d zero = by_test (eqb t.token token) refl
    where
      by_test : (b : Bool) → eqb t.token token ≡ b → (get_or (pick b ((spent token) ∷ ts) (t ∷ (spend token) ts)) 0 d).token ≡ t.token
      by_test true h = sym (eqb-true t.token token h)
      by_test false h = refl
  spend-key (t ∷ ts) d (suc i) = by_test (eqb t.token token) (spend-key ts d i)
    where
      by_test : (b : Bool) → (get_or ((spend token) ts) i d).token ≡ (get_or ts i d).token → (get_or (pick b ((spent token) ∷ ts) (t ∷ (spend token) ts)) (suc i) d).token ≡ (get_or ts i d).token
      by_test true later = refl
      by_test false later = later

  once-spend : (ts : List Token) → Once token_of ts → Once token_of ((spend token) ts)
  once-spend ts o =
      record {
        same = λ d i j p q e. o.same d i j (rw (length-spend ts) at p) (rw (length-spend ts) at q) (sym (spend-key ts d i) ∙ (e ∙ spend-key ts d j));
      }

  lookup-spend-same : (ts : List Token) (x : Token) → lookup token_of token ts ≡ found x → lookup token_of token ((spend token) ts) ≡ found (spent token)
  lookup-spend-same [] x e = absurd (none-not-found x (sym (lookup-nil token_of token) ∙ e))
  lookup-spend-same (t ∷ ts) x e =
      ⊎_elim
      (λ h. ap (lookup token_of token) (spend-here t ts h) ∙ lookup-here token_of token (spent token) ts refl)
      (λ h. ap (lookup token_of token) (spend-later t ts h)
      ∙ (lookup-later token_of token t ((spend token) ts) h ∙ lookup-spend-same ts x (sym (lookup-later token_of token t ts h) ∙ e)))
      (same_or_not t.token token)

  lookup-spend-other : (j : ℕ) → (j ≡ token → ⊥) → (ts : List Token) → lookup token_of j ((spend token) ts) ≡ lookup token_of j ts
  lookup-spend-other j n [] = ap (lookup token_of j) nothing-spent
  lookup-spend-other j n (t ∷ ts) =
      ⊎_elim
      (λ h. ap (lookup token_of j) (spend-here t ts h)
      ∙ (lookup-later token_of j (spent token) ts (λ u. n (sym u)) ∙ sym (lookup-later token_of j t ts (λ u. n (sym u ∙ h)))))
      (λ h. ap (lookup token_of j) (spend-later t ts h) ∙ by_key (lookup-spend-other j n ts))
      (same_or_not t.token token)
    where
      by_key : lookup token_of j ((spend token) ts) ≡ lookup token_of j ts → lookup token_of j (t ∷ (spend token) ts) ≡ lookup token_of j (t ∷ ts)
      by_key later =
          ⊎_elim
          (λ h. lookup-here token_of j t ((spend token) ts) h ∙ sym (lookup-here token_of j t ts h))
          (λ h. lookup-later token_of j t ((spend token) ts) h ∙ (later ∙ sym (lookup-later token_of j t ts h)))
          (same_or_not t.token j)

  module _ (ts : List Token) (x : Token) (e : lookup token_of token ts ≡ found x) where
    -- it is spent, every other is as it was, and none is gone
    pub lookup-released : lookup token_of token (without_token token ts) ≡ found (spent token)
    lookup-released = ap (lookup token_of token) (without-is-spend ts x e) ∙ lookup-spend-same ts x e

    pub lookup-unreleased : (j : ℕ) → (j ≡ token → ⊥) → lookup token_of j (without_token token ts) ≡ lookup token_of j ts
    lookup-unreleased j n = ap (lookup token_of j) (without-is-spend ts x e) ∙ lookup-spend-other j n ts

    pub length-released : length (without_token token ts) ≡ length ts
    length-released = ap length (without-is-spend ts x e) ∙ length-spend ts

    pub once-released : Once token_of ts → Once token_of (without_token token ts)
    once-released o = subst (Once token_of) (sym (without-is-spend ts x e)) (once-spend ts o)
