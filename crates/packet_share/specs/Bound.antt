-- The row of the live resource that a token is bound to. Assumes nothing.
use Rattle.std.specs.Prelude.{◌≡◌, refl, Option, Some, None, List, ℕ, ◌≤◌, ◌<◌, eqb, ltb, cond}
use Rattle.std.proofs.Common.{sym, ap, ◌∙◌, ⊎_elim, arith, rules}
use borrow.Author.Tests.{eq-eqb, ne_eqb, lt-ltb, le-ltb}
use Rattle.rules.specs.Numbers.{most}
use Rattle.rules.specs.Lists.{lookup}
use Rattle.rules.specs.Lists.Found.{none, found}
use Rattle.rules.specs.Names.{token_of}
use Rattle.rules.specs.Packets.{handle_of, bound}
use Rattle.rules.specs.declared.Resource.{Resource}
use Rattle.rules.specs.declared.Token.{Token}
use Rattle.rows.specs.Rows.{row_at}
use Rattle.rows.specs.Keys.{same_or_not, place_of}
use Rattle.kept_resources.specs.Views.{resource_of_row, resources_of}
use Rattle.kept_resources.specs.Resources.{resource-place, resource-found, resource-missing}
use Rattle.kept_tokens.specs.Views.{token_of_row, tokens_of}
use Rattle.kept_tokens.specs.Tokens.{token-place, token-found, token-missing}
use Rattle.packet_share.specs.declared.bound.Bound.{Bound}

-- ---- bound_row

-- the place of the resource that a token's name is: a spent token has no name
abbrev pub named_place : Token → List Resource → Option ℕ
named_place k rs = cond (eqb k.name 0) None (place_of handle_of k.name rs)

-- that of the token at a place: past the last token there is none
unfoldable pub row_bound : ℕ → List ℕ → ℕ → List ℕ → ℕ → Option ℕ
row_bound live l used t place = cond (ltb place used) (named_place (token_of_row (row_at 2 t place)) (resources_of live l)) None

module _ (live used place : ℕ) (l t : List ℕ) where
  pub row_unknown : used ≤ place → None ≡ row_bound live l used t place
  unfolding row_bound
  row_unknown p = rw (le-ltb _ _ p)

  module _ (p : place < used) (k : Token) (row : k ≡ token_of_row (row_at 2 t place)) where
    known_row : row_bound live l used t place ≡ named_place k (resources_of live l)
    unfolding row_bound
    known_row = rw (lt-ltb _ _ p, row)

    pub row_spent : k.name ≡ 0 → None ≡ row_bound live l used t place
    row_spent q = rw (known_row, eq-eqb _ _ q)

    pub row-named : (k.name ≡ 0 → ⊥) → (r : Option ℕ) → r ≡ place_of handle_of k.name (resources_of live l) → r ≡ row_bound live l used t place
    row-named q r e = rw (known_row, ne_eqb _ _ q) e

pub ruleset binding = (row_unknown, row_spent, row-named, rules)

-- ---- find_bound

-- the token is bound to the resource of a row; where there is no such row, to none
pub record BindsToken (live : ℕ) (l : List ℕ) (used : ℕ) (t : List ℕ) (token : ℕ) (b : Option Bound) : Type 0 where
  pub known : (x : Bound) → b ≡ Some x → (Some x.place ≡ place_of token_of token (tokens_of used t)) × (x.row < live)
  pub here : (x : Bound) → b ≡ Some x → bound token (tokens_of used t) (resources_of live l) ≡ found (resource_of_row (row_at 12 l x.row))
  pub missing : b ≡ None → bound token (tokens_of used t) (resources_of live l) ≡ none

-- its row is one of the table's
pub bound-exists : (live used token : ℕ) (l t : List ℕ) (b : Option Bound) → BindsToken live l used t token b → (x : Bound) → b ≡ Some x → live ≤ most → x.row < most
bound-exists live used token l t b binds x e h = omega (arith, (binds.known x e).1)

module _ (live used token : ℕ) (l t : List ℕ) (o : Option ℕ) (at : o ≡ place_of token_of token (tokens_of used t)) where
  no_bound : bound token (tokens_of used t) (resources_of live l) ≡ none → BindsToken live l used t token None
  no_bound e =
      record {
        known = λ x f. let z : ◌≡◌ {A = ℕ} 0 1 = cc in absurd (omega arith);
        here = λ x f. let z : ◌≡◌ {A = ℕ} 0 1 = cc in absurd (omega arith);
        missing = λ f. e;
      }

  pub binds-unknown : o ≡ None → BindsToken live l used t token None
  unfolding bound
  binds-unknown e = no_bound (rw (token-missing used token t o at e))

  module _ (p : ℕ) (some : o ≡ Some p) (r : Option ℕ) (row : r ≡ row_bound live l used t p) where
    abbrev k : Token
    k = token_of_row (row_at 2 t p)

    is_known : lookup token_of token (tokens_of used t) ≡ found k
    is_known = token-found used token t o at p some

    by_name : row_bound live l used t p ≡ named_place k (resources_of live l)
    by_name = known_row live used p l t (token-place used token t o at p some) k refl

    pub binds-none : r ≡ None → BindsToken live l used t token None
    unfolding bound
    binds-none e =
        ⊎_elim
        (λ q. no_bound (rw (is_known, eq-eqb k.name 0 q)))
        (λ q. no_bound (rw (is_known, ne_eqb k.name 0 q) (resource-missing live k.name l r (row ∙ by_name ∙ rw (ne_eqb k.name 0 q)) e)))
        (same_or_not k.name 0)

    pub binds-one : (i : ℕ) → r ≡ Some i → BindsToken live l used t token (Some (record { place = p; row = i }))
    unfolding bound
    binds-one i e =
        record {
          known = λ x f. let same : x ≡ record { place = p; row = i } = cc in rw same (sym some ∙ at, resource-place live k.name l r place i e);
          here = λ x f. let same : x ≡ record { place = p; row = i } = cc in rw (same, is_known, ne_eqb _ _ named) (resource-found live k.name l r place i e);
          missing = λ f. let z : ◌≡◌ {A = ℕ} 0 1 = cc in absurd (omega arith);
        }
      where
        named : k.name ≡ 0 → ⊥
        named q = let gone : Some i ≡ None = sym e ∙ row ∙ by_name ∙ rw (eq-eqb _ _ q) in let z : ◌≡◌ {A = ℕ} 0 1 = cc in omega arith

        place : r ≡ place_of handle_of k.name (resources_of live l)
        place = row ∙ by_name ∙ rw (ne_eqb _ _ named)

pub ruleset finding_bound = (binds-unknown, binds-none, binds-one, rules)
