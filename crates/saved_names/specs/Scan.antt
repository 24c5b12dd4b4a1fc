-- The resources of section 2 as they stand in a file, looked up by name: what the scan asks. Assumes nothing.
use Rattle.std.specs.Prelude.{◌≡◌, Bool, ◌&&◌, List, eqb, length, None, Option, Some}
use Rattle.std.proofs.Math.Path.{refl}
use Rattle.std.proofs.Common.{sym, subst, ◌∙◌, rules}
use Rattle.std.proofs.Math.Bool.{true, false}
use Prim.Native.Nat.{ℕ, suc, ◌+◌, ◌*◌, ◌-◌, ◌≤◌, ◌<◌}
use Rattle.std.proofs.Math.Nat.{sub-zero}
use native.Mathlib.Omega.{arith}
use borrow.Author.Tests.{eq-eqb, ne_eqb}
use Rattle.machine.specs.Machine.{pick}
use Rattle.rules.specs.Numbers.{most}
use Rattle.rules.specs.Lists.{Found, lookup}
use Rattle.rules.specs.Lists.Found.{none, found}
use Rattle.rules.specs.Layouts.{word}
use Rattle.rules.specs.Names.{shareable}
use Rattle.rules.specs.Packets.{handle_of}
use Rattle.rules.specs.Saved.{head_bytes}
use Rattle.rules.specs.Loaded.{is_buffer, loaded_resource, loaded_resources, names_place, may_be_shared}
use Rattle.rules.specs.declared.Resource.{Resource}
use Rattle.saved_fields.specs.Judging.{seen, seen-there}
use Rattle.rules.specs.declared.Form.TheVariants.{Two}

-- so many resources, all of them there
abbrev pub resources_of : List ℕ → ℕ → List Resource
resources_of b count = loaded_resources count b (head_bytes Two)

abbrev pub Standing : List ℕ → ℕ → Type 0
Standing b count = (count ≤ most) × (names_place Two count ≤ length b)

-- the first other name stands no further on than behind 64 resources and a count, 96 + 48 * 64 + 4, and none further on than 64 names later
abbrev pub furthest_first : ℕ
furthest_first = 3172

abbrev pub furthest_name : ℕ
furthest_name = 3684

-- a resource of them
abbrev pub WholeAt : List ℕ → ℕ → Type 0
WholeAt b at = (at ≤ furthest_first) × (at + 48 ≤ length b)

abbrev pub stands : List ℕ → Option ℕ → Found Resource
stands b None = none
stands b (Some at) = found (loaded_resource b at)

abbrev pub StandsWhole : List ℕ → Option ℕ → Type 0
StandsWhole b None = 0 ≤ 0
StandsWhole b (Some at) = WholeAt b at

-- ---- place_of

module _ (b : List ℕ) where
  handle-there : (at : ℕ) → handle_of (loaded_resource b at) ≡ word b at
  unfolding loaded_resource
  handle-there at = by (is_buffer b at) refl
    where
      by : (v : Bool) → is_buffer b at ≡ v → handle_of (loaded_resource b at) ≡ word b at
      by true h = rw h
      by false h = rw h

  module _ (count name : ℕ) where
    pub scan-start : lookup handle_of name (resources_of b count) ≡ lookup handle_of name (loaded_resources (count - 0) b 96)
    scan-start = rw (sub-zero count)

    module _ (i at v : ℕ) (inv : lookup handle_of name (resources_of b count) ≡ lookup handle_of name (loaded_resources (count - i) b at)) where
      next : i < count → lookup handle_of name (resources_of b count)
          ≡ pick (eqb (word b at) name) (found (loaded_resource b at)) (lookup handle_of name (loaded_resources (count - (i + 1)) b (at + 48)))
      unfolding lookup loaded_resources
      next h =
          let one : count - i ≡ suc (count - (i + 1)) = omega arith in
          inv ∙ rw (one, handle-there at)

      module _ (h : i < count) (is : v ≡ seen b at) (here : at ≡ 96 + 48 * i) (few : count ≤ 64) (whole : 96 + 48 * count ≤ length b) where
        there : v ≡ word b at
        there = is ∙ seen-there b at (omega arith)

        pub scan-hit : v ≡ name → lookup handle_of name (resources_of b count) ≡ found (loaded_resource b at)
        scan-hit e = next h ∙ rw (eq-eqb (word b at) name (sym there ∙ e))

        pub scan-turn : (v ≡ name → ⊥) → lookup handle_of name (resources_of b count) ≡ lookup handle_of name (loaded_resources (count - (i + 1)) b (at + 48))
        scan-turn e = next h ∙ rw (ne_eqb (word b at) name (λ z. e (there ∙ z)))

      pub scan-end : count ≤ i → lookup handle_of name (resources_of b count) ≡ none
      unfolding lookup loaded_resources
      scan-end h =
          let over : count - i ≡ 0 = omega arith in
          inv ∙ rw over

pub ruleset scanning = (scan-start, scan-hit, scan-turn, scan-end, rules)

-- ---- shareable_at

module _ (b : List ℕ) (at : ℕ) (whole : at + 48 ≤ length b) (k : ℕ) (kind : k ≡ seen b (at + 4)) where
  a_buffer : is_buffer b at ≡ eqb k 1
  a_buffer = rw (kind, seen-there b (at + 4) (omega arith))

  pub shares-no-buffer : k ≡ 1 → false ≡ shareable (loaded_resource b at).kind
  unfolding loaded_resource
  shares-no-buffer e = rw (a_buffer, eq-eqb k 1 e)

  module _ (texture : k ≡ 1 → ⊥) (m : ℕ) (mips : m ≡ seen b (at + 28)) where
    of-texture : shareable (loaded_resource b at).kind ≡ (eqb m 1 && eqb (word b (at + 32)) 1)
    unfolding loaded_resource
    of-texture = rw (a_buffer, ne_eqb k 1 texture, mips, seen-there b (at + 28) (omega arith))

    pub shares-one-mip : (m ≡ 1 → ⊥) → false ≡ shareable (loaded_resource b at).kind
    shares-one-mip e = rw (of-texture, ne_eqb m 1 e)

    pub shares-one-layer : (l : ℕ) → l ≡ seen b (at + 32) → m ≡ 1 → eqb l 1 ≡ shareable (loaded_resource b at).kind
    shares-one-layer l layers e = rw (of-texture, eq-eqb m 1 e, layers, seen-there b (at + 32) (omega arith))

pub ruleset sharing = (shares-no-buffer, shares-one-mip, shares-one-layer, rules)

-- ---- may_be_shared

module _ (b : List ℕ) (rs : List Resource) (name : ℕ) (p : Option ℕ) (is : lookup handle_of name rs ≡ stands b p) where
  pub shares-nothing : p ≡ None → false ≡ may_be_shared (lookup handle_of name rs)
  shares-nothing e = rw (is, e)

  pub shares-found : (at : ℕ) (v : Bool) → p ≡ Some at → v ≡ shareable (loaded_resource b at).kind → v ≡ may_be_shared (lookup handle_of name rs)
  shares-found at v e f = rw (is, e, f)

  pub stands-there : (at : ℕ) → p ≡ Some at → StandsWhole b p → WholeAt b at
  stands-there at e w = subst (StandsWhole b) e w

pub ruleset asking_shared = (shares-nothing, shares-found, stands-there, rules)
