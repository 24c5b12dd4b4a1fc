-- Rows of resources: what reading, keeping, finding and removing one ask. Assumes nothing.
use Rattle.std.specs.Prelude.{◌≡◌, refl, Option, Some, None, is_some, List, ℕ, ◌+◌, ◌*◌, ◌%◌, ◌≤◌, ◌<◌, get_or}
use Rattle.std.proofs.Common.{sym, ◌∙◌, add-zero, arith, rules, eq-eqb, ne_eqb}
use Rattle.rules.specs.Numbers.{most}
use Rattle.rules.specs.Lists.{lookup}
use Rattle.rules.specs.Lists.Found.{none, found}
use Rattle.rules.specs.Packets.{handle_of, is_live}
use Rattle.rules.specs.declared.Kind.{Kind}
use Rattle.rules.specs.declared.Kind.TheVariants.{Buffer, Texture}
use Rattle.rules.specs.declared.Resource.{Resource}
use Rattle.rows.specs.Rows.{row_at, table, first_word, row_field}
use Rattle.rows.specs.Keys.{place_of, place-table, place_row, place-found, place-missing}
use Rattle.kept_resources.specs.Views.{kind_in, resource_of_row, resources_of}

-- ---- kind_at, resource_row

module _ (l : List ℕ) (b : ℕ) where
  pub kind-buffer-at : get_or l (b + 1) 0 ≡ 0 → Buffer ≡ kind_in l b
  kind-buffer-at h = rw (eq-eqb _ _ h)

  pub kind-texture-at : (f w h m y : ℕ) → (get_or l (b + 1) 0 ≡ 0 → ⊥) → f ≡ get_or l (b + 3) 0 % 4294967296 → w ≡ get_or l (b + 4) 0 % 4294967296
      → h ≡ get_or l (b + 5) 0 % 4294967296 → m ≡ get_or l (b + 6) 0 % 4294967296 → y ≡ get_or l (b + 7) 0 % 4294967296
      → Texture (record { format = f; width = w; height = h; mips = m; layers = y }) ≡ kind_in l b
  kind-texture-at f w h m y n p q r s t = rw (ne_eqb _ _ n, p, q, r, s, t)

-- the kind of a row is what stands at its words
kind-of-row : (l : List ℕ) (i : ℕ) → kind_in (row_at 12 l i) 0 ≡ kind_in l (12 * i)
kind-of-row l i =
    rw (row_field 12 l i 1 (omega arith), row_field 12 l i 3 (omega arith), row_field 12 l i 4 (omega arith), row_field 12 l i 5 (omega arith), row_field 12 l i 6 (omega arith), row_field 12 l i 7 (omega arith))

pub row_read : (l : List ℕ) (i a p y o w : ℕ) (k : Kind) → k ≡ kind_in l (12 * i) → a ≡ get_or l (12 * i) 0 % 4294967296 → p ≡ get_or l (12 * i + 8) 0 % 4294967296
    → y ≡ get_or l (12 * i + 9) 0 % 4294967296 → o ≡ get_or l (12 * i + 10) 0 % 4294967296 → w ≡ get_or l (12 * i + 11) 0 % 4294967296
    → ◌≡◌ {A = Resource} (record { handle = a; kind = k; bytes = get_or l (12 * i + 2) 0; pitch = p; backing = y; offset = o; lowest = w }) (resource_of_row (row_at 12 l i))
row_read l i a p y o w k e q r s t u =
    let base : get_or (row_at 12 l i) 0 0 ≡ get_or l (12 * i) 0 = rw (row_field 12 l i 0 (omega arith), add-zero) in
    rw (e, q, r, s, t, u, base, kind-of-row l i, row_field 12 l i 2 (omega arith), row_field 12 l i 8 (omega arith), row_field 12 l i 9 (omega arith), row_field 12 l i 10 (omega arith), row_field 12 l i 11 (omega arith))

pub handle-read : (l : List ℕ) (i v : ℕ) → v ≡ get_or l (12 * i) 0 % 4294967296 → v ≡ (resource_of_row (row_at 12 l i)).handle
handle-read l i v e = rw (row_field 12 l i 0 (omega arith), add-zero) e

pub lowest-read : (l : List ℕ) (i v : ℕ) → v ≡ get_or l (12 * i + 11) 0 % 4294967296 → v ≡ (resource_of_row (row_at 12 l i)).lowest
lowest-read l i v e = rw (row_field 12 l i 11 (omega arith)) e

pub ruleset reading_resource = (kind-buffer-at, kind-texture-at, row_read, handle-read, lowest-read, rules)

-- ---- find_resource

module _ (n k : ℕ) (l : List ℕ) where
  pub resource-found-at : (r : Option ℕ) → r ≡ place_of first_word k (table (λ r. r) 12 n l) → r ≡ place_of handle_of k (resources_of n l)
  resource-found-at r p = p ∙ sym (place-table resource_of_row 12 handle_of k first_word (λ r. refl) n l)

  -- what the place of a handle says: what stands there is the one that has it, and where there is no place there is none
  module _ (o : Option ℕ) (place : o ≡ place_of handle_of k (resources_of n l)) where
    module _ (i : ℕ) (at : o ≡ Some i) where
      pub resource-place : i < n
      resource-place = place_row resource_of_row 12 handle_of k n l i (sym at ∙ place)

      pub resource-exists : n ≤ most → i < most
      resource-exists h = omega (arith, resource-place)

      pub resource-found : lookup handle_of k (resources_of n l) ≡ found (resource_of_row (row_at 12 l i))
      resource-found = place-found resource_of_row 12 handle_of k n l i (sym at ∙ place)

    pub resource-missing : o ≡ None → lookup handle_of k (resources_of n l) ≡ none
    resource-missing e = place-missing resource_of_row 12 handle_of k n l (sym e ∙ place)

  -- so whether there is one
  pub resource-known : (o : Option ℕ) → o ≡ place_of handle_of k (resources_of n l) → is_live (lookup handle_of k (resources_of n l)) ≡ is_some o
  resource-known None p = rw (resource-missing None p refl)
  resource-known (Some i) p = rw (resource-found (Some i) p i refl)

pub ruleset finding_resource = (resource-found-at, rules)
