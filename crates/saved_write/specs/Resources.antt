-- The fields of resources: what their writers ask. Assumes nothing.
use Rattle.std.specs.Prelude.{◌≡◌, refl, List, [], ◌∷◌, ◌++◌, ℕ, ◌*◌, ◌%◌, length}
use Rattle.std.proofs.Common.{ap, ◌∙◌, rules}
use Rattle.rules.specs.Lists.{over}
use Rattle.rules.specs.Registers.{high}
use Rattle.rules.specs.Saved.{kind_fields, resource_fields, resources_fields, file_of}
use Rattle.rules.specs.declared.Kind.{Kind}
use Rattle.rules.specs.declared.Kind.TheVariants.{Buffer, Texture}
use Rattle.rules.specs.declared.Shape.{Shape}
use Rattle.rules.specs.declared.Resource.{Resource}
use Rattle.saved_write.specs.Fields.{length-file}
use Rattle.saved_write.specs.Items.{Wide, all_fields, writing_items}

-- ---- put_resource

module _ (r : Resource) (at : ℕ) (l m : List ℕ) where
  pub buffer-written : (size₀ size₁ : ℕ)
      → m ≡ over at (file_of (r.handle ∷ 1 ∷ size₀ ∷ size₁ ∷ 0 ∷ 0 ∷ 0 ∷ 0 ∷ 0 ∷ r.pitch ∷ r.backing ∷ r.offset ∷ [])) l
      → r.kind ≡ Buffer → size₀ ≡ r.bytes % 4294967296 → size₁ ≡ high r.bytes → m ≡ over at (file_of (resource_fields r)) l
  buffer-written size₀ size₁ is k a b = rw (is, k, a, b)

  pub texture-written : (s : Shape)
      → m ≡ over at (file_of (r.handle ∷ 2 ∷ 0 ∷ 0 ∷ s.format ∷ s.width ∷ s.height ∷ s.mips ∷ s.layers ∷ r.pitch ∷ r.backing ∷ r.offset ∷ [])) l
      → r.kind ≡ Texture s → m ≡ over at (file_of (resource_fields r)) l
  texture-written s is k = rw (is, k)

pub ruleset writing_resource = (buffer-written, texture-written, rules)

-- ---- put_resources

-- a resource has twelve fields
pub resource-wide : Wide resource_fields 48
resource-wide = record { wide = λ r. length-file (resource_fields r) ∙ ap (λ n. 4 * n) (by_kind r r.kind) }
  where
    by_kind : (r : Resource) (k : Kind) → length (r.handle ∷ (kind_fields k r.bytes ++ (r.pitch ∷ r.backing ∷ r.offset ∷ []))) ≡ 12
    by_kind r Buffer = refl
    by_kind r (Texture s) = refl

pub ruleset writing_resources = (resource-wide, writing_items)

-- the fields of all are the rules' own
pub resources-all : (rs : List Resource) → all_fields resource_fields rs ≡ resources_fields rs
unfolding all_fields resources_fields
resources-all [] = refl
resources-all (r ∷ rs) = ap (λ x. resource_fields r ++ x) (resources-all rs)
