-- What the reading and the judging of a resource ask. Assumes nothing.
use Rattle.std.specs.Prelude.{◌≡◌, Bool, true, not, ◌&&◌, ◌||◌, List, ℕ, ◌+◌, eqb, ltb}
use Rattle.std.proofs.Common.{rules}
use borrow.Author.Tests.{eq-eqb, ne_eqb}
use Rattle.rules.specs.Numbers.{most_layers}
use Rattle.rules.specs.Shapes.{block_bytes, full_chain}
use Rattle.rules.specs.Packets.{backed}
use Rattle.rules.specs.declared.Shape.{Shape}
use Rattle.rules.specs.Loaded.{between, good_pitch}
use Rattle.texture_shapes.specs.Good.{good_side}
use Rattle.saved_fields.specs.Judging.{rule, seen, judge_rule, judge_rules, FileCheck}
use Rattle.saved_resources.specs.Rules.{seen_resource, no_shape_rules, shape_rules, buffer_rules, texture_rules, fields_rules}
use Rattle.saved_resources.specs.declared.SavedResource.{SavedResource}

-- ---- read_shape, read_resource

module _ (b : List ℕ) (at : ℕ) where
  pub reads-shape : (f w h m y : ℕ) → f ≡ seen b (at + 16) → w ≡ seen b (at + 20) → h ≡ seen b (at + 24) → m ≡ seen b (at + 28) → y ≡ seen b (at + 32)
      → ◌≡◌ {A = Shape} (record { format = f; width = w; height = h; mips = m; layers = y }) (seen_resource b at).shape
  reads-shape f w h m y p q r s t = rw (p, q, r, s, t)

  pub reads-resource : (s : Shape) (a k l u p y o : ℕ) → s ≡ (seen_resource b at).shape → a ≡ seen b at → k ≡ seen b (at + 4) → l ≡ seen b (at + 8)
      → u ≡ seen b (at + 12) → p ≡ seen b (at + 36) → y ≡ seen b (at + 40) → o ≡ seen b (at + 44)
      → ◌≡◌ {A = SavedResource} (record { handle = a; kind = k; low = l; high = u; shape = s; pitch = p; backing = y; offset = o }) (seen_resource b at)
  reads-resource s a k l u p y o e e₁ e₂ e₃ e₄ e₅ e₆ e₇ = rw (e, e₁, e₂, e₃, e₄, e₅, e₆, e₇)

pub ruleset reading_resource = (reads-shape, reads-resource, rules)

-- ---- judge_no_shape, judge_shape, judge_buffer, judge_texture

module _ (n at : ℕ) (c₀ c₁ c₂ c₃ c₄ c₅ : FileCheck) where
  pub judges-no-shape : (s : Shape) → c₁ ≡ judge_rule c₀ (rule n (at + 16) (eqb s.format 0)) → c₂ ≡ judge_rule c₁ (rule n (at + 20) (eqb s.width 0))
      → c₃ ≡ judge_rule c₂ (rule n (at + 24) (eqb s.height 0)) → c₄ ≡ judge_rule c₃ (rule n (at + 28) (eqb s.mips 0))
      → c₅ ≡ judge_rule c₄ (rule n (at + 32) (eqb s.layers 0)) → c₅ ≡ judge_rules c₀ (no_shape_rules n at s)
  unfolding judge_rules
  judges-no-shape s e₁ e₂ e₃ e₄ e₅ = rw (e₅, e₄, e₃, e₂, e₁)

  pub judges-shape : (s : Shape) (u : ℕ) (w h m y : Bool) → u ≡ block_bytes s.format → c₁ ≡ judge_rule c₀ (rule n (at + 16) (ltb 0 u))
      → w ≡ good_side s.width → c₂ ≡ judge_rule c₁ (rule n (at + 20) w) → h ≡ good_side s.height → c₃ ≡ judge_rule c₂ (rule n (at + 24) h)
      → m ≡ between 1 (full_chain s.width s.height) s.mips → c₄ ≡ judge_rule c₃ (rule n (at + 28) m)
      → y ≡ between 1 most_layers s.layers → c₅ ≡ judge_rule c₄ (rule n (at + 32) y) → c₅ ≡ judge_rules c₀ (shape_rules n at s)
  unfolding judge_rules
  judges-shape s u w h m y fu e₁ fw e₂ fh e₃ fm e₄ fy e₅ = rw (e₅, e₄, e₃, e₂, e₁, fu, fw, fh, fm, fy)

  module _ (s : SavedResource) where
    pub judges-buffer : (v : Bool) → c₁ ≡ judge_rule c₀ (rule n (at + 8) true) → v ≡ not (eqb s.low 0 && eqb s.high 0) → c₂ ≡ judge_rule c₁ (rule n (at + 12) v)
        → c₃ ≡ judge_rules c₂ (no_shape_rules n at s.shape) → c₄ ≡ judge_rule c₃ (rule n (at + 36) (eqb s.pitch 0))
        → c₅ ≡ judge_rule c₄ (rule n (at + 40) true) → c₅ ≡ judge_rules c₀ (buffer_rules n at s)
    unfolding judge_rules
    judges-buffer v e₁ g e₂ e₃ e₄ e₅ = rw (e₅, e₄, e₃, e₂, e₁, g)

    pub judges-texture : (p : Bool) → c₁ ≡ judge_rule c₀ (rule n (at + 8) (eqb s.low 0)) → c₂ ≡ judge_rule c₁ (rule n (at + 12) (eqb s.high 0))
        → c₃ ≡ judge_rules c₂ (shape_rules n at s.shape) → c₄ ≡ judge_rule c₃ (rule n (at + 36) true)
        → p ≡ good_pitch s.shape s.pitch s.backing → c₅ ≡ judge_rule c₄ (rule n (at + 40) p) → c₅ ≡ judge_rules c₀ (texture_rules n at s)
    unfolding judge_rules
    judges-texture p e₁ e₂ e₃ e₄ g e₅ = rw (e₅, e₄, e₃, e₂, e₁, g)

pub ruleset judging_kind = (judges-no-shape, judges-shape, judges-buffer, judges-texture, rules)

-- ---- judge_resource

module _ (n at before : ℕ) (s : SavedResource) (c₀ c₁ c₂ c₃ c₄ : FileCheck) (v : Bool) (first : c₁ ≡ judge_rule c₀ (rule n at (ltb before s.handle)))
    (tied : v ≡ (backed s.backing || eqb s.offset 0)) where
  pub judges-a-buffer : s.kind ≡ 1 → c₂ ≡ judge_rule c₁ (rule n (at + 4) true) → c₃ ≡ judge_rules c₂ (buffer_rules n at s) → c₄ ≡ judge_rule c₃ (rule n (at + 44) v)
      → c₄ ≡ judge_rules c₀ (fields_rules n at s before)
  unfolding judge_rules
  judges-a-buffer k e₂ e₃ e₄ = rw (e₄, e₃, e₂, first, tied, eq-eqb s.kind 1 k)

  pub judges-a-texture : (s.kind ≡ 1 → ⊥) → c₂ ≡ judge_rule c₁ (rule n (at + 4) (eqb s.kind 2)) → c₃ ≡ judge_rules c₂ (texture_rules n at s) → c₄ ≡ judge_rule c₃ (rule n (at + 44) v)
      → c₄ ≡ judge_rules c₀ (fields_rules n at s before)
  unfolding judge_rules
  judges-a-texture k e₂ e₃ e₄ = rw (e₄, e₃, e₂, first, tied, ne_eqb s.kind 1 k)

pub ruleset judging_resource = (judges-a-buffer, judges-a-texture, rules)
