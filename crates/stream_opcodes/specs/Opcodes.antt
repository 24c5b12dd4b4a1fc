-- The table of opcodes by its rows, and what reading by it asks for. Assumes nothing.
use Rattle.std.proofs.Math.Path.{◌≡◌, refl}
use Rattle.std.proofs.Common.{sym, ◌∙◌, arith, rules}
use Rattle.std.specs.Prelude.{Bool, List, ℕ, ◌≤◌, ◌<◌, ltb, length, None, Option, Some}
use Rattle.std.proofs.Math.Bool.{true, false}
use borrow.Author.Tests.{ne_eqb, lt-ltb, le-ltb}
use Rattle.machine.specs.Machine.{pick}
use Rattle.rules.specs.Numbers.{create_buffer, create_texture, destroy, dirty_range, copy_buffer, set_target, set_viewport, set_scissor, clear, export_surface, import_surface, release_token, create_buffer_size, create_texture_size, destroy_size, dirty_range_size, copy_buffer_size, set_target_size, set_viewport_size, set_scissor_size, clear_size, export_surface_size, import_surface_size, release_token_size}
use Rattle.rules.specs.Layouts.{long, buffer_fields, texture_fields, destroy_fields, dirty_fields, copy_fields, target_fields, viewport_floats, viewport_fields, scissor_fields, clear_floats, clear_fields, export_fields, import_fields, release_fields}
use Rattle.rules.specs.Stream.{unless_nan, known, least_size, packet_of}
use Rattle.rules.specs.Lists.Found.{none}
use Rattle.rules.specs.declared.CreateBuffer.{CreateBuffer}
use Rattle.rules.specs.declared.CreateTexture.{CreateTexture}
use Rattle.rules.specs.declared.DestroyResource.{DestroyResource}
use Rattle.rules.specs.declared.DirtyRange.{DirtyRange}
use Rattle.rules.specs.declared.CopyBuffer.{CopyBuffer}
use Rattle.rules.specs.declared.SetTarget.{SetTarget}
use Rattle.rules.specs.declared.SetScissor.{SetScissor}
use Rattle.rules.specs.declared.ExportSurface.{ExportSurface}
use Rattle.rules.specs.declared.ImportSurface.{ImportSurface}
use Rattle.rules.specs.declared.ReleaseToken.{ReleaseToken}
use Rattle.rules.specs.declared.Packet.{Packet}
use Rattle.rules.specs.declared.Packet.TheVariants.{Buffer, Texture, Destroy, Dirty, Copy, Target, Viewport, Scissor, Clear, Export, Import, Release, Unknown}

-- ---- the table of opcodes

-- what a packet's own bytes say, if they are no fewer than its opcode asks for
unfoldable pub reading : ℕ → List ℕ → Option Packet
reading op b = pick (ltb (length b) (least_size op)) None (Some (packet_of op b))

-- an opcode that is in none of its rows
module _ (op : ℕ) (n₁ : op ≡ create_buffer → ⊥) (n₂ : op ≡ create_texture → ⊥) (n₃ : op ≡ destroy → ⊥) (n₄ : op ≡ dirty_range → ⊥)
    (n₅ : op ≡ copy_buffer → ⊥) (n₆ : op ≡ set_target → ⊥) (n₇ : op ≡ set_viewport → ⊥) (n₈ : op ≡ set_scissor → ⊥) (n₉ : op ≡ clear → ⊥)
    (n₁₀ : op ≡ export_surface → ⊥) (n₁₁ : op ≡ import_surface → ⊥) (n₁₂ : op ≡ release_token → ⊥) where
  pub none-known : known op ≡ none
  unfolding known
  none-known =
      rw (
        ne_eqb op create_buffer n₁,
        ne_eqb op create_texture n₂,
        ne_eqb op destroy n₃,
        ne_eqb op dirty_range n₄,
        ne_eqb op copy_buffer n₅,
        ne_eqb op set_target n₆,
        ne_eqb op set_viewport n₇,
        ne_eqb op set_scissor n₈,
        ne_eqb op clear n₉,
        ne_eqb op export_surface n₁₀,
        ne_eqb op import_surface n₁₁,
        ne_eqb op release_token n₁₂,
      )

module _ (op : ℕ) (unknown : known op ≡ none) where
  pub known-none : 0 ≡ least_size op
  unfolding least_size
  known-none = rw unknown

  pub says_nothing : (b : List ℕ) → Unknown ≡ packet_of op b
  unfolding packet_of
  says_nothing b = rw unknown

module _ (op : ℕ) where
  pub known-buffer : op ≡ create_buffer → create_buffer_size ≡ least_size op
  unfolding least_size known
  known-buffer p = rw p

  pub known-texture : op ≡ create_texture → create_texture_size ≡ least_size op
  unfolding least_size known
  known-texture p = rw p

  pub known-destroy : op ≡ destroy → destroy_size ≡ least_size op
  unfolding least_size known
  known-destroy p = rw p

  pub known-dirty : op ≡ dirty_range → dirty_range_size ≡ least_size op
  unfolding least_size known
  known-dirty p = rw p

  pub known-copy : op ≡ copy_buffer → copy_buffer_size ≡ least_size op
  unfolding least_size known
  known-copy p = rw p

  pub known_target : op ≡ set_target → set_target_size ≡ least_size op
  unfolding least_size known
  known_target p = rw p

  pub known-viewport : op ≡ set_viewport → set_viewport_size ≡ least_size op
  unfolding least_size known
  known-viewport p = rw p

  pub known-scissor : op ≡ set_scissor → set_scissor_size ≡ least_size op
  unfolding least_size known
  known-scissor p = rw p

  pub known-clear : op ≡ clear → clear_size ≡ least_size op
  unfolding least_size known
  known-clear p = rw p

  pub known-export : op ≡ export_surface → export_surface_size ≡ least_size op
  unfolding least_size known
  known-export p = rw p

  pub known-import : op ≡ import_surface → import_surface_size ≡ least_size op
  unfolding least_size known
  known-import p = rw p

  pub known-release : op ≡ release_token → release_token_size ≡ least_size op
  unfolding least_size known
  known-release p = rw p

  module _ (b : List ℕ) where
    pub says-buffer : op ≡ create_buffer → (f : CreateBuffer) → f ≡ buffer_fields b → Buffer f ≡ packet_of op b
    unfolding packet_of known
    says-buffer p f q = rw (p, q)

    pub says-texture : op ≡ create_texture → (f : CreateTexture) → f ≡ texture_fields b → Texture f ≡ packet_of op b
    unfolding packet_of known
    says-texture p f q = rw (p, q)

    pub says-destroy : op ≡ destroy → (f : DestroyResource) → f ≡ destroy_fields b → Destroy f ≡ packet_of op b
    unfolding packet_of known
    says-destroy p f q = rw (p, q)

    pub says-dirty : op ≡ dirty_range → (f : DirtyRange) → f ≡ dirty_fields b → Dirty f ≡ packet_of op b
    unfolding packet_of known
    says-dirty p f q = rw (p, q)

    pub says-copy : op ≡ copy_buffer → (f : CopyBuffer) → f ≡ copy_fields b → Copy f ≡ packet_of op b
    unfolding packet_of known
    says-copy p f q = rw (p, q)

    pub says-target : op ≡ set_target → (f : SetTarget) → f ≡ target_fields b → Target f ≡ packet_of op b
    unfolding packet_of known
    says-target p f q = rw (p, q)

    pub says-viewport : op ≡ set_viewport → (f : Packet) → f ≡ unless_nan (viewport_floats b) (Viewport (viewport_fields b)) → f ≡ packet_of op b
    unfolding packet_of known
    says-viewport p f q = rw p q

    pub says-scissor : op ≡ set_scissor → (f : SetScissor) → f ≡ scissor_fields b → Scissor f ≡ packet_of op b
    unfolding packet_of known
    says-scissor p f q = rw (p, q)

    pub says-clear : op ≡ clear → (f : Packet) → f ≡ unless_nan (clear_floats b) (Clear (clear_fields b)) → f ≡ packet_of op b
    unfolding packet_of known
    says-clear p f q = rw p q

    pub says-export : op ≡ export_surface → (f : ExportSurface) → f ≡ export_fields b → Export f ≡ packet_of op b
    unfolding packet_of known
    says-export p f q = rw (p, q)

    pub says-import : op ≡ import_surface → (f : ImportSurface) → f ≡ import_fields b → Import f ≡ packet_of op b
    unfolding packet_of known
    says-import p f q = rw (p, q)

    pub says-release : op ≡ release_token → (f : ReleaseToken) → f ≡ release_fields b → Release f ≡ packet_of op b
    unfolding packet_of known
    says-release p f q = rw (p, q)

    -- a known packet that is too short says nothing; one from its own size upward, and an unknown one, say what stands there
    pub short-part : (size : ℕ) → size ≡ least_size op → length b < size → None ≡ reading op b
    unfolding reading
    short-part size is short = rw (← is, lt-ltb (length b) size short)

    pub long-part : (size : ℕ) → size ≡ least_size op → size ≤ length b → (p : Packet) → p ≡ packet_of op b → Some p ≡ reading op b
    unfolding reading
    long-part size is long p says = rw (← is, le-ltb (length b) size long, says)

    pub any_part : 0 ≡ least_size op → (p : Packet) → p ≡ packet_of op b → Some p ≡ reading op b
    any_part is p says = long-part 0 is (omega arith) p says

pub ruleset reading_part = (
  short-part,
  long-part,
  any_part,
  says-buffer,
  says-texture,
  says-destroy,
  says-dirty,
  says-copy,
  says-target,
  says-viewport,
  says-scissor,
  says-clear,
  says-export,
  says-import,
  says-release,
  says_nothing,
  known-buffer,
  known-texture,
  known-destroy,
  known-dirty,
  known-copy,
  known_target,
  known-viewport,
  known-scissor,
  known-clear,
  known-export,
  known-import,
  known-release,
  known-none,
  none-known,
  rules,
)

-- ---- what a reading says of the size

module _ (op : ℕ) (b : List ℕ) (x : Option Packet) (is : x ≡ reading op b) where
  abbrev by_size : Bool → Option Packet
  by_size w = pick w None (Some (packet_of op b))

  pub part-short : x ≡ None → ltb (length b) (least_size op) ≡ true
  unfolding reading
  part-short e = by_test (ltb (length b) (least_size op)) (sym is ∙ e)
    where
      by_test : (w : Bool) → by_size w ≡ None → w ≡ true
      by_test true h = refl
      by_test false h = absurd (let z : ◌≡◌ {A = ℕ} 0 1 = cc in omega arith)

  module _ (p : Packet) (e : x ≡ Some p) where
    right : (w : Bool) → by_size w ≡ Some p → (w ≡ false) × (p ≡ packet_of op b)
    right true h = absurd (let z : ◌≡◌ {A = ℕ} 0 1 = cc in omega arith)
    right false h = let same : p ≡ packet_of op b = cc in (refl, same)

    pub part_says : (ltb (length b) (least_size op) ≡ false) × (p ≡ packet_of op b)
    unfolding reading
    part_says = right (ltb (length b) (least_size op)) (sym is ∙ e)
