-- The table of opcodes with what a listing prints and what is listed of a packet: beside the size and the reader of each row, the packet's name and the list
-- of its fields. It is the table of Stream.antt, with these two.
use Rattle.std.specs.Prelude.{◌≡◌, refl, Bool, true, false, List, ℕ, eqb}
use Rattle.std.proofs.Common.{sym, ◌∙◌, arith}
use Prim.Native.String.{String}
use Rattle.machine.specs.Machine.{pick}
use Rattle.rules.specs.Numbers.{create_buffer, create_texture, destroy, dirty_range, copy_buffer, set_target, set_viewport, set_scissor, clear, export_surface, import_surface, release_token, create_buffer_size, create_texture_size, destroy_size, dirty_range_size, copy_buffer_size, set_target_size, set_viewport_size, set_scissor_size, clear_size, export_surface_size, import_surface_size, release_token_size}
use Rattle.rules.specs.Fields.{Field}
use Rattle.rules.specs.Layouts.{buffer_layout, texture_layout, destroy_layout, dirty_layout, copy_layout, target_layout, viewport_layout, scissor_layout, clear_layout, share_layout, release_layout, buffer_fields, texture_fields, destroy_fields, dirty_fields, copy_fields, target_fields, viewport_floats, viewport_fields, scissor_fields, clear_floats, clear_fields, export_fields, import_fields, release_fields}
use Rattle.rules.specs.Lists.{Found}
use Rattle.rules.specs.Lists.Found.{none, found}
use Rattle.rules.specs.Stream.{Known, unless_nan, known}
use Rattle.rules.specs.declared.Packet.{Packet}
use Rattle.rules.specs.declared.Packet.TheVariants.{Buffer, Texture, Destroy, Dirty, Copy, Target, Viewport, Scissor, Clear, Export, Import, Release}

-- a known packet: its name, its table size, its layout, and the reader of its bytes
pub record PacketRow : Type 0 where
  pub name : String
  pub size : ℕ
  pub layout : List Field
  pub fields : List ℕ → Packet

abbrev pub named_row : String → ℕ → List Field → (List ℕ → Packet) → Found PacketRow
named_row name size layout fields = found (record { name = name; size = size; layout = layout; fields = fields })

-- "Opcode | Packet, bytes | Fields": each row once. The last seven are those of wishes 7 and 5.
unfoldable pub packet_row : ℕ → Found PacketRow
packet_row op =
    pick (eqb op create_buffer) (named_row "CreateBuffer" create_buffer_size buffer_layout (λ b. Buffer (buffer_fields b)))
    (pick (eqb op create_texture) (named_row "CreateTexture" create_texture_size texture_layout (λ b. Texture (texture_fields b)))
    (pick (eqb op destroy) (named_row "Destroy" destroy_size destroy_layout (λ b. Destroy (destroy_fields b)))
    (pick (eqb op dirty_range) (named_row "DirtyRange" dirty_range_size dirty_layout (λ b. Dirty (dirty_fields b)))
    (pick (eqb op copy_buffer) (named_row "CopyBuffer" copy_buffer_size copy_layout (λ b. Copy (copy_fields b)))
    (pick (eqb op set_target) (named_row "Target" set_target_size target_layout (λ b. Target (target_fields b)))
    (pick (eqb op set_viewport)
    (named_row "Viewport" set_viewport_size viewport_layout (λ b. unless_nan (viewport_floats b) (Viewport (viewport_fields b))))
    (pick (eqb op set_scissor) (named_row "Scissor" set_scissor_size scissor_layout (λ b. Scissor (scissor_fields b)))
    (pick (eqb op clear) (named_row "Clear" clear_size clear_layout (λ b. unless_nan (clear_floats b) (Clear (clear_fields b))))
    (pick (eqb op export_surface) (named_row "Export" export_surface_size share_layout (λ b. Export (export_fields b)))
    (pick (eqb op import_surface) (named_row "Import" import_surface_size share_layout (λ b. Import (import_fields b)))
    (pick (eqb op release_token) (named_row "Release" release_token_size release_layout (λ b. Release (release_fields b))) none)))))))))))

-- a row without its name and its layout
abbrev pub known_of : Found PacketRow → Found Known
known_of none = none
known_of (found r) = found (record { size = r.size; fields = r.fields })

-- ---- it is the table of Stream.antt

row-drops : (t : Bool) (f g : Found PacketRow) (k : Found Known) → k ≡ known_of g → pick t (known_of f) k ≡ known_of (pick t f g)
row-drops true f g k e = refl
row-drops false f g k e = e

pub known-is-packet-row : (op : ℕ) → known op ≡ known_of (packet_row op)
unfolding known packet_row
known-is-packet-row op =
    row-drops (eqb op create_buffer) _ _ _
    (row-drops (eqb op create_texture) _ _ _
    (row-drops (eqb op destroy) _ _ _
    (row-drops (eqb op dirty_range) _ _ _
    (row-drops (eqb op copy_buffer) _ _ _
    (row-drops (eqb op set_target) _ _ _
    (row-drops (eqb op set_viewport) _ _ _
    (row-drops (eqb op set_scissor) _ _ _
    (row-drops (eqb op clear) _ _ _
    (row-drops (eqb op export_surface) _ _ _
    (row-drops (eqb op import_surface) _ _ _
    (row-drops (eqb op release_token) _ _ _ refl)))))))))))

-- so an opcode is in no row of the one exactly where it is in none of the other
pub unknown-has-no-row : (op : ℕ) → known op ≡ none → packet_row op ≡ none
unknown-has-no-row op e = by_row (packet_row op) (sym (known-is-packet-row op) ∙ e)
  where
    by_row : (f : Found PacketRow) → known_of f ≡ none → f ≡ none
    by_row none h = refl
    by_row (found r) h = absurd (let z : ◌≡◌ {A = ℕ} 0 1 = cc in omega arith)

pub no-row-is-unknown : (op : ℕ) → packet_row op ≡ none → known op ≡ none
no-row-is-unknown op e = rw (known-is-packet-row op, e)
