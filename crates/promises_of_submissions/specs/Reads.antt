-- Each layout reads no more than its named fields, and a packet no more than those of its opcode's row; so neither reads past its own bytes. Assumes
-- nothing.
use Rattle.std.specs.Prelude.{◌≡◌, refl, Bool, true, false, List, [], ◌∷◌, ℕ, ◌+◌, ◌≤◌, eqb}
use Rattle.std.proofs.Common.{add-zero, arith}
use Rattle.machine.specs.Machine.{pick}
use Rattle.rules.specs.Numbers.{create_buffer, create_texture, destroy, dirty_range, copy_buffer, set_target, set_viewport, set_scissor, clear, export_surface, import_surface, release_token, create_buffer_size, create_texture_size, destroy_size, dirty_range_size, copy_buffer_size, set_target_size, set_viewport_size, set_scissor_size, clear_size, export_surface_size, import_surface_size, release_token_size}
use Rattle.rules.specs.Fields.{Field, width_of}
use Rattle.rules.specs.Layouts.{ring_header, ring_header_layout, descriptor, descriptor_layout, table_header, table_header_layout, entry, entry_layout, stream_header, stream_header_layout, buffer_layout, texture_layout, destroy_layout, dirty_layout, copy_layout, target_layout, viewport_layout, scissor_layout, clear_layout, share_layout, release_layout, buffer_fields, texture_fields, destroy_fields, dirty_fields, copy_fields, target_fields, viewport_floats, viewport_fields, scissor_fields, clear_floats, clear_fields, export_fields, import_fields, release_fields}
use Rattle.rules.specs.Lists.{Found}
use Rattle.rules.specs.Lists.Found.{none}
use Rattle.rules.specs.Stream.{unless_nan, known, bytes_in, says_in, least_size, packet_of}
use Rattle.rules.specs.PacketRows.{PacketRow, named_row, packet_row, known_of, known-is-packet-row, unknown-has-no-row}
use Rattle.rules.specs.Listed.{Named, placed, layout_in, packet_layout}
use Rattle.rules.specs.declared.Packet.TheVariants.{Buffer, Texture, Destroy, Dirty, Copy, Target, Viewport, Scissor, Clear, Export, Import, Release}
use Rattle.promises_of_packets.specs.Held.{Every}
use Rattle.promises_of_submissions.specs.LocalBytes.{Agree, agree-within}

-- two memories hold the same bytes in a named field, and in each of some
abbrev pub SameIn : List ℕ → List ℕ → Named → Type 0
SameIn m m' f = Agree m m' f.at f.width

abbrev pub AgreeOn : List ℕ → List ℕ → List Named → Type 0
AgreeOn m m' = Every (SameIn m m')

-- the fields of a layout end within its first n bytes
abbrev pub Ends : ℕ → List Field → Type 0
Ends n = Every (λ (f : Field). f.at + width_of f.type ≤ n)

-- where two memories hold the same n bytes, they agree on the fields that end there
pub agree-placed : (m m' : List ℕ) (base n : ℕ) → Agree m m' base n → (fs : List Field) → Ends n fs → AgreeOn m m' (placed base fs)
unfolding Every placed
agree-placed m m' base n same [] h = omega arith
agree-placed m m' base n same (f ∷ fs) h =
    (agree-within m m' base n same (width_of f.type) f.at h.0, agree-placed m m' base n same fs h.1)

-- ---- the headers, the descriptor and the entry, in memory

module _ (m m' : List ℕ) (at : ℕ) where
  -- the first field is at the place itself
  first : (w : ℕ) → Agree m m' (at + 0) w → Agree m m' at w
  first w s = rw add-zero at s

  pub named-ring-header : AgreeOn m m' (placed at ring_header_layout) → ring_header m at ≡ ring_header m' at
  unfolding Every placed ring_header
  named-ring-header s = let f = first 4 s.0 in cc

  pub named-descriptor : AgreeOn m m' (placed at descriptor_layout) → descriptor m at ≡ descriptor m' at
  unfolding Every placed descriptor
  named-descriptor s = let f = first 4 s.0 in cc

  pub named-table-header : AgreeOn m m' (placed at table_header_layout) → table_header m at ≡ table_header m' at
  unfolding Every placed table_header
  named-table-header s = let f = first 4 s.0 in cc

  pub named-entry : AgreeOn m m' (placed at entry_layout) → entry m at ≡ entry m' at
  unfolding Every placed entry
  named-entry s = let f = first 4 s.0 in cc

  pub named-stream-header : AgreeOn m m' (placed at stream_header_layout) → stream_header m at ≡ stream_header m' at
  unfolding Every placed stream_header
  named-stream-header s = let f = first 4 s.0 in cc

-- ---- a packet's own bytes, by the rows of the table of opcodes

-- a row's packet is read from the row's fields alone, and these lie in the row's bytes; where there is no row there is no field

record ReadsNamed (f : Found PacketRow) : Type 0 where
  same : (b b' : List ℕ) → AgreeOn b b' (placed 0 (layout_in f)) → says_in (known_of f) b ≡ says_in (known_of f) b'
  inside : Ends (bytes_in (known_of f)) (layout_in f)

reads-pick : {f g : Found PacketRow} (t : Bool) → ReadsNamed f → ReadsNamed g → ReadsNamed (pick t f g)
reads-pick true p q = p
reads-pick false p q = q

buffer-reads : ReadsNamed (named_row "CreateBuffer" create_buffer_size buffer_layout (λ b. Buffer (buffer_fields b)))
unfolding Every placed buffer_fields
buffer-reads = record { same = λ b b' s. cc; inside = search arith }

texture-reads : ReadsNamed (named_row "CreateTexture" create_texture_size texture_layout (λ b. Texture (texture_fields b)))
unfolding Every placed texture_fields
texture-reads = record { same = λ b b' s. cc; inside = search arith }

destroy-reads : ReadsNamed (named_row "Destroy" destroy_size destroy_layout (λ b. Destroy (destroy_fields b)))
unfolding Every placed destroy_fields
destroy-reads = record { same = λ b b' s. cc; inside = search arith }

dirty-reads : ReadsNamed (named_row "DirtyRange" dirty_range_size dirty_layout (λ b. Dirty (dirty_fields b)))
unfolding Every placed dirty_fields
dirty-reads = record { same = λ b b' s. cc; inside = search arith }

copy-reads : ReadsNamed (named_row "CopyBuffer" copy_buffer_size copy_layout (λ b. Copy (copy_fields b)))
unfolding Every placed copy_fields
copy-reads = record { same = λ b b' s. cc; inside = search arith }

target-reads : ReadsNamed (named_row "Target" set_target_size target_layout (λ b. Target (target_fields b)))
unfolding Every placed target_fields
target-reads = record { same = λ b b' s. cc; inside = search arith }

viewport-reads : ReadsNamed (named_row "Viewport" set_viewport_size viewport_layout (λ b. unless_nan (viewport_floats b) (Viewport (viewport_fields b))))
unfolding Every placed viewport_fields
viewport-reads = record { same = λ b b' s. cc; inside = search arith }

scissor-reads : ReadsNamed (named_row "Scissor" set_scissor_size scissor_layout (λ b. Scissor (scissor_fields b)))
unfolding Every placed scissor_fields
scissor-reads = record { same = λ b b' s. cc; inside = search arith }

clear_reads : ReadsNamed (named_row "Clear" clear_size clear_layout (λ b. unless_nan (clear_floats b) (Clear (clear_fields b))))
unfolding Every placed clear_fields
clear_reads = record { same = λ b b' s. cc; inside = search arith }

export-reads : ReadsNamed (named_row "Export" export_surface_size share_layout (λ b. Export (export_fields b)))
unfolding Every placed export_fields
export-reads = record { same = λ b b' s. cc; inside = search arith }

import-reads : ReadsNamed (named_row "Import" import_surface_size share_layout (λ b. Import (import_fields b)))
unfolding Every placed import_fields
import-reads = record { same = λ b b' s. cc; inside = search arith }

release-reads : ReadsNamed (named_row "Release" release_token_size release_layout (λ b. Release (release_fields b)))
unfolding Every placed release_fields
release-reads = record { same = λ b b' s. cc; inside = search arith }

none_reads : ReadsNamed none
unfolding Every
none_reads = record { same = λ b b' s. refl; inside = omega arith }

known-reads : (op : ℕ) → ReadsNamed (packet_row op)
unfolding packet_row
known-reads op =
    reads-pick (eqb op create_buffer) buffer-reads
    (reads-pick (eqb op create_texture) texture-reads
    (reads-pick (eqb op destroy) destroy-reads
    (reads-pick (eqb op dirty_range) dirty-reads
    (reads-pick (eqb op copy_buffer) copy-reads
    (reads-pick (eqb op set_target) target-reads
    (reads-pick (eqb op set_viewport) viewport-reads
    (reads-pick (eqb op set_scissor) scissor-reads
    (reads-pick (eqb op clear) clear_reads
    (reads-pick (eqb op export_surface) export-reads
    (reads-pick (eqb op import_surface) import-reads
    (reads-pick (eqb op release_token) release-reads none_reads)))))))))))

-- a packet says the same whatever the bytes outside its named fields are, and an unknown one whatever its bytes are
pub named-packet : (op : ℕ) (b b' : List ℕ) → AgreeOn b b' (placed 0 (packet_layout op)) → packet_of op b ≡ packet_of op b'
unfolding packet_of packet_layout
named-packet op b b' s = rw (known-is-packet-row op) ((known-reads op).same b b' s)

-- and its fields lie in the bytes that it has at least
pub named-inside : (op : ℕ) → Ends (least_size op) (packet_layout op)
unfolding least_size packet_layout
named-inside op = rw (known-is-packet-row op) ((known-reads op).inside)

-- an unknown one has none
pub unknown-names-nothing : (op : ℕ) → known op ≡ none → packet_layout op ≡ []
unfolding packet_layout
unknown-names-nothing op e = rw (unknown-has-no-row op e)
