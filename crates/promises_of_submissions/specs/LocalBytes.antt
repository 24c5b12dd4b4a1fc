-- Two memories that hold the same bytes in a range, and that the fields, the layouts and the packets of the rules read only their own
-- range. Assumes nothing.
use Rattle.std.specs.Prelude.{◌≡◌, refl, Bool, true, false, List, [], ◌∷◌, ℕ, zero, suc, ◌+◌, ◌≤◌, eqb, take, drop}
use Rattle.std.proofs.Common.{sym, ap, ◌∙◌, add-zero, arith, drop-drop, take-take}
use Rattle.machine.specs.Machine.{pick}
use Rattle.rules.specs.Numbers.{create_buffer, create_texture, destroy, dirty_range, copy_buffer, set_target, set_viewport, set_scissor, clear, export_surface, import_surface, release_token, create_buffer_size, create_texture_size, destroy_size, dirty_range_size, copy_buffer_size, set_target_size, set_viewport_size, set_scissor_size, clear_size, export_surface_size, import_surface_size, release_token_size}
use Rattle.rules.specs.Bytes.{le, field}
use Rattle.rules.specs.Layouts.{ring_header, ring_header_size, descriptor, descriptor_size, table_header, table_header_size, entry, entry_size, stream_header, stream_header_size, buffer_fields, texture_fields, destroy_fields, dirty_fields, copy_fields, target_fields, viewport_floats, viewport_fields, scissor_fields, clear_floats, clear_fields, export_fields, import_fields, release_fields}
use Rattle.rules.specs.Lists.{Found}
use Rattle.rules.specs.Lists.Found.{none}
use Rattle.rules.specs.Stream.{Known, row, unless_nan, known, bytes_in, says_in, least_size, packet_of}
use Rattle.rules.specs.declared.Packet.TheVariants.{Buffer, Texture, Destroy, Dirty, Copy, Target, Viewport, Scissor, Clear, Export, Import, Release}

-- m and m' hold the same n bytes from `at` on
abbrev pub Agree : List ℕ → List ℕ → ℕ → ℕ → Type 0
Agree m m' at n = take n (drop at m) ≡ take n (drop at m')

-- what is read within the front of a list is read of the list
pub front_read : {A : Type 0} (w k n : ℕ) (l : List A) → k + w ≤ n → take w (drop k (take n l)) ≡ take w (drop k l)
front_read w zero n l h = take-take w n l (omega arith)
front_read zero (suc k) n l h = refl
front_read (suc w) (suc k) zero l h = absurd (omega arith)
front_read (suc w) (suc k) (suc n) [] h = refl
front_read (suc w) (suc k) (suc n) (x ∷ xs) h = front_read (suc w) k n xs (omega arith)

-- where two memories hold the same bytes, they do so in any part of these, and say the same there
module _ (m m' : List ℕ) (at n : ℕ) (same : Agree m m' at n) where
  pub agree-within : (w k : ℕ) → k + w ≤ n → Agree m m' (at + k) w
  agree-within w k h = rw (← drop-drop k at m, ← drop-drop k at m', ← front_read w k n (drop at m) h, ← front_read w k n (drop at m') h, same)

  pub same-field : (w k : ℕ) → k + w ≤ n → field w m (at + k) ≡ field w m' (at + k)
  same-field w k h = ap le (agree-within w k h)

  pub same_first : (w : ℕ) → w ≤ n → field w m at ≡ field w m' at
  same_first w h = ap (λ (i : ℕ). field w m i) (sym (add-zero at)) ∙ (same-field w 0 (omega arith) ∙ ap (λ (i : ℕ). field w m' i) (add-zero at))

-- each layout reads no more than its own bytes
module _ (m m' : List ℕ) (at : ℕ) where
  pub same-ring-header : Agree m m' at ring_header_size → ring_header m at ≡ ring_header m' at
  unfolding ring_header
  same-ring-header s =
      let offset = same-field m m' at ring_header_size s 4 in
      rw (same_first m m' at ring_header_size s 4 (omega arith), offset 4 (omega arith), offset 8 (omega arith), offset 12 (omega arith), offset 16 (omega arith), offset 24 (omega arith), offset 28 (omega arith))

  pub same-descriptor : Agree m m' at descriptor_size → descriptor m at ≡ descriptor m' at
  unfolding descriptor
  same-descriptor s =
      let offset = same-field m m' at descriptor_size s in
      rw (same_first m m' at descriptor_size s 4 (omega arith), offset 4 4 (omega arith), offset 8 16 (omega arith), offset 4 24 (omega arith), offset 8 32 (omega arith), offset 4 40 (omega arith), offset 8 48 (omega arith))

  pub same-table-header : Agree m m' at table_header_size → table_header m at ≡ table_header m' at
  unfolding table_header
  same-table-header s =
      let offset = same-field m m' at table_header_size s 4 in
      rw (same_first m m' at table_header_size s 4 (omega arith), offset 4 (omega arith), offset 8 (omega arith), offset 12 (omega arith), offset 16 (omega arith))

  pub same-entry : Agree m m' at entry_size → entry m at ≡ entry m' at
  unfolding entry
  same-entry s =
      let offset = same-field m m' at entry_size s in
      rw (same_first m m' at entry_size s 4 (omega arith), offset 4 4 (omega arith), offset 8 8 (omega arith), offset 8 16 (omega arith))

  pub same-stream-header : Agree m m' at stream_header_size → stream_header m at ≡ stream_header m' at
  unfolding stream_header
  same-stream-header s =
      let offset = same-field m m' at stream_header_size s 4 in
      rw (same_first m m' at stream_header_size s 4 (omega arith), offset 4 (omega arith), offset 8 (omega arith))

-- ---- a packet's own bytes, by the rows of the table of opcodes

-- what a row's packet says stands in its first bytes, as many as the row has; where there is no row, nothing is read
record WithinRow (f : Found Known) : Type 0 where
  same : (b b' : List ℕ) → Agree b b' 0 (bytes_in f) → says_in f b ≡ says_in f b'

within-pick : {f g : Found Known} (t : Bool) → WithinRow f → WithinRow g → WithinRow (pick t f g)
within-pick true p q = p
within-pick false p q = q

buffer-within : WithinRow (row create_buffer_size (λ b. Buffer (buffer_fields b)))
unfolding buffer_fields
buffer-within =
    record {
      same = λ b b' s.
          let offset = same-field b b' 0 create_buffer_size s in
          rw (offset 4 8 (omega arith), offset 8 16 (omega arith), offset 4 24 (omega arith), offset 4 28 (omega arith));
    }

texture-within : WithinRow (row create_texture_size (λ b. Texture (texture_fields b)))
unfolding texture_fields
texture-within =
    record {
      same = λ b b' s.
          let offset = same-field b b' 0 create_texture_size s 4 in
          rw (offset 8 (omega arith), offset 16 (omega arith), offset 20 (omega arith), offset 24 (omega arith), offset 28 (omega arith), offset 32 (omega arith), offset 36 (omega arith), offset 40 (omega arith), offset 44 (omega arith));
    }

destroy-within : WithinRow (row destroy_size (λ b. Destroy (destroy_fields b)))
unfolding destroy_fields
destroy-within = record { same = λ b b' s. rw (same-field b b' 0 destroy_size s 4 8 (omega arith)) }

dirty-within : WithinRow (row dirty_range_size (λ b. Dirty (dirty_fields b)))
unfolding dirty_fields
dirty-within =
    record {
      same = λ b b' s.
          let offset = same-field b b' 0 dirty_range_size s in
          rw (offset 4 8 (omega arith), offset 8 16 (omega arith), offset 8 24 (omega arith));
    }

copy-within : WithinRow (row copy_buffer_size (λ b. Copy (copy_fields b)))
unfolding copy_fields
copy-within =
    record {
      same = λ b b' s.
          let offset = same-field b b' 0 copy_buffer_size s in
          rw (offset 4 8 (omega arith), offset 4 12 (omega arith), offset 8 16 (omega arith), offset 8 24 (omega arith), offset 8 32 (omega arith), offset 4 40 (omega arith));
    }

target-within : WithinRow (row set_target_size (λ b. Target (target_fields b)))
unfolding target_fields
target-within = record { same = λ b b' s. rw (same-field b b' 0 set_target_size s 4 8 (omega arith)) }

viewport-within : WithinRow (row set_viewport_size (λ b. unless_nan (viewport_floats b) (Viewport (viewport_fields b))))
unfolding viewport_fields
viewport-within =
    record {
      same = λ b b' s.
          let offset = same-field b b' 0 set_viewport_size s 4 in
          rw (offset 8 (omega arith), offset 12 (omega arith), offset 16 (omega arith), offset 20 (omega arith), offset 24 (omega arith), offset 28 (omega arith));
    }

scissor-within : WithinRow (row set_scissor_size (λ b. Scissor (scissor_fields b)))
unfolding scissor_fields
scissor-within =
    record {
      same = λ b b' s.
          let offset = same-field b b' 0 set_scissor_size s 4 in
          rw (offset 8 (omega arith), offset 12 (omega arith), offset 16 (omega arith), offset 20 (omega arith));
    }

clear-within : WithinRow (row clear_size (λ b. unless_nan (clear_floats b) (Clear (clear_fields b))))
unfolding clear_fields
clear-within =
    record {
      same = λ b b' s.
          let offset = same-field b b' 0 clear_size s 4 in
          rw (offset 8 (omega arith), offset 12 (omega arith), offset 16 (omega arith), offset 20 (omega arith), offset 24 (omega arith), offset 28 (omega arith), offset 32 (omega arith));
    }

export-within : WithinRow (row export_surface_size (λ b. Export (export_fields b)))
unfolding export_fields
export-within =
    record {
      same = λ b b' s.
          let offset = same-field b b' 0 export_surface_size s in
          rw (offset 4 8 (omega arith), offset 8 16 (omega arith));
    }

import-within : WithinRow (row import_surface_size (λ b. Import (import_fields b)))
unfolding import_fields
import-within =
    record {
      same = λ b b' s.
          let offset = same-field b b' 0 import_surface_size s in
          rw (offset 4 8 (omega arith), offset 8 16 (omega arith));
    }

release-within : WithinRow (row release_token_size (λ b. Release (release_fields b)))
unfolding release_fields
release-within = record { same = λ b b' s. rw (same-field b b' 0 release_token_size s 8 8 (omega arith)) }

none-within : WithinRow none
none-within = record { same = λ b b' s. refl }

known-within : (op : ℕ) → WithinRow (known op)
unfolding known
known-within op =
    within-pick (eqb op create_buffer) buffer-within
    (within-pick (eqb op create_texture) texture-within
    (within-pick (eqb op destroy) destroy-within
    (within-pick (eqb op dirty_range) dirty-within
    (within-pick (eqb op copy_buffer) copy-within
    (within-pick (eqb op set_target) target-within
    (within-pick (eqb op set_viewport) viewport-within
    (within-pick (eqb op set_scissor) scissor-within
    (within-pick (eqb op clear) clear-within
    (within-pick (eqb op export_surface) export-within
    (within-pick (eqb op import_surface) import-within
    (within-pick (eqb op release_token) release-within none-within)))))))))))

-- a packet says the same whatever stands past its row's bytes, and an unknown one whatever its bytes are
pub packet-reads-only : (op : ℕ) (b b' : List ℕ) → Agree b b' 0 (least_size op) → packet_of op b ≡ packet_of op b'
unfolding least_size packet_of
packet-reads-only op b b' same = (known-within op).same b b' same
