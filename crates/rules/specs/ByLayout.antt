-- Each reader of Layouts.antt reads the fields of its list: the number at its position, and no other. Assumes nothing.
use Rattle.std.specs.Prelude.{◌≡◌, refl, List, ℕ, take, drop}
use Rattle.rules.specs.Fields.{numbers_of, nth_of}
use Rattle.rules.specs.Floats.{float_of}
use Rattle.rules.specs.Layouts.{ring_header_layout, descriptor_layout, table_header_layout, entry_layout, stream_header_layout, buffer_layout, texture_layout, destroy_layout, dirty_layout, copy_layout, target_layout, viewport_layout, scissor_layout, clear_layout, share_layout, release_layout, ring_header, descriptor, table_header, entry, stream_header, buffer_fields, texture_fields, destroy_fields, dirty_fields, copy_fields, target_fields, viewport_floats, viewport_fields, scissor_fields, clear_floats, clear_fields, export_fields, import_fields, release_fields, signed}

module _ (m : List ℕ) (at : ℕ) where
  pub ring-header-by-layout : ring_header m at ≡ record { magic = nth_of ring_header_layout m at 0; version = nth_of ring_header_layout m at 1; size = nth_of ring_header_layout m at 2; count = nth_of ring_header_layout m at 3; stride = nth_of ring_header_layout m at 4; head = nth_of ring_header_layout m at 5; tail = nth_of ring_header_layout m at 6 }
  unfolding ring_header
  ring-header-by-layout = refl

  pub descriptor-by-layout : descriptor m at ≡ record { size = nth_of descriptor_layout m at 0; flags = nth_of descriptor_layout m at 1; cmd = nth_of descriptor_layout m at 2; cmdsize = nth_of descriptor_layout m at 3; table = nth_of descriptor_layout m at 4; tablesize = nth_of descriptor_layout m at 5; signal = nth_of descriptor_layout m at 6 }
  unfolding descriptor
  descriptor-by-layout = refl

  pub table-header-by-layout : table_header m at ≡ record { magic = nth_of table_header_layout m at 0; version = nth_of table_header_layout m at 1; size = nth_of table_header_layout m at 2; count = nth_of table_header_layout m at 3; stride = nth_of table_header_layout m at 4 }
  unfolding table_header
  table-header-by-layout = refl

  pub entry-by-layout : entry m at ≡ record { id = nth_of entry_layout m at 0; flags = nth_of entry_layout m at 1; gpa = nth_of entry_layout m at 2; size = nth_of entry_layout m at 3 }
  unfolding entry
  entry-by-layout = refl

  pub stream-header-by-layout : stream_header m at ≡ record { magic = nth_of stream_header_layout m at 0; version = nth_of stream_header_layout m at 1; size = nth_of stream_header_layout m at 2 }
  unfolding stream_header
  stream-header-by-layout = refl

-- ---- the fields of a packet

module _ (b : List ℕ) where
  pub buffer-fields-by-layout : buffer_fields b ≡ record { handle = nth_of buffer_layout b 0 0; size = nth_of buffer_layout b 0 1; backing = nth_of buffer_layout b 0 2; offset = nth_of buffer_layout b 0 3 }
  unfolding buffer_fields
  buffer-fields-by-layout = refl

  pub texture-fields-by-layout : texture_fields b ≡ record { handle = nth_of texture_layout b 0 0; shape = record { format = nth_of texture_layout b 0 1; width = nth_of texture_layout b 0 2; height = nth_of texture_layout b 0 3; mips = nth_of texture_layout b 0 4; layers = nth_of texture_layout b 0 5 }; pitch = nth_of texture_layout b 0 6; backing = nth_of texture_layout b 0 7; offset = nth_of texture_layout b 0 8 }
  unfolding texture_fields
  texture-fields-by-layout = refl

  pub destroy-fields-by-layout : destroy_fields b ≡ record { handle = nth_of destroy_layout b 0 0 }
  unfolding destroy_fields
  destroy-fields-by-layout = refl

  pub dirty-fields-by-layout : dirty_fields b ≡ record { handle = nth_of dirty_layout b 0 0; offset = nth_of dirty_layout b 0 1; size = nth_of dirty_layout b 0 2 }
  unfolding dirty_fields
  dirty-fields-by-layout = refl

  pub copy-fields-by-layout : copy_fields b ≡ record { dst = nth_of copy_layout b 0 0; src = nth_of copy_layout b 0 1; dstoffset = nth_of copy_layout b 0 2; srcoffset = nth_of copy_layout b 0 3; size = nth_of copy_layout b 0 4; flags = nth_of copy_layout b 0 5 }
  unfolding copy_fields
  copy-fields-by-layout = refl

  pub target-fields-by-layout : target_fields b ≡ record { handle = nth_of target_layout b 0 0 }
  unfolding target_fields
  target-fields-by-layout = refl

  pub viewport-floats-by-layout : viewport_floats b ≡ numbers_of viewport_layout b 0
  viewport-floats-by-layout = refl

  pub viewport-fields-by-layout : viewport_fields b ≡ record { x = float_of (nth_of viewport_layout b 0 0); y = float_of (nth_of viewport_layout b 0 1); width = float_of (nth_of viewport_layout b 0 2); height = float_of (nth_of viewport_layout b 0 3); near = float_of (nth_of viewport_layout b 0 4); far = float_of (nth_of viewport_layout b 0 5) }
  unfolding viewport_fields
  viewport-fields-by-layout = refl

  pub scissor-fields-by-layout : scissor_fields b ≡ record { x = signed (nth_of scissor_layout b 0 0); y = signed (nth_of scissor_layout b 0 1); width = signed (nth_of scissor_layout b 0 2); height = signed (nth_of scissor_layout b 0 3) }
  unfolding scissor_fields
  scissor-fields-by-layout = refl

  pub clear-floats-by-layout : clear_floats b ≡ take 5 (drop 1 (numbers_of clear_layout b 0))
  clear-floats-by-layout = refl

  pub clear-fields-by-layout : clear_fields b ≡ record { flags = nth_of clear_layout b 0 0; red = float_of (nth_of clear_layout b 0 1); green = float_of (nth_of clear_layout b 0 2); blue = float_of (nth_of clear_layout b 0 3); alpha = float_of (nth_of clear_layout b 0 4); depth = float_of (nth_of clear_layout b 0 5); stencil = nth_of clear_layout b 0 6 }
  unfolding clear_fields
  clear-fields-by-layout = refl

  pub export-fields-by-layout : export_fields b ≡ record { handle = nth_of share_layout b 0 0; token = nth_of share_layout b 0 1 }
  unfolding export_fields
  export-fields-by-layout = refl

  pub import-fields-by-layout : import_fields b ≡ record { handle = nth_of share_layout b 0 0; token = nth_of share_layout b 0 1 }
  unfolding import_fields
  import-fields-by-layout = refl

  pub release-fields-by-layout : release_fields b ≡ record { token = nth_of release_layout b 0 0 }
  unfolding release_fields
  release-fields-by-layout = refl
