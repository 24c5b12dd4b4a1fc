-- 01, "Layouts", and the "House layouts" of 02, wishes 5 and 7: where each field stands. Bytes not named are ignored.
-- Beside each reader stands the list of its fields: the offset, type and name of each.
use Rattle.std.specs.Prelude.{Bool, List, [], ◌∷◌, ◌++◌, ℕ, ◌+◌, ◌-◌, ◌/◌, eqb, ltb, ℤ, pos, negsuc}
use Rattle.machine.specs.Machine.{pick}
use Rattle.rules.specs.Numbers.{page_magic, version, minors, good_major}
use Rattle.rules.specs.Bytes.{field, bytes_of}
use Rattle.rules.specs.Fields.{Field, u32, u64, f32, i32}
use Rattle.rules.specs.Floats.{float_of}
use Rattle.rules.specs.declared.RingHeader.{RingHeader}
use Rattle.rules.specs.declared.Descriptor.{Descriptor}
use Rattle.rules.specs.declared.TableHeader.{TableHeader}
use Rattle.rules.specs.declared.Entry.{Entry}
use Rattle.rules.specs.declared.StreamHeader.{StreamHeader}
use Rattle.rules.specs.declared.CreateBuffer.{CreateBuffer}
use Rattle.rules.specs.declared.CreateTexture.{CreateTexture}
use Rattle.rules.specs.declared.DestroyResource.{DestroyResource}
use Rattle.rules.specs.declared.DirtyRange.{DirtyRange}
use Rattle.rules.specs.declared.CopyBuffer.{CopyBuffer}
use Rattle.rules.specs.declared.SetTarget.{SetTarget}
use Rattle.rules.specs.declared.SetViewport.{SetViewport}
use Rattle.rules.specs.declared.SetScissor.{SetScissor}
use Rattle.rules.specs.declared.ClearValues.{ClearValues}
use Rattle.rules.specs.declared.ExportSurface.{ExportSurface}
use Rattle.rules.specs.declared.ImportSurface.{ImportSurface}
use Rattle.rules.specs.declared.ReleaseToken.{ReleaseToken}

-- a u32 and a u64 at a byte offset
abbrev pub word : List ℕ → ℕ → ℕ
word = field 4

abbrev pub long : List ℕ → ℕ → ℕ
long = field 8

-- "A version is good when its major is 1; any minor passes."
abbrev pub good_version : ℕ → Bool
good_version v = eqb (v / minors) good_major

-- "Ring header, 64: 0 "ARNG", 4 version, 8 size, 12 count, 16 stride, 24 head, 28 tail."
abbrev pub ring_header_layout : List Field
ring_header_layout =
    u32 0 "magic" ∷ u32 4 "version" ∷ u32 8 "size" ∷ u32 12 "count" ∷ u32 16 "stride" ∷ u32 24 "head" ∷ u32 28 "tail" ∷ []

unfoldable pub ring_header : List ℕ → ℕ → RingHeader
ring_header m at =
    record {
      magic = word m at;
      version = word m (at + 4);
      size = word m (at + 8);
      count = word m (at + 12);
      stride = word m (at + 16);
      head = word m (at + 24);
      tail = word m (at + 28);
    }

abbrev pub ring_header_size : ℕ
ring_header_size = 64

abbrev pub head_offset : ℕ
head_offset = 24

-- "Descriptor, 64: 0 size, 4 flags (bit 0 no-IRQ), 16 cmd GPA u64, 24 cmd size, 32 table GPA u64, 40 table size, 48 signal fence u64."
abbrev pub descriptor_layout : List Field
descriptor_layout =
    u32 0 "size"
    ∷ u32 4 "flags"
    ∷ u64 16 "cmd_gpa"
    ∷ u32 24 "cmd_size"
    ∷ u64 32 "table_gpa"
    ∷ u32 40 "table_size"
    ∷ u64 48 "signal_fence"
    ∷ []

unfoldable pub descriptor : List ℕ → ℕ → Descriptor
descriptor m at =
    record {
      size = word m at;
      flags = word m (at + 4);
      cmd = long m (at + 16);
      cmdsize = word m (at + 24);
      table = long m (at + 32);
      tablesize = word m (at + 40);
      signal = long m (at + 48);
    }

abbrev pub descriptor_size : ℕ
descriptor_size = 64

-- "Table header, 24: 0 "ALOC", 4 version, 8 size, 12 count, 16 stride."
abbrev pub table_header_layout : List Field
table_header_layout = u32 0 "magic" ∷ u32 4 "version" ∷ u32 8 "size" ∷ u32 12 "count" ∷ u32 16 "stride" ∷ []

unfoldable pub table_header : List ℕ → ℕ → TableHeader
table_header m at =
    record {
      magic = word m at;
      version = word m (at + 4);
      size = word m (at + 8);
      count = word m (at + 12);
      stride = word m (at + 16);
    }

abbrev pub table_header_size : ℕ
table_header_size = 24

-- "Entry, 32: 0 id, 4 flags (bit 0 read-only), 8 gpa u64, 16 size u64."
abbrev pub entry_layout : List Field
entry_layout = u32 0 "id" ∷ u32 4 "flags" ∷ u64 8 "gpa" ∷ u64 16 "size" ∷ []

unfoldable pub entry : List ℕ → ℕ → Entry
entry m at =
    record {
      id = word m at;
      flags = word m (at + 4);
      gpa = long m (at + 8);
      size = long m (at + 16);
    }

abbrev pub entry_size : ℕ
entry_size = 32

-- "Stream header, 24: 0 "ACMD", 4 version, 8 size."
abbrev pub stream_header_layout : List Field
stream_header_layout = u32 0 "magic" ∷ u32 4 "version" ∷ u32 8 "size" ∷ []

unfoldable pub stream_header : List ℕ → ℕ → StreamHeader
stream_header m at = record { magic = word m at; version = word m (at + 4); size = word m (at + 8) }

abbrev pub stream_header_size : ℕ
stream_header_size = 24

-- "Packet header, 8: 0 opcode, 4 size."
abbrev pub packet_header_layout : List Field
packet_header_layout = u32 0 "opcode" ∷ u32 4 "size" ∷ []

abbrev pub packet_header_size : ℕ
packet_header_size = 8

-- ---- the fields of a packet, from its own bytes

-- create buffer, 40: "8 handle, 16 size u64, 24 backing id, 28 backing offset"
abbrev pub buffer_layout : List Field
buffer_layout = u32 8 "handle" ∷ u64 16 "size" ∷ u32 24 "backing_id" ∷ u32 28 "backing_offset" ∷ []

unfoldable pub buffer_fields : List ℕ → CreateBuffer
buffer_fields b = record { handle = word b 8; size = long b 16; backing = word b 24; offset = word b 28 }

-- create texture, 56: "8 handle, 16 format, 20 width, 24 height, 28 mips, 32 layers, 36 pitch, 40 backing id, 44 backing offset"
abbrev pub texture_layout : List Field
texture_layout =
    u32 8 "handle"
    ∷ u32 16 "format"
    ∷ u32 20 "width"
    ∷ u32 24 "height"
    ∷ u32 28 "mips"
    ∷ u32 32 "layers"
    ∷ u32 36 "pitch"
    ∷ u32 40 "backing_id"
    ∷ u32 44 "backing_offset"
    ∷ []

unfoldable pub texture_fields : List ℕ → CreateTexture
texture_fields b =
    record {
      handle = word b 8;
      shape = record { format = word b 16; width = word b 20; height = word b 24; mips = word b 28; layers = word b 32 };
      pitch = word b 36;
      backing = word b 40;
      offset = word b 44;
    }

-- destroy, 16: "8 handle"
abbrev pub destroy_layout : List Field
destroy_layout = u32 8 "handle" ∷ []

unfoldable pub destroy_fields : List ℕ → DestroyResource
destroy_fields b = record { handle = word b 8 }

-- dirty range, 32: "8 handle, 16 offset u64, 24 size u64"
abbrev pub dirty_layout : List Field
dirty_layout = u32 8 "handle" ∷ u64 16 "offset" ∷ u64 24 "size" ∷ []

unfoldable pub dirty_fields : List ℕ → DirtyRange
dirty_fields b = record { handle = word b 8; offset = long b 16; size = long b 24 }

-- copy buffer, 48: "8 dst, 12 src, 16 dst offset u64, 24 src offset u64, 32 size u64, 40 flags (bit 0 writeback)"
abbrev pub copy_layout : List Field
copy_layout = u32 8 "dst" ∷ u32 12 "src" ∷ u64 16 "dst_offset" ∷ u64 24 "src_offset" ∷ u64 32 "size" ∷ u32 40 "flags" ∷ []

unfoldable pub copy_fields : List ℕ → CopyBuffer
copy_fields b =
    record {
      dst = word b 8;
      src = word b 12;
      dstoffset = long b 16;
      srcoffset = long b 24;
      size = long b 32;
      flags = word b 40;
    }

-- ---- those of 02, wish 7

-- target, 16: "handle at 8"
abbrev pub target_layout : List Field
target_layout = u32 8 "handle" ∷ []

unfoldable pub target_fields : List ℕ → SetTarget
target_fields b = record { handle = word b 8 }

-- viewport, 32: "six f32 from 8 (x, y, width, height, near, far)": their bits, and the floats
abbrev pub viewport_layout : List Field
viewport_layout = f32 8 "x" ∷ f32 12 "y" ∷ f32 16 "width" ∷ f32 20 "height" ∷ f32 24 "near" ∷ f32 28 "far" ∷ []

abbrev pub viewport_floats : List ℕ → List ℕ
viewport_floats b = word b 8 ∷ word b 12 ∷ word b 16 ∷ word b 20 ∷ word b 24 ∷ word b 28 ∷ []

unfoldable pub viewport_fields : List ℕ → SetViewport
viewport_fields b =
    record {
      x = float_of (word b 8);
      y = float_of (word b 12);
      width = float_of (word b 16);
      height = float_of (word b 20);
      near = float_of (word b 24);
      far = float_of (word b 28);
    }

-- an i32: from 2 ^ 31 on, the middle of the u32s, it is negative, and their last is -1
unfoldable pub signed : ℕ → ℤ
signed n = pick (ltb n 2147483648) (pos n) (negsuc (4294967295 - n))

-- scissor, 24: "four i32 from 8 (x, y, width, height)"
abbrev pub scissor_layout : List Field
scissor_layout = i32 8 "x" ∷ i32 12 "y" ∷ i32 16 "width" ∷ i32 20 "height" ∷ []

unfoldable pub scissor_fields : List ℕ → SetScissor
scissor_fields b =
    record { x = signed (word b 8); y = signed (word b 12); width = signed (word b 16); height = signed (word b 20) }

-- clear, 36: "flags, four f32 colour, f32 depth, u32 stencil", from 8 on
abbrev pub clear_layout : List Field
clear_layout =
    u32 8 "flags"
    ∷ f32 12 "red"
    ∷ f32 16 "green"
    ∷ f32 20 "blue"
    ∷ f32 24 "alpha"
    ∷ f32 28 "depth"
    ∷ u32 32 "stencil"
    ∷ []

abbrev pub clear_floats : List ℕ → List ℕ
clear_floats b = word b 12 ∷ word b 16 ∷ word b 20 ∷ word b 24 ∷ word b 28 ∷ []

unfoldable pub clear_fields : List ℕ → ClearValues
clear_fields b =
    record {
      flags = word b 8;
      red = float_of (word b 12);
      green = float_of (word b 16);
      blue = float_of (word b 20);
      alpha = float_of (word b 24);
      depth = float_of (word b 28);
      stencil = word b 32;
    }

-- ---- those of 02, wish 5

-- "1808 export and 1809 import, 24 bytes, handle at 8 and token at 16"
abbrev pub share_layout : List Field
share_layout = u32 8 "handle" ∷ u64 16 "token" ∷ []

unfoldable pub export_fields : List ℕ → ExportSurface
export_fields b = record { handle = word b 8; token = long b 16 }

unfoldable pub import_fields : List ℕ → ImportSurface
import_fields b = record { handle = word b 8; token = long b 16 }

-- "1810 release, 16 bytes, token at 8"
abbrev pub release_layout : List Field
release_layout = u64 8 "token" ∷ []

unfoldable pub release_fields : List ℕ → ReleaseToken
release_fields b = record { token = long b 8 }

-- ---- the fence page

-- "Fence page, 16 bytes: 0 "FENC", 4 version 65539, 8 completed fence u64."
unfoldable pub page_bytes : ℕ → List ℕ
page_bytes completed = bytes_of 4 page_magic ++ (bytes_of 4 version ++ bytes_of 8 completed)
