-- The named fields of a layout, a row a field: its reader reads the numbers of these rows (ByLayout.antt), and they are what is listed (02, wish 12). Two
-- numbers are also read by their offset alone: a packet's opcode and size, and the head that a settling writes.
use Rattle.std.specs.Prelude.{List, [], ◌∷◌, ℕ, zero, suc, ◌+◌, get_or}
use Prim.Native.String.{String}
use Rattle.rules.specs.Bytes.{field}

-- "u32 unless said"; floats and signed numbers have four bytes too
pub data FieldType : Type 0 where
  U32 : FieldType
  U64 : FieldType
  F32 : FieldType
  I32 : FieldType

abbrev pub width_of : FieldType → ℕ
width_of U32 = 4
width_of U64 = 8
width_of F32 = 4
width_of I32 = 4

-- "byte offset: field": its offset from the layout's first byte, its type, and its name
pub record Field : Type 0 where
  pub at : ℕ
  pub type : FieldType
  pub name : String

abbrev pub u32 : ℕ → String → Field
u32 at name = record { at = at; type = U32; name = name }

abbrev pub u64 : ℕ → String → Field
u64 at name = record { at = at; type = U64; name = name }

abbrev pub f32 : ℕ → String → Field
f32 at name = record { at = at; type = F32; name = name }

abbrev pub i32 : ℕ → String → Field
i32 at name = record { at = at; type = I32; name = name }

-- an offset from a base; offset 0 is the base itself, so that a layout's first field is read there
abbrev pub from : ℕ → ℕ → ℕ
from base zero = base
from base (suc k) = base + suc k

-- the number in a field's bytes, of the layout whose first byte is at `base`
abbrev pub number_of : Field → List ℕ → ℕ → ℕ
number_of f m base = field (width_of f.type) m (from base f.at)

-- the numbers of all fields, in layout order; and the one at a position, counted from 0 (0 past the end)
abbrev pub numbers_of : List Field → List ℕ → ℕ → List ℕ
numbers_of [] m base = []
numbers_of (f ∷ fs) m base = number_of f m base ∷ numbers_of fs m base

abbrev pub nth_of : List Field → List ℕ → ℕ → ℕ → ℕ
nth_of fs m base i = get_or (numbers_of fs m base) i 0
