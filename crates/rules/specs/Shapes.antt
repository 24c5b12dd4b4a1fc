-- 01, "Shapes": which shapes are good, and where their bytes stand.
use Rattle.std.specs.Prelude.{Bool, ◌&&◌, ◌||◌, ℕ, zero, suc, ◌+◌, ◌-◌, ◌*◌, ◌/◌, ◌%◌, ◌^◌, ltb, leb, eqb, None, Option, Some}
use Rattle.machine.specs.Machine.{pick}
use Rattle.rules.specs.Numbers.{longest_side, most_halvings, most_layers}
use Rattle.rules.specs.declared.Shape.{Shape}

abbrev pub larger : ℕ → ℕ → ℕ
larger a b = pick (ltb a b) b a

-- "format 1, 2, 3 (4 bytes a pixel), 64 (8 bytes a 4x4 block), 65, 66 (16)": the bytes of a pixel or block; 0 for no format
unfoldable pub block_bytes : ℕ → ℕ
block_bytes f =
    pick (eqb f 1 || (eqb f 2 || eqb f 3)) 4
    (pick (eqb f 64) 8
    (pick (eqb f 65 || eqb f 66) 16 0))

-- the side of a block: a pixel is a block of side 1
unfoldable pub block_side : ℕ → ℕ
block_side f = pick (eqb f 64 || (eqb f 65 || eqb f 66)) 4 1

-- "halvings of the larger side until 1", of which there are at most k
unfoldable pub halvings : ℕ → ℕ → ℕ
halvings zero n = 0
halvings (suc k) n = pick (leb n 1) 0 (suc (halvings k (n / 2)))

-- "the full chain (halvings of the larger side until 1, plus one)"
unfoldable pub full_chain : ℕ → ℕ → ℕ
full_chain w h = suc (halvings most_halvings (larger w h))

-- "Mip m has sides max(1, side >> m)"
unfoldable pub mip_side : ℕ → ℕ → ℕ
mip_side s m = larger 1 (s / 2 ^ m)

-- "blocks round up"
unfoldable pub blocks : ℕ → ℕ → ℕ
blocks f s = (s + (block_side f - 1)) / block_side f

-- the bytes of a tight row of mip m; "minimum for mip 0" is that of mip 0
unfoldable pub tight : Shape → ℕ → ℕ
tight s m = blocks s.format (mip_side s.width m) * block_bytes s.format

-- "rows are block rows for 64 to 66"
unfoldable pub rows : Shape → ℕ → ℕ
rows s m = blocks s.format (mip_side s.height m)

-- "Mip 0 uses the pitch, others are tight"
unfoldable pub mip_bytes : Shape → ℕ → ℕ → ℕ
mip_bytes s pitch m = pick (eqb m 0) pitch (tight s m) * rows s m

-- "Layers outermost, no padding": subresource i is mip i % mips of layer i / mips, and stands after those below it
unfoldable pub offset_of : Shape → ℕ → ℕ → ℕ
offset_of s pitch zero = 0
offset_of s pitch (suc i) = offset_of s pitch i + mip_bytes s pitch (i % s.mips)

-- how many subresources there are
abbrev pub subresources : Shape → ℕ
subresources s = s.layers * s.mips

-- "width, height 1 to 16,384; mips 1 to the full chain; layers 1 to 256"
unfoldable pub good_shape : Shape → Bool
good_shape s =
    ltb 0 (block_bytes s.format)
    && (leb 1 s.width
    && (leb s.width longest_side
    && (leb 1 s.height
    && (leb s.height longest_side
    && (leb 1 s.mips
    && (leb s.mips (full_chain s.width s.height)
    && (leb 1 s.layers
    && leb s.layers most_layers)))))))

-- "Backed only: pitch >= minimum for mip 0"
unfoldable pub good_backed : Shape → ℕ → Bool
good_backed s pitch = good_shape s && leb (tight s 0) pitch

-- the bytes of a good texture
unfoldable pub texture_bytes : Shape → ℕ → ℕ
texture_bytes s pitch = offset_of s pitch (subresources s)

-- "a texture's packed size ..; 0 means a bad shape (judged as backed)"
unfoldable pub packed_size : Shape → ℕ → ℕ
packed_size s pitch = pick (good_backed s pitch) (texture_bytes s pitch) 0

-- the index of a mip of a layer
abbrev pub index_of : Shape → ℕ → ℕ → ℕ
index_of s layer mip = layer * s.mips + mip

-- where subresource i of a good texture starts
unfoldable pub start_of : Shape → ℕ → ℕ → Option ℕ
start_of s pitch i = pick (good_backed s pitch && ltb i (subresources s)) (Some (offset_of s pitch i)) None
