-- Little-endian numbers of any width, and the fields of lent memory.
use Rattle.std.specs.Prelude.{List, [], ◌∷◌, ℕ, zero, suc, ◌+◌, ◌*◌, ◌/◌, ◌%◌, take, drop}

-- "Layouts (little-endian ..)": what some bytes say
unfoldable pub le : List ℕ → ℕ
le [] = 0
le (b ∷ bs) = b + 256 * le bs

-- the k little-endian bytes of v
unfoldable pub bytes_of : ℕ → ℕ → List ℕ
bytes_of zero v = []
bytes_of (suc k) v = v % 256 ∷ bytes_of k (v / 256)

-- the field of k bytes that stands at a byte offset
abbrev pub field : ℕ → List ℕ → ℕ → ℕ
field k m at = le (take k (drop at m))
