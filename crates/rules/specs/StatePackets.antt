-- 02, wish 7, "State packets": when a viewport, a clear or a scissor is error 30, and what a scissor leaves of its target.
use Rattle.std.specs.Prelude.{Bool, true, false, not, ◌||◌, List, [], ◌∷◌, ℕ, suc, ◌+◌, ◌-◌, min, ltb, eqb, ℤ, pos, negsuc, nat_abs}
use Rattle.machine.specs.Machine.{pick}
use Rattle.rules.specs.Numbers.{clips, most_flags}
use Rattle.rules.specs.Floats.{bits_of, not_finite_among, below, float_zero, outside}
use Rattle.rules.specs.declared.Shape.{Shape}
use Rattle.rules.specs.declared.SetViewport.{SetViewport}
use Rattle.rules.specs.declared.SetScissor.{SetScissor}
use Rattle.rules.specs.declared.ClearValues.{ClearValues}
use Rattle.rules.specs.declared.Record.{Record}

-- ---- viewport and clear, by the bits of their floats

-- "any infinity or NaN; viewport width or height not above 0; near above far or either outside 0 to 1"
unfoldable pub bad_bounds : ℕ → ℕ → ℕ → ℕ → ℕ → ℕ → Bool
bad_bounds x y width height near far =
    not_finite_among (x ∷ y ∷ width ∷ height ∷ near ∷ far ∷ [])
    || (not (below float_zero width) || (not (below float_zero height) || (below far near || (outside near || outside far))))

unfoldable pub bad_viewport : SetViewport → Bool
bad_viewport v =
    bad_bounds (bits_of v.x) (bits_of v.y) (bits_of v.width) (bits_of v.height) (bits_of v.near) (bits_of v.far)

-- "any infinity or NaN .. clear depth outside 0 to 1; clear flags above 7", whatever the flags ask for
unfoldable pub bad_values : ℕ → ℕ → ℕ → ℕ → ℕ → ℕ → Bool
bad_values flags red green blue alpha depth =
    not_finite_among (red ∷ green ∷ blue ∷ alpha ∷ depth ∷ []) || (outside depth || ltb most_flags flags)

unfoldable pub bad_clear : ClearValues → Bool
bad_clear c =
    bad_values c.flags (bits_of c.red) (bits_of c.green) (bits_of c.blue) (bits_of c.alpha) (bits_of c.depth)

-- ---- scissor

-- "scissor sides negative"
abbrev pub negative : ℤ → Bool
negative (pos n) = false
negative (negsuc n) = true

unfoldable pub bad_sides : SetScissor → Bool
bad_sides c = negative c.width || negative c.height

-- "clipped to the target over plain integers, negative corners included". Along one side of the target: where the part from x on, so many
-- long, begins and ends there (both 0 where they lie before the target), and how much of it lies before the target's end. Less than nothing is
-- nothing: so the difference of two numbers is taken here
abbrev pub begins : ℤ → ℕ
begins (pos n) = n
begins (negsuc n) = 0

abbrev pub ends : ℤ → ℕ → ℕ
ends (pos n) long = n + long
ends (negsuc n) long = long - suc n

unfoldable pub common : ℤ → ℕ → ℕ → ℕ
common x long side = min (ends x long) side - begins x

-- "a record of kind 4 (left, top, width, height ..)", in the places of handle, id, GPA and length (docs/DECISIONS.md, 90)
abbrev pub rectangle : ℕ → ℕ → ℕ → ℕ → Record
rectangle left top width height = record { kind = clips; handle = left; id = top; gpa = width; length = height }

-- "all 0 if empty"
abbrev pub unless_empty : ℕ → ℕ → ℕ → ℕ → Record
unless_empty left top width height =
    pick (eqb width 0 || eqb height 0) (rectangle 0 0 0 0) (rectangle left top width height)

-- what a scissor leaves of a texture's first mip
unfoldable pub clip_of : Shape → SetScissor → Record
clip_of s c =
    unless_empty (begins c.x) (begins c.y) (common c.x (nat_abs c.width) s.width) (common c.y (nat_abs c.height) s.height)
