-- 02, wish 7: "Floats are compared in the order of IEEE 754 as told from their u32 bits, -0 equal to 0." A float's bits are its sign, eight of
-- its exponent and 23 of its fraction, from the highest down.
use Rattle.std.specs.Prelude.{Bool, false, ◌||◌, List, [], ◌∷◌, ℕ, ◌+◌, ◌-◌, ◌%◌, ltb, leb, Float}
use Rattle.std.specs.Float.{binary32}
use Rattle.std.specs.Float.Ieee.{of_bits, to_bits}
use Rattle.machine.specs.Machine.{pick}

-- the float that some bits are, and its bits: "carried bit for bit". All NaNs are one float, whose bits are one of theirs
abbrev pub float_of : ℕ → Float
float_of b = of_bits binary32 b

abbrev pub bits_of : Float → ℕ
bits_of x = to_bits binary32 x

-- ---- what the bits say

-- the highest bit, 2 ^ 31: the sign
abbrev pub sign_bit : ℕ
sign_bit = 2147483648

-- the bits of an infinity, 255 * 2 ^ 23: an exponent of ones, no fraction. Those of a NaN are above them
abbrev pub infinity : ℕ
infinity = 2139095040

unfoldable pub is_nan_bits : ℕ → Bool
is_nan_bits b = ltb infinity (b % sign_bit)

-- "any infinity or NaN"
unfoldable pub not_finite : ℕ → Bool
not_finite b = leb infinity (b % sign_bit)

abbrev pub nan_among : List ℕ → Bool
nan_among [] = false
nan_among (b ∷ bs) = is_nan_bits b || nan_among bs

abbrev pub not_finite_among : List ℕ → Bool
not_finite_among [] = false
not_finite_among (b ∷ bs) = not_finite b || not_finite_among bs

-- ---- their order

-- a number that grows with the float, where that is no NaN: from both zeros, which have the same, up for those without a sign and down for
-- those with one
unfoldable pub key : ℕ → ℕ
key b = pick (ltb b sign_bit) (sign_bit + b) (sign_bit + sign_bit - b)

unfoldable pub below : ℕ → ℕ → Bool
below a b = ltb (key a) (key b)

-- the bits of 0 and of 1, which are 127 * 2 ^ 23
abbrev pub float_zero : ℕ
float_zero = 0

abbrev pub float_one : ℕ
float_one = 1065353216

-- "outside 0 to 1"
abbrev pub outside : ℕ → Bool
outside b = below b float_zero || below float_one b
