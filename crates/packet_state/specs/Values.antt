-- When a viewport or a clear is bad, and what it comes to, a law for each end. Assumes nothing.
use Rattle.std.specs.Prelude.{◌≡◌, refl, Bool, true, false, not, ◌||◌, List, ℕ, ◌+◌, ◌-◌, ◌%◌, ◌≤◌, ◌<◌, ltb, leb}
use Rattle.std.proofs.Common.{sym, ap, ◌∙◌, arith, rules}
use borrow.Author.Tests.{ltb-true, ltb-false, leb-true, leb-false, lt-ltb, le-ltb, le-leb, lt-leb}
use Rattle.rules.specs.Numbers.{most, most_flags}
use Rattle.rules.specs.Floats.{bits_of, not_finite, sign_bit, infinity, key, below, float_zero, float_one, outside}
use Rattle.rules.specs.StatePackets.{bad_bounds, bad_viewport, bad_values, bad_clear}
use Rattle.rules.specs.Packets.{on_viewport_packet, on_clear_packet}
use Rattle.rules.specs.declared.SetViewport.{SetViewport}
use Rattle.rules.specs.declared.ClearValues.{ClearValues}
use Rattle.rules.specs.declared.Refusal.TheVariants.{BadState}
use Rattle.floats.specs.Bits.{key-up, key-down}
use Rattle.kept_resources.specs.Views.{holdings_of}
use Rattle.packet_ranges.specs.Views.{Applies, refused_with}
use Rattle.packet_ranges.specs.Handout.{accepted_with}
use Rattle.packet_ranges.specs.declared.applied.Applied.{Applied}

-- ---- tests one after another, each of which may decide

module _ (p q a : Bool) (is : a ≡ p) where
  pub first_holds : a ≡ true → true ≡ (p || q)
  first_holds t = rw (← is, t)

  pub second-decides : (b : Bool) → a ≡ false → b ≡ q → b ≡ (p || q)
  second-decides b t e = rw (← is, t) e

pub ruleset deciding = (first_holds, second-decides, rules)

-- ---- bad_depths, bad_depth

-- bits up to those of 1 are floats in order
low-key : (b : ℕ) → b ≤ float_one → key b ≡ sign_bit + b
low-key b h = sym (key-up b (omega arith))

in_order : (a b : ℕ) → a ≤ float_one → b ≤ a → below a b ≡ false
unfolding below
in_order a b h l = rw (low-key a h, low-key b (omega arith)) (le-ltb (sign_bit + a) (sign_bit + b) (omega arith))

low-finite : (b : ℕ) → b ≤ float_one → not_finite b ≡ false
unfolding not_finite
low-finite b h = lt-leb infinity (b % sign_bit) (omega arith)

pub depths-good : (near far : ℕ) → near ≤ far → far ≤ float_one → false ≡ ((not_finite near || not_finite far) || (below far near || (outside near || outside far)))
depths-good near far l h =
    let low : near ≤ float_one = omega arith in
    rw (low-finite near low, low-finite far h, in_order far near h l, in_order near float_zero low (omega arith), in_order float_one near (omega arith) low, in_order far float_zero h (omega arith), in_order float_one far (omega arith) h)

pub depth-good : (depth : ℕ) → depth ≤ float_one → false ≡ (not_finite depth || outside depth)
depth-good depth h = rw (low-finite depth h, in_order depth float_zero h (omega arith), in_order float_one depth (omega arith) h)

pub ruleset deciding_depths = (depths-good, depth-good, deciding)

-- ---- bad_side

or-true : (a : Bool) → true ≡ (a || true)
or-true true = refl
or-true false = refl

module _ (side : ℕ) where
  abbrev side_tests : Bool
  side_tests = not_finite side || not (below float_zero side)

  -- between the bits of 0 and those of infinity are the finite floats above 0
  between : 0 < side → side < infinity → false ≡ side_tests
  unfolding not_finite below
  between z h =
      rw (lt-leb infinity (side % sign_bit) (omega arith), ← key-up float_zero (omega arith), ← key-up side (omega arith), lt-ltb sign_bit (sign_bit + side) (omega arith))

  -- from those of infinity on they are infinity's or a NaN's
  past-numbers : infinity ≤ side → side < sign_bit → true ≡ side_tests
  unfolding not_finite
  past-numbers h g = rw (le-leb infinity (side % sign_bit) (omega arith))

  -- and with a sign the float is not above 0
  with-sign : sign_bit ≤ side → true ≡ side_tests
  unfolding below
  with-sign h =
      rw (← key-up float_zero (omega arith), ← key-down side h, le-ltb sign_bit (sign_bit - (side - sign_bit)) (omega arith)) (or-true (not_finite side))

  pub side-zero : side ≡ float_zero → true ≡ side_tests
  side-zero e = rw (in_order float_zero side (omega arith) (omega arith)) (or-true (not_finite side))

  pub side-told : (side ≡ float_zero → ⊥) → leb infinity side ≡ side_tests
  side-told z = by_test (leb infinity side) (ltb side sign_bit) refl refl
    where
      by_test : (t u : Bool) → leb infinity side ≡ t → ltb side sign_bit ≡ u → t ≡ side_tests
      by_test false u e f = between (omega arith) (leb-false _ _ e)
      by_test true true e f = past-numbers (leb-true _ _ e) (ltb-true _ _ f)
      by_test true false e f = with-sign (ltb-false _ _ f)

pub ruleset deciding_sides = (side-zero, side-told, deciding)

or_assoc : (a b c : Bool) → ((a || b) || c) ≡ (a || (b || c))
or_assoc true b c = refl
or_assoc false b c = refl

or-cross : (a b c d : Bool) → ((a || b) || (c || d)) ≡ ((a || c) || (b || d))
or-cross true b c d = refl
or-cross false true true d = refl
or-cross false true false d = refl
or-cross false false c d = refl

-- two sides, each by two tests: the first of each before the second of each
sides_apart : (w u h v d t : Bool) → (((w || u) || (h || v)) || (d || t)) ≡ (((w || h) || d) || ((u || v) || t))
sides_apart w u h v d t = ap (λ (s : Bool). s || (d || t)) (or-cross w u h v) ∙ or-cross (w || h) (u || v) d t

-- ---- bad_bounds, bad_viewport

-- the tests of a viewport's floats, in the groups that the code makes of them
module _ (x y width height near far : ℕ) where
  abbrev bounds_tests : Bool
  bounds_tests =
      (not_finite x || not_finite y)
      || ((side_tests width || side_tests height)
      || ((not_finite near || not_finite far) || (below far near || (outside near || outside far))))

  pub bounds-told : (r : Bool) → r ≡ bounds_tests → r ≡ bad_bounds x y width height near far
  unfolding bad_bounds
  bounds-told r e = e ∙ rw sides_apart (simp or_assoc)

  pub viewport-told : (v : SetViewport) (r : Bool) → x ≡ bits_of v.x → y ≡ bits_of v.y → width ≡ bits_of v.width → height ≡ bits_of v.height
      → near ≡ bits_of v.near → far ≡ bits_of v.far → r ≡ bad_bounds x y width height near far → r ≡ bad_viewport v
  unfolding bad_viewport
  viewport-told v r a b c d f g e = rw (← a, ← b, ← c, ← d, ← f, ← g) e

-- ---- bad_values, bad_clear

module _ (flags red green blue alpha depth : ℕ) where
  abbrev values_tests : Bool
  values_tests =
      (not_finite red || not_finite green)
      || ((not_finite blue || not_finite alpha) || ((not_finite depth || outside depth) || ltb most_flags flags))

  pub values-told : (r : Bool) → r ≡ values_tests → r ≡ bad_values flags red green blue alpha depth
  unfolding bad_values
  values-told r e = e ∙ simp or_assoc

  pub clear_told : (c : ClearValues) (r : Bool) → flags ≡ c.flags → red ≡ bits_of c.red → green ≡ bits_of c.green → blue ≡ bits_of c.blue
      → alpha ≡ bits_of c.alpha → depth ≡ bits_of c.depth → r ≡ bad_values flags red green blue alpha depth → r ≡ bad_clear c
  unfolding bad_clear
  clear_told c r a b d f g h e = rw (← a, ← b, ← d, ← f, ← g, ← h) e

pub ruleset judging = (bounds-told, values-told, deciding)

pub ruleset reading_floats = (viewport-told, clear_told, rules)

-- ---- what they come to

-- neither resources nor records are lent: the answer is the rules' outcome, whatever they are
pub record Views (v : SetViewport) (live made : ℕ) (a : Applied) : Type 0 where
  pub applies : (resources records : List ℕ) → Applies (on_viewport_packet (holdings_of live resources made records) v) a resources records

pub record Clears (c : ClearValues) (live made : ℕ) (a : Applied) : Type 0 where
  pub applies : (resources records : List ℕ) → Applies (on_clear_packet (holdings_of live resources made records) c) a resources records

module _ (live made : ℕ) (room : (live ≤ most) × (made ≤ most)) (a : Applied) (b : Bool) where
  pub views-badly : (v : SetViewport) → b ≡ bad_viewport v → b ≡ true → a ≡ refused_with BadState live made → Views v live made a
  unfolding on_viewport_packet
  views-badly v is t e =
      rw e (record { applies = λ resources records. record { outcome = rw (← is, t); live = room.0; made = room.1 } })

  pub clears-badly : (c : ClearValues) → b ≡ bad_clear c → b ≡ true → a ≡ refused_with BadState live made → Clears c live made a
  unfolding on_clear_packet
  clears-badly c is t e =
      rw e (record { applies = λ resources records. record { outcome = rw (← is, t); live = room.0; made = room.1 } })

module _ (live made : ℕ) (room : (live ≤ most) × (made ≤ most)) (b : Bool) where
  pub views-well : (v : SetViewport) → b ≡ bad_viewport v → b ≡ false → Views v live made (accepted_with live made)
  unfolding on_viewport_packet
  views-well v is t = record { applies = λ resources records. record { outcome = rw (← is, t); live = room.0; made = room.1 } }

  pub clears-well : (c : ClearValues) → b ≡ bad_clear c → b ≡ false → Clears c live made (accepted_with live made)
  unfolding on_clear_packet
  clears-well c is t = record { applies = λ resources records. record { outcome = rw (← is, t); live = room.0; made = room.1 } }

pub ruleset applying_values = (views-badly, views-well, clears-badly, clears-well, rules)
