-- Wish 7: "Read each packet as one of viewport, clear, scissor or target, its floats carried bit for bit." The floats of a packet have the bits
-- that stand in memory, and whether a viewport or a clear is error 30 goes by these. Assumes nothing.
use Rattle.std.specs.Prelude.{◌≡◌, Bool, ◌||◌, List, [], ◌∷◌, ℕ, ◌%◌, ◌^◌, ◌<◌, Err, Ok}
use Rattle.std.proofs.Math.Path.{refl}
use Rattle.std.proofs.Common.{sym, ◌∙◌, arith, ltb-true, le-leb}
use Rattle.std.proofs.Math.Bool.{true, false}
use Rattle.std.specs.Float.{binary32}
use Rattle.std.specs.Float.Ieee.{is_nan}
use Rattle.std.specs.Float.Ieee.Bits.{to_bits-of_bits, nan_bits_is, nan_bits_above}
use Rattle.machine.specs.Machine.{pick}
use Rattle.rules.specs.Layouts.{word, viewport_floats, clear_floats}
use Rattle.rules.specs.Floats.{float_of, bits_of, infinity, sign_bit, is_nan_bits, not_finite, nan_among, not_finite_among}
use Rattle.rules.specs.StatePackets.{bad_bounds, bad_viewport, bad_values, bad_clear}
use Rattle.rules.specs.Packets.{accepted, refuse, on_viewport_packet, on_clear_packet, apply, Progress, Passed, passed, target_after, pass, tokens_after}
use Rattle.rules.specs.declared.Entry.{Entry}
use Rattle.rules.specs.declared.SetViewport.{SetViewport}
use Rattle.rules.specs.declared.ClearValues.{ClearValues}
use Rattle.rules.specs.declared.Packet.TheVariants.{Viewport, Clear, NotANumber}
use Rattle.rules.specs.declared.Refusal.TheVariants.{BadState}
use Rattle.promises_of_packets.specs.Held.{Every}

-- ---- one float

-- a word that is no NaN's comes back from the float that it is
pub bits-are-carried : (n : ℕ) → n < 2 ^ 32 → is_nan_bits n ≡ false → bits_of (float_of n) ≡ n
unfolding is_nan_bits
bits-are-carried n h e =
    let number : is_nan (float_of n) ≡ false = sym (nan_bits_is binary32 n) ∙ (nan_bits_above binary32 n ∙ e) in
    to_bits-of_bits binary32 n h (rw number tt)

-- a NaN is not finite, and neither is a packet that has one among its floats
nan-is-not-finite : (n : ℕ) → is_nan_bits n ≡ true → not_finite n ≡ true
unfolding is_nan_bits not_finite
nan-is-not-finite n e = le-leb infinity (n % sign_bit) (omega (arith, ltb-true infinity (n % sign_bit) e))

or-true : (b : Bool) → b || true ≡ true
or-true true = refl
or-true false = refl

pub nan-not-finite-among : (bs : List ℕ) → nan_among bs ≡ true → not_finite_among bs ≡ true
nan-not-finite-among [] e = e
nan-not-finite-among (b ∷ bs) e = by_test (is_nan_bits b) refl (nan-not-finite-among bs) e
  where
    by_test : (t : Bool) → is_nan_bits b ≡ t → (nan_among bs ≡ true → not_finite_among bs ≡ true) → t || nan_among bs ≡ true → not_finite b || not_finite_among bs ≡ true
    by_test true t later k = rw (nan-is-not-finite b t)
    by_test false t later k = rw (later k, or-true)

-- none of several is a NaN
pub none-among : (bs : List ℕ) → nan_among bs ≡ false → Every (λ (n : ℕ). is_nan_bits n ≡ false) bs
unfolding Every
none-among [] e = omega arith
none-among (b ∷ bs) e = by_test (is_nan_bits b) refl (none-among bs) e
  where
    by_test : (t : Bool) → is_nan_bits b ≡ t → (nan_among bs ≡ false → Every (λ (n : ℕ). is_nan_bits n ≡ false) bs) → t || nan_among bs ≡ false
        → (is_nan_bits b ≡ false) × Every (λ (n : ℕ). is_nan_bits n ≡ false) bs
    by_test true t later k = absurd (let z : ◌≡◌ {A = ℕ} 0 1 = cc in omega arith)
    by_test false t later k = (t, later k)

-- ---- what a state packet comes to: nothing of what is held changes

-- error 30 or none
abbrev pub judged_state : Progress → Bool → Passed
judged_state h bad = pick bad (record { verdict = Err BadState; held = h }) (record { verdict = Ok tt; held = h })

module _ (es : List Entry) (h : Progress) where
  pub viewport-comes-to : (v : SetViewport) → pass es h (Viewport v) ≡ judged_state h (bad_viewport v)
  unfolding pass apply on_viewport_packet target_after tokens_after
  viewport-comes-to v = by_test (bad_viewport v)
    where
      by_test : (t : Bool) → passed (Viewport v) h (refuse BadState t h.holdings (accepted h.holdings)) ≡ judged_state h t
      by_test true = refl
      by_test false = refl

  pub clear-comes-to : (c : ClearValues) → pass es h (Clear c) ≡ judged_state h (bad_clear c)
  unfolding pass apply on_clear_packet target_after tokens_after
  clear-comes-to c = by_test (bad_clear c)
    where
      by_test : (t : Bool) → passed (Clear c) h (refuse BadState t h.holdings (accepted h.holdings)) ≡ judged_state h t
      by_test true = refl
      by_test false = refl

  pub nan-comes-to : pass es h NotANumber ≡ judged_state h true
  unfolding pass apply target_after tokens_after
  nan-comes-to = refl

-- ---- a packet's own bytes

module _ (b : List ℕ) where
  -- its floats have the bits that stand there
  pub record ViewportCarried (v : SetViewport) : Type 0 where
    pub x : bits_of v.x ≡ word b 8
    pub y : bits_of v.y ≡ word b 12
    pub width : bits_of v.width ≡ word b 16
    pub height : bits_of v.height ≡ word b 20
    pub near : bits_of v.near ≡ word b 24
    pub far : bits_of v.far ≡ word b 28

  pub record ClearCarried (c : ClearValues) : Type 0 where
    pub flags : c.flags ≡ word b 8
    pub red : bits_of c.red ≡ word b 12
    pub green : bits_of c.green ≡ word b 16
    pub blue : bits_of c.blue ≡ word b 20
    pub alpha : bits_of c.alpha ≡ word b 24
    pub depth : bits_of c.depth ≡ word b 28
    pub stencil : c.stencil ≡ word b 32

  -- the rules for a viewport and for a clear, of the words that stand there
  abbrev pub bad_viewport_words : Bool
  bad_viewport_words = bad_bounds (word b 8) (word b 12) (word b 16) (word b 20) (word b 24) (word b 28)

  abbrev pub bad_clear_words : Bool
  bad_clear_words = bad_values (word b 8) (word b 12) (word b 16) (word b 20) (word b 24) (word b 28)

  -- a NaN or an infinity among the floats breaks them
  pub not-finite-viewport : not_finite_among (viewport_floats b) ≡ true → bad_viewport_words ≡ true
  unfolding bad_bounds
  not-finite-viewport e = rw e

  pub not-finite-clear : not_finite_among (clear_floats b) ≡ true → bad_clear_words ≡ true
  unfolding bad_values
  not-finite-clear e = rw e
