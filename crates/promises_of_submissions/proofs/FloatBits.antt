-- The theorems of specs/FloatBits.antt, and what they rest on. Assumes nothing.
use Rattle.std.specs.Prelude.{◌≡◌, Bool, List, ℕ, ◌%◌, Ok}
use Rattle.std.proofs.Math.Path.{refl, ap}
use Rattle.std.proofs.Common.{sym, ◌∙◌}
use Rattle.std.proofs.Math.Bool.{true, false}
use Rattle.machine.specs.Machine.{pick}
use Rattle.rules.specs.Numbers.{set_viewport, clear}
use Rattle.rules.specs.Layouts.{word, viewport_floats, viewport_fields, clear_floats, clear_fields}
use Rattle.rules.specs.Floats.{float_of, bits_of, sign_bit, is_nan_bits, nan_among}
use Rattle.rules.specs.StatePackets.{bad_viewport, bad_clear}
use Rattle.rules.specs.Stream.{known, frame_of, packet_of}
use Rattle.rules.specs.Packets.{Progress, pass, take_packet}
use Rattle.rules.specs.declared.Entry.{Entry}
use Rattle.rules.specs.declared.Packet.TheVariants.{Viewport, Clear, NotANumber}
use Rattle.promises_of_packets.specs.Held.{Every}
use Rattle.promises_of_submissions.specs.LentBytes.{OfBytes, word_fits}
use Rattle.promises_of_submissions.specs.LocalPackets.{framed-is-read}
use Rattle.promises_of_submissions.specs.FloatBits.{ClearCarried, ViewportCarried, bad_clear_words, bad_viewport_words, bits-are-carried, clear-comes-to, judged_state, nan-comes-to, nan-not-finite-among, none-among, not-finite-clear, not-finite-viewport, viewport-comes-to}

-- ---- a packet's own bytes

module _ (b : List ℕ) where
  module _ (bytes : OfBytes b) where
    carried : (at : ℕ) → is_nan_bits (word b at) ≡ false → bits_of (float_of (word b at)) ≡ word b at
    carried at e = bits-are-carried (word b at) (word_fits b at bytes) e

    -- no NaN among them: the packet is read as a viewport, bit for bit
    pub viewport-is-carried : nan_among (viewport_floats b) ≡ false → (packet_of set_viewport b ≡ Viewport (viewport_fields b)) × (ViewportCarried b) (viewport_fields b)
    unfolding packet_of known viewport_fields Every
    viewport-is-carried e =
        let no_nan = none-among (viewport_floats b) e in (
          rw e,
          record {
            x = carried 8 no_nan.0;
            y = carried 12 no_nan.1.0;
            width = carried 16 no_nan.1.1.0;
            height = carried 20 no_nan.1.1.1.0;
            near = carried 24 no_nan.1.1.1.1.0;
            far = carried 28 no_nan.1.1.1.1.1.0;
          },
        )

    pub clear-is-carried : nan_among (clear_floats b) ≡ false → (packet_of clear b ≡ Clear (clear_fields b)) × (ClearCarried b) (clear_fields b)
    unfolding packet_of known clear_fields Every
    clear-is-carried e =
        let no_nan = none-among (clear_floats b) e in (
          rw e,
          record {
            flags = refl;
            red = carried 12 no_nan.0;
            green = carried 16 no_nan.1.0;
            blue = carried 20 no_nan.1.1.0;
            alpha = carried 24 no_nan.1.1.1.0;
            depth = carried 28 no_nan.1.1.1.1.0;
            stencil = refl;
          },
        )

    -- and so it is judged by its words, with a NaN or without one
    module _ (es : List Entry) (h : Progress) where
      pub viewport-judged-by-its-words : pass es h (packet_of set_viewport b) ≡ judged_state h (bad_viewport_words b)
      unfolding packet_of known bad_viewport
      viewport-judged-by-its-words = by_test (nan_among (viewport_floats b)) refl
        where
          by_test : (t : Bool) → nan_among (viewport_floats b) ≡ t → pass es h (pick t NotANumber (Viewport (viewport_fields b))) ≡ judged_state h (bad_viewport_words b)
          by_test true e = nan-comes-to es h ∙ ap (judged_state h) (sym ((not-finite-viewport b) (nan-not-finite-among (viewport_floats b) e)))
          by_test false e =
              let c : (ViewportCarried b) (viewport_fields b) = (viewport-is-carried e).1 in
              viewport-comes-to es h (viewport_fields b) ∙ rw (c.x, c.y, c.width, c.height, c.near, c.far)

      pub clear-judged-by-its-words : pass es h (packet_of clear b) ≡ judged_state h (bad_clear_words b)
      unfolding packet_of known bad_clear
      clear-judged-by-its-words = by_test (nan_among (clear_floats b)) refl
        where
          by_test : (t : Bool) → nan_among (clear_floats b) ≡ t → pass es h (pick t NotANumber (Clear (clear_fields b))) ≡ judged_state h (bad_clear_words b)
          by_test true e = nan-comes-to es h ∙ ap (judged_state h) (sym ((not-finite-clear b) (nan-not-finite-among (clear_floats b) e)))
          by_test false e =
              let c : (ClearCarried b) (clear_fields b) = (clear-is-carried e).1 in
              clear-comes-to es h (clear_fields b) ∙ rw (c.flags, c.red, c.green, c.blue, c.alpha, c.depth)

      -- the same of the packet that the bytes left of a stream begin with
      pub framed-viewport-judged-by-its-words : (size : ℕ) → frame_of b ≡ Ok (set_viewport, size) → take_packet es h b ≡ judged_state h (bad_viewport_words b)
      framed-viewport-judged-by-its-words size e = framed-is-read b es h set_viewport size e ∙ viewport-judged-by-its-words

      pub framed-clear-judged-by-its-words : (size : ℕ) → frame_of b ≡ Ok (clear, size) → take_packet es h b ≡ judged_state h (bad_clear_words b)
      framed-clear-judged-by-its-words size e = framed-is-read b es h clear size e ∙ clear-judged-by-its-words
