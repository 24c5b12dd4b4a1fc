-- Wish 7's theorems are of something: streams with a target, a viewport, a scissor and a clear, judged by the rules, each by computation.
-- Assumes nothing.
use Rattle.std.specs.Prelude.{◌≡◌, refl, true, false, List, [], ◌∷◌, ◌++◌, ℕ, ◌+◌, ◌*◌, pos, negsuc, length}
use Rattle.std.proofs.Common.{arith}
use Rattle.std.specs.Float.Ieee.{of_bits, to_bits}
use Rattle.machine.specs.Machine.{run_while}
use Rattle.rules.specs.Numbers.{stream_magic, version, create_texture, destroy, set_target, set_viewport, set_scissor, clear}
use Rattle.rules.specs.Bytes.{le, bytes_of}
use Rattle.rules.specs.Lists.{over, nth, lookup}
use Rattle.rules.specs.Judging.Finding.{fine, broken}
use Rattle.rules.specs.Layouts.{ring_header, descriptor, stream_header, texture_fields, target_fields, viewport_fields, signed, scissor_fields, clear_fields}
use Rattle.rules.specs.Floats.{is_nan_bits, not_finite, key, below}
use Rattle.rules.specs.Shapes.{block_bytes, halvings, full_chain, good_shape}
use Rattle.rules.specs.StatePackets.{bad_bounds, bad_viewport, bad_values, bad_clear, bad_sides, common, clip_of}
use Rattle.rules.specs.Packets.{at_first, create_hosted, create, on_texture_packet, live_texture, on_target_packet, on_viewport_packet, on_scissor_packet, on_clear_packet, apply, Progress, target_after, pass, take_packet, tokens_after}
use Rattle.rules.specs.Stream.{stream_rules, known, least_size, frame_rules, frame_of, packet_of, cut, packets_of}
use Rattle.rules.specs.Headers.{wrong_header}
use Rattle.rules.specs.Table.{entries_from, judge_entries}
use Rattle.rules.specs.Ring.{descriptor_rules, range_rules, submission_rules, submission_opening, power_of_two, good_header, good_ring, ring_opening, opening_of}
use Rattle.rules.specs.State.{World, made, with_regs, registers_of, no_error, working, nothing_owned}
use Rattle.rules.specs.State.Work.{packets, waiting}
use Rattle.rules.specs.Steps.{open_step, packet_step, step, go}
use Rattle.rules.specs.Unsliced.{Reckoned, judge_packets, submission, submitted}
use Rattle.rules.specs.Calls.{call_run, call_record}
use Rattle.rules.specs.declared.Job.{Job}
use Rattle.rules.specs.declared.Stream.{Stream}
use Rattle.rules.specs.declared.Shape.{Shape}
use Rattle.rules.specs.declared.SetScissor.{SetScissor}
use Rattle.rules.specs.declared.Kind.TheVariants.{Texture}
use Rattle.promises.specs.NightLog.{zeros}
use Rattle.promises_of_submissions.specs.LentBytes.{OfBytes, bytes-of, both_bytes}
use Rattle.promises_of_units.specs.Called.{after}
use Rattle.promises_of_units.specs.Called.Call.{runs}
use Rattle.promises.specs.Witness.{in_bytes, ring_words}

-- ---- packets, word by word

-- a host-backed texture of 64 by 32 pixels
unfoldable pub textured : ℕ → List ℕ
textured handle = create_texture ∷ 56 ∷ handle ∷ 0 ∷ 1 ∷ 64 ∷ 32 ∷ 1 ∷ 1 ∷ 0 ∷ 0 ∷ 0 ∷ 0 ∷ 0 ∷ []

unfoldable pub targeted : ℕ → List ℕ
targeted handle = set_target ∷ 16 ∷ handle ∷ 0 ∷ []

unfoldable pub destroyed : ℕ → List ℕ
destroyed handle = destroy ∷ 16 ∷ handle ∷ 0 ∷ []

-- from -1.5, y on, 64 by 32, as deep as from 0 to 1; y is given by its bits
unfoldable pub viewed : ℕ → List ℕ
viewed y = set_viewport ∷ 32 ∷ 0xbfc00000 ∷ y ∷ 0x42800000 ∷ 0x42000000 ∷ 0x00000000 ∷ 0x3f800000 ∷ []

-- from -5, 3 on, 20 by 100
unfoldable pub scissored : List ℕ
scissored = set_scissor ∷ 24 ∷ 0xfffffffb ∷ 3 ∷ 20 ∷ 100 ∷ []

-- colour 1, 0.5, 0, 1, depth 1, stencil 255
unfoldable pub cleared : List ℕ
cleared = clear ∷ 36 ∷ 7 ∷ 0x3f800000 ∷ 0x3f000000 ∷ 0x80000000 ∷ 0x3f800000 ∷ 0x3f800000 ∷ 255 ∷ []

-- a stream of such packets
unfoldable pub stream_with : List ℕ → List ℕ
stream_with words = in_bytes (stream_magic ∷ version ∷ (24 + 4 * length words) ∷ 0 ∷ 0 ∷ 0 ∷ words)

-- judged by the unsliced rules, with no table and nothing held
unfoldable pub judged_words : List ℕ → Reckoned
judged_words words = judge_packets [] (at_first nothing_owned) (packets_of (stream_with words) (record { gpa = 0; size = 24 + 4 * length words }))

abbrev pub the_shape : Shape
the_shape = record { format = 1; width = 64; height = 32; mips = 1; layers = 1 }

-- what is held after a texture, a target, a viewport, a scissor and a clear: of the scissor's 20 by 100 pixels 15 by 29 are left
abbrev pub drawn : Progress
drawn =
    record {
      holdings = record {
        resources = record { handle = 1; kind = Texture the_shape; bytes = 0; pitch = 0; backing = 0; offset = 0; lowest = 1 } ∷ [];
        records = record { kind = 4; handle = 0; id = 3; gpa = 15; length = 29 } ∷ [];
      };
      target = 1;
      tokens = [];
    }

unfoldable pub drawing : List ℕ
drawing = textured 1 ++ (targeted 1 ++ (viewed 0 ++ (scissored ++ cleared)))

pub record StateStreams : Type 0 where
  pub all-are-fine : judged_words drawing ≡ record { finding = fine; held = drawn; count = 5 }
  -- -0 is 0, and so is no NaN
  pub minus-zero : (judged_words (viewed 0x80000000)).finding ≡ fine
  -- a NaN, and an infinity
  pub not-a-number : (judged_words (viewed 0x7fc00000)).finding ≡ broken (record { code = 30; place = 24 })
  pub no_end : (judged_words (viewed 0xff800000)).finding ≡ broken (record { code = 30; place = 24 })
  -- a scissor with no target; and with one that was destroyed and made again
  pub no_target : (judged_words (textured 1 ++ scissored)).finding ≡ broken (record { code = 30; place = 80 })
  pub made_again : (judged_words (textured 1 ++ (targeted 1 ++ (destroyed 1 ++ (textured 1 ++ scissored))))).finding ≡ broken (record { code = 30; place = 168 })
  -- handle 0 is no live texture
  pub target-0 : (judged_words (textured 1 ++ targeted 0)).finding ≡ broken (record { code = 18; place = 80 })

-- ---- a guest that sends the first of them, with no table

unfoldable pub drawing_guest : List ℕ
drawing_guest = in_bytes (ring_words ++ (64 ∷ 0 ∷ 0 ∷ 0 ∷ 128 ∷ 0 ∷ 188 ∷ 0 ∷ 0 ∷ 0 ∷ 0 ∷ 0 ∷ 7 ∷ 0 ∷ 0 ∷ 0 ∷ [])) ++ stream_with drawing

unfoldable pub drawing_asked : World
drawing_asked =
    record {
      state = with_regs (registers_of 0 128 true 0 0 false false 0 no_error true) (made 316);
      mem = drawing_guest;
    }

abbrev pub the_job : Job
the_job = record { ring = 0; head = 0; signal = 7; silent = false }

abbrev pub the_stream : Stream
the_stream = record { gpa = 128; size = 188 }

unfoldable pub drawing_waits : World
drawing_waits = working (waiting the_job [] drawn) drawing_asked

pub record DrawingGuest : Type 0 where
  -- accepted after its opening and five packets
  pub accepted : submitted drawing_asked ≡ record { state = drawing_waits; units = 6 }
  pub run-accepted : after (runs 65535) drawing_asked ≡ drawing_waits
  -- the clipped rectangle is the record that the host reads
  pub handed_out : call_record drawing_waits.state 0 ≡ record { answer = 0; range = record { kind = 4; handle = 0; id = 3; gpa = 15; length = 29 } }
  -- after one unit the first packet is due, and there is no target
  pub opened : (after (runs 1) drawing_asked).state.work ≡ packets the_job the_stream 24 [] (at_first nothing_owned)
  -- after three the viewport is, and there is one
  pub targeted-at : (after (runs 3) drawing_asked).state.work ≡ packets the_job the_stream 96 [] (record { holdings = record { resources = drawn.holdings.resources; records = [] }; target = 1; tokens = [] })

pub drawing_guest_is : DrawingGuest
unfolding textured targeted viewed scissored cleared stream_with drawing drawing_guest drawing_asked drawing_waits zeros ring_words in_bytes le bytes_of over lookup nth ring_header descriptor stream_header power_of_two good_header good_ring ring_opening opening_of descriptor_rules range_rules submission_rules submission_opening wrong_header stream_rules texture_fields target_fields viewport_fields signed scissor_fields clear_fields entries_from judge_entries known least_size frame_rules frame_of packet_of cut is_nan_bits not_finite key below bad_bounds bad_viewport bad_values bad_clear bad_sides common clip_of block_bytes halvings full_chain good_shape create_hosted create on_texture_packet live_texture on_target_packet on_viewport_packet on_scissor_packet on_clear_packet apply target_after tokens_after pass take_packet judge_packets submission submitted open_step packet_step step go run_while call_run call_record after of_bits to_bits
drawing_guest_is = record { accepted = refl; run-accepted = refl; handed_out = refl; opened = refl; targeted-at = refl }

-- ---- so the theorems speak of them

-- and is what the texture and the scissor, from -5, 3 on, have in common
abbrev pub the_scissor : SetScissor
the_scissor = record { x = negsuc 4; y = pos 3; width = pos 20; height = pos 100 }

-- a viewport's words, and its floats' bits
pub words-are-bytes : (ws : List ℕ) → OfBytes (in_bytes ws)
unfolding in_bytes
words-are-bytes [] i = omega arith
words-are-bytes (w ∷ ws) i = both_bytes (bytes_of 4 w) (in_bytes ws) (bytes-of 4 w) (words-are-bytes ws) i
