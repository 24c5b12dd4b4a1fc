-- The theorems of specs/StateWitness.antt, and what they rest on. Assumes nothing.
use Rattle.std.specs.Prelude.{◌≡◌, refl, [], ◌++◌, ℕ}
use Rattle.std.proofs.Common.{sym, ap, subst, arith}
use Rattle.std.specs.Float.Ieee.{of_bits, to_bits}
use Rattle.rules.specs.Bytes.{le, bytes_of}
use Rattle.rules.specs.Lists.{over, removed, lookup, index_of}
use Rattle.rules.specs.Judging.Finding.{fine}
use Rattle.rules.specs.Layouts.{texture_fields, destroy_fields, target_fields, viewport_fields, signed, scissor_fields, clear_fields}
use Rattle.rules.specs.Floats.{is_nan_bits, not_finite, key, below}
use Rattle.rules.specs.Shapes.{block_bytes, halvings, full_chain, good_shape}
use Rattle.rules.specs.StatePackets.{bad_bounds, bad_viewport, bad_values, bad_clear, bad_sides, common, clip_of}
use Rattle.rules.specs.Packets.{at_first, create_hosted, create, on_texture_packet, on_destroy_packet, live_texture, on_target_packet, on_viewport_packet, on_scissor_packet, on_clear_packet, apply, target_after, pass, tokens_after}
use Rattle.rules.specs.Stream.{known, least_size, frame_rules, frame_of, packet_of, cut}
use Rattle.rules.specs.State.{World, nothing_owned}
use Rattle.rules.specs.Unsliced.{judge_packets}
use Rattle.rules.specs.Registers.{controlled, write_of}
use Rattle.rules.specs.Calls.{RecordRead, call_write, call_record}
use Rattle.rules.specs.Names.{rename}
use Rattle.promises_of_packets.specs.Held.{LiveTexture, OfAKind}
use Rattle.promises_of_units.specs.Called.{Called, after}
use Rattle.promises_of_units.specs.Called.Call.{writes, runs}
use Rattle.promises_of_units.specs.Called.Called.{makes, calls}
use Rattle.promises_of_units.proofs.Ranges.{kinds-at-the-record-call}
use Rattle.promises_of_submissions.specs.Clipping.{ClippedTo}
use Rattle.promises_of_submissions.proofs.Clipping.{clip-is-the-common-part}
use Rattle.promises_of_sharing.proofs.Targets.{called-target-lives, first-packet-finds-no-target}
use Rattle.promises_of_submissions.specs.FloatBits.{ViewportCarried}
use Rattle.promises_of_submissions.proofs.FloatBits.{viewport-is-carried}
use Rattle.promises.specs.Witness.{in_bytes}
use Rattle.promises.specs.StateWitness.{StateStreams, cleared, destroyed, drawing, drawing_asked, drawing_guest_is, drawing_waits, drawn, judged_words, scissored, stream_with, targeted, textured, the_job, the_scissor, the_shape, the_stream, viewed, words-are-bytes}

-- ---- packets, word by word

pub state_streams : StateStreams
unfolding textured targeted destroyed viewed scissored cleared stream_with judged_words drawing in_bytes le bytes_of lookup index_of removed over rename texture_fields target_fields destroy_fields viewport_fields signed scissor_fields clear_fields known least_size frame_rules frame_of packet_of cut is_nan_bits not_finite key below bad_bounds bad_viewport bad_values bad_clear bad_sides common clip_of block_bytes halvings full_chain good_shape create_hosted create on_texture_packet on_destroy_packet live_texture on_target_packet on_viewport_packet on_scissor_packet on_clear_packet apply target_after tokens_after pass judge_packets of_bits to_bits
state_streams =
    record {
      all-are-fine = refl;
      minus-zero = refl;
      not-a-number = refl;
      no_end = refl;
      no_target = refl;
      made_again = refl;
      target-0 = refl;
    }

-- ---- so the theorems speak of them

asked_is_called : Called drawing_asked.state
unfolding drawing_asked after call_write write_of lookup controlled
asked_is_called = calls (writes 0x200 0) [] (calls (writes 0x10c 1) [] (calls (writes 0x108 128) [] (makes 316)))

run_is_called : (n : ℕ) → Called (after (runs n) drawing_asked).state
run_is_called n = calls (runs n) drawing_asked.mem asked_is_called

-- the first packet finds no target
pub begins-with-none : (at_first nothing_owned).target ≡ 0
begins-with-none = first-packet-finds-no-target (after (runs 1) drawing_asked).state (run_is_called 1) the_job the_stream 24 [] (at_first nothing_owned) drawing_guest_is.opened refl

-- and the one that was set is a live texture
pub its-target-lives : LiveTexture 1 (record { resources = drawn.holdings.resources; records = [] })
its-target-lives =
    called-target-lives (after (runs 3) drawing_asked).state (run_is_called 3) the_job the_stream 96 [] _ drawing_guest_is.targeted-at (λ z. omega arith)

-- what is handed out is of kind 4
pub its-record-is-of-a-kind : OfAKind (call_record drawing_waits.state 0).range
its-record-is-of-a-kind =
    kinds-at-the-record-call drawing_waits.state (subst (λ (w : World). Called w.state) drawing_guest_is.run-accepted (run_is_called 65535)) 0
    (ap (λ (r : RecordRead). r.answer) drawing_guest_is.handed_out)

pub its-clip : ClippedTo the_shape the_scissor (call_record drawing_waits.state 0).range
unfolding bad_sides common clip_of
its-clip = subst (ClippedTo the_shape the_scissor) (sym (ap (λ (r : RecordRead). r.range) drawing_guest_is.handed_out)) (clip-is-the-common-part the_shape the_scissor refl)

pub viewport-bits : ViewportCarried (in_bytes (viewed 0x80000000)) (viewport_fields (in_bytes (viewed 0x80000000)))
unfolding viewed in_bytes le bytes_of is_nan_bits
viewport-bits = (viewport-is-carried (in_bytes (viewed 0x80000000)) (words-are-bytes (viewed 0x80000000)) refl).1
