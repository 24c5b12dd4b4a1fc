-- The theorems of specs/Packet.antt, and what they rest on. Assumes nothing.
use Rattle.std.specs.Prelude.{◌≡◌, Err, Ok}
use Rattle.std.proofs.Math.Path.{refl, sym}
use Rattle.std.proofs.Common.{ap, ◌∙◌}
use mathlib.Core.List.{List}
use Prim.Native.Nat.{ℕ, ◌≤◌}
use Rattle.std.proofs.Math.ListN.{length}
use Rattle.rules.specs.Layouts.{packet_header_size, packet_header_layout}
use Rattle.rules.specs.Stream.{frame_of, left, Frame}
use Rattle.rules.specs.Packets.{Progress, pass, take_packet}
use Rattle.rules.specs.Listed.{placed, packet_listed, packet_layout}
use Rattle.rules.specs.declared.Entry.{Entry}
use Rattle.rules.specs.declared.Stream.{Stream}
use Rattle.rules.specs.declared.Packet.{Packet}
use Rattle.promises_of_submissions.specs.LocalPackets.{framed-is-read, left-length}
use Rattle.promises_of_submissions.specs.Reads.{AgreeOn, named-packet}
use Rattle.promises_of_leftovers.specs.Packet.{fields-same, header-same, named-frame}

-- ---- some bytes, whatever they are a part of

module _ (b b' : List ℕ) (len : length b ≡ length b') (header : packet_header_size ≤ length b → AgreeOn b b' (placed 0 packet_header_layout)) where
  named-taken : (es : List Entry) (h : Progress) → ((op size : ℕ) → frame_of b ≡ Ok (op, size) → AgreeOn b b' (placed 0 (packet_layout op))) → take_packet es h b ≡ take_packet es h b'
  unfolding take_packet
  named-taken es h same = by_frame (frame_of b) refl
    where
      by_frame : (f : Frame) → frame_of b ≡ f → take_packet es h b ≡ take_packet es h b'
      by_frame (Ok (op, size)) e =
          framed-is-read b es h op size e
          ∙ (ap (λ (p : Packet). pass es h p) (named-packet op b b' (same op size e)) ∙ sym (framed-is-read b' es h op size (sym (named-frame b b' len header) ∙ e)))
      by_frame (Err r) e = rw (e, sym (named-frame b b' len header) ∙ e)

-- ---- the packet at a place

module _ (s : Stream) (at : ℕ) (m m' : List ℕ) (len : length m ≡ length m') (same : AgreeOn m m' (packet_listed m s at)) where
  pub listed-taken : (es : List Entry) (h : Progress) → take_packet es h (left m s at) ≡ take_packet es h (left m' s at)
  listed-taken es h = named-taken (left m s at) (left m' s at) (left-length s at m m' len) (header-same s at m m' len same) es h (fields-same s at m m' len same)
