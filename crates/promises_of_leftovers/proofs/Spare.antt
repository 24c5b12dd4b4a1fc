-- The theorems of specs/Spare.antt, and what they rest on. Assumes nothing.
use Rattle.std.specs.Prelude.{◌≡◌, refl, Bool, length, Err, Ok}
use Rattle.std.proofs.Math.Bool.{true, false}
use mathlib.Core.List.{List}
use Rattle.std.proofs.Common.{leb-true}
use Prim.Native.Nat.{ℕ, zero, suc, ◌+◌, ◌≤◌}
use native.Mathlib.Omega.{arith}
use Rattle.std.proofs.Math.Dec.{leb}
use Rattle.rules.specs.Layouts.{packet_header_size, stream_header_size, descriptor_layout, packet_header_layout}
use Rattle.rules.specs.Stream.{known, least_size, frame_of, size_of, left, Frame}
use Rattle.rules.specs.Listed.{placed, where_true, frame_listed, packet_listed, behind, packets_listed, stream_listed, packet_layout}
use Rattle.rules.specs.declared.Stream.{Stream}
use Rattle.stream_packets.specs.Framing.{FrameFits, frame-sound}
use Rattle.promises_of_packets.specs.Held.{Every, every-none, every-both}
use Rattle.promises_of_submissions.specs.Reads.{Ends, named-inside}
use Rattle.promises_of_submissions.specs.LocalPackets.{left-inside}
use Rattle.promises_of_leftovers.specs.Spare.{Between, SpareBytes, Within, placed-between, within-less}

-- ---- what is not named

pub strides_have_spare_bytes : SpareBytes
unfolding Every
strides_have_spare_bytes = search arith

-- ---- of a stream nothing past its size

module _ (m : List ℕ) (s : Stream) where
  packet-within : (at : ℕ) → Every ((Within m s) at) (packet_listed m s at)
  unfolding packet_listed
  packet-within at =
      every-both ((Within m s) at) _ _ (by_test (leb packet_header_size (length (left m s at))) refl) (by_frame (frame_of (left m s at)) refl)
    where
      by_test : (t : Bool) → leb packet_header_size (length (left m s at)) ≡ t → Every ((Within m s) at) (where_true t (placed (s.gpa + at) packet_header_layout))
      by_test true t =
          placed-between packet_header_size (s.gpa + at) (s.gpa + at) (s.gpa + s.size) packet_header_layout strides_have_spare_bytes.packet-header (omega arith)
          (omega (arith, left-inside s at m packet_header_size (omega arith) (leb-true packet_header_size (length (left m s at)) t)))
      by_test false t = every-none ((Within m s) at)

      by_frame : (f : Frame) → frame_of (left m s at) ≡ f → Every ((Within m s) at) (frame_listed f (s.gpa + at))
      by_frame (Ok (op, size)) e =
          let fits : FrameFits (left m s at) op size = frame-sound (left m s at) op size e in
          let ends : at + size ≤ s.size = left-inside s at m size (omega (arith, fits.header)) fits.inside in
          placed-between (least_size op) (s.gpa + at) (s.gpa + at) (s.gpa + s.size) (packet_layout op) (named-inside op) (omega arith) (omega (arith, fits.known))
      by_frame (Err r) e = every-none ((Within m s) at)

  packets-within : (k at : ℕ) → Every ((Within m s) at) (packets_listed k m s at)
  unfolding packets_listed
  packets-within zero at = every-none ((Within m s) at)
  packets-within (suc k) at =
      every-both ((Within m s) at) (packet_listed m s at) _ (packet-within at)
      (by_frame (frame_of (left m s at)) (λ n. (within-less m s) at (at + n) (omega arith) (packets_listed k m s (at + n)) (packets-within k (at + n))))
    where
      by_frame : (f : Frame) → ((n : ℕ) → Every ((Within m s) at) (packets_listed k m s (at + n))) → Every ((Within m s) at) (behind f (packets_listed k m s (at + size_of f)))
      by_frame (Ok (op, size)) later = later size
      by_frame (Err r) later = every-none ((Within m s) at)

  pub bytes-past-the-stream-size-are-not-named : Every (Between (s.gpa + stream_header_size) (s.gpa + s.size)) (stream_listed m s stream_header_size)
  bytes-past-the-stream-size-are-not-named = packets-within (suc s.size) stream_header_size
