-- A packet's unit reads the packet's header, and of a packet that is framed the bytes that the table of opcodes gives it: none of an
-- unknown packet's body, none that stand past a known packet's table size. Of 1 to 7 bytes left it reads none. Assumes nothing.
use Rattle.std.specs.Prelude.{◌≡◌, Bool, List, ℕ, zero, suc, ◌+◌, ◌-◌, ◌≤◌, ◌<◌, length, take, drop, Err, Ok}
use Rattle.std.proofs.Math.Path.{refl, ap}
use Rattle.std.proofs.Common.{sym, ◌∙◌, arith, ltb-false, length-take, length-drop, drop-drop, take-take}
use Rattle.std.proofs.Math.Bool.{true, false}
use Rattle.std.proofs.Math.Nat.{min-le_left}
use Rattle.std.proofs.Math.Dec.{ltb}
use Rattle.rules.specs.Layouts.{packet_header_size}
use Rattle.rules.specs.Stream.{least_size, frame_rules, frame_of, packet_of, left, Frame}
use Rattle.rules.specs.Packets.{Progress, pass, pass_frame, take_packet}
use Rattle.rules.specs.declared.Entry.{Entry}
use Rattle.rules.specs.declared.Stream.{Stream}
use Rattle.rules.specs.declared.Packet.{Packet}
use Rattle.stream_packets.specs.Framing.{FrameFits, frame-sound}
use Rattle.promises_of_submissions.specs.LocalBytes.{Agree, front_read, same_first, same-field, packet-reads-only}

-- two memories hold the same bytes where the unit of the packet at a place of the stream reads: its header if one is left, and of a framed
-- packet as many bytes as its opcode's row has, which are none for an unknown one
pub record SamePacket (m m' : List ℕ) (s : Stream) (at : ℕ) : Type 0 where
  pub header : packet_header_size ≤ length (left m s at) → Agree m m' (s.gpa + at) packet_header_size
  pub packet : (op size : ℕ) → frame_of (left m s at) ≡ Ok (op, size) → Agree m m' (s.gpa + at) (least_size op)

-- ---- some bytes, whatever they are a part of

module _ (b b' : List ℕ) (len : length b ≡ length b') where
  -- the frame is the header's and the number of bytes'
  pub same-frame : (packet_header_size ≤ length b → Agree b b' 0 packet_header_size) → frame_of b ≡ frame_of b'
  unfolding frame_of frame_rules
  same-frame h = by_test (ltb (length b') packet_header_size) refl
    where
      by_test : (t : Bool) → ltb (length b') packet_header_size ≡ t → frame_of b ≡ frame_of b'
      by_test true t = rw (len, t)
      by_test false t =
          let s : Agree b b' 0 packet_header_size = h (rw len (ltb-false (length b') packet_header_size t)) in
          rw (len, same_first b b' 0 packet_header_size s 4 (omega arith), same-field b b' 0 packet_header_size s 4 4 (omega arith))

module _ (b b' : List ℕ) where
  -- a packet that is framed in both says the same if they agree on its row's bytes
  pub same-packet : (op size : ℕ) → least_size op ≤ size → Agree b b' 0 (least_size op) → packet_of op (take size b) ≡ packet_of op (take size b')
  same-packet op size fits same =
      packet-reads-only op (take size b) (take size b') (take-take (least_size op) size b fits ∙ (same ∙ sym (take-take (least_size op) size b' fits)))

  same-applied : (es : List Entry) (h : Progress) (f : Frame) → ((op size : ℕ) → f ≡ Ok (op, size) → (least_size op ≤ size) × Agree b b' 0 (least_size op))
      → pass_frame es h b f ≡ pass_frame es h b' f
  same-applied es h (Ok (op, size)) k = ap (λ (p : Packet). pass es h p) (same-packet op size (k op size refl).0 (k op size refl).1)
  same-applied es h (Err r) k = refl

  -- what the next packet comes to, of two streams whose next frame is the same and its row's bytes too
  pub same_taken : (es : List Entry) (h : Progress) → frame_of b ≡ frame_of b' → ((op size : ℕ) → frame_of b ≡ Ok (op, size) → Agree b b' 0 (least_size op))
      → take_packet es h b ≡ take_packet es h b'
  unfolding take_packet
  same_taken es h e same =
      same-applied es h (frame_of b) (λ op size w. ((frame-sound b op size w).known, same op size w))
      ∙ ap (λ (f : Frame). pass_frame es h b' f) e

-- what is framed says what stands at its front, whatever is behind it
pub framed-is-read : (b : List ℕ) (es : List Entry) (h : Progress) (op size : ℕ) → frame_of b ≡ Ok (op, size) → take_packet es h b ≡ pass es h (packet_of op b)
unfolding take_packet
framed-is-read b es h op size e =
    rw e (ap (λ (p : Packet). pass es h p) (packet-reads-only op (take size b) b (take-take (least_size op) size b (frame-sound b op size e).known)))

-- ---- what is left of a stream

module _ (s : Stream) (at : ℕ) where
  -- so many bytes that are left end within the stream
  pub left-inside : (m : List ℕ) (n : ℕ) → 0 < n → n ≤ length (left m s at) → at + n ≤ s.size
  left-inside m n some h =
      let cut : n ≤ length (take s.size (drop s.gpa m)) - at = rw length-drop at h in
      let few : length (take s.size (drop s.gpa m)) ≤ s.size = rw length-take (min-le_left s.size (length (drop s.gpa m))) in
      omega arith

  -- and are those of memory there
  left-read : (m : List ℕ) (n : ℕ) → at + n ≤ s.size → take n (left m s at) ≡ take n (drop (s.gpa + at) m)
  left-read m n h = front_read n at s.size (drop s.gpa m) h ∙ rw drop-drop

  module _ (m m' : List ℕ) (len : length m ≡ length m') where
    left-agree : (n : ℕ) → n ≤ length (left m s at) → Agree m m' (s.gpa + at) n → Agree (left m s at) (left m' s at) 0 n
    left-agree zero h same = refl
    left-agree (suc n) h same =
        let inside : at + suc n ≤ s.size = left-inside m (suc n) (omega arith) h in
        left-read m (suc n) inside ∙ (same ∙ sym (left-read m' (suc n) inside))

    pub left-length : length (left m s at) ≡ length (left m' s at)
    left-length = simp (length-drop, length-take, len)

    module _ (same : SamePacket m m' s at) where
      pub same-next-frame : frame_of (left m s at) ≡ frame_of (left m' s at)
      same-next-frame = same-frame (left m s at) (left m' s at) left-length (λ h. left-agree packet_header_size h (same.header h))

      row-bytes : (op size : ℕ) → frame_of (left m s at) ≡ Ok (op, size) → Agree (left m s at) (left m' s at) 0 (least_size op)
      row-bytes op size e =
          let fits : FrameFits (left m s at) op size = frame-sound (left m s at) op size e in
          left-agree (least_size op) (omega (arith, fits.known, fits.inside)) (same.packet op size e)

      pub same-taken-packet : (es : List Entry) (h : Progress) → take_packet es h (left m s at) ≡ take_packet es h (left m' s at)
      same-taken-packet es h = same_taken (left m s at) (left m' s at) es h same-next-frame row-bytes
