-- A reader that goes on by the frame's size meets the rule book's list of packets, and the part of memory that it is lent
-- is the stream's own bytes. Assumes nothing.
use Rattle.std.specs.Prelude.{◌≡◌, refl, List, [], ℕ, zero, suc, ◌+◌, ◌-◌, ◌≤◌, ◌<◌, ltb, length, take, drop, Err, Ok}
use Rattle.std.proofs.Common.{◌∙◌, ⊎_elim, arith, eq-eqb, ne_eqb, lt-ltb, le-ltb, length-drop, drop-drop, length-take-le}
use Rattle.machine.specs.Machine.{pick}
use Rattle.words.specs.Over.{below_or_not}
use Rattle.rules.specs.Layouts.{stream_header_size}
use Rattle.rules.specs.Stream.{frame_of, Piece, size_of, before, cut, stream_bytes, left, packets_of, Frame}
use Rattle.rules.specs.declared.Stream.{Stream}
use Rattle.stream_packets.specs.Framing.{frame-sound}

-- ---- the list of packets, one packet at a time

-- no byte is left: no packet is
pub cut-end : (k at : ℕ) (b : List ℕ) → length b ≡ 0 → cut k at b ≡ []
unfolding cut
cut-end zero at b h = refl
cut-end (suc k) at b h = rw (eq-eqb (length b) 0 h)

pub cut-packet : (k at : ℕ) (b : List ℕ) → 0 < length b
    → cut (suc k) at b ≡ before at (frame_of b) b (cut k (at + size_of (frame_of b)) (drop (size_of (frame_of b)) b))
unfolding cut
cut-packet k at b h = rw (ne_eqb (length b) 0 (λ z. omega arith))

-- the same at a place of the stream
pub cut-next : (k : ℕ) (b : List ℕ) (at : ℕ) → at < length b
    → cut (suc k) at (drop at b)
    ≡ before at (frame_of (drop at b)) (drop at b) (cut k (at + size_of (frame_of (drop at b))) (drop (at + size_of (frame_of (drop at b))) b))
cut-next k b at h = cut-packet k at (drop at b) (rw length-drop (omega arith)) ∙ rw drop-drop

pub cut-none : (k : ℕ) (b : List ℕ) (at : ℕ) → length b ≤ at → cut k at (drop at b) ≡ []
cut-none k b at h = cut-end k at (drop at b) (rw length-drop (omega arith))

-- what is after a packet counts only where the packet is whole
before_same : (at : ℕ) (f : Frame) (b : List ℕ) (x y : List Piece) → ((op size : ℕ) → f ≡ Ok (op, size) → x ≡ y) → before at f b x ≡ before at f b y
before_same at (Ok (op, size)) b x y h = rw (h op size refl)
before_same at (Err r) b x y h = refl

-- the first number does not matter where it is no less than the bytes
pub cut-fuel : (k k' at : ℕ) (b : List ℕ) → length b ≤ k → length b ≤ k' → cut k at b ≡ cut k' at b
cut-fuel zero k' at b h h' = rw (cut-end zero at b (omega arith), cut-end k' at b (omega arith))
cut-fuel (suc k) zero at b h h' = rw (cut-end (suc k) at b (omega arith), cut-end zero at b (omega arith))
cut-fuel (suc k) (suc k') at b h h' =
    ⊎_elim
    (λ some. rw (cut-packet k at b some, cut-packet k' at b some)
    (before_same at (frame_of b) b _ _
    (λ op size e.
    let head : 8 ≤ size = (frame-sound b op size e).header in
    rw e (cut-fuel k k' (at + size) (drop size b) (rw length-drop (omega arith)) (rw length-drop (omega arith))))))
    (λ none. rw (cut-end (suc k) at b (omega arith), cut-end (suc k') at b (omega arith)))
    (below_or_not 0 (length b))

-- ---- a reader

-- what a reader meets that frames the packet at a place, reads it, and goes on behind it, for so many packets at most
unfoldable pub read_from : ℕ → List ℕ → ℕ → List Piece
read_from zero b at = []
read_from (suc k) b at =
    pick (ltb at (length b)) (before at (frame_of (drop at b)) (drop at b) (read_from k b (at + size_of (frame_of (drop at b))))) []

read-cut : (k : ℕ) (b : List ℕ) (at : ℕ) → read_from k b at ≡ cut k at (drop at b)
unfolding read_from cut
read-cut zero b at = refl
read-cut (suc k) b at =
    ⊎_elim
    (λ h. rw (lt-ltb at (length b) h, cut-next k b at h, read-cut k b (at + size_of (frame_of (drop at b)))))
    (λ h. rw (le-ltb at (length b) h, cut-none (suc k) b at h))
    (below_or_not at (length b))

-- ---- the stream's own bytes

module _ (m : List ℕ) (s : Stream) (room : s.gpa + s.size ≤ length m) where
  pub left-length : length (stream_bytes m s) ≡ s.size
  left-length = length-take-le s.size (drop s.gpa m) (rw length-drop (omega arith))

  -- how many bytes a reader has before it
  pub left_over : (at : ℕ) → length (left m s at) ≡ s.size - at
  left_over at = rw (length-drop, left-length)

  -- a reader of the stream's bytes meets the packets that the rule book lists, and ends at the same broken one,
  -- where it may read as many packets as there are bytes
  pub reader-lists-packets : (k : ℕ) → s.size ≤ k → read_from k (stream_bytes m s) stream_header_size ≡ packets_of m s
  reader-lists-packets k h =
      let n : length (left m s stream_header_size) ≡ s.size - stream_header_size = left_over stream_header_size in
      read-cut k (stream_bytes m s) stream_header_size ∙ cut-fuel k s.size stream_header_size (left m s stream_header_size) (omega arith) (omega arith)

-- what a function sees that is lent `&mem[gpa..end]`
pub left-part : (m : List ℕ) (s : Stream) (end : ℕ) → end ≡ s.gpa + s.size → take (end - s.gpa) (drop s.gpa m) ≡ stream_bytes m s
left-part m s end e = let n : end - s.gpa ≡ s.size = omega arith in rw n
