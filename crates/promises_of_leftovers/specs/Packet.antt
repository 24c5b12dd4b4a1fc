-- Two memories that agree on what the packet at a place of a stream lists frame it alike, with the same result. Assumes nothing.
use Rattle.std.specs.Prelude.{◌≡◌, Bool, leb, take, drop, Ok}
use Rattle.std.proofs.Math.Path.{refl, sym}
use Rattle.std.proofs.Common.{ap, ◌∙◌, zero-add, add_assoc, le-leb, ltb-false, drop-drop}
use Rattle.std.proofs.Math.Bool.{true, false}
use mathlib.Core.List.{List, [], ◌∷◌}
use Prim.Native.Nat.{ℕ, zero, suc, ◌+◌, ◌≤◌}
use native.Mathlib.Omega.{arith}
use Rattle.std.proofs.Math.Dec.{ltb}
use Rattle.std.proofs.Math.ListN.{length}
use Rattle.rules.specs.Fields.{Field, width_of}
use Rattle.rules.specs.Layouts.{packet_header_size, packet_header_layout}
use Rattle.rules.specs.Stream.{least_size, frame_rules, frame_of, left}
use Rattle.rules.specs.Listed.{placed, where_true, frame_listed, packet_listed, packet_layout}
use Rattle.rules.specs.declared.Stream.{Stream}
use Rattle.stream_packets.specs.Framing.{FrameFits, frame-sound}
use Rattle.promises_of_packets.specs.Held.{Every}
use Rattle.promises_of_submissions.specs.LocalBytes.{Agree, front_read}
use Rattle.promises_of_submissions.specs.LocalPackets.{left-inside, left-length}
use Rattle.promises_of_submissions.specs.Reads.{AgreeOn, Ends, named-inside}
use Rattle.promises_of_leftovers.specs.Opening.{front_of, back-of}

in-more : (n n' : ℕ) (fs : List Field) → n ≤ n' → Ends n fs → Ends n' fs
unfolding Every
in-more n n' [] h i = i
in-more n n' (f ∷ fs) h i = (omega (arith, i.0), in-more n n' fs h i.1)

-- ---- what is left of a stream, and the memory that it is a part of

module _ (s : Stream) (at : ℕ) where
  left-field : (m : List ℕ) (k w : ℕ) → at + (k + w) ≤ s.size → take w (drop k (left m s at)) ≡ take w (drop (s.gpa + at + k) m)
  left-field m k w h =
      ap (take w) (drop-drop k at (take s.size (drop s.gpa m)))
      ∙ (front_read w (at + k) s.size (drop s.gpa m) (omega arith)
      ∙ ap (take w) (drop-drop (at + k) s.gpa m ∙ ap (λ (i : ℕ). drop i m) (sym (add_assoc s.gpa at k))))

  module _ (m m' : List ℕ) (len : length m ≡ length m') where
    -- what two memories agree on there, what is left agrees on
    left-same : (fs : List Field) → Ends (length (left m s at)) fs → AgreeOn m m' (placed (s.gpa + at) fs) → AgreeOn (left m s at) (left m' s at) (placed 0 fs)
    unfolding Every placed
    left-same [] i same = same
    left-same (f ∷ fs) i same = (rw (zero-add f.at) (by_width (width_of f.type) i.0 same.0), left-same fs i.1 same.1)
      where
        by_width : (w : ℕ) → f.at + w ≤ length (left m s at) → Agree m m' (s.gpa + at + f.at) w → Agree (left m s at) (left m' s at) f.at w
        by_width zero h e = refl
        by_width (suc w) h e =
            let ends : at + (f.at + suc w) ≤ s.size = left-inside s at m (f.at + suc w) (omega arith) h in
            left-field m f.at (suc w) ends ∙ (e ∙ sym (left-field m' f.at (suc w) ends))

-- ---- some bytes, whatever they are a part of

module _ (b b' : List ℕ) (len : length b ≡ length b') (header : packet_header_size ≤ length b → AgreeOn b b' (placed 0 packet_header_layout)) where
  pub named-frame : frame_of b ≡ frame_of b'
  unfolding frame_of frame_rules Every placed
  named-frame = by_test (ltb (length b') packet_header_size) refl
    where
      by_test : (t : Bool) → ltb (length b') packet_header_size ≡ t → frame_of b ≡ frame_of b'
      by_test true t = rw (len, t)
      by_test false t =
          let s : AgreeOn b b' (placed 0 packet_header_layout) = header (rw len (ltb-false (length b') packet_header_size t)) in
          rw (len, s.0, s.1.0)

-- ---- the packet at a place

module _ (s : Stream) (at : ℕ) (m m' : List ℕ) (len : length m ≡ length m') (same : AgreeOn m m' (packet_listed m s at)) where
  pub header-same : packet_header_size ≤ length (left m s at) → AgreeOn (left m s at) (left m' s at) (placed 0 packet_header_layout)
  unfolding packet_listed Every
  header-same h =
      left-same s at m m' len packet_header_layout (omega arith, (omega arith, omega arith))
      (rw (le-leb packet_header_size (length (left m s at)) h) at (front_of m m' (where_true (leb packet_header_size (length (left m s at))) (placed (s.gpa + at) packet_header_layout)) _ same))

  pub fields-same : (op size : ℕ) → frame_of (left m s at) ≡ Ok (op, size) → AgreeOn (left m s at) (left m' s at) (placed 0 (packet_layout op))
  unfolding packet_listed
  fields-same op size e =
      let fits : FrameFits (left m s at) op size = frame-sound (left m s at) op size e in
      left-same s at m m' len (packet_layout op) (in-more (least_size op) (length (left m s at)) (packet_layout op) (omega (arith, fits.known, fits.inside)) (named-inside op))
      (rw e at (back-of m m' (where_true (leb packet_header_size (length (left m s at))) (placed (s.gpa + at) packet_header_layout)) (frame_listed (frame_of (left m s at)) (s.gpa + at)) same))

  pub listed-frame : frame_of (left m s at) ≡ frame_of (left m' s at)
  listed-frame = named-frame (left m s at) (left m' s at) (left-length s at m m' len) header-same
