-- The theorems of specs/Appended.antt, and what they rest on. Assumes nothing.
use Rattle.std.specs.Prelude.{◌≡◌, List, ◌++◌, ℕ, zero, suc, ◌+◌, ◌≤◌, length, drop, Err, Ok}
use Rattle.std.proofs.Math.Path.{refl}
use Rattle.std.proofs.Common.{sym, ap, ◌∙◌, arith, length-drop, length-append}
use Rattle.std.proofs.lemmas.List.{take-append-le}
use Rattle.std.proofs.Math.Seq.{drop-append-add, drop-append_seam}
use Rattle.rules.specs.Layouts.{word, packet_header_size, stream_header_size}
use Rattle.rules.specs.Table.{entries_of}
use Rattle.rules.specs.Stream.{least_size, frame_of, cut, left, packets_of, Frame}
use Rattle.rules.specs.Packets.{Progress}
use Rattle.rules.specs.Unsliced.{judge_packets, submission}
use Rattle.rules.specs.declared.Entry.{Entry}
use Rattle.rules.specs.declared.Stream.{Stream}
use Rattle.rules.specs.declared.Opened.{Opened}
use Rattle.stream_packets.specs.Framing.{FrameFits, frame-sound}
use Rattle.stream_packets.specs.Listing.{cut-packet}
use Rattle.promises_of_submissions.specs.LocalBytes.{Agree, same_first, same-field}
use Rattle.promises_of_submissions.specs.LocalPackets.{same-frame, same-packet}
use Rattle.promises_of_submissions.specs.Appended.{SameButAppended, SameSubmission, one, other, same_entries, whole-some}
use Rattle.promises_of_submissions.specs.Appended.SameButAppended.{ends, misframed, packet}

-- the packets of two such streams are the same
pub same-pieces : (k at : ℕ) (b b' : List ℕ) → SameButAppended b b' → cut k at b ≡ cut k at b'
unfolding cut
same-pieces zero at b b' same = refl
same-pieces (suc k) at b b' ends = refl
same-pieces (suc k) at b b' (packet op size e e' same later) =
    rw (cut-packet k at b (whole-some b op size e), cut-packet k at b' (whole-some b' op size e'), e, e')
    (rw (same-packet b b' op size (frame-sound b op size e).known same, same-pieces k (at + size) (drop size b) (drop size b') later))
same-pieces (suc k) at b b' (misframed r len e e') = rw (len, e, e')

-- and so is what they come to: the first broken rule and its place, the resources, records and tokens held, and how many were judged. The streams may stand in
-- two memories, and at two places.
pub appended-bytes-cannot-matter : (m m' : List ℕ) (s s' : Stream) → s.size ≡ s'.size
    → SameButAppended (left m s stream_header_size) (left m' s' stream_header_size)
    → (es : List Entry) (h : Progress) → judge_packets es h (packets_of m s) ≡ judge_packets es h (packets_of m' s')
appended-bytes-cannot-matter m m' s s' size same es h =
    ap (judge_packets es h) (same-pieces s.size stream_header_size _ _ same ∙ ap (λ (k : ℕ). cut k stream_header_size (left m' s' stream_header_size)) size)

-- ---- a submission, of what was opened

module _ (m m' : List ℕ) (len : length m ≡ length m') (o : Opened) (same : SameSubmission m m' o 0) where
  -- the same entries
  pub same-table : entries_of m o.table ≡ entries_of m' o.table
  same-table = same_entries m m' o.table o.table.count 0 (λ k h l. same.table k h (omega arith))

  -- the unsliced rules come to the same finding, resources, records, tokens and units
  pub appended-bytes-same-submission : (h : Progress) → submission m o h ≡ submission m' o h
  unfolding submission
  appended-bytes-same-submission h =
      rw (len, same-table, appended-bytes-cannot-matter m m' o.stream o.stream refl same.stream (entries_of m' o.table) h)

-- ---- of bytes: any that are appended to a packet may be exchanged for as many others

same_here : (b : List ℕ) → ((op size : ℕ) → frame_of b ≡ Ok (op, size) → SameButAppended (drop size b) (drop size b)) → SameButAppended b b
same_here b later = by_frame (frame_of b) refl
  where
    by_frame : (f : Frame) → frame_of b ≡ f → SameButAppended b b
    by_frame (Ok (op, size)) e = packet op size e e refl (later op size e)
    by_frame (Err r) e = misframed r refl e e

same_within : (k : ℕ) (b : List ℕ) → length b ≤ k → SameButAppended b b
same_within zero b h = same_here b (λ op size e. absurd (omega (arith, whole-some b op size e)))
same_within (suc k) b h =
    same_here b (λ op size e.
    let head : packet_header_size ≤ size = (frame-sound b op size e).header in
    same_within k (drop size b) (rw length-drop (omega arith)))

-- a stream and itself
pub same_stream : (b : List ℕ) → SameButAppended b b
same_stream b = same_within (length b) b (omega arith)

-- x has a packet's header and its row's bytes at least, y or y' stands behind it up to the packet's size, and behind that z or z', the same
-- but for appended bytes
module _ (x y y' z z' : List ℕ) (head : packet_header_size ≤ length x) (row : least_size (word x 0) ≤ length x)
    (size_is : word x 4 ≡ length x + length y) (len : length y ≡ length y') (later-len : length z ≡ length z') (later : SameButAppended z z') where
  front : (n : ℕ) → n ≤ length x → Agree (one x y y' z z' head row size_is len later-len later) (other x y y' z z' head row size_is len later-len later) 0 n
  front n h = take-append-le n x (y ++ z) h ∙ sym (take-append-le n x (y' ++ z') h)

  as_long : length (one x y y' z z' head row size_is len later-len later) ≡ length (other x y y' z z' head row size_is len later-len later)
  as_long = simp (length-append, len, later-len)

  behind : (u v : List ℕ) → drop (length x + length u) (x ++ (u ++ v)) ≡ v
  behind u v = drop-append-add x (u ++ v) (length u) ∙ drop-append_seam u v

  by_frame : (f : Frame) → frame_of (one x y y' z z' head row size_is len later-len later) ≡ f → SameButAppended (one x y y' z z' head row size_is len later-len later) (other x y y' z z' head row size_is len later-len later)
  by_frame (Ok (op, size)) e =
      let fits : FrameFits (one x y y' z z' head row size_is len later-len later) op size = frame-sound (one x y y' z z' head row size_is len later-len later) op size e in
      let own : Agree (one x y y' z z' head row size_is len later-len later) x 0 packet_header_size = take-append-le packet_header_size x (y ++ z) head in
      let op-is : op ≡ word x 0 = fits.opcode ∙ same_first (one x y y' z z' head row size_is len later-len later) x 0 packet_header_size own 4 (omega arith) in
      let long : size ≡ length x + length y = fits.stated ∙ (same-field (one x y y' z z' head row size_is len later-len later) x 0 packet_header_size own 4 4 (omega arith) ∙ size_is) in
      let rest : drop size (one x y y' z z' head row size_is len later-len later) ≡ z = rw long (behind y z) in
      let rest' : drop size (other x y y' z z' head row size_is len later-len later) ≡ z' = rw (long, len) (behind y' z') in
      packet op size e (sym (same-frame (one x y y' z z' head row size_is len later-len later) (other x y y' z z' head row size_is len later-len later) as_long (λ _. front packet_header_size head)) ∙ e) (front (least_size op) (rw op-is row))
      (rw (rest, rest') later)
  by_frame (Err r) e = misframed r as_long e (sym (same-frame (one x y y' z z' head row size_is len later-len later) (other x y y' z z' head row size_is len later-len later) as_long (λ _. front packet_header_size head)) ∙ e)

  -- whatever y and y' are
  pub exchanged : SameButAppended (one x y y' z z' head row size_is len later-len later) (other x y y' z z' head row size_is len later-len later)
  exchanged = by_frame (frame_of (one x y y' z z' head row size_is len later-len later)) refl
