-- Wish 2: appended bytes cannot matter. Two streams that are the same packet by packet, in opcode, size and the bytes that the table of
-- opcodes gives the packet, come to the same finding, records, resources and tokens, whatever stands past those bytes. Assumes nothing.
use Rattle.std.specs.Prelude.{◌≡◌, List, [], ◌++◌, ℕ, zero, suc, ◌+◌, ◌≤◌, ◌<◌, length, drop, Err, Ok}
use Rattle.std.proofs.Math.Path.{refl}
use Rattle.std.proofs.Common.{arith}
use Rattle.rules.specs.Layouts.{word, packet_header_size, entry_size, stream_header_size}
use Rattle.rules.specs.Table.{entry_place, entries_from}
use Rattle.rules.specs.Stream.{least_size, frame_of, left}
use Rattle.rules.specs.declared.Refusal.{Refusal}
use Rattle.rules.specs.declared.Table.{Table}
use Rattle.rules.specs.declared.Opened.{Opened}
use Rattle.stream_packets.specs.Framing.{FrameFits, frame-sound}
use Rattle.promises_of_submissions.specs.LocalBytes.{Agree, same-entry}

-- what is left of two streams from a place on. Both end there; or both have a packet there of one opcode and one size, whose row's bytes
-- agree, and behind it the same again; or both are misframed alike. Left open are a known packet's bytes past its table size, and all of
-- an unknown one's but the header.
pub data SameButAppended : List ℕ → List ℕ → Type 0 where
  ends : SameButAppended [] []
  packet : {b b' : List ℕ} (op size : ℕ) → frame_of b ≡ Ok (op, size) → frame_of b' ≡ Ok (op, size) → Agree b b' 0 (least_size op)
      → SameButAppended (drop size b) (drop size b') → SameButAppended b b'
  misframed : {b b' : List ℕ} (r : Refusal) → length b ≡ length b' → frame_of b ≡ Err r → frame_of b' ≡ Err r → SameButAppended b b'

-- a whole packet is not empty
pub whole-some : (b : List ℕ) (op size : ℕ) → frame_of b ≡ Ok (op, size) → 0 < length b
whole-some b op size e =
    let fits : FrameFits b op size = frame-sound b op size e in
    omega (arith, fits.header, fits.inside)

-- ---- a submission, of what was opened

-- what a submission still reads once it has kept i entries, the same in two memories but for appended bytes
pub record SameSubmission (m m' : List ℕ) (o : Opened) (i : ℕ) : Type 0 where
  pub table : (k : ℕ) → i ≤ k → k < o.table.count → Agree m m' (entry_place o.table k) entry_size
  pub stream : SameButAppended (left m o.stream stream_header_size) (left m' o.stream stream_header_size)

pub same_entries : (m m' : List ℕ) (t : Table) (n i : ℕ) → ((k : ℕ) → i ≤ k → k < i + n → Agree m m' (entry_place t k) entry_size)
    → entries_from m t i n ≡ entries_from m' t i n
unfolding entries_from
same_entries m m' t zero i same = refl
same_entries m m' t (suc n) i same =
    rw (same-entry m m' (entry_place t i) (same i (omega arith) (omega arith)), same_entries m m' t n (suc i) (λ k h l. same k (omega arith) (omega arith)))

-- ---- of bytes: any that are appended to a packet may be exchanged for as many others

-- x has a packet's header and its row's bytes at least, y or y' stands behind it up to the packet's size, and behind that z or z', the same
-- but for appended bytes
module _ (x y y' z z' : List ℕ) (head : packet_header_size ≤ length x) (row : least_size (word x 0) ≤ length x)
    (size_is : word x 4 ≡ length x + length y) (len : length y ≡ length y') (later-len : length z ≡ length z') (later : SameButAppended z z') where
  abbrev pub one : List ℕ
  one = x ++ (y ++ z)

  abbrev pub other : List ℕ
  other = x ++ (y' ++ z')
