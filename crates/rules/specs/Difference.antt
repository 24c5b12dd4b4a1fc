-- 02, wish 8, "What differs between these two dumps?": two streams, packet by packet.
use Rattle.std.specs.Prelude.{false, List, [], ◌∷◌, ℕ, ◌+◌, ltb, eqb, length, take, drop, ⊤, Option, None, Some, Result, Ok, Err}
use Rattle.machine.specs.Machine.{pick}
use Rattle.rules.specs.Layouts.{word, stream_header, stream_header_size}
use Rattle.rules.specs.Lists.{Found, nth}
use Rattle.rules.specs.Lists.Found.{none, found}
use Rattle.rules.specs.Stream.{stream_rules, frame_of, size_of, Frame}
use Rattle.rules.specs.Dump.{Listed, Ending, listed_at, dump_of}
use Rattle.rules.specs.Dump.Ending.{complete, stopped, refused}
use Rattle.rules.specs.declared.RefusedStream.{RefusedStream}
use Rattle.rules.specs.declared.Class.{Class}
use Rattle.rules.specs.declared.Class.TheVariants.{Equal, SameOpcode, OtherOpcode, OnlyFirst, OnlySecond, Neither}
use Rattle.rules.specs.declared.Cursor.{Cursor}
use Rattle.rules.specs.declared.Pair.{Pair}
use Rattle.rules.specs.Judging.{Verdict}
use Rattle.rules.specs.declared.Refusal.{Refusal}

-- ---- one stream

-- its packets. "Trailing bytes after the stream size never count."
abbrev pub packets : List ℕ → List Listed
packets b = (dump_of false b).packets

-- the rule that it breaks, 16 or 17
abbrev pub broken_by : Ending → Verdict
broken_by complete = Ok tt
broken_by (stopped p) = Ok tt
broken_by (refused r) = Err r

abbrev pub fault : List ℕ → Verdict
fault b = broken_by (dump_of false b).ending

-- ---- check

-- "A stream that breaks the rules of 16 or 17 is refused with that number and which of the two it was, the first if both."
abbrev pub refused_stream : Refusal → ℕ → RefusedStream
refused_stream why which = record { why = why; which = which }

abbrev pub checked : Verdict → Verdict → Result ⊤ RefusedStream
checked (Ok _) (Ok _) = Ok tt
checked (Ok _) (Err r) = Err (refused_stream r 2)
checked (Err r) v = Err (refused_stream r 1)

abbrev pub check : List ℕ → List ℕ → Result ⊤ RefusedStream
check b c = checked (fault b) (fault c)

-- ---- two packets, by their bytes

-- "these byte offsets in it differing (rising order)"; "bytes past the shorter of two count as differing". The bytes are those from an
-- offset on.
unfoldable pub differing_from : ℕ → List ℕ → List ℕ → List ℕ
differing_from i [] [] = []
differing_from i [] (n ∷ y) = i ∷ differing_from (i + 1) [] y
differing_from i (m ∷ x) [] = i ∷ differing_from (i + 1) x []
differing_from i (m ∷ x) (n ∷ y) = pick (eqb m n) (differing_from (i + 1) x y) (i ∷ differing_from (i + 1) x y)

abbrev pub differing : List ℕ → List ℕ → List ℕ
differing x y = differing_from 0 x y

-- "equal, same opcode with these byte offsets in it differing .., other opcode": the opcode is a packet's first word
abbrev pub same_opcode : List ℕ → Class
same_opcode [] = Equal
same_opcode (i ∷ offsets) = SameOpcode

unfoldable pub class_both : List ℕ → List ℕ → Class
class_both x y = pick (eqb (word x 0) (word y 0)) (same_opcode (differing x y)) OtherOpcode

unfoldable pub offsets_both : List ℕ → List ℕ → List ℕ
offsets_both x y = pick (eqb (word x 0) (word y 0)) (differing x y) []

-- ".. only in one, or in neither"
abbrev pub class_of : Found Listed → Found Listed → Class
class_of none none = Neither
class_of none (found q) = OnlySecond
class_of (found p) none = OnlyFirst
class_of (found p) (found q) = class_both p.bytes q.bytes

-- the differing offsets of a pair: none unless both have one opcode
abbrev pub offsets_of : Found Listed → Found Listed → List ℕ
offsets_of none q = []
offsets_of (found p) none = []
offsets_of (found p) (found q) = offsets_both p.bytes q.bytes

-- "the next differing offset from a given one", the given one included: the first of the list that is not below it
unfoldable pub next_from : ℕ → List ℕ → Option ℕ
next_from from [] = None
next_from from (i ∷ offsets) = pick (ltb i from) (next_from from offsets) (Some i)

-- ---- two streams

-- "Packets are paired by index"
abbrev pub class_at : List ℕ → List ℕ → ℕ → Class
class_at b c i = class_of (nth (packets b) i) (nth (packets c) i)

abbrev pub offsets_at : List ℕ → List ℕ → ℕ → List ℕ
offsets_at b c i = offsets_of (nth (packets b) i) (nth (packets c) i)

-- "the first packet index where they part or none": of the packets from an index on
abbrev pub parted_by : Class → ℕ → Option ℕ → Option ℕ
parted_by Equal i later = later
parted_by SameOpcode i later = Some i
parted_by OtherOpcode i later = Some i
parted_by OnlyFirst i later = Some i
parted_by OnlySecond i later = Some i
parted_by Neither i later = None

unfoldable pub parted : ℕ → List Listed → List Listed → Option ℕ
parted i [] [] = None
parted i [] (q ∷ qs) = Some i
parted i (p ∷ ps) [] = Some i
parted i (p ∷ ps) (q ∷ qs) = parted_by (class_both p.bytes q.bytes) i (parted (i + 1) ps qs)

-- ---- the questions: "Given two valid streams"

-- what was asked for, or the refusal
abbrev pub asked : {A : Type 0} → Result ⊤ RefusedStream → A → Result A RefusedStream
asked (Ok _) x = Ok x
asked (Err r) x = Err r

abbrev pub parts : List ℕ → List ℕ → Result (Option ℕ) RefusedStream
parts b c = asked (check b c) (parted 0 (packets b) (packets c))

-- "One asks by packet index"
abbrev pub class_asked : List ℕ → List ℕ → ℕ → Result Class RefusedStream
class_asked b c i = asked (check b c) (class_at b c i)

-- ".. and for the next differing offset from a given one"
abbrev pub next_asked : List ℕ → List ℕ → ℕ → ℕ → Result (Option ℕ) RefusedStream
next_asked b c i from = asked (check b c) (next_from from (offsets_at b c i))

-- ---- packet by packet: a cursor, which has a place in each stream

-- a stream's own bytes, none where its header breaks 16
abbrev pub own_in : Verdict → ℕ → List ℕ → List ℕ
own_in (Ok _) size b = take size b
own_in (Err r) size b = []

unfoldable pub own : List ℕ → List ℕ
own b = own_in (stream_rules (length b) (stream_header b 0)) (stream_header b 0).size b

-- the packet at a place of them, its size, and the place behind it
abbrev pub framed_at : Frame → ℕ → List ℕ → Found Listed
framed_at (Ok (op, size)) at b = found (listed_at at op size b)
framed_at (Err r) at b = none

abbrev pub packet_at : List ℕ → ℕ → Found Listed
packet_at s at = framed_at (frame_of (drop at s)) at (drop at s)

abbrev pub size_at : List ℕ → ℕ → ℕ
size_at s at = size_of (frame_of (drop at s))

abbrev pub behind : List ℕ → ℕ → ℕ
behind s at = at + size_at s at

abbrev pub pair_in : List ℕ → ℕ → List ℕ → ℕ → Pair
pair_in s at t to =
    record {
      class = class_of (packet_at s at) (packet_at t to);
      first = at;
      firstsize = size_at s at;
      second = to;
      secondsize = size_at t to;
    }

abbrev pub pair_at : List ℕ → List ℕ → Cursor → Pair
pair_at b c k = pair_in (own b) k.first (own c) k.second

abbrev pub next_at : List ℕ → List ℕ → Cursor → ℕ → Option ℕ
next_at b c k from = next_from from (offsets_of (packet_at (own b) k.first) (packet_at (own c) k.second))

abbrev pub onward : List ℕ → List ℕ → Cursor → Cursor
onward b c k = record { first = behind (own b) k.first; second = behind (own c) k.second }

abbrev pub start : List ℕ → List ℕ → Result Cursor RefusedStream
start b c = asked (check b c) (record { first = stream_header_size; second = stream_header_size })
