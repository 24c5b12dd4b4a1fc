-- No theorem is vacuous: two small streams, and what is answered about them.
use Rattle.std.specs.Prelude.{◌≡◌, refl, List, [], ◌∷◌, ◌++◌, ℕ, None, Some, Result, Ok, Err}
use Rattle.rules.specs.Bytes.{le}
use Rattle.rules.specs.Headers.{wrong_header}
use Rattle.rules.specs.Layouts.{stream_header}
use Rattle.rules.specs.Lists.{nth}
use Rattle.rules.specs.Stream.{stream_rules, frame_of, frame_rules, least_size, known, packet_of}
use Rattle.rules.specs.Dump.{listed, dump_of}
use Rattle.rules.specs.Difference.{refused_stream, differing_from, class_both, offsets_both, offsets_at, next_from, check, parted, parts, class_asked, next_asked}
use Rattle.rules.specs.declared.Class.TheVariants.{Equal, SameOpcode, OtherOpcode, OnlyFirst, OnlySecond, Neither}
use Rattle.rules.specs.declared.Refusal.TheVariants.{BadStream, BadPacket}

-- a header with this stream size, and the packets behind it
abbrev stream : ℕ → List ℕ → List ℕ
stream size packets = 65 ∷ 67 ∷ 77 ∷ 68 ∷ 0 ∷ 0 ∷ 1 ∷ 0 ∷ size ∷ 0 ∷ 0 ∷ 0 ∷ 0 ∷ 0 ∷ 0 ∷ 0 ∷ 0 ∷ 0 ∷ 0 ∷ 0 ∷ 0 ∷ 0 ∷ 0 ∷ 0 ∷ packets

-- an unknown packet of 8 bytes, and one of 12 with this byte in it
abbrev short : ℕ → List ℕ
short op = op ∷ 0 ∷ 0 ∷ 0 ∷ 8 ∷ 0 ∷ 0 ∷ 0 ∷ []

abbrev long : ℕ → List ℕ
long value = 7 ∷ 0 ∷ 0 ∷ 0 ∷ 12 ∷ 0 ∷ 0 ∷ 0 ∷ value ∷ 0 ∷ 0 ∷ 0 ∷ []

-- packets: equal, one byte differs, shorter, other opcode, only in the first; and two bytes behind the stream size
abbrev first : List ℕ
first = stream 72 (short 5 ++ (long 1 ++ (short 7 ++ (short 6 ++ (long 4 ++ (170 ∷ 170 ∷ []))))))

abbrev second : List ℕ
second = stream 64 (short 5 ++ (long 2 ++ (long 3 ++ short 9)))

pub valid : check first second ≡ Ok tt
unfolding differing_from class_both offsets_both next_from parted nth dump_of listed stream_rules frame_of frame_rules least_size known packet_of stream_header le wrong_header
valid = refl

pub part-at-one : parts first second ≡ Ok (Some 1)
unfolding differing_from class_both offsets_both next_from parted nth dump_of listed stream_rules frame_of frame_rules least_size known packet_of stream_header le wrong_header
part-at-one = refl

pub equal-at-zero : class_asked first second 0 ≡ Ok Equal
unfolding differing_from class_both offsets_both next_from parted nth dump_of listed stream_rules frame_of frame_rules least_size known packet_of stream_header le wrong_header
equal-at-zero = refl

pub same-opcode-at-one : class_asked first second 1 ≡ Ok SameOpcode
unfolding differing_from class_both offsets_both next_from parted nth dump_of listed stream_rules frame_of frame_rules least_size known packet_of stream_header le wrong_header
same-opcode-at-one = refl

pub one_byte : offsets_at first second 1 ≡ 8 ∷ []
unfolding differing_from class_both offsets_both next_from parted nth dump_of listed stream_rules frame_of frame_rules least_size known packet_of stream_header le wrong_header
one_byte = refl

pub past-the-shorter : offsets_at first second 2 ≡ 4 ∷ 8 ∷ 9 ∷ 10 ∷ 11 ∷ []
unfolding differing_from class_both offsets_both next_from parted nth dump_of listed stream_rules frame_of frame_rules least_size known packet_of stream_header le wrong_header
past-the-shorter = refl

pub next-past-nine : next_asked first second 2 9 ≡ Ok (Some 9)
unfolding differing_from class_both offsets_both next_from parted nth dump_of listed stream_rules frame_of frame_rules least_size known packet_of stream_header le wrong_header
next-past-nine = refl

pub none-past-eleven : next_asked first second 2 12 ≡ Ok None
unfolding differing_from class_both offsets_both next_from parted nth dump_of listed stream_rules frame_of frame_rules least_size known packet_of stream_header le wrong_header
none-past-eleven = refl

pub other-opcode-at-three : class_asked first second 3 ≡ Ok OtherOpcode
unfolding differing_from class_both offsets_both next_from parted nth dump_of listed stream_rules frame_of frame_rules least_size known packet_of stream_header le wrong_header
other-opcode-at-three = refl

pub only-in-the-first : class_asked first second 4 ≡ Ok OnlyFirst
unfolding differing_from class_both offsets_both next_from parted nth dump_of listed stream_rules frame_of frame_rules least_size known packet_of stream_header le wrong_header
only-in-the-first = refl

pub only-in-the-second : class_asked second first 4 ≡ Ok OnlySecond
unfolding differing_from class_both offsets_both next_from parted nth dump_of listed stream_rules frame_of frame_rules least_size known packet_of stream_header le wrong_header
only-in-the-second = refl

pub in-neither : class_asked first second 5 ≡ Ok Neither
unfolding differing_from class_both offsets_both next_from parted nth dump_of listed stream_rules frame_of frame_rules least_size known packet_of stream_header le wrong_header
in-neither = refl

pub second-refused : parts first (stream 65 (short 5)) ≡ Err (refused_stream BadStream 2)
unfolding differing_from class_both offsets_both next_from parted nth dump_of listed stream_rules frame_of frame_rules least_size known packet_of stream_header le wrong_header
second-refused = refl

pub first-if-both : parts (stream 32 (long 1)) (stream 65 (short 5)) ≡ Err (refused_stream BadPacket 1)
unfolding differing_from class_both offsets_both next_from parted nth dump_of listed stream_rules frame_of frame_rules least_size known packet_of stream_header le wrong_header
first-if-both = refl
