-- 02, wish 12: the listed bytes. What a submission names, from its opening on: "the named fields of the ring header, opened slots, tables,
-- entries and streams, every packet's opcode and size, and the fields of known packets". A part is listed only where the rules before it let it be read:
-- each condition below makes the list shorter, and so what follows from agreeing on it stronger.
use Rattle.std.specs.Prelude.{Bool, not, ◌&&◌, List, [], ◌∷◌, ◌++◌, ℕ, zero, suc, ◌+◌, ◌-◌, leb, eqb, length, Err, Ok}
use Rattle.machine.specs.Machine.{pick}
use Rattle.rules.specs.Judging.{only, ◌▹◌, Verdict}
use Rattle.rules.specs.Fields.{Field, width_of}
use Rattle.rules.specs.Layouts.{ring_header, ring_header_size, ring_header_layout, descriptor, descriptor_layout, table_header, table_header_size, table_header_layout, entry_layout, stream_header_size, stream_header_layout, packet_header_size, packet_header_layout}
use Rattle.rules.specs.Lists.{Found}
use Rattle.rules.specs.Lists.Found.{none, found}
use Rattle.rules.specs.Table.{header_rules, entry_place}
use Rattle.rules.specs.Stream.{frame_of, size_of, left, Frame}
use Rattle.rules.specs.PacketRows.{PacketRow, packet_row}
use Rattle.rules.specs.Ring.{present, descriptor_rules, range_rules, good_ring, slot_place, opening_of}
use Rattle.rules.specs.State.{Work, State}
use Rattle.rules.specs.State.Work.{resting, entries, packets, waiting}
use Rattle.rules.specs.declared.Descriptor.{Descriptor}
use Rattle.rules.specs.declared.Registers.{Registers}
use Rattle.rules.specs.declared.Table.{Table}
use Rattle.rules.specs.declared.Stream.{Stream}
use Rattle.rules.specs.declared.Opened.{Opened}
use Rattle.rules.specs.declared.Opening.{Opening}
use Rattle.rules.specs.declared.Opening.TheVariants.{BadRing, NoWork, Refused, Started}

-- ---- named bytes

-- the bytes of a field: the first byte in memory, and the width
pub record Named : Type 0 where
  pub at : ℕ
  pub width : ℕ

-- the fields of a layout whose first byte is at `base`
unfoldable pub placed : ℕ → List Field → List Named
placed base [] = []
placed base (f ∷ fs) = record { at = base + f.at; width = width_of f.type } ∷ placed base fs

-- the fields of a packet by its opcode; an unknown one has none
abbrev pub layout_in : Found PacketRow → List Field
layout_in none = []
layout_in (found k) = k.layout

unfoldable pub packet_layout : ℕ → List Field
packet_layout op = layout_in (packet_row op)

abbrev pub where_true : Bool → List Named → List Named
where_true t l = pick t l []

abbrev pub where_fine : Verdict → List Named → List Named
where_fine (Ok _) l = l
where_fine (Err r) l = []

-- ---- an opening

-- the rules of a table that is present, if one is
abbrev pub table_fine : List ℕ → Descriptor → Verdict
table_fine m d = only (present d.tablesize) (header_rules d.tablesize (table_header m d.table))

-- of the ranges that a descriptor names: the table's header if table size is at least 24; then the stream's, if the table is absent or breaks no rule and cmd size is
-- at least 24
unfoldable pub ranges_listed : List ℕ → Descriptor → List Named
ranges_listed m d =
    where_true (leb table_header_size d.tablesize) (placed d.table table_header_layout)
    ++ where_fine (table_fine m d) (where_true (leb stream_header_size d.cmdsize) (placed d.cmd stream_header_layout))

-- of a slot: its descriptor, and its ranges once 11 and 12 let them pass
unfoldable pub slot_listed : List ℕ → ℕ → ℕ → List Named
slot_listed m at stride =
    placed at descriptor_layout
    ++ where_fine (descriptor_rules stride (descriptor m at) ▹ range_rules (length m) (descriptor m at)) (ranges_listed m (descriptor m at))

-- of a ring: its header if ring size is at least 64 and the whole ring is within memory; and the head's slot if the ring is good and a submission is pending
unfoldable pub opening_listed : List ℕ → ℕ → ℕ → List Named
opening_listed m ring size =
    where_true (leb ring_header_size size && leb (ring + size) (length m)) (placed ring ring_header_layout)
    ++ where_true (good_ring m ring size && not (eqb (ring_header m ring).head (ring_header m ring).tail))
    (slot_listed m (slot_place ring (ring_header m ring)) (ring_header m ring).stride)

-- ---- its entries: n of them, from the i-th on

unfoldable pub entries_listed : Table → ℕ → ℕ → List Named
entries_listed t i zero = []
entries_listed t i (suc n) = placed (entry_place t i) entry_layout ++ entries_listed t (suc i) n

-- ---- its packets

abbrev pub frame_listed : Frame → ℕ → List Named
frame_listed (Ok (op, size)) place = placed place (packet_layout op)
frame_listed (Err r) place = []

-- of the packet at a place of the stream: opcode and size, if 8 bytes are left, and the fields of one that is framed and known
unfoldable pub packet_listed : List ℕ → Stream → ℕ → List Named
packet_listed m s at =
    where_true (leb packet_header_size (length (left m s at))) (placed (s.gpa + at) packet_header_layout)
    ++ frame_listed (frame_of (left m s at)) (s.gpa + at)

-- the packets after this one; none after a misframed one
abbrev pub behind : Frame → List Named → List Named
behind (Ok (op, size)) later = later
behind (Err r) later = []

-- this packet and those after it, at most k
unfoldable pub packets_listed : ℕ → List ℕ → Stream → ℕ → List Named
packets_listed zero m s at = []
packets_listed (suc k) m s at =
    packet_listed m s at ++ behind (frame_of (left m s at)) (packets_listed k m s (at + size_of (frame_of (left m s at))))

-- all packets from a place on; each has at least 8 bytes, so the bound is never reached
abbrev pub stream_listed : List ℕ → Stream → ℕ → List Named
stream_listed m s at = packets_listed (suc s.size) m s at

-- ---- a submission

-- of one that was opened: its entries from the i-th on, and its packets
abbrev pub opened_listed : List ℕ → Opened → ℕ → List Named
opened_listed m o i = entries_listed o.table i (o.table.count - i) ++ stream_listed m o.stream stream_header_size

abbrev pub started_listed : List ℕ → Opening → List Named
started_listed m BadRing = []
started_listed m NoWork = []
started_listed m (Refused j r) = []
started_listed m (Started o) = opened_listed m o 0

-- the next submission of the ring at a GPA and of a size, whole
unfoldable pub submission_listed : List ℕ → ℕ → ℕ → List Named
submission_listed m ring size = opening_listed m ring size ++ started_listed m (opening_of m ring size)

-- ---- by what is in work

-- the fields that the next unit reads
abbrev pub unit_listed : Registers → Work → List ℕ → List Named
unit_listed r resting m = opening_listed m r.ring r.ringsize
unit_listed r (entries o kept) m = placed (entry_place o.table (length kept)) entry_layout
unit_listed r (packets j s at es h) m = packet_listed m s at
unit_listed r (waiting j es h) m = []

-- the fields up to the settling: at rest, those of the submission that would be opened next, whether or not the doorbell is rung; else what is still to be read of the
-- one in work. The step reads the entry at `length kept` in a made-up state too, where `kept` is already as long as the count.
abbrev pub listed_at : Registers → Work → List ℕ → List Named
listed_at r resting m = submission_listed m r.ring r.ringsize
listed_at r (entries o kept) m = placed (entry_place o.table (length kept)) entry_layout ++ opened_listed m o (suc (length kept))
listed_at r (packets j s at es h) m = stream_listed m s at
listed_at r (waiting j es h) m = []

abbrev pub listed : State → List ℕ → List Named
listed s m = listed_at s.regs s.work m
