-- 01, "Open": the ring, its descriptor, and how an opening ends.
use Rattle.std.specs.Prelude.{Bool, not, ◌&&◌, ◌||◌, List, ℕ, zero, suc, ◌+◌, ◌-◌, ◌*◌, ◌%◌, ◌^◌, ltb, leb, eqb, length, Err, Ok}
use Rattle.machine.specs.Machine.{pick}
use Rattle.rules.specs.Numbers.{ring_magic, slot_doublings}
use Rattle.rules.specs.Judging.{rule, only, ◌▹◌, Verdict}
use Rattle.rules.specs.Layouts.{good_version, ring_header, ring_header_size, descriptor, descriptor_size, table_header, stream_header}
use Rattle.rules.specs.Table.{header_rules, checked_table, no_table}
use Rattle.rules.specs.Stream.{stream_rules, stream_of, no_stream}
use Rattle.rules.specs.declared.RingHeader.{RingHeader}
use Rattle.rules.specs.declared.Descriptor.{Descriptor}
use Rattle.rules.specs.declared.Job.{Job}
use Rattle.rules.specs.declared.Opened.{Opened}
use Rattle.rules.specs.declared.Opening.{Opening}
use Rattle.rules.specs.declared.Opening.TheVariants.{BadRing, NoWork, Refused, Started}
use Rattle.rules.specs.declared.Refusal.TheVariants.{BadDescriptor, OutsideMemory}

-- ---- the ring

-- one of 1, 2, 4, .., 2 ^ k
unfoldable pub power_of_two : ℕ → ℕ → Bool
power_of_two zero n = eqb n 1
power_of_two (suc k) n = eqb n (2 ^ suc k) || power_of_two k n

-- "tail - head (wrapping)": how many submissions are pending
abbrev pub pending : RingHeader → ℕ
pending h = (h.tail + (2 ^ 32 - h.head)) % 2 ^ 32

-- "magic; version; count a power of two, 1 to 1,024; stride >= 64; 64 + count*stride <= header size <= ring size;
-- tail - head (wrapping) <= count"
unfoldable pub good_header : ℕ → RingHeader → Bool
good_header size h =
    eqb h.magic ring_magic
    && (good_version h.version
    && (power_of_two slot_doublings h.count
    && (leb descriptor_size h.stride
    && (leb (ring_header_size + h.count * h.stride) h.size
    && (leb h.size size
    && leb (pending h) h.count)))))

-- "ring size >= 64; ring GPA + ring size within memory", then the header
unfoldable pub good_ring : List ℕ → ℕ → ℕ → Bool
good_ring m ring size =
    leb ring_header_size size
    && (leb (ring + size) (length m)
    && good_header size (ring_header m ring))

-- "the slot is head mod count"
abbrev pub slot : RingHeader → ℕ
slot h = h.head % h.count

abbrev pub slot_place : ℕ → RingHeader → ℕ
slot_place ring h = ring + (ring_header_size + slot h * h.stride)

-- ---- the descriptor

-- "GPA and size not both zero or both non-zero"
abbrev pub half_there : ℕ → ℕ → Bool
half_there gpa size = pick (eqb gpa 0) (not (eqb size 0)) (eqb size 0)

-- a range that is present; one that 11 lets pass then has a GPA too
abbrev pub present : ℕ → Bool
present size = not (eqb size 0)

-- "11: descriptor size below 64 or above stride; cmd GPA and size not both zero or both non-zero; GPA + size above 2^64 - 1;
-- then both rules for the table."
unfoldable pub descriptor_rules : ℕ → Descriptor → Verdict
descriptor_rules stride d =
    rule BadDescriptor (ltb d.size descriptor_size)
    ▹ rule BadDescriptor (ltb stride d.size)
    ▹ rule BadDescriptor (half_there d.cmd d.cmdsize)
    ▹ rule BadDescriptor (ltb (2 ^ 64 - 1) (d.cmd + d.cmdsize))
    ▹ rule BadDescriptor (half_there d.table d.tablesize)
    ▹ rule BadDescriptor (ltb (2 ^ 64 - 1) (d.table + d.tablesize))

-- "12: cmd range, then table range, not within memory."
unfoldable pub range_rules : ℕ → Descriptor → Verdict
range_rules memory d =
    only (present d.cmdsize) (rule OutsideMemory (ltb memory (d.cmd + d.cmdsize)))
    ▹ only (present d.tablesize) (rule OutsideMemory (ltb memory (d.table + d.tablesize)))

-- "then in order (12 to 16 only for a range that is present)"
unfoldable pub submission_rules : List ℕ → ℕ → Descriptor → Verdict
submission_rules m stride d =
    descriptor_rules stride d
    ▹ range_rules (length m) d
    ▹ only (present d.tablesize) (header_rules d.tablesize (table_header m d.table))
    ▹ only (present d.cmdsize) (stream_rules d.cmdsize (stream_header m d.cmd))

-- ---- the opening

-- "flags (bit 0 no-IRQ)"; "the head read at opening"
abbrev pub job_of : ℕ → RingHeader → Descriptor → Job
job_of ring h d = record { ring = ring; head = h.head; signal = d.signal; silent = eqb (d.flags % 2) 1 }

-- "the numbers read at opening" that later steps use
abbrev pub opened_of : List ℕ → Job → Descriptor → Opened
opened_of m j d =
    record {
      job = j;
      table = pick (present d.tablesize) (checked_table d.table (table_header m d.table)) no_table;
      stream = pick (present d.cmdsize) (stream_of d.cmd (stream_header m d.cmd)) no_stream;
    }

abbrev pub concluded : Verdict → Job → Opened → Opening
concluded (Ok _) j o = Started o
concluded (Err r) j o = Refused j r

unfoldable pub submission_opening : List ℕ → ℕ → Job → Descriptor → Opening
submission_opening m stride j d = concluded (submission_rules m stride d) j (opened_of m j d)

-- "Head = tail clears the flag. Else the slot .."
unfoldable pub ring_opening : List ℕ → ℕ → RingHeader → Opening
ring_opening m ring h =
    pick (eqb h.head h.tail) NoWork
    (submission_opening m h.stride (job_of ring h (descriptor m (slot_place ring h))) (descriptor m (slot_place ring h)))

-- of a memory, a ring GPA and a ring size
unfoldable pub opening_of : List ℕ → ℕ → ℕ → Opening
opening_of m ring size = pick (good_ring m ring size) (ring_opening m ring (ring_header m ring)) BadRing
