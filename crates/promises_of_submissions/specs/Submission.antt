-- Demand 2, whole: from its opening on, over still memory, a submission's steps end where the unsliced rules end, after their
-- count of units. Assumes nothing.
use Rattle.std.specs.Prelude.{◌≡◌, Bool, ltb, length, take, drop, Ok}
use Rattle.std.proofs.Common.{◌∙◌, one-add, mul-le-mul_right, length-drop, length-take-le}
use Rattle.std.proofs.Math.Bool.{true, false}
use mathlib.Core.List.{List, []}
use Prim.Native.Nat.{ℕ, zero, suc, ◌+◌, ◌*◌, ◌^◌, ◌≤◌, ◌<◌}
use native.Mathlib.Omega.{arith}
use borrow.Author.Tests.{le-leb, lt-ltb, ltb-false}
use Rattle.machine.specs.Machine.{pick, Out, spent, run-go}
use Rattle.rules.specs.Numbers.{most}
use Rattle.rules.specs.Judging.{rule, only, Finding}
use Rattle.rules.specs.Judging.Finding.{fine, broken}
use Rattle.rules.specs.Layouts.{ring_header, descriptor, table_header, entry_size, stream_header}
use Rattle.rules.specs.Table.{Judged, header_rules, in_reach, entries_of, judge_entries}
use Rattle.rules.specs.Stream.{stream_rules, stream_bytes, packets_of}
use Rattle.rules.specs.Ring.{present, descriptor_rules, range_rules, submission_rules, job_of, slot_place}
use Rattle.rules.specs.Packets.{Progress, at_first}
use Rattle.rules.specs.State.{World}
use Rattle.rules.specs.Steps.{step, go, run_for}
use Rattle.rules.specs.Unsliced.{Reckoned, judge_packets, submitted}
use Rattle.rules.specs.declared.Descriptor.{Descriptor}
use Rattle.rules.specs.declared.Entry.{Entry}
use Rattle.rules.specs.declared.Job.{Job}
use Rattle.rules.specs.declared.Table.{Table}
use Rattle.rules.specs.declared.Stream.{Stream}
use Rattle.rules.specs.declared.Opened.{Opened}
use Rattle.rules.specs.declared.Opening.{Opening}
use Rattle.rules.specs.declared.Opening.TheVariants.{BadRing, NoWork, Refused, Started}
use Rattle.rules.specs.declared.Refusal.TheVariants.{OutsideMemory}
use Rattle.rule_laws.specs.Fine.{fine-first, fine-later, kept_rule, kept-only}
use Rattle.table_header.specs.Header.{Sized, fine-sized}
use Rattle.stream_header.specs.Header.{stream-sound}
use Rattle.promises_of_submissions.specs.LentBytes.{OfBytes, word_fits}
use Rattle.promises_of_submissions.specs.Whole.{midst, Course}

-- ---- what was opened lies within memory

pub record Lies (m : List ℕ) (o : Opened) : Type 0 where
  pub few : o.table.count ≤ most
  pub reach : (i : ℕ) → i < o.table.count → in_reach m o.table i ≡ true
  pub stream : length (stream_bytes m o.stream) ≡ o.stream.size
  -- the size is read from four bytes
  pub short : OfBytes m → o.stream.size < 2 ^ 32

-- a range of memory is as long as it says
part_length : (m : List ℕ) (at n : ℕ) → at + n ≤ length m → length (take n (drop at m)) ≡ n
part_length m at n h = length-take-le n (drop at m) (omega (arith, length-drop at m))

-- entry i < n of rows of at least 32 bytes ends within them
row_inside : (i n stride : ℕ) → i < n → entry_size ≤ stride → i * stride + entry_size ≤ n * stride
row_inside i n stride h big = omega (arith, mul-le-mul_right stride h)

module _ (m : List ℕ) (j : Job) (d : Descriptor) (stride : ℕ) (good : submission_rules m stride d ≡ Ok tt) where
  ranges-fine : range_rules (length m) d ≡ Ok tt
  unfolding submission_rules
  ranges-fine = fine-first _ _ (fine-later (descriptor_rules stride d) _ good)

  header-fine : only (present d.tablesize) (header_rules d.tablesize (table_header m d.table)) ≡ Ok tt
  unfolding submission_rules
  header-fine = fine-first _ _ (fine-later (range_rules (length m) d) _ (fine-later (descriptor_rules stride d) _ good))

  stream_fine : only (present d.cmdsize) (stream_rules d.cmdsize (stream_header m d.cmd)) ≡ Ok tt
  unfolding submission_rules
  stream_fine = fine-later (only (present d.tablesize) (header_rules d.tablesize (table_header m d.table))) _ (fine-later (range_rules (length m) d) _ (fine-later (descriptor_rules stride d) _ good))

  cmd-inside : present d.cmdsize ≡ true → d.cmd + d.cmdsize ≤ length m
  unfolding range_rules
  cmd-inside p = ltb-false (length m) (d.cmd + d.cmdsize) (kept_rule OutsideMemory _ (kept-only (present d.cmdsize) _ p (fine-first _ _ ranges-fine)))

  table-inside : present d.tablesize ≡ true → d.table + d.tablesize ≤ length m
  unfolding range_rules
  table-inside p =
      ltb-false (length m) (d.table + d.tablesize)
      (kept_rule OutsideMemory _ (kept-only (present d.tablesize) _ p (fine-later (only (present d.cmdsize) (rule OutsideMemory (ltb (length m) (d.cmd + d.cmdsize)))) _ ranges-fine)))

  abbrev pub kept_table : Bool → Table
  kept_table t = pick t (record { gpa = d.table; count = (table_header m d.table).count; stride = (table_header m d.table).stride }) (record { gpa = 0; count = 0; stride = 0 })

  abbrev pub kept_stream : Bool → Stream
  kept_stream t = pick t (record { gpa = d.cmd; size = (stream_header m d.cmd).size }) (record { gpa = 0; size = 0 })

  pub table-few : (t : Bool) → present d.tablesize ≡ t → (kept_table t).count ≤ most
  table-few true p = (fine-sized d.tablesize (table_header m d.table) (kept-only (present d.tablesize) _ p header-fine)).few
  table-few false p = omega arith

  pub table-reach : (t : Bool) → present d.tablesize ≡ t → (i : ℕ) → i < (kept_table t).count → in_reach m (kept_table t) i ≡ true
  table-reach true p i h =
      let g : Sized d.tablesize (table_header m d.table) = fine-sized d.tablesize (table_header m d.table) (kept-only (present d.tablesize) _ p header-fine) in
      let few : i < most = omega (arith, g.few) in
      let fits : d.table + (24 + i * (table_header m d.table).stride) + 32 ≤ length m =
      omega (arith, table-inside p, g.room, row_inside i (table_header m d.table).count (table_header m d.table).stride h g.wide) in
      rw (lt-ltb i most few, le-leb _ _ fits)
  table-reach false p i h = absurd (omega arith)

  pub stream-long : (t : Bool) → present d.cmdsize ≡ t → length (stream_bytes m (kept_stream t)) ≡ (kept_stream t).size
  stream-long true p =
      part_length m d.cmd (stream_header m d.cmd).size (omega (arith, cmd-inside p, (stream-sound d.cmdsize (stream_header m d.cmd) (kept-only (present d.cmdsize) _ p stream_fine)).inside))
  stream-long false p = part_length m 0 0 (omega arith)

  pub stream-short : (t : Bool) → OfBytes m → (kept_stream t).size < 2 ^ 32
  unfolding stream_header
  stream-short true b = word_fits m (d.cmd + 8) b
  stream-short false b = omega arith

-- of whatever an opening gives, what was started lies within memory
abbrev pub LiesOn : List ℕ → Opening → Type 0
LiesOn m BadRing = 0 ≤ length m
LiesOn m NoWork = 0 ≤ length m
LiesOn m (Refused j r) = 0 ≤ length m
LiesOn m (Started o) = Lies m o

module _ (m : List ℕ) (ring : ℕ) where
  abbrev pub head_slot : Descriptor
  head_slot = descriptor m (slot_place ring (ring_header m ring))

  abbrev pub head_job : Job
  head_job = job_of ring (ring_header m ring) head_slot

-- ---- from the opening on

-- from the opening, the units and the end of o; in the midst after each unit but the last
pub record Submits (w : World) (o : Out World) : Type 0 where
  pub ends : run_for o.units w ≡ o
  pub inside : (i : ℕ) → 0 < i → i < o.units → midst (run_for i w).state.state.work ≡ true
  pub some : 0 < o.units

pub submits-more : (n : ℕ) (w w' v : World) → go w ≡ true → step w ≡ w' → Course n w' v → Submits w (record { state = v; units = suc n })
submits-more n w w' v g s c = record { ends = run-go go step n w g ∙ rw (s, c.ends, one-add); inside = at; some = omega arith }
  where
    at : (i : ℕ) → 0 < i → i < suc n → midst (run_for i w).state.state.work ≡ true
    at zero z h = absurd (omega arith)
    at (suc i) z h = rw (run-go go step i w g, s) (c.inside i (omega arith))

-- the units after the opening, of entries and then of packets
abbrev pub later_units : Finding → ℕ → ℕ → ℕ
later_units fine entries packets = entries + packets
later_units (broken f) entries packets = entries

module _ (w : World) (on : w.state.regs.enabled ≡ true) (o : Opened) (lies : Lies w.mem o) where
  abbrev pub all : List Entry
  all = entries_of w.mem o.table

  abbrev pub first : Progress
  first = at_first w.state.belongings

  -- what the table and the packets are judged to be
  abbrev pub table_judged : Judged
  table_judged = judge_entries (length w.mem) [] all

  abbrev pub packets_judged : Reckoned
  packets_judged = judge_packets all first (packets_of w.mem o.stream)
