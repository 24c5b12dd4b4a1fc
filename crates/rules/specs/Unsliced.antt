-- 01, "The unsliced rules": a whole submission over one memory. They "judge the opening, then all entries, then all packets,
-- as lists, and know no steps or kept place".
use Rattle.std.specs.Prelude.{List, [], ◌∷◌, ℕ, suc, ◌+◌, length, Err, Ok}
use Rattle.machine.specs.Machine.{Out}
use Rattle.rules.specs.Judging.{Finding, fault_at, without_place, Verdict}
use Rattle.rules.specs.Judging.Finding.{fine, broken}
use Rattle.rules.specs.Table.{Judged, entries_of, judge_entries}
use Rattle.rules.specs.Stream.{Piece, packets_of}
use Rattle.rules.specs.Stream.Piece.{packet, misframed}
use Rattle.rules.specs.Ring.{opening_of}
use Rattle.rules.specs.Packets.{Progress, at_first, pass}
use Rattle.rules.specs.State.{World, working}
use Rattle.rules.specs.State.Work.{waiting}
use Rattle.rules.specs.Settle.{settled_keeping, ring_refused, found_no_work}
use Rattle.rules.specs.declared.Entry.{Entry}
use Rattle.rules.specs.declared.Job.{Job}
use Rattle.rules.specs.declared.Opened.{Opened}
use Rattle.rules.specs.declared.Opening.{Opening}
use Rattle.rules.specs.declared.Opening.TheVariants.{BadRing, NoWork, Refused, Started}

-- ---- the packets as a list

-- the first broken rule with its place, what is held at the end, and how many packets were judged
pub record Reckoned : Type 0 where
  pub finding : Finding
  pub held : Progress
  pub count : ℕ

abbrev pub one_further : ℕ → Verdict → Progress → Reckoned → Reckoned
one_further at (Ok _) h later = record { finding = later.finding; held = later.held; count = suc later.count }
one_further at (Err r) h later = record { finding = broken (fault_at at r); held = h; count = 1 }

-- "the packet's byte offset in the stream for packet errors" (02, wish 9)
unfoldable pub judge_packets : List Entry → Progress → List Piece → Reckoned
judge_packets es h [] = record { finding = fine; held = h; count = 0 }
judge_packets es h (misframed at r ∷ later) = record { finding = broken (fault_at at r); held = h; count = 1 }
judge_packets es h (packet at p ∷ later) =
    one_further at (pass es h p).verdict h (judge_packets es (pass es h p).held later)

-- ---- a submission

-- "their count is one, plus the entries and packets judged up to and with the first broken one"
pub record Submission : Type 0 where
  pub finding : Finding
  pub held : Progress
  pub units : ℕ

abbrev pub after_entries : Finding → ℕ → Progress → Reckoned → Submission
after_entries fine judged h p = record { finding = p.finding; held = p.held; units = suc (judged + p.count) }
after_entries (broken f) judged h p = record { finding = broken f; held = h; units = suc judged }

-- the table's judgement, then the packets'
abbrev pub both : Judged → Progress → Reckoned → Submission
both t h p = after_entries t.finding t.count h p

-- "The unsliced rules judge the opening, then all entries, then all packets"
unfoldable pub submission : List ℕ → Opened → Progress → Submission
submission m o h =
    both (judge_entries (length m) [] (entries_of m o.table)) h
    (judge_packets (entries_of m o.table) h (packets_of m o.stream))

abbrev pub finished : World → Job → List Entry → Progress → Finding → World
finished w j es h fine = working (waiting j es h) w
finished w j es h (broken f) = settled_keeping j (broken f) w

abbrev pub concluding : World → Job → List Entry → Submission → Out World
concluding w j es b = record { state = finished w j es b.held b.finding; units = b.units }

-- what an opening comes to: finished with its error, or waiting for the host
abbrev pub submitted_on : World → Opening → Out World
submitted_on w BadRing = record { state = ring_refused w; units = 1 }
submitted_on w NoWork = record { state = found_no_work w; units = 1 }
submitted_on w (Refused j r) = record { state = settled_keeping j (broken (without_place r)) w; units = 1 }
submitted_on w (Started o) =
    concluding w o.job (entries_of w.mem o.table)
    (submission w.mem o (at_first w.state.belongings))

-- of a device at rest, enabled and with the flag set
unfoldable pub submitted : World → Out World
submitted w = submitted_on w (opening_of w.mem w.state.regs.ring w.state.regs.ringsize)
