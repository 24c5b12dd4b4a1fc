-- 01, "The steps and their price": one unit over the state and the memory lent at that unit; a run; the host's answer.
use Rattle.std.specs.Prelude.{Bool, true, false, ◌&&◌, List, [], ℕ, ◌+◌, ltb, length}
use Rattle.machine.specs.Machine.{pick, Out, run_while}
use Rattle.rules.specs.Judging.{Finding, at_place, without_place}
use Rattle.rules.specs.Judging.Finding.{fine, broken}
use Rattle.rules.specs.Layouts.{stream_header_size}
use Rattle.rules.specs.Table.{take_entry}
use Rattle.rules.specs.Stream.{left, frame_of, size_of}
use Rattle.rules.specs.Ring.{opening_of}
use Rattle.rules.specs.Packets.{Progress, Belongings, at_first, left_by, take_packet}
use Rattle.rules.specs.State.{Work, State, World, working}
use Rattle.rules.specs.State.Work.{resting, entries, packets, waiting}
use Rattle.rules.specs.Settle.{settled, settled_keeping, ring_refused, found_no_work}
use Rattle.rules.specs.declared.Entry.{Entry}
use Rattle.rules.specs.declared.Job.{Job}
use Rattle.rules.specs.declared.Stream.{Stream}
use Rattle.rules.specs.declared.Opened.{Opened}
use Rattle.rules.specs.declared.Opening.{Opening}
use Rattle.rules.specs.declared.Opening.TheVariants.{BadRing, NoWork, Refused, Started}
use Rattle.rules.specs.declared.Refusal.TheVariants.{HostFailed}

-- ---- what comes next: "After the last step the submission waits for the host."

-- the next packet, if one is left
abbrev pub packets_at : Job → Stream → ℕ → List Entry → Progress → Work
packets_at j s at es h = pick (ltb at s.size) (packets j s at es h) (waiting j es h)

-- the next entry, if one is left
abbrev pub entries_at : Opened → List Entry → Belongings → Work
entries_at o kept belongings =
    pick (ltb (length kept) o.table.count) (entries o kept)
    (packets_at o.job o.stream stream_header_size kept (at_first belongings))

-- ---- opening

abbrev pub after_opening : World → Opening → World
after_opening w BadRing = ring_refused w
after_opening w NoWork = found_no_work w
after_opening w (Refused j r) = settled_keeping j (broken (without_place r)) w
after_opening w (Started o) = working (entries_at o [] w.state.belongings) w

-- "Ring GPA and size are taken when a submission is opened"
unfoldable pub open_step : World → World
open_step w = after_opening w (opening_of w.mem w.state.regs.ring w.state.regs.ringsize)

-- ---- one table entry

abbrev pub after_entry : World → Opened → List Entry → Finding → World
after_entry w o kept fine = working (entries_at o kept w.state.belongings) w
after_entry w o kept (broken f) = settled_keeping o.job (broken f) w

-- "the entry index for 14 and 15" (02, wish 9): as many are kept before it
unfoldable pub entry_step : World → Opened → List Entry → World
entry_step w o kept =
    after_entry w o (take_entry w.mem o.table kept).kept (at_place (length kept) (take_entry w.mem o.table kept).verdict)

-- ---- one packet

abbrev pub after_packet : World → Job → Stream → ℕ → List Entry → Progress → Finding → World
after_packet w j s next es h fine = working (packets_at j s next es h) w
after_packet w j s next es h (broken f) = settled_keeping j (broken f) w

-- where the packet after the one that some bytes begin with stands
abbrev pub next_place : ℕ → List ℕ → ℕ
next_place at b = at + size_of (frame_of b)

-- "the packet's byte offset in the stream for packet errors" (02, wish 9): all that a packet's step raises, 17 of the last bytes and 19 too
unfoldable pub packet_step : World → Job → Stream → ℕ → List Entry → Progress → World
packet_step w j s at es h =
    after_packet w j s (next_place at (left w.mem s at)) es (take_packet es h (left w.mem s at)).held
    (at_place at (take_packet es h (left w.mem s at)).verdict)

-- ---- one unit: "opening, one table entry, or one packet"

abbrev pub step_on : World → Work → World
step_on w resting = open_step w
step_on w (entries o kept) = entry_step w o kept
step_on w (packets j s at es h) = packet_step w j s at es h
step_on w (waiting j es h) = w

unfoldable pub step : World → World
step w = step_on w w.state.work

-- "Open (flag set, enabled)." "While disabled, run spends 0; a submission in work stays"
abbrev pub busy : Bool → Work → Bool
busy rung resting = rung
busy rung (entries o kept) = true
busy rung (packets j s at es h) = true
busy rung (waiting j es h) = false

unfoldable pub go : World → Bool
go w = w.state.regs.enabled && busy w.state.regs.doorbell w.state.work

-- "Run stops when the allowance is spent, when idle, or when a submission waits."
abbrev pub run_for : ℕ → World → Out World
run_for = run_while go step

-- ---- the host's answer

abbrev pub waits_on : Work → Bool
waits_on resting = false
waits_on (entries o kept) = false
waits_on (packets j s at es h) = false
waits_on (waiting j es h) = true

abbrev pub waits : State → Bool
waits s = waits_on s.work

-- "On "good" the submission's resources become the device's; otherwise those before it stay." "An answer "failed" is error 27, no refusal."
abbrev pub answer_on : Bool → World → Work → World
answer_on good w resting = w
answer_on good w (entries o kept) = w
answer_on good w (packets j s at es h) = w
answer_on true w (waiting j es h) = settled j fine (left_by h) w
answer_on false w (waiting j es h) = settled_keeping j (broken (without_place HostFailed)) w

unfoldable pub answered : Bool → World → World
answered good w = answer_on good w w.state.work
