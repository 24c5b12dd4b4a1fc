-- 01, "Settle": the error, the fence, the head and the fence page, in this order.
use Rattle.std.specs.Prelude.{Bool, true, false, not, ◌&&◌, ◌||◌, List, ℕ, ◌+◌, ◌-◌, ◌%◌, ◌^◌, ltb, leb, eqb, length}
use Rattle.machine.specs.Machine.{pick}
use Rattle.rules.specs.Judging.{Finding, without_place}
use Rattle.rules.specs.Judging.Finding.{fine, broken}
use Rattle.rules.specs.Bytes.{bytes_of}
use Rattle.rules.specs.Lists.{over}
use Rattle.rules.specs.Layouts.{head_offset, page_bytes}
use Rattle.rules.specs.Shapes.{larger}
use Rattle.rules.specs.Packets.{Belongings}
use Rattle.rules.specs.State.{World, with_reported, registering}
use Rattle.rules.specs.State.Work.{resting}
use Rattle.rules.specs.declared.Registers.{Registers}
use Rattle.rules.specs.declared.Job.{Job}
use Rattle.rules.specs.declared.Fault.{Fault}
use Rattle.rules.specs.declared.Refusal.TheVariants.{BadRing}

-- "count + 1 (stops at 4294967295)"
abbrev pub one_more : ℕ → ℕ
one_more n = pick (ltb n (2 ^ 32 - 1)) (n + 1) n

-- "Error: code, fence = signal fence, count + 1 .., status bit 1." And by wish 9, error detail: the place. "It is set with the code and as
-- sticky": a later error overwrites it, and nothing else does.
unfoldable pub faulted : Fault → ℕ → Registers → Registers
faulted f fence r =
    with_reported r r.completed r.fenced true (record { code = f.code; fence = fence; count = one_more r.error.count; detail = f.place }) r.doorbell

-- "Completed = larger of completed and signal fence; status bit 0 is set if it rose and no-IRQ is clear."
unfoldable pub signalled : ℕ → Bool → Registers → Registers
signalled fence silent r =
    with_reported r (larger r.completed fence) (r.fenced || (ltb r.completed fence && not silent)) r.failed r.error r.doorbell

-- the doorbell flag cleared
unfoldable pub doorbell_cleared : Registers → Registers
doorbell_cleared r = with_reported r r.completed r.fenced r.failed r.error false

-- a submission's last word to the registers: its error, if any, then its fence
abbrev pub faulted_by : Finding → ℕ → Registers → Registers
faulted_by fine fence r = r
faulted_by (broken f) fence r = faulted f fence r

unfoldable pub ended_by : Job → Finding → Registers → Registers
ended_by j v r = signalled j.signal j.silent (faulted_by v j.signal r)

-- ---- memory

-- bytes written where they lie within memory; else nothing is
unfoldable pub written : ℕ → List ℕ → List ℕ → List ℕ
written at b m = pick (leb (at + length b) (length m)) (over at b m) m

-- "the head read at opening, + 1 (wrapping)"
abbrev pub next_head : ℕ → ℕ
next_head head = (head + 1) % 2 ^ 32

-- it "goes to the opened ring", which lies within memory
unfoldable pub head_written : Job → List ℕ → List ℕ
head_written j m = written (j.ring + head_offset) (bytes_of 4 (next_head j.head)) m

-- "the fence page is written if its GPA is non-zero and all 16 bytes fit, else not"
unfoldable pub page_written : Registers → List ℕ → List ℕ
page_written r m = pick (eqb r.fencepage 0) m (written r.fencepage (page_bytes r.completed) m)

-- "Then the head ..., then the fence page": with the registers as they now are
unfoldable pub marked : Job → Registers → List ℕ → List ℕ
marked j r m = page_written r (head_written j m)

-- ---- the whole of it

-- a submission settled with what was found, and with these belongings the device's from now on
unfoldable pub settled : Job → Finding → Belongings → World → World
settled j v belongings w =
    record {
      state = record {
        memory = w.state.memory;
        regs = ended_by j v w.state.regs;
        belongings = belongings;
        work = resting;
      };
      mem = marked j (ended_by j v w.state.regs) w.mem;
    }

-- "otherwise those before it stay": after a refusal, and after the answer "failed"; it "leaves the tokens, too, as they were before it"
abbrev pub settled_keeping : Job → Finding → World → World
settled_keeping j v w = settled j v w.state.belongings w

-- ---- openings that settle nothing

-- "A bad ring clears the flag, sets the error with fence 0 and settles nothing."
abbrev pub ring_refused : World → World
ring_refused w = registering (doorbell_cleared (faulted (without_place BadRing) 0 w.state.regs)) w

-- "Head = tail clears the flag."
abbrev pub found_no_work : World → World
found_no_work w = registering (doorbell_cleared w.state.regs) w
