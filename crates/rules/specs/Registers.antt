-- 01, "Registers": the map, what each write does, and the reset.
use Rattle.std.specs.Prelude.{Bool, true, false, not, ◌&&◌, List, [], ◌∷◌, ℕ, ◌+◌, ◌*◌, ◌/◌, ◌%◌, ◌^◌, eqb}
use Rattle.machine.specs.Machine.{pick}
use Rattle.rules.specs.Numbers.{device_magic, version, features}
use Rattle.rules.specs.Lists.{Found, lookup}
use Rattle.rules.specs.State.{State, nothing_owned, with_written, with_reported, with_regs}
use Rattle.rules.specs.State.Work.{resting}
use Rattle.rules.specs.declared.Registers.{Registers}

-- ---- halves: "LO is first"

abbrev pub low : ℕ → ℕ
low x = x % 2 ^ 32

abbrev pub high : ℕ → ℕ
high x = x / 2 ^ 32

abbrev pub with_low : ℕ → ℕ → ℕ
with_low v x = v + 2 ^ 32 * high x

abbrev pub with_high : ℕ → ℕ → ℕ
with_high v x = low x + 2 ^ 32 * v

-- ---- bits

abbrev pub bit : Bool → ℕ
bit true = 1
bit false = 0

-- bit k of a number
abbrev pub bit_of : ℕ → ℕ → Bool
bit_of k v = eqb (v / 2 ^ k % 2) 1

-- "Status bit 0 is fence, bit 1 error."
abbrev pub status : Registers → ℕ
status r = bit r.fenced + 2 * bit r.failed

-- ---- what is read

pub record Read : Type 0 where
  pub offset : ℕ
  pub value : ℕ

abbrev pub read_offset : Read → ℕ
read_offset r = r.offset

abbrev pub shows : ℕ → ℕ → Read
shows at v = record { offset = at; value = v }

-- "000 magic ..; 004 version; 008/00C features 7 and 0; 130/134 completed fence; 300 IRQ status; 310 error code;
-- 314/318 error fence; 31C error count: read only." By wish 9, "a read-only register at offset 320 (hex), error detail". "100/104 ring GPA; 108 ring size; 10C control; 120/124 fence page GPA; 304 IRQ enable: both ways."
abbrev pub readable : Registers → List Read
readable r =
    shows 0x000 device_magic
    ∷ shows 0x004 version
    ∷ shows 0x008 features
    ∷ shows 0x00c 0
    ∷ shows 0x100 (low r.ring)
    ∷ shows 0x104 (high r.ring)
    ∷ shows 0x108 r.ringsize
    ∷ shows 0x10c (bit r.enabled)
    ∷ shows 0x120 (low r.fencepage)
    ∷ shows 0x124 (high r.fencepage)
    ∷ shows 0x130 (low r.completed)
    ∷ shows 0x134 (high r.completed)
    ∷ shows 0x300 (status r)
    ∷ shows 0x304 r.irqenable
    ∷ shows 0x310 r.error.code
    ∷ shows 0x314 (low r.error.fence)
    ∷ shows 0x318 (high r.error.fence)
    ∷ shows 0x31c r.error.count
    ∷ shows 0x320 r.error.detail
    ∷ []

unfoldable pub register : Registers → ℕ → Found Read
register r offset = lookup read_offset offset (readable r)

-- ---- what is written

abbrev pub with_ring : ℕ → Registers → Registers
with_ring v r = with_written r v r.ringsize r.enabled r.fencepage r.irqenable

abbrev pub with_ringsize : ℕ → Registers → Registers
with_ringsize v r = with_written r r.ring v r.enabled r.fencepage r.irqenable

abbrev pub with_enabled : Bool → Registers → Registers
with_enabled v r = with_written r r.ring r.ringsize v r.fencepage r.irqenable

abbrev pub with_page : ℕ → Registers → Registers
with_page v r = with_written r r.ring r.ringsize r.enabled v r.irqenable

abbrev pub with_irqenable : ℕ → Registers → Registers
with_irqenable v r = with_written r r.ring r.ringsize r.enabled r.fencepage v

-- "A doorbell write of any number sets the flag, enabled or not."
abbrev pub with_doorbell : Registers → Registers
with_doorbell r = with_reported r r.completed r.fenced r.failed r.error true

-- "Ack clears the status bits written as 1."
abbrev pub acknowledged : ℕ → Registers → Registers
acknowledged v r =
    with_reported r r.completed (r.fenced && not (bit_of 0 v)) (r.failed && not (bit_of 1 v)) r.error r.doorbell

-- "completed fence, IRQ status and doorbell flag become .. zero; error registers stay; .. other registers stay": the detail, too, is sticky
unfoldable pub reset_registers : Bool → Registers → Registers
reset_registers enabled r = with_reported (with_enabled enabled r) 0 false false r.error false

-- "Bit 1 resets: the submission in work is dropped without fence, head or error; resources .. become empty"; tokens are
-- "forgotten at reset" (02, wish 5)
unfoldable pub reset : Bool → State → State
reset enabled s =
    record { memory = s.memory; regs = reset_registers enabled s.regs; belongings = nothing_owned; work = resting }

-- "Control bit 0 enables. Bit 1 resets ..; bit 0 is taken from the same write .. Other bits are dropped."
unfoldable pub controlled : ℕ → State → State
controlled v s = pick (bit_of 1 v) (reset (bit_of 0 v) s) (with_regs (with_enabled (bit_of 0 v) s.regs) s)

pub record Write : Type 0 where
  pub offset : ℕ
  pub state : State

abbrev pub write_offset : Write → ℕ
write_offset w = w.offset

abbrev pub gives : ℕ → State → Write
gives at s = record { offset = at; state = s }

-- "100/104 ring GPA; 108 ring size; 10C control; 120/124 fence page GPA; 304 IRQ enable: both ways. 200 doorbell, 308 IRQ ack: write only."
abbrev pub writable : State → ℕ → List Write
writable s v =
    gives 0x100 (with_regs (with_ring (with_low v s.regs.ring) s.regs) s)
    ∷ gives 0x104 (with_regs (with_ring (with_high v s.regs.ring) s.regs) s)
    ∷ gives 0x108 (with_regs (with_ringsize v s.regs) s)
    ∷ gives 0x10c (controlled v s)
    ∷ gives 0x120 (with_regs (with_page (with_low v s.regs.fencepage) s.regs) s)
    ∷ gives 0x124 (with_regs (with_page (with_high v s.regs.fencepage) s.regs) s)
    ∷ gives 0x200 (with_regs (with_doorbell s.regs) s)
    ∷ gives 0x304 (with_regs (with_irqenable v s.regs) s)
    ∷ gives 0x308 (with_regs (acknowledged v s.regs) s)
    ∷ []

unfoldable pub write_of : State → ℕ → ℕ → Found Write
write_of s offset v = lookup write_offset offset (writable s v)
