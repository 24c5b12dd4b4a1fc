-- 01, "State and calls": the device's state, and the memory beside it. What a phase does not use is no part of it, but for what is said at `waiting`.
use Rattle.std.specs.Prelude.{Bool, false, List, [], ℕ}
use Rattle.rules.specs.Packets.{Progress, Belongings}
use Rattle.rules.specs.declared.LastError.{LastError}
use Rattle.rules.specs.declared.Registers.{Registers}
use Rattle.rules.specs.declared.Entry.{Entry}
use Rattle.rules.specs.declared.Job.{Job}
use Rattle.rules.specs.declared.Stream.{Stream}
use Rattle.rules.specs.declared.Opened.{Opened}

-- "In work means from opening to settling." "Checked entries are kept, as are the numbers read at opening."
pub data Work : Type 0 where
  resting : Work
  -- what was opened, and the entries kept so far
  entries : Opened → List Entry → Work
  -- the stream and the place in it, the table's entries, and what is held
  packets : Job → Stream → ℕ → List Entry → Progress → Work
  -- the host's answer is awaited. The entries stay, so that it can be said of each range handed out which one it lies in, and the target with what
  -- is held.
  waiting : Job → List Entry → Progress → Work

pub record State : Type 0 where
  -- "made for one memory length"
  pub memory : ℕ
  pub regs : Registers
  pub belongings : Belongings
  pub work : Work

pub record World : Type 0 where
  pub state : State
  pub mem : List ℕ

-- ---- registers: all of them are named in one place

abbrev pub registers_of : ℕ → ℕ → Bool → ℕ → ℕ → Bool → Bool → ℕ → LastError → Bool → Registers
registers_of ring ringsize enabled page completed fenced failed irqenable error rung =
    record {
      ring = ring;
      ringsize = ringsize;
      enabled = enabled;
      fencepage = page;
      completed = completed;
      fenced = fenced;
      failed = failed;
      irqenable = irqenable;
      error = error;
      doorbell = rung;
    }

-- the same registers with other numbers where the guest writes: ring, its size, enabled, page, IRQ enable
abbrev pub with_written : Registers → ℕ → ℕ → Bool → ℕ → ℕ → Registers
with_written r ring ringsize enabled page irqenable =
    registers_of ring ringsize enabled page r.completed r.fenced r.failed irqenable r.error r.doorbell

-- the same with others where the device tells: completed fence, the two status bits, the last error, the doorbell flag
abbrev pub with_reported : Registers → ℕ → Bool → Bool → LastError → Bool → Registers
with_reported r completed fenced failed error rung =
    registers_of r.ring r.ringsize r.enabled r.fencepage completed fenced failed r.irqenable error rung

abbrev pub no_error : LastError
no_error = record { code = 0; fence = 0; count = 0; detail = 0 }

-- "starts as after a reset, with error and writable registers zero"
abbrev pub fresh : Registers
fresh = registers_of 0 0 false 0 0 false false 0 no_error false

abbrev pub nothing_owned : Belongings
nothing_owned = record { resources = []; tokens = [] }

abbrev pub made : ℕ → State
made memory = record { memory = memory; regs = fresh; belongings = nothing_owned; work = resting }

-- ---- a state with one part of it another

abbrev pub with_regs : Registers → State → State
with_regs r s = record { memory = s.memory; regs = r; belongings = s.belongings; work = s.work }

abbrev pub with_work : Work → State → State
with_work k s = record { memory = s.memory; regs = s.regs; belongings = s.belongings; work = k }

abbrev pub with_state : State → World → World
with_state s w = record { state = s; mem = w.mem }

abbrev pub working : Work → World → World
working k w = with_state (with_work k w.state) w

abbrev pub registering : Registers → World → World
registering r w = with_state (with_regs r w.state) w
