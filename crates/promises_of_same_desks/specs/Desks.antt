-- When two devices are the same desk, at rest or in the midst of a submission: every number is the same, every handle means the same resource or none,
-- every token the same or none, and what is in work is the same, what the submission holds read in the same way. A unit, a run and a call of the two come
-- to the same (Units.antt, Calls.antt).
use Rattle.std.specs.Prelude.{◌≡◌, refl, List, ℕ}
use Rattle.rules.specs.Names.{token_of}
use Rattle.rules.specs.Packets.{handle_of, Progress, Belongings}
use Rattle.rules.specs.State.{Work, State, World}
use Rattle.rules.specs.State.Work.{resting, entries, packets, waiting}
use Rattle.rules.specs.declared.Entry.{Entry}
use Rattle.rules.specs.declared.Job.{Job}
use Rattle.rules.specs.declared.Stream.{Stream}
use Rattle.rules.specs.declared.Opened.{Opened}
use Rattle.promises_of_same_desks.specs.Maps.{SameMap}
use Rattle.promises_of_same_desks.specs.Packets.{SameHeld}

-- what a device has of its own
pub record SameBelongings (b c : Belongings) : Type 0 where
  pub resources : SameMap handle_of b.resources c.resources
  pub tokens : SameMap token_of b.tokens c.tokens

-- the same job, the same entries, the same place in the stream, and the same held
pub data SameWork : Work → Work → Type 0 where
  both_rest : SameWork resting resting
  both_at_entries : (o : Opened) (kept : List Entry) → SameWork (entries o kept) (entries o kept)
  both_at_packets : (j : Job) (s : Stream) (at : ℕ) (es : List Entry) {g h : Progress} → SameHeld g h → SameWork (packets j s at es g) (packets j s at es h)
  both_wait : (j : Job) (es : List Entry) {g h : Progress} → SameHeld g h → SameWork (waiting j es g) (waiting j es h)

pub record SameDesk (s t : State) : Type 0 where
  pub memory : s.memory ≡ t.memory
  pub regs : s.regs ≡ t.regs
  pub belongings : SameBelongings s.belongings t.belongings
  pub work : SameWork s.work t.work

-- and the same memory beside them
pub record SameWorld (w v : World) : Type 0 where
  pub state : SameDesk w.state v.state
  pub mem : w.mem ≡ v.mem
