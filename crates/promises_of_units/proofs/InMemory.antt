-- The theorems of specs/InMemory.antt, and what they rest on. Assumes nothing.
use Rattle.std.specs.Prelude.{◌≡◌, ℕ, suc, ◌+◌, ◌≤◌, length}
use Rattle.std.proofs.Math.Path.{subst}
use mathlib.Core.List.{List, [], ◌∷◌}
use native.Mathlib.Omega.{arith}
use Rattle.rules.specs.Numbers.{clips}
use Rattle.rules.specs.Packets.{Progress}
use Rattle.rules.specs.State.{State}
use Rattle.rules.specs.State.Work.{waiting}
use Rattle.rules.specs.declared.Entry.{Entry}
use Rattle.rules.specs.declared.Record.{Record}
use Rattle.rules.specs.declared.Job.{Job}
use Rattle.promises_of_packets.specs.Held.{Every, Inside}
use Rattle.promises_of_units.specs.Sound.{SoundState}
use Rattle.promises_of_units.proofs.Sound.{waiting-ranges-inside}
use Rattle.promises_of_units.specs.InMemory.{EndsIn, Lies, LiesIn, RangeEndsIn, found-ends}

-- ---- so what is handed out lies in memory

all_end : (n : ℕ) (es : List Entry) (cs : List Record) → Every (EndsIn n) es → Every (Inside es) cs → Every (RangeEndsIn n) cs
unfolding Every
all_end n es [] h k = omega arith
all_end n es (c ∷ cs) h k = (λ range. found-ends n c.id es c h (k.0 range), all_end n es cs h k.1)

-- while a submission waits, every range that it hands out ends within the memory that the device was made for
pub waiting-ranges-in-memory : (s : State) (j : Job) (es : List Entry) (h : Progress) → SoundState s → Lies s → s.work ≡ waiting j es h → Every (RangeEndsIn s.memory) h.holdings.records
waiting-ranges-in-memory s j es h k l e =
    all_end s.memory es h.holdings.records (subst (LiesIn s.memory) e l) (waiting-ranges-inside s j es h k e).0
