-- The theorems of specs/Fences.antt, and what they rest on. Assumes nothing.
use Rattle.std.specs.Prelude.{◌≡◌, true, false, ℕ}
use Rattle.std.proofs.Math.Path.{ap}
use Rattle.machine.specs.Machine.{Out}
use Rattle.rules.specs.Numbers.{no_record}
use Rattle.rules.specs.Judging.{without_place}
use Rattle.rules.specs.Judging.Finding.{fine, broken}
use Rattle.rules.specs.Lists.{nth}
use Rattle.rules.specs.Ring.{opening_of}
use Rattle.rules.specs.Table.{entries_of}
use Rattle.rules.specs.Packets.{at_first, left_by}
use Rattle.rules.specs.State.{World, working}
use Rattle.rules.specs.State.Work.{waiting}
use Rattle.rules.specs.Settle.{ended_by, settled, settled_keeping}
use Rattle.rules.specs.Steps.{answered}
use Rattle.rules.specs.Unsliced.{submitted}
use Rattle.rules.specs.Calls.{call_record, no_range}
use Rattle.rules.specs.declared.Job.{Job}
use Rattle.rules.specs.declared.Opened.{Opened}
use Rattle.rules.specs.declared.Fault.{Fault}
use Rattle.rules.specs.declared.Refusal.{Refusal}
use Rattle.rules.specs.declared.Opening.TheVariants.{Refused, Started}
use Rattle.promises_of_units.specs.Fences.{accepted-waits, judged, refused-at-opening, refused-settles}

module _ (w : World) (o : Opened) (opened : opening_of w.mem w.state.regs.ring w.state.regs.ringsize ≡ Started o) where
  -- so the fence, the status, the head and the page stand as before the opening, and the device's resources and tokens too
  pub waiting-keeps-registers : (judged w o opened).finding ≡ fine → (submitted w).state.state.regs ≡ w.state.regs
  waiting-keeps-registers e = ap (λ (x : World). x.state.regs) ((accepted-waits w o opened) e)

  pub waiting-keeps-memory : (judged w o opened).finding ≡ fine → (submitted w).state.mem ≡ w.mem
  waiting-keeps-memory e = ap (λ (x : World). x.mem) ((accepted-waits w o opened) e)

  pub waiting-keeps-belongings : (judged w o opened).finding ≡ fine → (submitted w).state.state.belongings ≡ w.state.belongings
  waiting-keeps-belongings e = ap (λ (x : World). x.state.belongings) ((accepted-waits w o opened) e)

  module _ (f : Fault) (e : (judged w o opened).finding ≡ broken f) where
    -- its error and its fence stand in the registers
    pub refused-registers : (submitted w).state.state.regs ≡ ended_by o.job (broken f) w.state.regs
    unfolding settled
    refused-registers = ap (λ (x : World). x.state.regs) (refused-settles w o opened f e)

    -- every resource is as it was
    pub refused-keeps-belongings : (submitted w).state.state.belongings ≡ w.state.belongings
    unfolding settled
    refused-keeps-belongings = ap (λ (x : World). x.state.belongings) (refused-settles w o opened f e)

    -- and nothing is handed out: every record call answers 4
    pub refused-hands-out-nothing : (i : ℕ) → call_record (submitted w).state.state i ≡ record { answer = no_record; range = no_range }
    unfolding settled call_record nth
    refused-hands-out-nothing i = ap (λ (x : World). call_record x.state i) (refused-settles w o opened f e)

-- ---- a submission that its opening refuses

module _ (w : World) (j : Job) (r : Refusal) (opened : opening_of w.mem w.state.regs.ring w.state.regs.ringsize ≡ Refused j r) where
  pub opening-refusal-keeps-belongings : (submitted w).state.state.belongings ≡ w.state.belongings
  unfolding settled
  opening-refusal-keeps-belongings = ap (λ (x : Out World). x.state.state.belongings) (refused-at-opening w j r opened)

  pub opening-refusal-hands-out-nothing : (i : ℕ) → call_record (submitted w).state.state i ≡ record { answer = no_record; range = no_range }
  unfolding settled call_record nth
  opening-refusal-hands-out-nothing i = ap (λ (x : Out World). call_record x.state.state i) (refused-at-opening w j r opened)
