-- Demand 2, the fence: one that is accepted waits for the host, with registers, memory and the device's resources as before the
-- opening; one that is refused is settled with its error, hands out nothing and keeps every resource and token. Assumes nothing.
use Rattle.std.specs.Prelude.{◌≡◌, true, false, List, ℕ}
use Rattle.std.proofs.Math.Path.{ap}
use Rattle.std.proofs.Common.{◌∙◌}
use Rattle.machine.specs.Machine.{Out}
use Rattle.rules.specs.Judging.{without_place}
use Rattle.rules.specs.Judging.Finding.{fine, broken}
use Rattle.rules.specs.Ring.{opening_of}
use Rattle.rules.specs.Table.{entries_of}
use Rattle.rules.specs.Packets.{Progress, at_first, left_by}
use Rattle.rules.specs.State.{World, working}
use Rattle.rules.specs.State.Work.{waiting}
use Rattle.rules.specs.Settle.{ended_by, settled, settled_keeping}
use Rattle.rules.specs.Steps.{answered}
use Rattle.rules.specs.Unsliced.{Submission, submission, concluding, submitted_on, submitted}
use Rattle.rules.specs.Calls.{call_record, no_range}
use Rattle.rules.specs.declared.Entry.{Entry}
use Rattle.rules.specs.declared.Job.{Job}
use Rattle.rules.specs.declared.Opened.{Opened}
use Rattle.rules.specs.declared.Fault.{Fault}
use Rattle.rules.specs.declared.Refusal.{Refusal}
use Rattle.rules.specs.declared.Opening.TheVariants.{Refused, Started}
use Rattle.rules.specs.declared.Refusal.TheVariants.{HostFailed}

module _ (w : World) (o : Opened) (opened : opening_of w.mem w.state.regs.ring w.state.regs.ringsize ≡ Started o) where
  -- the unsliced rules' word on what was opened
  abbrev pub judged : Submission
  judged = submission w.mem o (at_first w.state.belongings)

  is : submitted w ≡ concluding w o.job (entries_of w.mem o.table) judged
  unfolding submitted
  is = ap (submitted_on w) opened

  -- accepted: it waits, and nothing but the work has changed
  pub accepted-waits : judged.finding ≡ fine → (submitted w).state ≡ working (waiting o.job (entries_of w.mem o.table) judged.held) w
  accepted-waits e = ap (λ (x : Out World). x.state) is ∙ rw e

  module _ (f : Fault) (e : judged.finding ≡ broken f) where
    -- refused: settled with the first broken rule, and its place
    pub refused-settles : (submitted w).state ≡ settled_keeping o.job (broken f) w
    refused-settles = ap (λ (x : Out World). x.state) is ∙ rw e

-- ---- a submission that its opening refuses

module _ (w : World) (j : Job) (r : Refusal) (opened : opening_of w.mem w.state.regs.ring w.state.regs.ringsize ≡ Refused j r) where
  -- settled with that rule and place 0, after one unit
  pub refused-at-opening : submitted w ≡ record { state = settled_keeping j (broken (without_place r)) w; units = 1 }
  unfolding submitted
  refused-at-opening = ap (submitted_on w) opened

-- ---- the host's answers, of a device that waits

module _ (w : World) (j : Job) (es : List Entry) (h : Progress) (awaits : w.state.work ≡ waiting j es h) where
  -- good: the submission's resources and tokens become the device's
  pub good-settles : answered true w ≡ settled j fine (left_by h) w
  unfolding answered
  good-settles = rw awaits

  -- failed: those before it stay, and the error is 27
  pub failed-settles : answered false w ≡ settled_keeping j (broken (without_place HostFailed)) w
  unfolding answered
  failed-settles = rw awaits
