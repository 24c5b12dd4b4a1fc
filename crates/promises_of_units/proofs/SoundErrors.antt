-- The theorems of specs/SoundErrors.antt, and what they rest on. Assumes nothing.
use Rattle.std.specs.Prelude.{◌≡◌, Bool, true, ℕ, ◌+◌, ◌-◌, ◌^◌, ltb, eqb}
use Rattle.std.proofs.Common.{ne_eqb}
use Rattle.machine.specs.Machine.{pick}
use Rattle.rules.specs.Judging.{Finding}
use Rattle.rules.specs.Judging.Finding.{fine, broken}
use Rattle.rules.specs.Settle.{one_more, faulted, signalled, ended_by}
use Rattle.rules.specs.declared.Fault.{Fault}
use Rattle.rules.specs.declared.Job.{Job}
use Rattle.rules.specs.declared.Registers.{Registers}
use Rattle.rule_laws.specs.Listed.{listed}
use Rattle.rule_laws.specs.Created.{SoundError}
use Rattle.promises_of_units.specs.SoundErrors.{ListedFinding, counted, either, listed-some}

-- an error that is told
pub fault-sound : (f : Fault) (fence : ℕ) (r : Registers) → listed f.code ≡ true → SoundError (faulted f fence r).error
unfolding faulted
fault-sound f fence r l =
    record {
      code = either (eqb f.code 0) _ l;
      rest = rw (ne_eqb f.code 0 (listed-some f.code l), ne_eqb (one_more r.error.count) 0 (counted r.error.count));
      detail = λ e. absurd (listed-some f.code l e);
    }

-- a submission's end
pub ended-sound : (j : Job) (v : Finding) (r : Registers) → ListedFinding v → SoundError r.error → SoundError (ended_by j v r).error
unfolding ended_by signalled
ended-sound j fine r l k = k
ended-sound j (broken f) r l k = fault-sound f j.signal r l
