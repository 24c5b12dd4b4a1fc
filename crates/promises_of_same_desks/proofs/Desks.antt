-- The theorems of specs/Desks.antt, and what they rest on. Assumes nothing.
use Rattle.std.specs.Prelude.{◌≡◌, refl, Bool, List, ℕ}
use Rattle.std.proofs.Common.{subst}
use Rattle.rules.specs.Names.{token_of}
use Rattle.rules.specs.Packets.{handle_of, Progress, Belongings, at_first, left_by}
use Rattle.rules.specs.State.{Work, State}
use Rattle.rules.specs.State.Work.{resting, entries, packets, waiting}
use Rattle.rules.specs.Steps.{busy, waits_on}
use Rattle.rules.specs.Calls.{at_rest, handed_out}
use Rattle.rules.specs.declared.Entry.{Entry}
use Rattle.rules.specs.declared.Job.{Job}
use Rattle.rules.specs.declared.Stream.{Stream}
use Rattle.promises_of_saving.specs.SameDevice.{SameDevice}
use Rattle.promises_of_same_desks.specs.Maps.{SameMap}
use Rattle.promises_of_same_desks.specs.Packets.{SameHeld}
use Rattle.promises_of_same_desks.specs.Desks.{SameBelongings, SameDesk, SameWork}
use Rattle.promises_of_same_desks.specs.Desks.SameWork.{both_at_entries, both_at_packets, both_rest, both_wait}

-- ---- a device is the same desk as itself, and devices that are the same are

pub held-itself : (h : Progress) → SameHeld h h
held-itself h = record { resources = λ k. refl; records = refl; target = refl; tokens = λ k. refl }

pub work_itself : (k : Work) → SameWork k k
work_itself resting = both_rest
work_itself (entries o kept) = both_at_entries o kept
work_itself (packets j s at es h) = both_at_packets j s at es (held-itself h)
work_itself (waiting j es h) = both_wait j es (held-itself h)

pub same-desk : (s t : State) → SameDevice s t → SameDesk s t
same-desk s t d =
    record {
      memory = d.memory;
      regs = d.regs;
      belongings = record { resources = d.resources; tokens = d.tokens };
      work = subst (SameWork s.work) d.work (work_itself s.work);
    }

pub desk-itself : (s : State) → SameDesk s s
desk-itself s = record { memory = refl; regs = refl; belongings = record { resources = λ k. refl; tokens = λ k. refl }; work = work_itself s.work }

-- ---- what is asked of work is the same

pub same-busy : (rung : Bool) {k l : Work} → SameWork k l → busy rung k ≡ busy rung l
same-busy rung both_rest = refl
same-busy rung (both_at_entries o kept) = refl
same-busy rung (both_at_packets j s at es d) = refl
same-busy rung (both_wait j es d) = refl

pub same-waits : {k l : Work} → SameWork k l → waits_on k ≡ waits_on l
same-waits both_rest = refl
same-waits (both_at_entries o kept) = refl
same-waits (both_at_packets j s at es d) = refl
same-waits (both_wait j es d) = refl

pub same_rest : {k l : Work} → SameWork k l → at_rest k ≡ at_rest l
same_rest both_rest = refl
same_rest (both_at_entries o kept) = refl
same_rest (both_at_packets j s at es d) = refl
same_rest (both_wait j es d) = refl

pub same-handed-out : {k l : Work} → SameWork k l → handed_out k ≡ handed_out l
same-handed-out both_rest = refl
same-handed-out (both_at_entries o kept) = refl
same-handed-out (both_at_packets j s at es d) = refl
same-handed-out (both_wait j es d) = d.records

-- a submission begins with what the device has, and leaves the device what it holds
pub first-same : (b c : Belongings) → SameBelongings b c → SameHeld (at_first b) (at_first c)
first-same b c d = record { resources = d.resources; records = refl; target = refl; tokens = d.tokens }

pub left-same : (g h : Progress) → SameHeld g h → SameBelongings (left_by g) (left_by h)
left-same g h d = record { resources = d.resources; tokens = d.tokens }
