-- Wish 9, "tell me where it broke": at each settling of any device that was made and called, the number alone tells whether an entry or a packet broke a
-- rule, and number and detail tell which. Whatever bytes its memories hold. Assumes nothing.
use Rattle.std.specs.Prelude.{◌≡◌, Bool, true, ◌||◌, ℕ, ◌≤◌, eqb, length}
use Rattle.machine.specs.Machine.{pick}
use Rattle.rules.specs.Numbers.{bad_entry, twice_in_table, no_place}
use Rattle.rules.specs.Judging.Finding.{broken}
use Rattle.rules.specs.State.{Work, World}
use Rattle.rules.specs.State.Work.{resting, entries, packets, waiting}
use Rattle.rules.specs.Settle.{settled_keeping}
use Rattle.rules.specs.Steps.{step}
use Rattle.rules.specs.declared.Fault.{Fault}
use Rattle.rules.specs.declared.Job.{Job}
use Rattle.rules.specs.declared.Stream.{Stream}
use Rattle.promises_of_units.specs.Changes.{told}
use Rattle.rule_laws.specs.RuleNumbers.{EntryRule, opening_number, packet_number}
use Rattle.promises.specs.Places.{OfAnEntry, OfAPacket}

-- within the stream, behind its header; the number is never 14 or 15
abbrev pub OfANumberedPacket : Stream → Fault → Type 0
OfANumberedPacket t f = (packet_number f.code ≡ true) × OfAPacket t f

-- the number is never 14 or 15 either
abbrev pub OfAnOpening : Fault → Type 0
OfAnOpening f = (opening_number f.code ≡ true) × (f.place ≡ no_place)

-- where a unit's broken rule is, with what its number says: that of the entry or the packet that the unit judges, "else 0"
abbrev pub NumberedPlace : Work → Fault → Type 0
NumberedPlace resting f = OfAnOpening f
NumberedPlace (entries o kept) f = OfAnEntry o.table f × (f.place ≡ length kept)
NumberedPlace (packets j t at es h) f = OfANumberedPacket t f × (f.place ≡ at)
NumberedPlace (waiting j es h) f = ⊥

-- ---- the code and the detail alone tell the kind of place, as a host reads it (host/src/place.rs)

pub data Place : Type 0 where
  nowhere : Place
  at_entry : ℕ → Place
  at_packet : ℕ → Place

abbrev pub entry_number_of : ℕ → Bool
entry_number_of code = eqb code bad_entry || eqb code twice_in_table

-- 14 and 15 tell an entry's index; else a detail of 0 tells no place, and any other a packet's offset
abbrev pub place_told : ℕ → ℕ → Place
place_told code detail = pick (entry_number_of code) (at_entry detail) (pick (eqb detail no_place) nowhere (at_packet detail))

-- what a unit judges
abbrev pub judged_by : Work → Place
judged_by resting = nowhere
judged_by (entries o kept) = at_entry (length kept)
judged_by (packets j t at es h) = at_packet at
judged_by (waiting j es h) = nowhere

-- so of a unit that settles, the number is 14 or 15 exactly if it judged an entry
abbrev pub JudgesAnEntry : Work → Type 0
JudgesAnEntry resting = ⊥
JudgesAnEntry (entries o kept) = 0 ≤ 0
JudgesAnEntry (packets j t at es h) = ⊥
JudgesAnEntry (waiting j es h) = ⊥

-- ---- at a settling

-- a unit that finds a rule broken settles with it, tells its number and its place, and both tell which it is
pub record TellsWhich (w : World) (j : Job) (f : Fault) : Type 0 where
  pub settles : step w ≡ settled_keeping j (broken f) w
  pub tells : (step w).state.regs.error ≡ told j f w.state.regs.error
  pub place : NumberedPlace w.state.work f
  -- the error registers after it tell which: the entry's index, the packet's offset, or neither
  pub told-apart : place_told (step w).state.regs.error.code (step w).state.regs.error.detail ≡ judged_by w.state.work
  pub entrys : (EntryRule f.code → JudgesAnEntry w.state.work) × (JudgesAnEntry w.state.work → EntryRule f.code)
