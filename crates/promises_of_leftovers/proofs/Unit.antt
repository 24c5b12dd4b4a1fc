-- The theorems of specs/Unit.antt, and what they rest on. Assumes nothing.
use Rattle.std.specs.Prelude.{◌≡◌, refl, ℕ, length}
use mathlib.Core.List.{List}
use Rattle.rules.specs.Judging.{at_place}
use Rattle.rules.specs.Table.{take_entry}
use Rattle.rules.specs.Stream.{left}
use Rattle.rules.specs.Ring.{opening_of}
use Rattle.rules.specs.Packets.{take_packet}
use Rattle.rules.specs.State.{Work, State}
use Rattle.rules.specs.State.Work.{resting, entries, packets, waiting}
use Rattle.rules.specs.Steps.{open_step, entry_step, next_place, packet_step, step_on, step}
use Rattle.rules.specs.Listed.{unit_listed}
use Rattle.promises_of_submissions.specs.LocalWrites.SameWrites.{unwritten}
use Rattle.promises_of_submissions.specs.Locality.{lent, SameEnd, opening-blind, entry-blind, packet-blind}
use Rattle.promises_of_submissions.specs.Reads.{AgreeOn}
use Rattle.promises_of_leftovers.proofs.Opening.{listed-opening}
use Rattle.promises_of_leftovers.specs.Packet.{listed-frame}
use Rattle.promises_of_leftovers.proofs.Packet.{listed-taken}
use Rattle.promises_of_leftovers.specs.Unit.{listed-entry}

-- ---- one unit

module _ (s : State) (m m' : List ℕ) (len : length m ≡ length m') where
  on-listed : (k : Work) → AgreeOn m m' (unit_listed s.regs k m) → SameEnd m m' (step_on (lent s m) k) (step_on (lent s m') k)
  unfolding open_step entry_step packet_step
  on-listed resting same =
      rw (← listed-opening m m' s.regs.ring s.regs.ringsize same len) (opening-blind s m m' (opening_of m s.regs.ring s.regs.ringsize))
  on-listed (entries o kept) same =
      rw (← listed-entry m m' len o.table kept same) (entry-blind s m m' o (take_entry m o.table kept).kept (at_place (length kept) (take_entry m o.table kept).verdict))
  on-listed (packets j t at es h) same =
      rw (← listed-frame t at m m' len same, ← listed-taken t at m m' len same es h)
      (packet-blind s m m' j t (next_place at (left m t at)) es (take_packet es h (left m t at)).held (at_place at (take_packet es h (left m t at)).verdict))
  on-listed (waiting j es h) same = record { state = refl; writes = unwritten }

  -- one unit, of one device over two memories of one length that agree on what the unit lists
  pub unit-by-the-listed : AgreeOn m m' (unit_listed s.regs s.work m) → SameEnd m m' (step (lent s m)) (step (lent s m'))
  unfolding step
  unit-by-the-listed same = on-listed s.work same
