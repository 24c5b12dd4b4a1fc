-- A unit reads where it stands and nothing else: over two memories that hold the same bytes there, whatever stands elsewhere, it comes
-- to the same state and writes the same. So a front that has read ahead, or reads what it has kept once more, is shut out. Assumes nothing.
use Rattle.std.specs.Prelude.{◌≡◌, refl, Bool, List, [], ◌∷◌, ℕ, ◌≤◌, length}
use Rattle.std.proofs.Math.Bool.{true, false}
use Rattle.rules.specs.Judging.{Finding}
use Rattle.rules.specs.Judging.Finding.{fine, broken}
use Rattle.rules.specs.Layouts.{entry_size}
use Rattle.rules.specs.Table.{entry_place, take_entry}
use Rattle.rules.specs.Packets.{Progress}
use Rattle.rules.specs.State.{Work, State, World}
use Rattle.rules.specs.State.Work.{resting, entries, packets, waiting}
use Rattle.rules.specs.Settle.{settled}
use Rattle.rules.specs.Steps.{after_opening, after_entry, after_packet, go, answer_on, answered}
use Rattle.rules.specs.Calls.{Ran, call_run}
use Rattle.rules.specs.declared.Entry.{Entry}
use Rattle.rules.specs.declared.Job.{Job}
use Rattle.rules.specs.declared.Registers.{Registers}
use Rattle.rules.specs.declared.Table.{Table}
use Rattle.rules.specs.declared.Stream.{Stream}
use Rattle.rules.specs.declared.Opened.{Opened}
use Rattle.rules.specs.declared.Opening.{Opening}
use Rattle.rules.specs.declared.Opening.TheVariants.{BadRing, NoWork, Refused, Started}
use Rattle.promises_of_submissions.specs.LocalBytes.{Agree, same-entry}
use Rattle.promises_of_submissions.specs.LocalWrites.{SameWrites}
use Rattle.promises_of_submissions.specs.LocalWrites.SameWrites.{unwritten, settles}
use Rattle.promises_of_submissions.specs.LocalPackets.{SamePacket}
use Rattle.promises_of_submissions.specs.LocalOpening.{SameOpening}

-- a device that is lent a memory
abbrev pub lent : State → List ℕ → World
lent s m = record { state = s; mem = m }

-- two memories hold the same bytes where a unit reads that stands at some work: what an opening reads, the next entry, or the next packet up
-- to its table size
abbrev pub SameFor : Registers → Work → List ℕ → List ℕ → Type 0
SameFor r resting m m' = SameOpening m m' r.ring r.ringsize
SameFor r (entries o kept) m m' = Agree m m' (entry_place o.table (length kept)) entry_size
SameFor r (packets j s at es h) m m' = SamePacket m m' s at
SameFor r (waiting j es h) m m' = 0 ≤ 0

abbrev pub SameWhereRead : State → List ℕ → List ℕ → Type 0
SameWhereRead s = SameFor s.regs s.work

-- two worlds that were lent m and m' have come to the same registers, resources, tokens and work, and to the same writes
pub record SameEnd (m m' : List ℕ) (x x' : World) : Type 0 where
  pub state : x.state ≡ x'.state
  pub writes : SameWrites x.state.regs m m' x.mem x'.mem

-- the next entry is judged by its own 32 bytes, those kept before it and the memory's length
pub same-taken-entry : (m m' : List ℕ) → length m ≡ length m' → (t : Table) (kept : List Entry) → Agree m m' (entry_place t (length kept)) entry_size
    → take_entry m t kept ≡ take_entry m' t kept
unfolding take_entry
same-taken-entry m m' len t kept same = rw (len, same-entry m m' (entry_place t (length kept)) same)

module _ (s : State) (m m' : List ℕ) where
  -- what a unit comes to, once it has been judged, looks at no byte
  pub opening-blind : (v : Opening) → SameEnd m m' (after_opening (lent s m) v) (after_opening (lent s m') v)
  unfolding settled
  opening-blind BadRing = record { state = refl; writes = unwritten }
  opening-blind NoWork = record { state = refl; writes = unwritten }
  opening-blind (Refused j r) = record { state = refl; writes = settles j }
  opening-blind (Started o) = record { state = refl; writes = unwritten }

  pub entry-blind : (o : Opened) (kept : List Entry) (v : Finding) → SameEnd m m' (after_entry (lent s m) o kept v) (after_entry (lent s m') o kept v)
  unfolding settled
  entry-blind o kept fine = record { state = refl; writes = unwritten }
  entry-blind o kept (broken f) = record { state = refl; writes = settles o.job }

  pub packet-blind : (j : Job) (t : Stream) (next : ℕ) (es : List Entry) (h : Progress) (v : Finding)
      → SameEnd m m' (after_packet (lent s m) j t next es h v) (after_packet (lent s m') j t next es h v)
  unfolding settled
  packet-blind j t next es h fine = record { state = refl; writes = unwritten }
  packet-blind j t next es h (broken f) = record { state = refl; writes = settles j }

  -- what the host's answer comes to looks at none either
  answer-blind : (good : Bool) (k : Work) → SameEnd m m' (answer_on good (lent s m) k) (answer_on good (lent s m') k)
  unfolding settled
  answer-blind good resting = record { state = refl; writes = unwritten }
  answer-blind good (entries o kept) = record { state = refl; writes = unwritten }
  answer-blind good (packets j t at es h) = record { state = refl; writes = unwritten }
  answer-blind true (waiting j es h) = record { state = refl; writes = settles j }
  answer-blind false (waiting j es h) = record { state = refl; writes = settles j }

  -- an answer reads no byte
  pub answer-reads-nothing : (good : Bool) → SameEnd m m' (answered good (lent s m)) (answered good (lent s m'))
  unfolding answered
  answer-reads-nothing good = answer-blind good s.work

-- ---- by calls

-- two runs that answer and report the same, and have come to the same end
pub record SameRun (m m' : List ℕ) (x x' : Ran) : Type 0 where
  pub answer : x.answer ≡ x'.answer
  pub units : x.units ≡ x'.units
  pub ended : x.ended ≡ x'.ended
  pub end : SameEnd m m' x.world x'.world

-- ---- memory may move: runs of one unit each, each lent a memory of its own

abbrev pub after_one : State → List ℕ → State
after_one s m = (call_run (lent s m) 1).world.state

unfoldable pub over_moving : List (List ℕ) → State → State
over_moving [] s = s
over_moving (m ∷ ms) s = over_moving ms (after_one s m)

-- other memories, each of the same length and with the same bytes where its unit reads
pub data SameWhenRead : State → List (List ℕ) → List (List ℕ) → Type 0 where
  ends : {s : State} → SameWhenRead s [] []
  unit : {s : State} {ms ms' : List (List ℕ)} (m m' : List ℕ) → length m ≡ length m' → (go (lent s m) ≡ true → SameWhereRead s m m')
      → SameWhenRead (after_one s m) ms ms' → SameWhenRead s (m ∷ ms) (m' ∷ ms')
