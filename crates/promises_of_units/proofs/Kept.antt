-- The theorems of specs/Kept.antt, and what they rest on. Assumes nothing.
use Rattle.std.specs.Prelude.{◌≡◌, Bool, ℕ, eqb, length}
use Rattle.std.proofs.Common.{◌∙◌, arith, eqb-true}
use Rattle.std.proofs.Math.Bool.{true, false}
use mathlib.Core.List.{List}
use Rattle.std.proofs.lemmas.Bool.{not-false}
use Rattle.rules.specs.Judging.Finding.{broken}
use Rattle.rules.specs.Packets.{Progress}
use Rattle.rules.specs.State.{Work, State, World}
use Rattle.rules.specs.State.Work.{waiting}
use Rattle.rules.specs.Registers.{reset}
use Rattle.rules.specs.Settle.{ended_by, settled}
use Rattle.rules.specs.Steps.{answered}
use Rattle.rules.specs.Calls.{lent_another}
use Rattle.rules.specs.declared.Entry.{Entry}
use Rattle.rules.specs.declared.Job.{Job}
use Rattle.rules.specs.declared.Registers.{Registers}
use Rattle.rules.specs.Loaded.{loaded_sections, loaded}
use Rattle.settle.specs.Only.{answered-is-lent-alike, marked-length}
use Rattle.promises_of_units.specs.Fences.{good-settles, failed-settles}
use Rattle.promises_of_units.specs.Called.{Call, after, Called}
use Rattle.promises_of_units.specs.Called.Called.{makes, loads, calls}
use Rattle.promises_of_units.specs.Units.{Unit}
use Rattle.promises_of_units.specs.Units.Unit.{works-on, finds-bad-ring, finds-no-work, settles}
use Rattle.promises_of_units.specs.Events.{Event, Units, Happens}
use Rattle.promises_of_units.proofs.Events.{call-has-events}
use Rattle.promises_of_units.specs.Events.Units.{stop, one}
use Rattle.promises_of_units.specs.Events.Happens.{refused-write, refused-run, refused-answer, asks-register, asks-record, changes-registers, resets-all, spends, settles-answered}
use Rattle.promises_of_units.specs.Kept.{AnyMemory, EachLent, Holds, KeptByUnits, Lends}

pub lent_any : (s : State) (k : Called s) → EachLent AnyMemory s k
unfolding EachLent
lent_any s (makes memory) = omega arith
lent_any s (loads b good) = omega arith
lent_any s (calls {s = t} c m k) = (omega arith, lent_any t k)

module _ {Kind : List ℕ → Type 0} {Fact : ℕ → Work → Type 0} (c : KeptByUnits Kind Fact) where
  -- ---- by a unit, and by a run

  unit_lends : (w w' : World) → Unit w w' → (Lends c) w → (Lends c) w'
  unfolding settled
  unit_lends w w' (works-on next h) l = l
  unit_lends w w' (finds-bad-ring e h) l = l
  unit_lends w w' (finds-no-work e h) l = l
  unit_lends w w' (settles j f h) l =
      let after : Registers = ended_by j (broken f) w.state.regs in
      (marked-length j after w.mem ∙ l.0, c.marks j after w.mem l.1)

  unit-keeps : (w w' : World) → Unit w w' → (Lends c) w → (Holds c) w.state → (Holds c) w'.state
  unfolding settled
  unit-keeps w w' (works-on next h) l own = c.works-on w l.0 l.1 w.state.work next h own
  unit-keeps w w' (finds-bad-ring e h) l own = own
  unit-keeps w w' (finds-no-work e h) l own = own
  unit-keeps w w' (settles j f h) l own = c.rests w.state.memory

  units-keep : (w : World) (es : List Event) (w' : World) → Units w es w' → (Lends c) w → (Holds c) w.state → (Holds c) w'.state
  units-keep w es w' stop l own = own
  units-keep w es w' (one {w' = v} {es = fs} g u q) l own = units-keep v fs w' q (unit_lends w v u l) (unit-keeps w v u l own)

  -- ---- by every call

  answer_keeps : (good : Bool) (w : World) (j : Job) (es : List Entry) (h : Progress) → w.state.work ≡ waiting j es h → (Holds c) (answered good w).state
  unfolding settled
  answer_keeps true w j es h e = rw (good-settles w j es h e) (c.rests w.state.memory)
  answer_keeps false w j es h e = rw (failed-settles w j es h e) (c.rests w.state.memory)

  answer_marks : (good : Bool) (w : World) (j : Job) (es : List Entry) (h : Progress) → w.state.work ≡ waiting j es h → Kind w.mem → Kind (answered good w).mem
  unfolding settled
  answer_marks true w j es h e l = rw (good-settles w j es h e) (c.marks j _ w.mem l)
  answer_marks false w j es h e l = rw (failed-settles w j es h e) (c.marks j _ w.mem l)

  lends : (w : World) → lent_another w ≡ false → Kind w.mem → (Lends c) w
  lends w e l = (eqb-true (length w.mem) w.state.memory (not-false (eqb (length w.mem) w.state.memory) e), l)

  call-keeps : (w : World) (k : Call) (es : List Event) (w' : World) → Happens w k es w' → Kind w.mem → (Holds c) w.state → (Holds c) w'.state
  unfolding reset
  call-keeps w k es w' (refused-write offset v h) l own = own
  call-keeps w k es w' (refused-run n h) l own = own
  call-keeps w k es w' (refused-answer good n h) l own = own
  call-keeps w k es w' (asks-register offset) l own = own
  call-keeps w k es w' (asks-record i) l own = own
  call-keeps w k es w' (changes-registers offset v r n q d e) l own = own
  call-keeps w k es w' (resets-all offset v h q) l own = c.rests w.state.memory
  call-keeps w k es w' (spends n e u) l own =
      units-keep w es w' u (lends w e l) own
  call-keeps w k es w' (settles-answered good n j table h {fs = fs} d e u) l own =
      units-keep (answered good w) fs w' u (lends (answered good w) (answered-is-lent-alike good w ∙ d) (answer_marks good w j table h e l)) (answer_keeps good w j table h e)

  -- of any device that was made and called
  pub called-keeps : (s : State) (k : Called s) → EachLent Kind s k → Fact s.memory s.work
  unfolding EachLent loaded loaded_sections
  called-keeps s (makes memory) l = c.rests memory
  called-keeps s (loads b good) l = c.rests (loaded b).memory
  called-keeps s (calls {s = t} k m d) l =
      let happened : (es : List Event) × Happens (record { state = t; mem = m }) k es (after k (record { state = t; mem = m })) = call-has-events k (record { state = t; mem = m }) in
      call-keeps (record { state = t; mem = m }) k happened.0 (after k (record { state = t; mem = m })) happened.1 l.0 (called-keeps t d l.1)
