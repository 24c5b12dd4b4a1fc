-- Any calls over two memories that agree on what the units of these calls list, each as memory is at that unit: every call answers and reports the same, and the device
-- comes to the same state. This is the theorem from which the rest follows; what a whole submission lists, from its opening on, covers what its units do
-- (Cover.antt). Assumes nothing.
use Rattle.std.proofs.Math.Path.{◌≡◌, ap}
use Rattle.std.specs.Prelude.{refl, Bool, List, [], ◌∷◌, ◌++◌, ℕ, zero, suc, eqb, length}
use Rattle.std.proofs.Common.{subst}
use Rattle.machine.specs.Machine.{Out}
use Rattle.rules.specs.Numbers.{done}
use Rattle.rules.specs.State.{State, World}
use Rattle.rules.specs.Steps.{step, go, answered}
use Rattle.rules.specs.Calls.{lent_another, not_run, ending, Ran, ran, call_run, call_answer}
use Rattle.rules.specs.Listed.{Named, where_true, unit_listed}
use Rattle.promises_of_submissions.specs.Reads.{AgreeOn}
use Rattle.promises_of_submissions.specs.Locality.{lent, answer-reads-nothing}
use Rattle.promises_of_units.specs.Called.{Call, after}
use Rattle.promises_of_units.specs.Called.Call.{writes, reads, runs, records, answers}
use Rattle.promises_of_leftovers.specs.Unit.{SameStill, end-still, still-agree-on}

-- ---- what units list, and calls

-- the units of a run, by its allowance
unfoldable pub units_listed : ℕ → World → List Named
units_listed zero w = []
units_listed (suc n) w = where_true (go w) (unit_listed w.state.regs w.state.work w.mem ++ units_listed n (step w))

-- those of a call: one that is refused has none
unfoldable pub call_units_listed : Call → World → List Named
call_units_listed (writes offset v) w = []
call_units_listed (reads offset) w = []
call_units_listed (runs n) w = where_true (eqb (call_run w n).answer done) (units_listed n w)
call_units_listed (records i) w = []
call_units_listed (answers good n) w = where_true (eqb (call_answer w good n).answer done) (units_listed n (answered good w))

-- and of calls one after the other
unfoldable pub calls_units_listed : List Call → World → List Named
calls_units_listed [] w = []
calls_units_listed (c ∷ cs) w = call_units_listed c w ++ calls_units_listed cs (after c w)

-- ---- a unit and a run, of two worlds in one state

abbrev pub Alike : World → World → List Named → Type 0
Alike x x' fs = AgreeOn x.mem x'.mem fs

abbrev pub Still : World → World → World → World → Type 0
Still x x' y y' = SameStill x.mem x'.mem y y'

pub same-go : (x x' : World) → x.state ≡ x'.state → go x ≡ go x'
unfolding go
same-go x x' e = rw e

-- what agreed before agrees after
pub after-still : (x x' y y' : World) → Still x x' y y' → (fs : List Named) → Alike x x' fs → Alike y y' fs
after-still x x' y y' k fs = still-agree-on x.mem x'.mem y.mem y'.mem k.long k.still fs

pub answered-alike : (good : Bool) (x x' : World) → x.state ≡ x'.state → length x.mem ≡ length x'.mem → Still x x' (answered good x) (answered good x')
answered-alike good x x' e len =
    subst (λ (s : State). Still x x' (answered good x) (answered good (lent s x'.mem))) e
    (end-still x.mem x'.mem _ _ len (answer-reads-nothing x.state x.mem x'.mem good))

pub stands : (x x' : World) → x.state ≡ x'.state → length x.mem ≡ length x'.mem → Still x x' x x'
stands x x' e len = record { state = e; long = len; still = λ i h. h }

-- two runs that have spent the same number of units
pub record SameUnits (x x' : World) (o o' : Out World) : Type 0 where
  pub units : o.units ≡ o'.units
  pub end : Still x x' o.state o'.state

-- ---- a call

-- two runs, or two answers with a run, that answer and report the same
pub record SameReport (x x' : World) (r r' : Ran) : Type 0 where
  pub answer : r.answer ≡ r'.answer
  pub units : r.units ≡ r'.units
  pub ended : r.ended ≡ r'.ended
  pub end : Still x x' r.world r'.world

pub same-lent : (x x' : World) → x.state ≡ x'.state → length x.mem ≡ length x'.mem → lent_another x ≡ lent_another x'
same-lent x x' e len = rw (e, len)

pub refused-alike : (x x' : World) (a : ℕ) → x.state ≡ x'.state → length x.mem ≡ length x'.mem → SameReport x x' (not_run a x) (not_run a x')
refused-alike x x' a e len = record { answer = refl; units = refl; ended = refl; end = stands x x' e len }

pub ran-alike : (x x' : World) (o o' : Out World) → SameUnits x x' o o' → SameReport x x' (ran o) (ran o')
ran-alike x x' o o' k = record { answer = refl; units = k.units; ended = ap ending k.end.state; end = k.end }
