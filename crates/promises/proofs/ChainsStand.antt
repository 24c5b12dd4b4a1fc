-- The theorems of specs/ChainsStand.antt, and what they rest on. Assumes nothing.
use Rattle.std.specs.Prelude.{◌≡◌, refl, Bool, false, List, [], ◌∷◌, ◌++◌, suc, ◌+◌, ◌<◌}
use Rattle.std.proofs.Common.{sym, ◌∙◌, append_assoc, append-nil, arith}
use Rattle.std.proofs.Math.Path.{ap, subst}
use Rattle.std.proofs.Math.Bool.{true}
use Rattle.machine.specs.Machine.{Out}
use Rattle.rules.specs.State.{World, registering}
use Rattle.rules.specs.State.Work.{resting}
use Rattle.rules.specs.Steps.{step, go, answered}
use Rattle.rules.specs.Unsliced.{submitted}
use Rattle.rules.specs.declared.Registers.{Registers}
use Rattle.rule_laws.specs.Fine.{both_left}
use Rattle.promises_of_submissions.specs.Whole.{midst, Course, course_none}
use Rattle.promises_of_units.specs.Writes.{registers_written}
use Rattle.promises_of_submissions.specs.Night.{Clear, rests, waits-clear, answered-clear}
use Rattle.promises_of_units.specs.Called.{Call, after_all, units_of_all, taken_by_all}
use Rattle.promises_of_units.specs.Acts.{Act, acts_of_all, units_in, answers_in, registers_after, units-in-both, answers-in-both, Led, NoReset}
use Rattle.promises_of_units.proofs.Acts.{acts-units, acts-answers, calls_lead}
use Rattle.promises_of_units.specs.Acts.Act.{unit, write, answer}
use Rattle.promises_of_units.specs.Acts.Led.{stays, spends, writes_one, takes}
use Rattle.promises.specs.Courses.{clash, course-unique, course-shorter, Opens}
use Rattle.promises.proofs.Courses.{opens, opening-ends}
use Rattle.promises.specs.Chains.{submitted_under, Span, Into, Rest, Served, Next, Stands, counted, given}
use Rattle.promises.specs.Chains.Span.{last, spending}
use Rattle.promises.specs.Chains.Rest.{none_left, ends}
use Rattle.promises.specs.Chains.Served.{begun, submission, written, answers}
use Rattle.promises.specs.Chains.Next.{none_begun, opened}
use Rattle.promises.specs.Chains.Stands.{in-the-first, past-the-first}
use Rattle.promises.specs.ChainsStand.{act-between, clear_served, enabled-before, next-takes-nothing, rest-takes-nothing, same-acts, served-answers, served-units, unit-inside, unit_ends, write-inside}

-- ---- one act more, before the others

-- the opening of a submission that goes on
module _ (w : World) (rest : w.state.work ≡ resting) (g : go w ≡ true) (m : midst (step w).state.work ≡ true) where
  own : Opens w w.state.regs (submitted_under w.state.regs w)
  own = opens w rest m w.state.regs (enabled-before w rest g m)

  not_through : {xs : List Act} {v : World} → Into (step w) xs v → suc (units_in xs) < (submitted w).units
  unfolding submitted
  not_through {xs} i =
      let less : units_in xs < own.count = course-shorter (i.units w.state.regs (enabled-before w rest g m)) i.inside own.course own.clear in
      omega (arith, own.units)

  -- all of it, and what came after
  through : {xs first night next : List Act} {x y v : World} → xs ≡ first ++ (night ++ next) → Span first
      → (registers_after first w.state.regs).enabled ≡ true → Course (units_in first) (registering (registers_after first w.state.regs) (step w)) x
      → Clear x → Served x night y → Next y next v → Stands w (unit ∷ xs) v
  through {xs} {first} {night} {next} {x} {y} e span on k c s n =
      let q : Registers = registers_after first w.state.regs in
      let o : Opens w q (submitted_under q w) = opens w rest m q on in
      let same : (units_in first ≡ o.count) × (x ≡ (submitted_under q w).state) = course-unique k c o.course o.clear in
      past-the-first {first = []} {night = (unit ∷ first) ++ night} (ap (λ l. unit ∷ l) (e ∙ sym (append_assoc first night next))) (none_left (ap midst rest))
      (submission rest g (spending span) on (ap suc same.0 ∙ o.units) (subst (λ (z : World). Served z night y) same.1 s)) n

  unit-opens : {xs : List Act} {v : World} → Stands (step w) xs v → Stands w (unit ∷ xs) v
  unit-opens (in-the-first h i) = past-the-first {first = []} {night = []} refl (none_left (ap midst rest)) begun (opened rest g own.alone i (not_through i))
  unit-opens (past-the-first e (none_left c) s n) = clash m c
  unit-opens (past-the-first {first = first} e (ends {v = x} h span on k c) s n) =
      let same : (step w).state.regs ≡ w.state.regs = ap (λ (z : World). z.state.regs) own.alone in
      through e span (subst (λ (r : Registers). (registers_after first r).enabled ≡ true) same on)
      (subst (λ (r : Registers). Course (units_in first) (registering (registers_after first r) (step w)) x) same k) c s n

-- ---- any acts

led-stands : {w v : World} {xs : List Act} → Led w xs v → Stands w xs v
unfolding units_in answers_in registers_after answered go submitted
led-stands {w} stays = by_test (midst w.state.work) refl
  where
    by_test : (b : Bool) → midst w.state.work ≡ b → Stands w [] w
    by_test true m = in-the-first m (record { takes-nothing = refl; inside = m; units = λ q on. course_none (registering q w); only = refl })
    by_test false c = past-the-first {first = []} {night = []} refl (none_left c) begun none_begun
led-stands {w} {v} (spends {xs = xs} g later) = by_tests (midst w.state.work) (midst (step w).state.work) refl refl (led-stands later)
  where
    by_tests : (a b : Bool) → midst w.state.work ≡ a → midst (step w).state.work ≡ b → Stands (step w) xs v → Stands w (unit ∷ xs) v
    by_tests true true m l s = unit-inside w m l s
    by_tests true false m c s = unit_ends w m (both_left w.state.regs.enabled _ g) c s
    by_tests false true c l s = unit-opens w (rests w c g) g l s
    by_tests false false c d s =
        let ends : submitted w ≡ record { state = step w; units = 1 } = opening-ends w (rests w c g) g d in
        act-between unit c d
        (λ ys y t. submission {during = []} (rests w c g) g last (both_left w.state.regs.enabled _ g) (sym (ap (λ (o : Out World). o.units) ends))
        (subst (λ (x : World). Served x ys y) (sym (ap (λ (o : Out World). o.state) ends)) t)) s
led-stands {w} {v} (writes_one {xs = xs} offset n h later) = by_test (midst w.state.work) refl (led-stands later)
  where
    by_test : (b : Bool) → midst w.state.work ≡ b → Stands (registering (registers_written offset n w.state.regs) w) xs v
        → Stands w (write offset n ∷ xs) v
    by_test true m s = write-inside w m offset n h s
    by_test false c s = act-between (write offset n) c c (λ ys y t. written offset n c h t) s
led-stands {w} (takes good h later) =
    act-between (answer good) (waits-clear w.state.work h) (answered-clear good w h) (λ ys y t. answers good h t) (led-stands later)

-- from any world, whatever is in work there, calls of which none is a reset stand in the midst of what was in work at the start; or at its
-- end, and whole submissions of the unsliced rules after it, and some units into the next one
pub calls-stand : (cs : List Call) (w : World) → NoReset cs → Stands w (acts_of_all cs w) (after_all cs w)
calls-stand cs w n = led-stands (calls_lead cs w n)

-- ---- from a clear world to a clear one

-- wherever calls that began with nothing in the midst stand so again, whole submissions of the unsliced rules have led there, each settled
-- with the registers that stood at its last unit, and writes and answers between them
pub clear_calls_are_unsliced : (cs : List Call) (w : World) → NoReset cs → Clear w → Clear (after_all cs w) → Served w (acts_of_all cs w) (after_all cs w)
clear_calls_are_unsliced cs w n c d = clear_served (calls-stand cs w n) c d

-- ---- the units and answers that calls report

-- however the acts of calls are split into the rest of what was in work, whole submissions, and the next
module _ (cs : List Call) (w : World) {x y : World} (first next : List Act) {night : List Act}
    (e : acts_of_all cs w ≡ first ++ (night ++ next)) (s : Served x night y) where
  -- the units that calls report are those of the rest of what was in work, the unsliced rules' counts, and those of the next so far
  pub units-add-up : units_of_all cs w ≡ units_in first + (counted s + units_in next)
  units-add-up =
      sym (acts-units cs w)
      ∙ (ap units_in e ∙ (units-in-both first (night ++ next)
      ∙ ap (λ k. units_in first + k) (units-in-both night next ∙ ap (λ k. k + units_in next) (served-units s))))

  -- and the answers that they took are those that were given between the whole submissions
  pub answers-are-those-given : {v : World} → Rest w first x → Next y next v → taken_by_all cs w ≡ given s
  answers-are-those-given r t =
      sym (acts-answers cs w)
      ∙ (ap answers_in e ∙ (answers-in-both first (night ++ next)
      ∙ rw (rest-takes-nothing r, answers-in-both night next, next-takes-nothing t, served-answers s, append-nil)))

-- ---- two lists of calls

-- two lists of calls from one world that spent the same units, wrote the same and took the same answers, in the same order, stand in the
-- same world, however their runs were cut
pub same-acts-same-world : (cs ds : List Call) (w : World) → NoReset cs → NoReset ds → acts_of_all cs w ≡ acts_of_all ds w
    → after_all cs w ≡ after_all ds w
same-acts-same-world cs ds w n k e = same-acts (subst (λ l. Led w l (after_all cs w)) e (calls_lead cs w n)) (calls_lead ds w k)
