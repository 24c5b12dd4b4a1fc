-- Demands 2 and 3, of calls with register writes: from any world, whatever is in work there, calls of which none resets stand where the
-- unsliced rules say, or some units into a submission. Assumes nothing.
use Rattle.std.specs.Prelude.{◌≡◌, refl, false, List, [], ◌∷◌, ℕ, suc, ◌+◌}
use Rattle.std.proofs.Common.{sym, ◌∙◌, append-nil}
use Rattle.std.proofs.Math.Path.{ap, subst}
use Rattle.std.proofs.Math.Bool.{true}
use Rattle.rules.specs.State.{World, working, registering}
use Rattle.rules.specs.State.Work.{resting}
use Rattle.rules.specs.Steps.{step, go}
use Rattle.rules.specs.declared.Registers.{Registers}
use Rattle.rule_laws.specs.Fine.{both_left}
use Rattle.promises_of_submissions.specs.Whole.{midst, Course}
use Rattle.promises_of_units.specs.Writes.{resets, registers_written}
use Rattle.promises_of_submissions.specs.Night.{Clear}
use Rattle.promises_of_units.specs.Called.{after_all, units_of_all}
use Rattle.promises_of_units.specs.Acts.{Act, acts_of_all, units_in, answers_in, registers_after, units-in-both, answers-in-both, Led, NoReset}
use Rattle.promises_of_units.specs.Acts.Act.{unit, write}
use Rattle.promises_of_units.specs.Acts.Led.{stays, spends, writes_one, takes}
use Rattle.promises.specs.Courses.{clash, unit-alone, course_one, course_next}
use Rattle.promises.specs.Chains.{Span, Rest, Served, Next, Stands, counted, given}
use Rattle.promises.specs.Chains.Span.{last, spending, writing}
use Rattle.promises.specs.Chains.Rest.{none_left, ends}
use Rattle.promises.specs.Chains.Served.{begun, submission, written, answers}
use Rattle.promises.specs.Chains.Next.{none_begun, opened}
use Rattle.promises.specs.Chains.Stands.{in-the-first, past-the-first}

-- ---- one act more, before the others

-- between submissions, and a whole submission of one unit
pub act-between : {w x v : World} {xs : List Act} (a : Act) → Clear w → Clear x → ((ys : List Act) (y : World) → Served x ys y → Served w (a ∷ ys) y)
    → Stands x xs v → Stands w (a ∷ xs) v
act-between a c d more (in-the-first m i) = clash m d
act-between a c d more (past-the-first {y = y} {night = night} e (none_left k) s n) =
    past-the-first {first = []} {night = a ∷ night} (ap (λ l. a ∷ l) e) (none_left c) (more night y s) n
act-between a c d more (past-the-first e (ends m span on k l) s n) = clash m d

-- the opening of a submission that goes on
module _ (w : World) (rest : w.state.work ≡ resting) (g : go w ≡ true) (m : midst (step w).state.work ≡ true) where
  pub enabled-before : w.state.regs.enabled ≡ true
  unfolding go
  enabled-before = both_left w.state.regs.enabled _ g

-- in the midst
module _ (w : World) (m : midst w.state.work ≡ true) where
  -- a write
  pub write-inside : {xs : List Act} {v : World} (offset n : ℕ) → resets offset n ≡ false
      → Stands (registering (registers_written offset n w.state.regs) w) xs v → Stands w (write offset n ∷ xs) v
  unfolding units_in answers_in registers_after
  write-inside offset n h (in-the-first l i) = in-the-first m (record { takes-nothing = i.takes-nothing; inside = i.inside; units = i.units; only = i.only })
  write-inside offset n h (past-the-first e (none_left c) s k) = clash m c
  write-inside offset n h (past-the-first {first = first} e (ends l span on k c) s t) =
      past-the-first {first = write offset n ∷ first} (ap (λ l. write offset n ∷ l) e) (ends m (writing offset n h span) on k c) s t

  module _ (on : w.state.regs.enabled ≡ true) where
    -- the last unit of what was in work
    pub unit_ends : {xs : List Act} {v : World} → Clear (step w) → Stands (step w) xs v → Stands w (unit ∷ xs) v
    unfolding units_in registers_after
    unit_ends c (in-the-first l i) = clash l c
    unit_ends c (past-the-first e (none_left d) s n) = past-the-first {first = unit ∷ []} (ap (λ l. unit ∷ l) e) (ends m last on (course_one w on m) c) s n
    unit_ends c (past-the-first e (ends l span h k d) s n) = clash l c

  module _ (l : midst (step w).state.work ≡ true) where
    alone : step w ≡ working (step w).state.work w
    alone = unit-alone w w.state.regs m l

    one_further : {n : ℕ} {v : World} (q : Registers) → q.enabled ≡ true → Course n (registering q (step w)) v → Course (suc n) (registering q w) v
    one_further {n} {v} q on k =
        course_next n (registering q w) v on m (subst (λ (x : World). Course n x v) (ap (registering q) alone ∙ sym (unit-alone w q m l)) k)

    -- another unit
    pub unit-inside : {xs : List Act} {v : World} → Stands (step w) xs v → Stands w (unit ∷ xs) v
    unfolding units_in answers_in registers_after
    unit-inside {xs} {v} (in-the-first h i) =
        in-the-first m
        (record {
          takes-nothing = i.takes-nothing;
          inside = i.inside;
          units = λ q on. one_further q on (i.units q on);
          only = i.only ∙ ap (λ (x : World). registering (registers_after xs x.state.regs) (working v.state.work x)) alone;
        })
    unit-inside (past-the-first e (none_left c) s n) = clash l c
    unit-inside (past-the-first {first = first} e (ends {v = x} h span on k c) s n) =
        let same : (step w).state.regs ≡ w.state.regs = ap (λ (z : World). z.state.regs) alone in
        let q : Registers = registers_after first w.state.regs in
        let on' : q.enabled ≡ true = subst (λ (r : Registers). (registers_after first r).enabled ≡ true) same on in
        past-the-first {first = unit ∷ first} (ap (λ l. unit ∷ l) e)
        (ends m (spending span) on'
        (one_further q on' (subst (λ (r : Registers). Course (units_in first) (registering (registers_after first r) (step w)) x) same k)) c) s n

-- ---- from a clear world to a clear one

pub clear_served : {w v : World} {xs : List Act} → Stands w xs v → Clear w → Clear v → Served w xs v
clear_served (in-the-first m i) c d = clash m c
clear_served {w} {v} (past-the-first {night = night} e (none_left k) s none_begun) c d = subst (λ l. Served w l v) (sym (e ∙ append-nil night)) s
clear_served (past-the-first e (none_left k) s (opened rest g a i n)) c d = clash i.inside d
clear_served (past-the-first e (ends m span on k l) s n) c d = clash m c

-- ---- the units and answers that calls report

pub served-units : {w v : World} {xs : List Act} (s : Served w xs v) → units_in xs ≡ counted s
unfolding units_in counted
served-units begun = refl
served-units (submission {during = during} {xs = xs} rest g span on n later) = units-in-both (unit ∷ during) xs ∙ rw (served-units later, n)
served-units (written offset n c h later) = served-units later
served-units (answers good h later) = served-units later

span-takes-nothing : {xs : List Act} → Span xs → answers_in xs ≡ []
unfolding answers_in
span-takes-nothing last = refl
span-takes-nothing (spending s) = span-takes-nothing s
span-takes-nothing (writing offset n h s) = span-takes-nothing s

pub served-answers : {w v : World} {xs : List Act} (s : Served w xs v) → answers_in xs ≡ given s
unfolding answers_in given
served-answers begun = refl
served-answers (submission {during = during} {xs = xs} rest g span on n later) =
    answers-in-both (unit ∷ during) xs ∙ rw (span-takes-nothing span, served-answers later)
served-answers (written offset n c h later) = served-answers later
served-answers (answers good h later) = ap (λ l. good ∷ l) (served-answers later)

pub rest-takes-nothing : {w x : World} {xs : List Act} → Rest w xs x → answers_in xs ≡ []
unfolding answers_in
rest-takes-nothing (none_left c) = refl
rest-takes-nothing (ends m span on k c) = span-takes-nothing span

pub next-takes-nothing : {y v : World} {xs : List Act} → Next y xs v → answers_in xs ≡ []
unfolding answers_in
next-takes-nothing none_begun = refl
next-takes-nothing (opened rest g a i n) = i.takes-nothing

-- ---- two lists of calls

-- acts lead to one world
pub same-acts : {w u v : World} {xs : List Act} → Led w xs u → Led w xs v → u ≡ v
same-acts stays stays = refl
same-acts (spends g p) (spends h q) = same-acts p q
same-acts (writes_one offset n g p) (writes_one at k h q) = same-acts p q
same-acts (takes good g p) (takes same h q) = same-acts p q
