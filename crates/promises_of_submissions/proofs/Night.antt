-- The theorems of specs/Night.antt, and what they rest on. Assumes nothing.
use Rattle.std.specs.Prelude.{◌≡◌, refl, Bool, true, false, List, [], ◌∷◌, ℕ, zero, suc, ◌+◌, ◌-◌, ◌≤◌, ◌<◌, ltb}
use Rattle.std.proofs.Common.{sym, ap, subst, ◌∙◌, zero-add, add_assoc, arith, ltb-false, ltb-true}
use Rattle.machine.specs.Machine.{pick, Out, spent, sliced, run-exact}
use Rattle.machine.specs.Schedule.{Event, Played, play, took}
use Rattle.machine.specs.Schedule.Event.{run, answers}
use Rattle.rules.specs.State.{World}
use Rattle.rules.specs.Steps.{step, go, run_for, waits, answered}
use Rattle.rules.specs.Unsliced.{submitted}
use Rattle.promises_of_submissions.specs.Submission.{Submits}
use Rattle.promises_of_submissions.proofs.Submission.{submits}
use Rattle.promises_of_submissions.proofs.RunThrough.{run-through}
use Rattle.promises_of_submissions.specs.Slices.{world_waits, played}
use Rattle.promises_of_submissions.specs.Night.{At, Clear, Leads, Night, Reached, answered-clear, at_clear, at_once, night_on, reached-still, rests, submitted-clear, waits-clear}
use Rattle.promises_of_submissions.specs.Night.Night.{answer, begun, submission}

-- ---- where a run stands: so many units into what began at the last clear world

module _ (w : World) (n : ℕ) (c : Clear w) where
  reached-within : (g : go w ≡ true) → n < (submitted w).units → Reached w n
  reached-within g h =
      let s : Submits w (submitted w) = submits w (rests w c g) g in
      let all : (run_for (submitted w).units w).units ≡ (submitted w).units = ap (λ (o : Out World). o.units) s.ends in
      let exact : (run_for n w).units ≡ n = run-exact go step n (submitted w).units w (omega arith) all in
      record {
        point = w;
        into = n;
        past = 0;
        night = begun;
        at = record { clear = c; here = ap (λ k. record { state = (run_for n w).state; units = k }) exact; inside = λ z. s.inside n z h };
        sum = zero-add n ∙ sym exact;
      }

  reached-past : (g : go w ≡ true) → (submitted w).units ≤ n → Reached (submitted w).state (n - (submitted w).units) → Reached w n
  reached-past g h r =
      let e : n ≡ (submitted w).units + (n - (submitted w).units) = omega arith in
      let through : run_for n w ≡ spent (submitted w).units (run_for (n - (submitted w).units) (submitted w).state) =
      ap (λ k. run_for k w) e ∙ run-through w (n - (submitted w).units) (rests w c g) g in
      record {
        point = r.point;
        into = r.into;
        past = (submitted w).units + r.past;
        night = submission (rests w c g) g r.night;
        at = subst (λ (x : World). At r.point r.into x) (ap (λ (o : Out World). o.state) (sym through)) r.at;
        sum = add_assoc (submitted w).units r.past r.into ∙ (ap (λ k. (submitted w).units + k) r.sum ∙ ap (λ (o : Out World). o.units) (sym through));
      }

reached : (fuel n : ℕ) (w : World) → n ≤ fuel → Clear w → Reached w n
reached zero n w f c = by_test (go w) refl
  where
    by_test : (t : Bool) → go w ≡ t → Reached w n
    by_test false g = reached-still w n c g
    by_test true g = let some : 0 < (submitted w).units = (submits w (rests w c g) g).some in reached-within w n c g (omega arith)
reached (suc fuel) n w f c = by_test (go w) refl (λ k h. reached fuel k (submitted w).state h (submitted-clear w c))
  where
    by_test : (t : Bool) → go w ≡ t → ((k : ℕ) → k ≤ fuel → Reached (submitted w).state k) → Reached w n
    by_test false g later = reached-still w n c g
    by_test true g later = by_count (ltb n (submitted w).units) refl
      where
        by_count : (t : Bool) → ltb n (submitted w).units ≡ t → Reached w n
        by_count true h = reached-within w n c g (ltb-true n (submitted w).units h)
        by_count false h =
            let some : 0 < (submitted w).units = (submits w (rests w c g) g).some in
            let less : n - (submitted w).units ≤ fuel = omega arith in
            reached-past w n c g (ltb-false n (submitted w).units h) (later (n - (submitted w).units) less)

-- ---- schedules

-- a run, and then the rest
run-night : (n : ℕ) (es : List (Event Bool)) → ((w : World) (j : ℕ) (x : World) → Leads es w j x) → (w : World) (j : ℕ) (x : World) → Leads (run n ∷ es) w j x
unfolding play
run-night n es later w j x a c =
    let r : Reached w (j + n) = reached (j + n) (j + n) w (omega arith) a.clear in
    let onward : run_for (j + n) w ≡ spent j (run_for n x) = sliced go step j n w ∙ ap (λ (o : Out World). spent o.units (run_for n o.state)) a.here in
    let there : At r.point r.into (run_for n x).state = subst (λ (y : World). At r.point r.into y) (ap (λ (o : Out World). o.state) onward) r.at in
    let sum : r.past + r.into ≡ j + (run_for n x).units = r.sum ∙ ap (λ (o : Out World). o.units) onward in
    let e : r.past + (r.into + (played es (run_for n x).state).units) ≡ j + ((run_for n x).units + (played es (run_for n x).state).units) = omega arith in
    subst (λ k. Night w (played es (run_for n x).state).accepted k (played es (run_for n x).state).state) e
    (night_on r.night (later r.point r.into (run_for n x).state there c))

night-of : (es : List (Event Bool)) (w : World) (j : ℕ) (x : World) → Leads es w j x
unfolding play
night-of [] w j x a c =
    let same : (j ≡ 0) × (w ≡ x) = at_clear w x j a c in
    subst (λ k. Night w [] k x) (sym (ap (λ i. i + 0) same.0)) (subst (λ (y : World). Night w [] 0 y) same.1 begun)
night-of (run n ∷ es) w j x a c = run-night n es (night-of es) w j x a c
night-of (answers good n ∷ es) w j x a c = by_test (waits x.state) refl (night-of es w j x a) (run-night n es (night-of es) (answered good x) 0 (answered good x)) c
  where
    -- the run after the answer, and the rest
    carried : Played World Bool
    carried = played (run n ∷ es) (answered good x)

    then : Bool → Played World Bool
    then t = pick t (took go step world_waits answered good carried) (played es x)

    by_test : (t : Bool) → waits x.state ≡ t → (Clear (played es x).state → Night w (played es x).accepted (j + (played es x).units) (played es x).state)
        → Leads (run n ∷ es) (answered good x) 0 (answered good x)
        → Clear (then t).state → Night w (then t).accepted (j + (then t).units) (then t).state
    by_test false t p q d = p d
    by_test true t p q d =
        let same : (j ≡ 0) × (w ≡ x) = at_clear w x j a (waits-clear x.state.work t) in
        subst (λ k. Night w (good ∷ carried.accepted) (k + carried.units) carried.state) (sym same.0)
        (subst (λ (y : World). Night y (good ∷ carried.accepted) (0 + carried.units) carried.state) (sym same.1)
        (answer good t (q (at_once (answered good x) (answered-clear good x t)) d)))

-- wherever a schedule that began clear stands clear again, whole submissions of the unsliced rules have led there, with their count of units
pub finished_or_waiting_is_unsliced : (es : List (Event Bool)) (w : World) → Clear w → Clear (played es w).state → Night w (played es w).accepted (played es w).units (played es w).state
finished_or_waiting_is_unsliced es w c d =
    subst (λ k. Night w (played es w).accepted k (played es w).state) (zero-add (played es w).units) (night-of es w 0 w (at_once w c) d)
