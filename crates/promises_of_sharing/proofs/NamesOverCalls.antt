-- The theorems of specs/NamesOverCalls.antt, and what they rest on. Assumes nothing.
use Rattle.std.proofs.Math.Path.{◌≡◌, refl, subst}
use Rattle.std.proofs.Common.{sym, one-add}
use Rattle.std.specs.Prelude.{Bool, ltb, length}
use Rattle.std.proofs.Math.Bool.{true, false}
use mathlib.Core.List.{List, [], ◌++◌}
use Prim.Native.Nat.{ℕ, zero, suc}
use native.Mathlib.Omega.{arith}
use Rattle.machine.specs.Machine.{pick, run_none, run-stop, run-go}
use Rattle.rules.specs.Layouts.{stream_header_size}
use Rattle.rules.specs.Stream.{left, frame_of}
use Rattle.rules.specs.Table.{take_entry}
use Rattle.rules.specs.Packets.{Progress, Belongings, at_first, left_by, take_packet}
use Rattle.rules.specs.State.{Work, State, World}
use Rattle.rules.specs.State.Work.{resting, entries, packets, waiting}
use Rattle.rules.specs.Settle.{settled}
use Rattle.rules.specs.Steps.{packets_at, entries_at, go, step, run_for, waits_on, waits, answer_on, answered}
use Rattle.rules.specs.Calls.{Ran, call_write}
use Rattle.rules.specs.Loaded.{loaded_sections, loaded}
use Rattle.rules.specs.declared.Entry.{Entry}
use Rattle.rules.specs.declared.Job.{Job}
use Rattle.rules.specs.declared.Opened.{Opened}
use Rattle.rules.specs.declared.Stream.{Stream}
use Rattle.promises_of_units.specs.Called.{Call, after, Called, is_reset}
use Rattle.promises_of_units.specs.Called.Call.{writes, reads, runs, records, answers}
use Rattle.promises_of_units.specs.Called.Called.{makes, loads, calls}
use Rattle.promises_of_units.specs.Sound.{SoundWork}
use Rattle.promises_of_units.specs.Runs.{of-run, of-answer}
use Rattle.promises_of_units.specs.Units.{Next, Unit}
use Rattle.promises_of_units.proofs.Units.{unit}
use Rattle.promises_of_units.specs.Units.Unit.{works-on, finds-bad-ring, finds-no-work, settles}
use Rattle.promises_of_units.specs.Writes.{resets, Written, write-keeps-or-drops}
use Rattle.promises_of_units.specs.Writes.Written.{keeps, drops}
use Rattle.promises_of_sharing.proofs.SharedTokens.{tokens-stay-in-a-stream}
use Rattle.promises_of_sharing.specs.TokensOverCalls.{CalledOn, WorkGoesOn, Onward}
use Rattle.promises_of_sharing.proofs.TokensOverCalls.{step-onward, answer-onward, call-onward, a-reset-drops-the-work, called-work-goes-on}
use Rattle.promises_of_sharing.specs.TokensOverCalls.CalledOn.{not_yet, calls-on}
use Rattle.promises_of_sharing.specs.NamesKept.{in_frame, KeepsNamesBut}
use Rattle.promises_of_sharing.proofs.NamesKept.{keeps_same, keeps-both, names-kept-in-a-stream}
use Rattle.promises_of_sharing.specs.NamesOverCalls.{Follows, Names, With, WorkKeeps, in_work_of, names_after_answer, names_after_call, names_after_unit, names_after_units, names_since, own}

-- ---- a submission in work keeps the device's names but those that it imported or destroyed

packets-keep : (names : List ℕ) (own : Belongings) (j : Job) (t : Stream) (at : ℕ) (es : List Entry) (h : Progress)
    → KeepsNamesBut names own (left_by h) → WorkKeeps names own (packets_at j t at es h)
packets-keep names own j t at es h k = by_test (ltb at t.size)
  where
    by_test : (b : Bool) → WorkKeeps names own (pick b (packets j t at es h) (waiting j es h))
    by_test true = k
    by_test false = k

entries-keep : (names : List ℕ) (own : Belongings) (o : Opened) (kept : List Entry) → WorkKeeps names own (entries_at o kept own)
entries-keep names own o kept = by_test (ltb (length kept) o.table.count)
  where
    by_test : (b : Bool) → WorkKeeps names own (pick b (entries o kept) (packets_at o.job o.stream stream_header_size kept (at_first own)))
    by_test true = omega arith
    by_test false = packets-keep names own o.job o.stream stream_header_size kept (at_first own) (keeps_same names own)

module _ (w : World) (names : List ℕ) where
  next-keeps : (k next : Work) → Next w k next → SoundWork k → WorkGoesOn (own w names).tokens k → WorkKeeps names (own w names) k → WorkKeeps (names_after_unit w k names) (own w names) next
  next-keeps resting next h s g q = subst (WorkKeeps [] (own w names)) (sym h.first) (entries-keep [] (own w names) h.what [])
  next-keeps (entries o kept) next h s g q = subst (WorkKeeps names (own w names)) (sym h.1) (entries-keep names (own w names) o (take_entry w.mem o.table kept).kept)
  next-keeps (packets j t at es h') next h s g q =
      let b : List ℕ = left w.mem t at in
      let here : List ℕ = in_frame b (frame_of b) in
      subst (WorkKeeps (here ++ names) (own w names)) (sym h.1)
      (packets-keep (here ++ names) (own w names) j t _ es (take_packet es h' b).held
      (keeps-both names here (own w names) (left_by h') (left_by (take_packet es h' b).held) g (tokens-stay-in-a-stream es h' s.1 b).goes_on q (names-kept-in-a-stream es h' s.1 b)))
  next-keeps (waiting j es h') next h s g q = subst (WorkKeeps names (own w names)) (sym h) q

-- ---- a device some calls after one that had these belongings: what was imported or destroyed accounts for every name that is not kept

module _ (first : Belongings) where
  -- units: what was answered good stays
  module _ (by_good : List ℕ) where
    by-unit : (w w' : World) (names : List ℕ) → Unit w w' → Onward first.tokens w'.state → (With first by_good) names w.state → (With first by_good) (names_after_unit w w.state.work names) w'.state
    unfolding settled
    by-unit w w' names (works-on next h) o f =
        record { onward = o; own = f.own; work = next-keeps w names w.state.work next h f.onward.sound.work f.onward.work f.work }
    by-unit w w' names (finds-bad-ring e h) o f = record { onward = o; own = f.own; work = subst (WorkKeeps _ w.state.belongings) (sym e) (omega arith) }
    by-unit w w' names (finds-no-work e h) o f = record { onward = o; own = f.own; work = subst (WorkKeeps _ w.state.belongings) (sym e) (omega arith) }
    by-unit w w' names (settles j r h) o f = record { onward = o; own = f.own; work = omega arith }

    run-follows : (n : ℕ) (w : World) (names : List ℕ) → (With first by_good) names w.state → (With first by_good) (names_after_units (run_for n w).units w names) (run_for n w).state.state
    unfolding names_after_units
    run-follows zero w names f = rw (run_none go step w) f
    run-follows (suc n) w names f =
        by_test (go w) refl (run-follows n (step w) (names_after_unit w w.state.work names) (by-unit w (step w) names (unit w) (step-onward first.tokens w f.onward) f))
      where
        by_test : (b : Bool) → go w ≡ b → (With first by_good) (names_after_units (run_for n (step w)).units (step w) (names_after_unit w w.state.work names)) (run_for n (step w)).state.state
            → (With first by_good) (names_after_units (run_for (suc n) w).units w names) (run_for (suc n) w).state.state
        by_test true g q = rw (run-go go step n w g, one-add) q
        by_test false g q = rw (run-stop go step (suc n) w g) f

  answer-follows : (good : Bool) (w : World) (x : Names) → waits w.state ≡ true → Follows first w.state x
      → (With first) (pick good (x.in_work ++ x.by_good) x.by_good) [] (answered good w).state
  unfolding answered settled
  answer-follows good w x waited f = by-work good w.state.work refl waited (answer-onward first.tokens good w f.onward)
    where
      by-work : (good : Bool) (k : Work) → w.state.work ≡ k → waits_on k ≡ true → Onward first.tokens (answer_on good w k).state
          → (With first) (pick good (x.in_work ++ x.by_good) x.by_good) [] (answer_on good w k).state
      by-work good resting e a onward = absurd (let z : ◌≡◌ {A = ℕ} 0 1 = cc in omega arith)
      by-work good (entries o kept) e a onward = absurd (let z : ◌≡◌ {A = ℕ} 0 1 = cc in omega arith)
      by-work good (packets j t at es h) e a onward = absurd (let z : ◌≡◌ {A = ℕ} 0 1 = cc in omega arith)
      by-work true (waiting j es h) e a onward =
          record {
            onward = onward;
            own =
                keeps-both x.by_good x.in_work first w.state.belongings (left_by h)
                f.onward.tokens (subst (WorkGoesOn w.state.belongings.tokens) e f.onward.work)
                f.own (subst (WorkKeeps x.in_work w.state.belongings) e f.work);
            work = omega arith;
          }
      by-work false (waiting j es h) e a onward = record { onward = onward; own = f.own; work = omega arith }

  by_written : (s s' : State) (offset v : ℕ) (x : Names) → resets offset v ≡ false → Written s offset v s' → Onward first.tokens s' → Follows first s x → Follows first s' x
  by_written s s' offset v x n = by-kind s'
    where
      by-kind : (y : State) → Written s offset v y → Onward first.tokens y → Follows first s x → Follows first y x
      by-kind y (keeps r h c e) o f = record { onward = o; own = f.own; work = f.work }
      by-kind y (drops h) o f = absurd (let z : ◌≡◌ {A = ℕ} 0 1 = cc in omega arith)

  -- any call but a reset
  call-follows : (c : Call) (w : World) (x : Names) → is_reset c ≡ false → Follows first w.state x → Follows first (after c w).state (names_after_call c w x)
  unfolding after names_after_call names_after_units
  call-follows (writes offset v) w x n f =
      by_written w.state (call_write w.state offset v).state offset v x n (write-keeps-or-drops w.state offset v)
      (call-onward first.tokens (writes offset v) w n f.onward) f
  call-follows (reads offset) w x n f = f
  call-follows (runs i) w x n f =
      of-run (λ (r : Ran). (With first) x.by_good (names_after_units r.units w x.in_work) r.world.state) w i (λ e. f) (λ e. run-follows x.by_good i w x.in_work f)
  call-follows (records i) w x n f = f
  call-follows (answers good i) w x n f =
      of-answer (λ (r : Ran). Follows first r.world.state (names_after_answer good w r x)) w good i (λ e. f) (λ e a. f)
      (λ e a. run-follows (pick good (x.in_work ++ x.by_good) x.by_good) i (answered good w) [] (answer-follows good w x a f))

-- ---- any device made and called

-- before any call
follows_itself : (s : State) (k : Called s) → Follows s.belongings s (record { by_good = []; in_work = in_work_of s k })
unfolding in_work_of loaded loaded_sections
follows_itself s (makes memory) = record { onward = called-work-goes-on s (makes memory); own = keeps_same [] s.belongings; work = omega arith }
follows_itself s (loads b good) = record { onward = called-work-goes-on s (loads b good); own = keeps_same [] s.belongings; work = omega arith }
follows_itself s (calls {s = t} c m k) =
    record {
      onward = called-work-goes-on s (calls c m k);
      own = keeps_same [] s.belongings;
      work = by-reset c (is_reset c) refl (follows_itself t k);
    }
  where
    by-reset : (c : Call) (b : Bool) → is_reset c ≡ b → Follows t.belongings t (record { by_good = []; in_work = in_work_of t k })
        → WorkKeeps (names_after_call c (record { state = t; mem = m }) (record { by_good = []; in_work = in_work_of t k })).in_work
        (after c (record { state = t; mem = m })).state.belongings (after c (record { state = t; mem = m })).state.work
    by-reset c false e f = (call-follows t.belongings c (record { state = t; mem = m }) (record { by_good = []; in_work = in_work_of t k }) e f).work
    by-reset c true e f = subst (WorkKeeps _ _) (sym (a-reset-drops-the-work c (record { state = t; mem = m }) e)) (omega arith)

-- a token of the device's own that is bound before and after these calls: each name is a name of its resource after exactly if it was before, unless a
-- submission answered good has imported or destroyed that name since
pub a-bound-token-keeps-its-names-between-resets : (s t : State) (k : Called s) (q : CalledOn s t) → KeepsNamesBut (names_since s t k q).by_good s.belongings t.belongings
unfolding names_since
a-bound-token-keeps-its-names-between-resets s t k q = (follows t q).own
  where
    follows : (u : State) (q : CalledOn s u) → Follows s.belongings u (names_since s u k q)
    follows u not_yet = follows_itself s k
    follows u (calls-on {t = v} d c n m) = call-follows s.belongings c (record { state = v; mem = m }) (names_since s v k d) n (follows v d)
