-- The theorems of specs/AppendedUnits.antt, and what they rest on. Assumes nothing.
use Rattle.std.specs.Prelude.{◌≡◌, Bool, ltb, length, drop, Err, Ok}
use Rattle.std.proofs.Math.Path.{refl, ap, subst}
use Rattle.std.proofs.Common.{sym, ◌∙◌, arith, ltb-true, drop-drop}
use Rattle.std.proofs.Math.Bool.{true, false}
use mathlib.Core.List.{List, []}
use Prim.Native.Nat.{ℕ, zero, suc, ◌+◌, ◌≤◌, ◌<◌}
use Rattle.machine.specs.Machine.{pick, run_none, run-stop, run-go}
use Rattle.rules.specs.Judging.{Finding, fault_at, at_place, without_place, Verdict}
use Rattle.rules.specs.Judging.Finding.{fine, broken}
use Rattle.rules.specs.Layouts.{stream_header_size}
use Rattle.rules.specs.Numbers.{other_memory}
use Rattle.rules.specs.Table.{entries_of, take_entry}
use Rattle.rules.specs.Stream.{least_size, frame_rules, frame_of, size_of, left, stream_bytes, Frame}
use Rattle.rules.specs.Ring.{opening_of}
use Rattle.rules.specs.Packets.{Progress, at_first, pass_frame, take_packet, Belongings}
use Rattle.rules.specs.State.{Work, State, World, working}
use Rattle.rules.specs.State.Work.{resting, entries, packets, waiting}
use Rattle.rules.specs.Settle.{settled, settled_keeping}
use Rattle.rules.specs.Steps.{packets_at, entries_at, after_opening, open_step, after_entry, entry_step, after_packet, next_place, packet_step, step_on, step, go, run_for}
use Rattle.rules.specs.Unsliced.{Submission, submission, finished, submitted_on, submitted}
use Rattle.rules.specs.Calls.{lent_another, ending, Ran, ran, call_run}
use Rattle.rules.specs.declared.Entry.{Entry}
use Rattle.rules.specs.declared.Job.{Job}
use Rattle.rules.specs.declared.Fault.{Fault}
use Rattle.rules.specs.declared.Stream.{Stream}
use Rattle.rules.specs.declared.Opened.{Opened}
use Rattle.rules.specs.declared.Ended.TheVariants.{Idle}
use Rattle.rules.specs.declared.Opening.{Opening}
use Rattle.rules.specs.declared.Opening.TheVariants.{BadRing, NoWork, Refused, Started}
use Rattle.rule_laws.specs.Fine.{broken-not-fine}
use Rattle.promises_of_submissions.specs.Whole.{midst}
use Rattle.promises_of_submissions.proofs.Submission.{submits}
use Rattle.promises_of_submissions.specs.LocalBytes.{Agree}
use Rattle.promises_of_submissions.specs.LocalWrites.SameWrites.{settles}
use Rattle.promises_of_submissions.specs.LocalPackets.{same_taken}
use Rattle.promises_of_submissions.proofs.LocalOpening.{same-opening}
use Rattle.promises_of_submissions.specs.Locality.{lent, SameEnd, SameRun, same-taken-entry}
use Rattle.promises_of_submissions.specs.Appended.{SameButAppended, SameSubmission}
use Rattle.rule_laws.specs.Frames.{same-packet}
use Rattle.promises_of_submissions.proofs.Appended.{same-table, appended-bytes-same-submission}
use Rattle.promises_of_submissions.specs.Appended.SameButAppended.{ends, packet, misframed}
use Rattle.promises_of_submissions.specs.AppendedUnits.{Onward, SameAhead, SameOut, kept-no-fewer, no-packet, same-unwritten}

-- ---- the next packet of two such streams

same-frames : (b b' : List ℕ) → SameButAppended b b' → frame_of b ≡ frame_of b'
same-frames b b' ends = refl
same-frames b b' (packet op size e e' same later) = e ∙ sym e'
same-frames b b' (misframed r len e e') = e ∙ sym e'

module _ (op size : ℕ) where
  same_row : (b b' : List ℕ) → SameButAppended b b' → frame_of b ≡ Ok (op, size) → Agree b b' 0 (least_size op)
  same_row b b' ends h = refl
  same_row b b' (packet op₁ size₁ e e' same later) h = let is : op₁ ≡ op = (same-packet op₁ size₁ op size (sym e ∙ h)).0 in rw is at same
  same_row b b' (misframed r len e e') h = absurd ((no-packet op size) b r e h)

  same_behind : (b b' : List ℕ) → SameButAppended b b' → frame_of b ≡ Ok (op, size) → SameButAppended (drop size b) (drop size b')
  unfolding frame_of frame_rules
  same_behind b b' ends h = absurd ((no-packet op size) [] _ refl h)
  same_behind b b' (packet op₁ size₁ e e' same later) h = let is : size₁ ≡ size = (same-packet op₁ size₁ op size (sym e ∙ h)).1 in rw is at later
  same_behind b b' (misframed r len e e') h = absurd ((no-packet op size) b r e h)

-- ---- one unit

-- the end of a submission, or no submission: nothing is ahead
at_rest : (m m' : List ℕ) (w w' : World) → midst w.state.work ≡ false → SameEnd m m' w w' → Onward m m' w w'
at_rest m m' w w' rests same = record { end = same; ahead = λ h. absurd (let z : ◌≡◌ {A = ℕ} 0 1 = cc in omega arith) }

module _ (s : State) (m m' : List ℕ) where
  -- a unit that writes nothing
  goes_on : (k : Work) → SameAhead s.regs k m m' → Onward m m' (working k (lent s m)) (working k (lent s m'))
  goes_on k same = record { end = same-unwritten m m' _; ahead = λ _. (refl, (refl, same)) }

  -- and one that settles, after which no submission is in work
  stops : (j : Job) (f : Fault) → Onward m m' (settled_keeping j (broken f) (lent s m)) (settled_keeping j (broken f) (lent s m'))
  unfolding settled
  stops j f = at_rest m m' _ _ refl (record { state = refl; writes = settles j })

  packets-ahead : (j : Job) (t : Stream) (at : ℕ) (es : List Entry) (h : Progress) → SameButAppended (left m t at) (left m' t at)
      → SameAhead s.regs (packets_at j t at es h) m m'
  packets-ahead j t at es h same = by_test (ltb at t.size)
    where
      by_test : (b : Bool) → SameAhead s.regs (pick b (packets j t at es h) (waiting j es h)) m m'
      by_test true = same
      by_test false = omega arith

  entries-ahead : (o : Opened) (kept : List Entry) (owned : Belongings) → SameSubmission m m' o (length kept)
      → SameAhead s.regs (entries_at o kept owned) m m'
  entries-ahead o kept owned same = by_test (ltb (length kept) o.table.count) refl
    where
      by_test : (b : Bool) → ltb (length kept) o.table.count ≡ b
          → SameAhead s.regs (pick b (entries o kept) (packets_at o.job o.stream stream_header_size kept (at_first owned))) m m'
      by_test true e = (ltb-true (length kept) o.table.count e, same)
      by_test false e = packets-ahead o.job o.stream stream_header_size kept (at_first owned) same.stream

  opening-onward : s.work ≡ resting → (v : Opening) → ((o : Opened) → v ≡ Started o → SameSubmission m m' o 0)
      → Onward m m' (after_opening (lent s m) v) (after_opening (lent s m') v)
  opening-onward rest BadRing same = at_rest m m' _ _ (ap midst rest) (same-unwritten m m' _)
  opening-onward rest NoWork same = at_rest m m' _ _ (ap midst rest) (same-unwritten m m' _)
  opening-onward rest (Refused j r) same = stops j (without_place r)
  opening-onward rest (Started o) same = goes_on (entries_at o [] s.belongings) (entries-ahead o [] s.belongings (same o refl))

  entry-onward : (o : Opened) (kept : List Entry) (v : Finding) → SameSubmission m m' o (length kept)
      → Onward m m' (after_entry (lent s m) o kept v) (after_entry (lent s m') o kept v)
  entry-onward o kept fine same = goes_on (entries_at o kept s.belongings) (entries-ahead o kept s.belongings same)
  entry-onward o kept (broken f) same = stops o.job f

  packet-onward : (j : Job) (t : Stream) (at next : ℕ) (es : List Entry) (h : Progress) (v : Verdict) → (v ≡ Ok tt → SameButAppended (left m t next) (left m' t next))
      → Onward m m' (after_packet (lent s m) j t next es h (at_place at v)) (after_packet (lent s m') j t next es h (at_place at v))
  packet-onward j t at next es h (Ok _) same = goes_on (packets_at j t next es h) (packets-ahead j t next es h (same refl))
  packet-onward j t at next es h (Err r) same = stops j (fault_at at r)

-- behind the entries kept so far
fewer-entries : (m m' : List ℕ) (o : Opened) (i k : ℕ) → i ≤ k → SameSubmission m m' o i → SameSubmission m m' o k
fewer-entries m m' o i k h same = record { table = λ n from to. same.table n (omega arith) to; stream = same.stream }

-- a packet that is fine has the same behind it
packet_behind : (m m' : List ℕ) (t : Stream) (at : ℕ) (es : List Entry) (h : Progress) → SameButAppended (left m t at) (left m' t at)
    → (take_packet es h (left m t at)).verdict ≡ Ok tt → SameButAppended (left m t (next_place at (left m t at))) (left m' t (next_place at (left m t at)))
unfolding take_packet
packet_behind m m' t at es h same = by_frame (frame_of (left m t at)) refl
  where
    by_frame : (f : Frame) → frame_of (left m t at) ≡ f → (pass_frame es h (left m t at) f).verdict ≡ Ok tt
        → SameButAppended (left m t (at + size_of f)) (left m' t (at + size_of f))
    by_frame (Ok (op, size)) e good =
        rw (← drop-drop size at (stream_bytes m t), ← drop-drop size at (stream_bytes m' t)) (same_behind op size (left m t at) (left m' t at) same e)
    by_frame (Err r) e good = absurd (broken-not-fine r good)

module _ (m m' : List ℕ) (len : length m ≡ length m') where
  unit-on : (s : State) (k : Work) → s.work ≡ k → SameAhead s.regs k m m' → Onward m m' (step_on (lent s m) k) (step_on (lent s m') k)
  unfolding open_step entry_step packet_step
  unit-on s resting e same =
      rw (← same-opening m m' len s.regs.ring s.regs.ringsize same.0)
      (opening-onward s m m' e (opening_of m s.regs.ring s.regs.ringsize) same.1)
  unit-on s (entries o kept) e same =
      rw (← same-taken-entry m m' len o.table kept (same.1.table (length kept) (omega arith) same.0))
      (entry-onward s m m' o (take_entry m o.table kept).kept (at_place (length kept) (take_entry m o.table kept).verdict)
      (fewer-entries m m' o (length kept) _ (kept-no-fewer m o kept) same.1))
  unit-on s (packets j t at es h) e same =
      let frames : frame_of (left m t at) ≡ frame_of (left m' t at) = same-frames (left m t at) (left m' t at) same in
      let taken : take_packet es h (left m t at) ≡ take_packet es h (left m' t at) =
      same_taken (left m t at) (left m' t at) es h frames (λ op size. same_row op size (left m t at) (left m' t at) same) in
      rw (← frames, ← taken)
      (packet-onward s m m' j t at (next_place at (left m t at)) es (take_packet es h (left m t at)).held (take_packet es h (left m t at)).verdict
      (packet_behind m m' t at es h same))
  unit-on s (waiting j es h) e same = at_rest m m' _ _ (ap midst e) (same-unwritten m m' _)

  unit-onward : (s : State) → SameAhead s.regs s.work m m' → Onward m m' (step (lent s m)) (step (lent s m'))
  unfolding step
  unit-onward s same = unit-on s s.work refl same

-- ---- any number of units

-- the units after the first
later_units : (m m' : List ℕ) (n : ℕ) (w w' : World) → Onward m m' w w' → (0 < n → midst w.state.work ≡ true)
    → (w ≡ lent w.state m → SameAhead w.state.regs w.state.work m m' → SameOut m m' (run_for n (lent w.state m)) (run_for n (lent w.state m')))
    → SameOut m m' (run_for n w) (run_for n w')
later_units m m' zero w w' first inside later = rw (run_none go step w, run_none go step w') (record { units = refl; end = first.end })
later_units m m' (suc n) w w' first inside later =
    let a = first.ahead (inside (omega arith)) in
    subst (λ (x : World). SameOut m m' (run_for (suc n) x) (run_for (suc n) w')) (sym a.0)
    (subst (λ (x : World). SameOut m m' (run_for (suc n) (lent w.state m)) (run_for (suc n) x)) (sym a.1.0) (later a.0 a.1.1))

module _ (m m' : List ℕ) (len : length m ≡ length m') where
  -- n units from any place of a submission on: an opening, an entry, or a packet; in its midst after each of them but the last
  pub appended-bytes-unit-by-unit : (n : ℕ) (s : State) → SameAhead s.regs s.work m m'
      → ((i : ℕ) → 0 < i → i < n → midst (run_for i (lent s m)).state.state.work ≡ true)
      → SameOut m m' (run_for n (lent s m)) (run_for n (lent s m'))
  unfolding go
  appended-bytes-unit-by-unit zero s same inside =
      rw (run_none go step (lent s m), run_none go step (lent s m')) (record { units = refl; end = same-unwritten m m' _ })
  appended-bytes-unit-by-unit (suc n) s same inside = by_test (go (lent s m)) refl (λ x. appended-bytes-unit-by-unit n x)
    where
      by_test : (t : Bool) → go (lent s m) ≡ t
          → ((x : State) → SameAhead x.regs x.work m m' → ((i : ℕ) → 0 < i → i < n → midst (run_for i (lent x m)).state.state.work ≡ true)
          → SameOut m m' (run_for n (lent x m)) (run_for n (lent x m')))
          → SameOut m m' (run_for (suc n) (lent s m)) (run_for (suc n) (lent s m'))
      by_test true g ih =
          let on : (i : ℕ) → i < n → 0 < suc i → midst (run_for i (step (lent s m))).state.state.work ≡ true =
          λ i h some. rw (run-go go step i (lent s m) g) at (inside (suc i) some (omega arith)) in
          let all : SameOut m m' (run_for n (step (lent s m))) (run_for n (step (lent s m'))) =
          later_units m m' n (step (lent s m)) (step (lent s m')) (unit-onward m m' len s same)
          (λ some. rw (run_none go step (step (lent s m))) at (on 0 some (omega arith)))
          (λ is ahead. ih (step (lent s m)).state ahead (λ i some h. subst (λ (x : World). midst (run_for i x).state.state.work ≡ true) is (on i h (omega arith)))) in
          rw (run-go go step n (lent s m) g, run-go go step n (lent s m') g) (record { units = ap (λ (k : ℕ). 1 + k) all.units; end = all.end })
      by_test false g ih =
          rw (run-stop go step (suc n) (lent s m) g, run-stop go step (suc n) (lent s m') g) (record { units = refl; end = same-unwritten m m' _ })

  -- the same of a call to run: its answer, its units, how it ended, and its end
  pub appended-bytes-same-run : (n : ℕ) (s : State) → SameAhead s.regs s.work m m'
      → ((i : ℕ) → 0 < i → i < n → midst (run_for i (lent s m)).state.state.work ≡ true)
      → SameRun m m' (call_run (lent s m) n) (call_run (lent s m') n)
  unfolding call_run
  appended-bytes-same-run n s same inside = rw (← len) (by_test (lent_another (lent s m)) (appended-bytes-unit-by-unit n s same inside))
    where
      refused : World → Ran
      refused w = record { answer = other_memory; units = 0; ended = Idle; world = w }

      by_test : (t : Bool) → SameOut m m' (run_for n (lent s m)) (run_for n (lent s m'))
          → SameRun m m' (pick t (refused (lent s m)) (ran (run_for n (lent s m)))) (pick t (refused (lent s m')) (ran (run_for n (lent s m'))))
      by_test true run = record { answer = refl; units = refl; ended = refl; end = same-unwritten m m' _ }
      by_test false run = record { answer = refl; units = run.units; ended = ap ending run.end.state; end = run.end }

  module _ (s : State) (same : SameAhead s.regs resting m m') where
    -- a whole submission by the unsliced rules: as many units, and the same error, place and fence, or the same resources, tokens and records that wait
    pub appended-bytes-same-outcome : SameOut m m' (submitted (lent s m)) (submitted (lent s m'))
    unfolding submitted settled
    appended-bytes-same-outcome =
        rw (← same-opening m m' len s.regs.ring s.regs.ringsize same.0) (by-opening (opening_of m s.regs.ring s.regs.ringsize) same.1)
      where
        finished-same : (j : Job) (es : List Entry) (h : Progress) (v : Finding) → SameEnd m m' (finished (lent s m) j es h v) (finished (lent s m') j es h v)
        finished-same j es h fine = same-unwritten m m' _
        finished-same j es h (broken f) = record { state = refl; writes = settles j }

        by-opening : (v : Opening) → ((o : Opened) → v ≡ Started o → SameSubmission m m' o 0) → SameOut m m' (submitted_on (lent s m) v) (submitted_on (lent s m') v)
        by-opening BadRing ahead = record { units = refl; end = same-unwritten m m' _ }
        by-opening NoWork ahead = record { units = refl; end = same-unwritten m m' _ }
        by-opening (Refused j r) ahead = record { units = refl; end = finished-same j [] (at_first s.belongings) (broken (without_place r)) }
        by-opening (Started o) ahead =
            let held : Progress = at_first s.belongings in
            let judged : Submission = submission m o held in
            rw (← same-table m m' len o (ahead o refl), ← appended-bytes-same-submission m m' len o (ahead o refl) held)
            (record { units = refl; end = finished-same o.job (entries_of m o.table) judged.held judged.finding })

    -- and each of its units, from the opening on
    pub appended-bytes-at-each-unit : s.work ≡ resting → go (lent s m) ≡ true → (n : ℕ) → n ≤ (submitted (lent s m)).units
        → SameOut m m' (run_for n (lent s m)) (run_for n (lent s m'))
    appended-bytes-at-each-unit rest g n h =
        appended-bytes-unit-by-unit n s (rw rest same) (λ i some below. (submits (lent s m) rest g).inside i some (omega arith))
