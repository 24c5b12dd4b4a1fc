-- The theorems of specs/Submission.antt, and what they rest on. Assumes nothing.
use Rattle.std.specs.Prelude.{◌≡◌, Bool, eqb, Err, Ok}
use Rattle.std.proofs.Math.Path.{refl}
use Rattle.std.proofs.Common.{sym, subst}
use Rattle.std.proofs.Math.Bool.{true, false}
use mathlib.Core.List.{List, []}
use Prim.Native.Nat.{ℕ, suc, ◌+◌, ◌≤◌}
use native.Mathlib.Omega.{arith}
use Rattle.machine.specs.Machine.{pick, spent}
use Rattle.rules.specs.Judging.{Finding, Verdict}
use Rattle.rules.specs.Judging.Finding.{fine, broken}
use Rattle.rules.specs.Layouts.{ring_header, stream_header_size}
use Rattle.rules.specs.Ring.{present, submission_rules, opened_of, concluded, submission_opening, good_ring, ring_opening, opening_of}
use Rattle.rules.specs.Packets.{Progress}
use Rattle.rules.specs.State.{World}
use Rattle.rules.specs.State.Work.{resting}
use Rattle.rules.specs.Steps.{after_opening, open_step, step, go, run_for}
use Rattle.rules.specs.Unsliced.{Reckoned, after_entries, submission, finished, concluding, submitted_on, submitted}
use Rattle.rules.specs.declared.Descriptor.{Descriptor}
use Rattle.rules.specs.declared.Job.{Job}
use Rattle.rules.specs.declared.Opened.{Opened}
use Rattle.rules.specs.declared.Opening.{Opening}
use Rattle.rules.specs.declared.Opening.TheVariants.{BadRing, NoWork, Refused, Started}
use Rattle.rule_laws.specs.Fine.{both_left}
use Rattle.promises_of_submissions.specs.Whole.{Course, course_none, course_join, reading, after_table, entries_end, placed, after_stream, packets-end}
use Rattle.promises_of_submissions.specs.Submission.{Lies, LiesOn, Submits, all, first, head_job, head_slot, later_units, packets_judged, stream-long, stream-short, submits-more, table-few, table-reach, table_judged}

-- ---- what was opened lies within memory

module _ (m : List ℕ) (j : Job) (d : Descriptor) (stride : ℕ) (good : submission_rules m stride d ≡ Ok tt) where
  pub started-lies : Lies m (opened_of m j d)
  started-lies =
      record {
        few = (table-few m j d stride good) (present d.tablesize) refl;
        reach = (table-reach m j d stride good) (present d.tablesize) refl;
        stream = (stream-long m j d stride good) (present d.cmdsize) refl;
        short = (stream-short m j d stride good) (present d.cmdsize);
      }

concluded-lies : (m : List ℕ) (j : Job) (d : Descriptor) (stride : ℕ) (v : Verdict) → submission_rules m stride d ≡ v → LiesOn m (concluded v j (opened_of m j d))
concluded-lies m j d stride (Ok _) e = started-lies m j d stride e
concluded-lies m j d stride (Err r) e = omega arith

pick-lies : (m : List ℕ) (t : Bool) (x y : Opening) → LiesOn m x → LiesOn m y → LiesOn m (pick t x y)
pick-lies m true x y p q = p
pick-lies m false x y p q = q

module _ (m : List ℕ) (ring : ℕ) where
  ring-lies : LiesOn m (ring_opening m ring (ring_header m ring))
  unfolding ring_opening submission_opening
  ring-lies =
      pick-lies m (eqb (ring_header m ring).head (ring_header m ring).tail) NoWork
      (concluded (submission_rules m (ring_header m ring).stride (head_slot m ring)) (head_job m ring) (opened_of m (head_job m ring) (head_slot m ring))) (omega arith)
      (concluded-lies m (head_job m ring) (head_slot m ring) (ring_header m ring).stride (submission_rules m (ring_header m ring).stride (head_slot m ring)) refl)

  pub opening-lies : (size : ℕ) → LiesOn m (opening_of m ring size)
  unfolding opening_of
  opening-lies size = pick-lies m (good_ring m ring size) (ring_opening m ring (ring_header m ring)) BadRing ring-lies (omega arith)

-- ---- from the opening on

module _ (w : World) (on : w.state.regs.enabled ≡ true) (o : Opened) (lies : Lies w.mem o) where
  stream-is : (v : Finding) (h : Progress) → after_stream w on o.job o.stream (all w on o lies) lies.stream v h ≡ finished w o.job (all w on o lies) h v
  stream-is fine h = refl
  stream-is (broken f) h = refl

  by_table : (v : Finding) (c : ℕ) (p : Reckoned) → Course c (reading w on o []) (after_table w on o v (all w on o lies))
      → Course p.count (placed w on o.job o.stream (all w on o lies) lies.stream stream_header_size (first w on o lies)) (after_stream w on o.job o.stream (all w on o lies) lies.stream p.finding p.held)
      → Course (later_units v c p.count) (reading w on o []) (finished w o.job (all w on o lies) (after_entries v c (first w on o lies) p).held (after_entries v c (first w on o lies) p).finding)
  by_table fine c p t q =
      subst (λ (x : World). Course (c + p.count) (reading w on o []) x) (stream-is p.finding p.held) (course_join c p.count _ _ _ t q)
  by_table (broken f) c p t q = t

  -- from the first entry on
  pub course_started : Course (later_units (table_judged w on o lies).finding (table_judged w on o lies).count (packets_judged w on o lies).count) (reading w on o [])
      (finished w o.job (all w on o lies) (submission w.mem o (first w on o lies)).held (submission w.mem o (first w on o lies)).finding)
  unfolding submission
  course_started =
      by_table (table_judged w on o lies).finding (table_judged w on o lies).count (packets_judged w on o lies) (entries_end w on o lies.reach o.table.count 0 [] refl (omega arith))
      (packets-end w on o.job o.stream (all w on o lies) lies.stream o.stream.size stream_header_size (first w on o lies) (omega arith))

  -- the opening's unit, and those
  pub submission-units : (submission w.mem o (first w on o lies)).units ≡ suc (later_units (table_judged w on o lies).finding (table_judged w on o lies).count (packets_judged w on o lies).count)
  unfolding submission
  submission-units = by-finding (table_judged w on o lies).finding
    where
      by-finding : (v : Finding) → (after_entries v (table_judged w on o lies).count (first w on o lies) (packets_judged w on o lies)).units ≡ suc (later_units v (table_judged w on o lies).count (packets_judged w on o lies).count)
      by-finding fine = refl
      by-finding (broken f) = refl

  whole-started : go w ≡ true → step w ≡ reading w on o [] → Submits w (concluding w o.job (all w on o lies) (submission w.mem o (first w on o lies)))
  whole-started g st =
      subst (λ n. Submits w (record { state = finished w o.job (all w on o lies) (submission w.mem o (first w on o lies)).held (submission w.mem o (first w on o lies)).finding; units = n })) (sym submission-units)
      (submits-more _ w (reading w on o []) _ g st course_started)

whole-at : (w : World) (v : Opening) → w.state.regs.enabled ≡ true → go w ≡ true → LiesOn w.mem v → step w ≡ after_opening w v → Submits w (submitted_on w v)
whole-at w BadRing on g h e = submits-more 0 w _ _ g e (course_none _)
whole-at w NoWork on g h e = submits-more 0 w _ _ g e (course_none _)
whole-at w (Refused j r) on g h e = submits-more 0 w _ _ g e (course_none _)
whole-at w (Started o) on g h e = whole-started w on o h g e

-- a submission from its opening: the units of the unsliced rules give their result, and it is in the midst until then
pub submits : (w : World) → w.state.work ≡ resting → go w ≡ true → Submits w (submitted w)
unfolding submitted step open_step go
submits w rest g =
    whole-at w (opening_of w.mem w.state.regs.ring w.state.regs.ringsize) (both_left w.state.regs.enabled _ g) g
    (opening-lies w.mem w.state.regs.ring w.state.regs.ringsize) (rw rest)

-- the units of the unsliced rules give their result
pub whole : (w : World) → w.state.work ≡ resting → go w ≡ true → run_for (submitted w).units w ≡ submitted w
whole w rest g = (submits w rest g).ends
