-- What is promised, in the user's words and order: the three demands, 01's night log, then each wish that has landed. `Call`, `after` and what a call
-- reports are in Called.antt of promises_of_units; saves, loads and moves are in Asked.antt beside it. The calls' own definitions in rules/specs are what the
-- code's contracts cite. All else in this crate serves these statements. Those of wish 3 are in promises_of_dump: they speak of no device. Assumes nothing.
use Rattle.std.specs.Prelude.{◌≡◌, refl, Bool, true, false, List, [], ◌⊎◌, ℕ, ◌+◌, ◌^◌, ◌≤◌, ◌<◌, length, Err, Ok}
use Rattle.std.proofs.Common.{arith}
use Rattle.machine.specs.Machine.{pick}
use Rattle.std.specs.Float.Ieee.{lt}
use Rattle.rules.specs.Numbers.{done, other_memory, no_register, nothing_waits, no_record, bad_ring, no_place, host_failed, most, most as most-records, set_target, set_viewport, set_scissor, clear as clear-opcode, export_surface, import_surface, release_token, bad_file, in_work, not_in_form, too_short}
use Rattle.rules.specs.Ring.{opening_of}
use Rattle.rules.specs.Table.{entries_of}
use Rattle.rules.specs.Layouts.{stream_header_size, target_fields, viewport_floats, viewport_fields, scissor_fields, clear_floats, clear_fields, word, long, export_fields, import_fields, release_fields}
use Rattle.rules.specs.Floats.{float_of, is_nan_bits, nan_among, not_finite_among, below}
use Rattle.rules.specs.Stream.{known, least_size, frame_of, packet_of}
use Rattle.rules.specs.StatePackets.{bad_sides}
use Rattle.rules.specs.Packets.{live_texture, Progress, at_first, pass, take_packet, bound}
use Rattle.rules.specs.Judging.{Finding, without_place}
use Rattle.rules.specs.Judging.Finding.{fine, broken}
use Rattle.rules.specs.Registers.{Read, register}
use Rattle.rules.specs.State.{State, World, working, registering, nothing_owned}
use Rattle.rules.specs.State.Work.{resting, waiting}
use Rattle.rules.specs.Settle.{ring_refused, settled, settled_keeping}
use Rattle.rules.specs.Steps.{go, step, run_for, waits, answered}
use Rattle.rules.specs.Unsliced.{Submission, submission, finished, submitted_on, submitted}
use Rattle.rules.specs.Calls.{lent_another, ending, Ran, valued, record_read, handed_out, no_range, call_write, call_read, call_run, call_record, answer_alone, call_answer, at_rest}
use Rattle.rules.specs.Lists.{Found, nth}
use Rattle.rules.specs.Lists.Found.{none, found}
use Rattle.rules.specs.declared.Ended.TheVariants.{Idle, Paused}
use Rattle.rules.specs.declared.Entry.{Entry}
use Rattle.rules.specs.declared.Job.{Job}
use Rattle.rules.specs.declared.Record.{Record}
use Rattle.rules.specs.declared.Stream.{Stream}
use Rattle.rules.specs.declared.SetTarget.{SetTarget}
use Rattle.rules.specs.declared.SetScissor.{SetScissor}
use Rattle.rules.specs.declared.DestroyResource.{DestroyResource}
use Rattle.rules.specs.declared.ExportSurface.{ExportSurface}
use Rattle.rules.specs.declared.ImportSurface.{ImportSurface}
use Rattle.rules.specs.declared.ReleaseToken.{ReleaseToken}
use Rattle.rules.specs.declared.Resource.{Resource}
use Rattle.rules.specs.declared.Packet.{Packet}
use Rattle.rules.specs.declared.Packet.TheVariants.{Destroy, Target, Viewport, Scissor, Clear, NotANumber, Export, Import, Release}
use Rattle.rules.specs.declared.Opening.{Opening}
use Rattle.rules.specs.declared.Opened.{Opened}
use Rattle.rules.specs.declared.Fault.{Fault}
use Rattle.rules.specs.declared.Refusal.{Refusal}
use Rattle.rules.specs.declared.Registers.{Registers}
use Rattle.rules.specs.declared.Opening.TheVariants.{BadRing, NoWork, Refused, Started}
use Rattle.promises_of_units.specs.CallAnswers.{Exactly, NoneOf, writable_offsets, readable_offsets, records_waiting, run-is-refused-with-1, run-is-done, answer-is-refused-with-1, answer-is-refused-with-3, answer-is-done, write-is-refused-with-2, write-is-done, read-is-refused-with-2, read-is-done, record-is-refused-with-4, record-is-done}
use Rattle.promises_of_units.specs.Called.{Call, after_all, units_of_all, taken_by_all, Called}
use Rattle.promises_of_units.specs.Called.Call.{writes, reads, runs, records, answers}
use Rattle.promises_of_units.specs.Acts.{Act, units_in, Led}
use Rattle.promises.specs.Chains.{submitted_under, Served, counted, given}
use Rattle.promises.specs.ChainsStand.{same-acts}
use Rattle.promises_of_units.specs.Runs.{of-run, of-answer}
use Rattle.promises_of_units.specs.AnswerAndRun.{allowance-0-is-the-old-call}
use Rattle.promises_of_packets.specs.Held.{Every, LiveTexture}
use Rattle.promises_of_submissions.specs.LocalPackets.{framed-is-read}
use Rattle.promises_of_submissions.specs.FloatBits.{judged_state, ViewportCarried, ClearCarried, bad_viewport_words, bad_clear_words, not-finite-viewport, not-finite-clear}
use Rattle.promises_of_submissions.specs.FloatOrder.{TheBounds, below-is-the-order, the_bounds}
use Rattle.promises_of_sharing.specs.Targets.{target-is-set, target-is-refused, held_after, scissor-without-a-target, scissor-with-negative-sides, scissor-past-the-last-record, scissor-is-accepted}
use Rattle.promises_of_units.specs.Writes.{resets}
use Rattle.promises_of_sharing.specs.Shared.{OneResource, OneMipOneLayer}
use Rattle.promises_of_sharing.specs.SharedPackets.{ExportPacket, ImportPacket, ReleasePacket}
use Rattle.promises_of_units.specs.Asked.{Asked, left_all, NoResetOrLoad}
use Rattle.promises.specs.LowerFence.{LowerAfterLoading}
use Rattle.promises_of_submissions.specs.Locality.{lent}
use Rattle.rules.specs.Saved.{not_saved, call_save, saved, beyond}
use Rattle.rules.specs.Loaded.{form_in, sections, file_rules, bad_place, loaded, call_load, call_move}
use Rattle.rules.specs.declared.Form.{Form}
use Rattle.rules.specs.declared.Form.TheVariants.{One, Two}
use Rattle.promises_of_saving.specs.Savable.{Fits}
use Rattle.promises_of_saving.specs.FirstBroken.{FirstBroken, Kept}
use Rattle.promises_of_saving.specs.Refusals.{SaveDone, NothingWritten, FileWritten, save-done-exactly, refused-save-leaves-the-buffer, done-save-keeps-later-bytes, save-in-work, save-not-in-form, save-too-short}
use Rattle.promises.specs.FormOne.{BeyondForm1, beyond_form_1_exactly, form-1-is-refused-with-8}
use Rattle.promises_of_saving.specs.Places.{NotBefore}
use Rattle.promises_of_saving.specs.GoesBack.{GoesBack}
use Rattle.promises_of_saving.specs.MoveAnswers.{moved, LoadRefused, MoveNotInForm, MoveTooShort, MoveDone}
use Rattle.rules.specs.Listed.{Named, packet_layout, stream_listed, listed}
use Rattle.rules.specs.declared.Refusal.TheVariants.{BadHandle, TooMany, BadState}
use Rattle.promises_of_submissions.specs.Reads.{AgreeOn, Ends}
use Rattle.promises_of_submissions.specs.LocalWrites.{AgreeAt}
use Rattle.promises_of_leftovers.specs.Course.{SameUnits}
use Rattle.promises_of_leftovers.specs.Submissions.{openings}
use Rattle.promises_of_leftovers.specs.Matter.{replies_of, as_it_is}
use Rattle.promises_of_leftovers.specs.UpTo.{Before}
use Rattle.promises_of_leftovers.specs.Spare.{Covered, Between, SpareBytes}

-- ---- demand 1

-- the answer that a call gives, of what it is lent
unfoldable pub answer_of : Call → World → ℕ
answer_of (writes offset v) w = (call_write w.state offset v).answer
answer_of (reads offset) w = (call_read w.state offset).answer
answer_of (runs n) w = (call_run w n).answer
answer_of (records i) w = (call_record w.state i).answer
answer_of (answers good n) w = (call_answer w good n).answer

-- "Call answer .. Given exactly when": 0 is done; 1 "lent memory has another length than at making"; 2 "no such register, or not readable/writable"; 3 "host
-- answer, nothing waiting"; 4 "record index not below the count, or nothing waiting". "1 comes before 3."
pub record GivenExactly (w : World) : Type 0 where
  pub run-1 : (n : ℕ) → Exactly ((call_run w n).answer ≡ other_memory) (lent_another w ≡ true)
  pub run-0 : (n : ℕ) → Exactly ((call_run w n).answer ≡ done) (lent_another w ≡ false)
  pub answer-1 : (good : Bool) (n : ℕ) → Exactly ((call_answer w good n).answer ≡ other_memory) (lent_another w ≡ true)
  pub answer-3 : (good : Bool) (n : ℕ) → Exactly ((call_answer w good n).answer ≡ nothing_waits) ((lent_another w ≡ false) × (waits w.state ≡ false))
  pub answer-0 : (good : Bool) (n : ℕ) → Exactly ((call_answer w good n).answer ≡ done) ((lent_another w ≡ false) × (waits w.state ≡ true))
  pub write-2 : (offset v : ℕ) → Exactly ((call_write w.state offset v).answer ≡ no_register) (NoneOf writable_offsets offset)
  pub write-0 : (offset v : ℕ) → Exactly ((call_write w.state offset v).answer ≡ done) (NoneOf writable_offsets offset → ⊥)
  pub read-2 : (offset : ℕ) → Exactly ((call_read w.state offset).answer ≡ no_register) (NoneOf readable_offsets offset)
  pub read-0 : (offset : ℕ) → Exactly ((call_read w.state offset).answer ≡ done) (NoneOf readable_offsets offset → ⊥)
  pub record-4 : (i : ℕ) → Exactly ((call_record w.state i).answer ≡ no_record) ((waits w.state ≡ false) ⊎ (length (records_waiting w.state) ≤ i))
  pub record-0 : (i : ℕ) → Exactly ((call_record w.state i).answer ≡ done) ((waits w.state ≡ true) × (i < length (records_waiting w.state)))

pub each-answer-is-given-exactly-when-it-is-due : (w : World) → GivenExactly w
each-answer-is-given-exactly-when-it-is-due w =
    record {
      run-1 = run-is-refused-with-1 w;
      run-0 = run-is-done w;
      answer-1 = answer-is-refused-with-1 w;
      answer-3 = answer-is-refused-with-3 w;
      answer-0 = answer-is-done w;
      write-2 = write-is-refused-with-2 w.state;
      write-0 = write-is-done w.state;
      read-2 = read-is-refused-with-2 w.state;
      read-0 = read-is-done w.state;
      record-4 = record-is-refused-with-4 w.state;
      record-0 = record-is-done w.state;
    }

-- "a value returned beside them is zero (idle for run)"
pub record SaysNothing (w : World) : Type 0 where
  pub run : (n : ℕ) → ((call_run w n).answer ≡ done → ⊥) → ((call_run w n).units ≡ 0) × ((call_run w n).ended ≡ Idle)
  pub read : (offset : ℕ) → ((call_read w.state offset).answer ≡ done → ⊥) → (call_read w.state offset).value ≡ 0
  pub range : (i : ℕ) → ((call_record w.state i).answer ≡ done → ⊥) → (call_record w.state i).range ≡ no_range
  -- wish 6: nothing was run
  pub answer : (good : Bool) (n : ℕ) → ((call_answer w good n).answer ≡ done → ⊥) → ((call_answer w good n).units ≡ 0) × ((call_answer w good n).ended ≡ Idle)

pub refused-call-says-nothing : (w : World) → SaysNothing w
unfolding call_read call_record
refused-call-says-nothing w =
    record {
      run = λ n. of-run (λ (r : Ran). (r.answer ≡ done → ⊥) → (r.units ≡ 0) × (r.ended ≡ Idle)) w n (λ e h. (refl, refl)) (λ e h. absurd (h refl));
      read = λ offset. by_register (register w.state.regs offset);
      range = λ i. by-record (nth (handed_out w.state.work) i);
      answer = λ good n.
          of-answer (λ (r : Ran). (r.answer ≡ done → ⊥) → (r.units ≡ 0) × (r.ended ≡ Idle)) w good n (λ e h. (refl, refl)) (λ e f h. (refl, refl))
          (λ e f h. absurd (h refl));
    }
  where
    by_register : (f : Found Read) → ((valued f).answer ≡ done → ⊥) → (valued f).value ≡ 0
    by_register none h = refl
    by_register (found x) h = absurd (h refl)

    by-record : (f : Found Record) → ((record_read f).answer ≡ done → ⊥) → (record_read f).range ≡ no_range
    by-record none h = refl
    by-record (found c) h = absurd (h refl)

-- ---- demand 2

pub one_place : {w u v : World} {xs : List Act} → Led w xs u → Led w xs v → u ≡ v
one_place = same-acts

-- a submission that its opening refuses, at w, whatever registers q stand: its place is 0
pub refused-at-the-opening : (w : World) (q : Registers) (j : Job) (r : Refusal)
    → opening_of w.mem w.state.regs.ring w.state.regs.ringsize ≡ Refused j r
    → submitted_under q w ≡ record { state = settled_keeping j (broken (without_place r)) (registering q w); units = 1 }
refused-at-the-opening w q j r opened = rw opened

-- "hands out nothing and keeps every resource as it was": of a submission that its opening refuses
pub record RefusedAtItsOpening (w : World) (q : Registers) : Type 0 where
  pub hands-out-nothing : (i : ℕ) → call_record (submitted_under q w).state.state i ≡ record { answer = no_record; range = no_range }
  pub keeps-belongings : (submitted_under q w).state.state.belongings ≡ w.state.belongings

pub refused-at-the-opening-hands-out-nothing : (w : World) (q : Registers) (j : Job) (r : Refusal)
    → opening_of w.mem w.state.regs.ring w.state.regs.ringsize ≡ Refused j r → RefusedAtItsOpening w q
unfolding settled call_record nth
refused-at-the-opening-hands-out-nothing w q j r opened =
    record { hands-out-nothing = λ i. rw (refused-at-the-opening w q j r opened); keeps-belongings = rw (refused-at-the-opening w q j r opened) }

-- and of any submission while its units run: nothing is handed out before it waits, and no unit changes a resource or a token
pub record WhileUnitsRun (w : World) : Type 0 where
  pub hands-out-nothing : waits w.state ≡ false → (i : ℕ) → call_record w.state i ≡ record { answer = no_record; range = no_range }
  pub keeps-belongings : (n : ℕ) → (run_for n w).state.state.belongings ≡ w.state.belongings

-- what waits was accepted: the unsliced rules found no broken rule
pub record Accepted (w : World) : Type 0 where
  pub what : Opened
  pub opened : opening_of w.mem w.state.regs.ring w.state.regs.ringsize ≡ Started what
  pub finding : (submission w.mem what (at_first w.state.belongings)).finding ≡ fine

pub only-accepted-waits : (w : World) (q : Registers) → w.state.work ≡ resting → waits (submitted_under q w).state.state ≡ true → Accepted w
unfolding settled
only-accepted-waits w q rest = by-opening (opening_of w.mem w.state.regs.ring w.state.regs.ringsize) refl
  where
    by-finding : (o : Opened) → opening_of w.mem w.state.regs.ring w.state.regs.ringsize ≡ Started o
        → (v : Finding) → (submission w.mem o (at_first w.state.belongings)).finding ≡ v
        → waits (finished (registering q w) o.job (entries_of w.mem o.table) (submission w.mem o (at_first w.state.belongings)).held v).state ≡ true
        → Accepted w
    by-finding o e fine h k = record { what = o; opened = e; finding = h }
    by-finding o e (broken f) h k = absurd (let z : ◌≡◌ {A = ℕ} 0 1 = cc in omega arith)

    by-opening : (v : Opening) → opening_of w.mem w.state.regs.ring w.state.regs.ringsize ≡ v
        → waits (submitted_on (registering q w) v).state.state ≡ true → Accepted w
    by-opening BadRing e k = absurd (let f : waits w.state ≡ false = rw rest in let z : ◌≡◌ {A = ℕ} 0 1 = cc in omega arith)
    by-opening NoWork e k = absurd (let f : waits w.state ≡ false = rw rest in let z : ◌≡◌ {A = ℕ} 0 1 = cc in omega arith)
    by-opening (Refused j r) e k = absurd (let z : ◌≡◌ {A = ℕ} 0 1 = cc in omega arith)
    by-opening (Started o) e k = by-finding o e (submission w.mem o (at_first w.state.belongings)).finding refl k

-- a submission that was opened at w and settled or accepted with the registers q
module _ (w : World) (q : Registers) (o : Opened) (opened : opening_of w.mem w.state.regs.ring w.state.regs.ringsize ≡ Started o) where
  -- the unsliced rules' word on it
  abbrev pub judged : Submission
  judged = submission w.mem o (at_first w.state.belongings)

  -- 4. "An accepted one's fence waits for the host's answer": it waits, and its units have changed nothing but the work: no byte, no
  -- resource, and of the registers only what was written meanwhile, which q are.
  pub accepted-waits : judged.finding ≡ fine
      → (submitted_under q w).state ≡ working (waiting o.job (entries_of w.mem o.table) judged.held) (registering q w)
  accepted-waits e = rw (opened, e)

  module _ (f : Fault) (e : judged.finding ≡ broken f) where
    -- 5. "a refused one's completes with its error", the first broken rule and its place
    pub refused-completes : (submitted_under q w).state ≡ settled_keeping o.job (broken f) (registering q w)
    refused-completes = rw (opened, e)

    -- "hands out nothing and keeps every resource as it was"
    pub refused-hands-out-nothing : (i : ℕ) → call_record (submitted_under q w).state.state i ≡ record { answer = no_record; range = no_range }
    unfolding settled call_record nth
    refused-hands-out-nothing i = rw refused-completes

    pub refused-keeps-belongings : (submitted_under q w).state.state.belongings ≡ w.state.belongings
    unfolding settled
    refused-keeps-belongings = rw refused-completes

-- "Add a read_only register at offset 320 (hex), error detail": a read shows it, a write answers 2. "else 0": a bad ring, and the host's answer "failed"
pub record ErrorDetail (w : World) : Type 0 where
  pub read : call_read w.state 0x320 ≡ record { answer = done; value = w.state.regs.error.detail }
  pub read_only : (v : ℕ) → call_write w.state 0x320 v ≡ record { answer = no_register; state = w.state }
  pub of-a-bad-ring : ((ring_refused w).state.regs.error.code ≡ bad_ring) × ((ring_refused w).state.regs.error.detail ≡ no_place)
  pub of-a-failed-one : (j : Job) (es : List Entry) (h : Progress) → w.state.work ≡ waiting j es h
      → ((answered false w).state.regs.error.code ≡ host_failed) × ((answered false w).state.regs.error.detail ≡ no_place)

-- an answer is taken and leads to v, with an allowance of 0; with any other, v is run from there
pub record Settles (w : World) (good : Bool) (v : World) : Type 0 where
  pub alone : call_answer w good 0 ≡ record { answer = done; units = 0; ended = ending v.state; world = v }
  pub runs_on : (n : ℕ) → (call_answer w good n ≡ call_run v n) × ((call_answer w good n).answer ≡ done)

-- while it waits, each of its records is handed out
pub each-record-is-handed-out : (s : State) (j : Job) (es : List Entry) (h : Progress) → s.work ≡ waiting j es h → (i : ℕ) (c : Record)
    → nth h.holdings.records i ≡ found c → call_record s i ≡ record { answer = done; range = c }
unfolding call_record
each-record-is-handed-out s j es h e i c k = rw (e, k)

-- ---- demand 3

-- "the units are those rules' own count": `Stands` splits the acts of calls into the rest of what was in work at the start, whole submissions and the next
-- one. The units that the calls report are those of the rest, the unsliced rules' count of each whole submission, and those of the next so far. The answers
-- that they took are those given between the whole submissions.
pub record OwnCount (cs : List Call) (w : World) {x y : World} {night : List Act} (first next : List Act) (s : Served x night y) : Type 0 where
  pub units : units_of_all cs w ≡ units_in first + (counted s + units_in next)
  pub answers : taken_by_all cs w ≡ given s

-- 9. "by a counted allowance of small steps": a run spends its allowance, unless nothing is due any more, and never more
pub record Allowed (w : World) (n : ℕ) : Type 0 where
  pub most : (call_run w n).units ≤ n
  pub all-or-done : lent_another w ≡ false → ((call_run w n).units ≡ n) ⊎ (go (call_run w n).world ≡ false)
  pub paused : (call_run w n).ended ≡ Paused → (call_run w n).units ≡ n
  -- it says in which state the device then is, and spends nothing where nothing is due
  pub ends : lent_another w ≡ false → (call_run w n).ended ≡ ending (call_run w n).world.state
  pub still : go w ≡ false → ((call_run w n).units ≡ 0) × ((call_run w n).world ≡ w)

-- and so does the run after an answer
pub record AllowedAfter (w : World) (good : Bool) (n : ℕ) : Type 0 where
  pub most : (call_answer w good n).units ≤ n
  pub all-or-done : (call_answer w good n).answer ≡ done → ((call_answer w good n).units ≡ n) ⊎ (go (call_answer w good n).world ≡ false)
  pub paused : (call_answer w good n).ended ≡ Paused → (call_answer w good n).units ≡ n
  pub ends : (call_answer w good n).answer ≡ done → (call_answer w good n).ended ≡ ending (call_answer w good n).world.state

pub an-allowance-of-0-is-the-old-call : (w : World) (good : Bool)
    → ((call_answer w good 0).answer ≡ (answer_alone w good).answer) × ((call_answer w good 0).world ≡ (answer_alone w good).world) × ((call_answer w good 0).units ≡ 0)
an-allowance-of-0-is-the-old-call = allowance-0-is-the-old-call

-- ---- wish 7, "state packets"

-- "Read each packet as one of viewport, clear, scissor or target": what is framed is read from its first bytes; a viewport or clear with a NaN
-- among its floats is a case of its own
pub record ReadAs (b : List ℕ) : Type 0 where
  pub framed : (es : List Entry) (h : Progress) (op size : ℕ) → frame_of b ≡ Ok (op, size) → take_packet es h b ≡ pass es h (packet_of op b)
  pub target : packet_of set_target b ≡ Target (target_fields b)
  pub scissor : packet_of set_scissor b ≡ Scissor (scissor_fields b)
  pub viewport : packet_of set_viewport b ≡ pick (nan_among (viewport_floats b)) NotANumber (Viewport (viewport_fields b))
  pub clear : packet_of clear-opcode b ≡ pick (nan_among (clear_floats b)) NotANumber (Clear (clear_fields b))

pub state-packets-are-read : (b : List ℕ) → ReadAs b
unfolding packet_of known
state-packets-are-read b = record { framed = framed-is-read b; target = refl; scissor = refl; viewport = refl; clear = refl }

-- "its floats carried bit for bit": those of a packet without a NaN have the bits of its words
pub record Carried (b : List ℕ) : Type 0 where
  pub viewport : nan_among (viewport_floats b) ≡ false → ViewportCarried b (viewport_fields b)
  pub clear : nan_among (clear_floats b) ≡ false → ClearCarried b (clear_fields b)

-- "Error 30": a viewport or a clear is judged by its words, and any infinity or NaN among its floats breaks the rule. Nothing of
-- what is held changes.
pub record GoesByItsWords (b : List ℕ) : Type 0 where
  pub viewport : (es : List Entry) (h : Progress) → pass es h (packet_of set_viewport b) ≡ judged_state h (bad_viewport_words b)
  pub clear : (es : List Entry) (h : Progress) → pass es h (packet_of clear-opcode b) ≡ judged_state h (bad_clear_words b)
  pub not-finite-viewport : not_finite_among (viewport_floats b) ≡ true → bad_viewport_words b ≡ true
  pub not-finite-clear : not_finite_among (clear_floats b) ≡ true → bad_clear_words b ≡ true

-- "Floats are compared in the order of IEEE 754 as told from their u32 bits, -0 equal to 0": the rules' order of two words is that of their floats
pub words-compare-as-their-floats : (a b : ℕ) → a < 2 ^ 32 → b < 2 ^ 32 → is_nan_bits a ≡ false → is_nan_bits b ≡ false → below a b ≡ lt (float_of a) (float_of b)
words-compare-as-their-floats = below-is-the-order

pub the_rules_bounds_are_0_and_1 : TheBounds
the_rules_bounds_are_0_and_1 = the_bounds

-- "The target is a live texture, else 18": a target packet that names one is accepted, and that is the target from then on; else nothing changes
pub record TargetPacket (es : List Entry) (h : Progress) (c : SetTarget) : Type 0 where
  pub set : LiveTexture c.handle h.holdings → pass es h (Target c) ≡ record { verdict = Ok tt; held = record { holdings = h.holdings; target = c.handle; tokens = h.tokens } }
  pub refused : live_texture c.handle h.holdings ≡ none → pass es h (Target c) ≡ record { verdict = Err BadHandle; held = h }

pub a-target-is-a-live-texture : (es : List Entry) (h : Progress) (c : SetTarget) → TargetPacket es h c
a-target-is-a-live-texture es h c = record { set = λ l. target-is-set es h c l.0 l.1; refused = target-is-refused es h c }

-- "it lasts until the submission ends or that handle is destroyed": a device at rest has none, since what is held goes with the submission
pub record Lasts (es : List Entry) (h : Progress) : Type 0 where
  -- through every packet that is refused, with all else that is held
  pub refused : (p : Packet) (r : Refusal) → (pass es h p).verdict ≡ Err r → (pass es h p).held ≡ h
  -- and through every other packet but a target and a destroy
  pub others : (p : Packet) → ((c : SetTarget) → p ≡ Target c → ⊥) → ((c : DestroyResource) → p ≡ Destroy c → ⊥) → (pass es h p).held.target ≡ h.target
  pub another-destroyed : (c : DestroyResource) → (c.handle ≡ h.target → ⊥) → (pass es h (Destroy c)).held.target ≡ h.target
  pub destroyed : (c : DestroyResource) → c.handle ≡ h.target → (pass es h (Destroy c)).verdict ≡ Ok tt → (pass es h (Destroy c)).held.target ≡ 0
  -- made again, the handle does not bring it back
  pub not-again : (ps : List Packet) → Every (λ (p : Packet). (c : SetTarget) → p ≡ Target c → ⊥) ps → h.target ≡ 0 → (held_after es h ps).target ≡ 0

-- "Error 30 .. scissor sides negative; scissor without a target", then 19, else it is accepted
pub record ScissorPacket (es : List Entry) (h : Progress) (c : SetScissor) : Type 0 where
  pub no_target : h.target ≡ 0 → pass es h (Scissor c) ≡ record { verdict = Err BadState; held = h }
  pub negative : LiveTexture h.target h.holdings → bad_sides c ≡ true → pass es h (Scissor c) ≡ record { verdict = Err BadState; held = h }
  pub no_room : LiveTexture h.target h.holdings → bad_sides c ≡ false → most-records ≤ length h.holdings.records → pass es h (Scissor c) ≡ record { verdict = Err TooMany; held = h }
  pub accepted : LiveTexture h.target h.holdings → bad_sides c ≡ false → length h.holdings.records < most-records → (pass es h (Scissor c)).verdict ≡ Ok tt

pub when-a-scissor-is-accepted : (es : List Entry) (h : Progress) (c : SetScissor) → ScissorPacket es h c
when-a-scissor-is-accepted es h c =
    record {
      no_target = scissor-without-a-target es h c;
      negative = λ l. scissor-with-negative-sides es h c l.0 l.1;
      no_room = λ l. scissor-past-the-last-record es h c l.0 l.1;
      accepted = λ l. scissor-is-accepted es h c l.0 l.1;
    }

-- ---- wish 5, "two programs, one surface"

-- "1808 export and 1809 import, 24 bytes, handle at 8 and token at 16; 1810 release, 16 bytes, token at 8"
pub record SharedAs (b : List ℕ) : Type 0 where
  pub export : packet_of export_surface b ≡ Export (record { handle = word b 8; token = long b 16 })
  pub import : packet_of import_surface b ≡ Import (record { handle = word b 8; token = long b 16 })
  pub release : packet_of release_token b ≡ Release (record { token = long b 8 })
  -- the least bytes of each
  pub export-bytes : least_size 1808 ≡ 24
  pub import-bytes : least_size 1809 ≡ 24
  pub release-bytes : least_size 1810 ≡ 16

pub shared-packets-are-read : (b : List ℕ) → SharedAs b
unfolding packet_of least_size known export_fields import_fields release_fields
shared-packets-are-read b = record { export = refl; import = refl; release = refl; export-bytes = refl; import-bytes = refl; release-bytes = refl }

-- "The handle check (18, create's rule for import) comes first, then shape, token, room": each refusal and each acceptance, over any progress
pub record ByTheirRules (es : List Entry) (h : Progress) : Type 0 where
  pub exports : (c : ExportSurface) → ExportPacket es h c
  pub imports : (c : ImportSurface) → ImportPacket es h c
  pub releases : (c : ReleaseToken) → ReleasePacket es h c

-- "Only textures with one mip and one layer may be exported": of any device made and called, no other resource has two names or a token. "At most
-- 256 tokens"
pub record SharesOnly (s : State) : Type 0 where
  pub two-names : (a b : ℕ) (o : OneResource s.belongings.resources a b) → (a ≡ b → ⊥) → OneMipOneLayer o.first.kind
  pub a-token : (token : ℕ) (r : Resource) → bound token s.belongings.tokens s.belongings.resources ≡ found r → OneMipOneLayer r.kind
  pub few : length s.belongings.tokens ≤ 256

-- "forgotten at reset"; "A submission refused or answered failed leaves the tokens, too, as they were before it"
pub record Leaves (w : World) : Type 0 where
  pub forgotten : (offset v : ℕ) → resets offset v ≡ true → (call_write w.state offset v).state.belongings ≡ nothing_owned
  -- a unit never changes them, so none that refuses does
  pub refused : (step w).state.belongings ≡ w.state.belongings
  pub failed : (answered false w).state.belongings ≡ w.state.belongings

-- ---- wish 1: a desk that can be saved; wish 11, in either form

-- "Saving while a submission is in work answers 5; then a buffer too short answers 6; both leave it untouched. It gives the length and keeps later
-- bytes." And by wish 5, "Saving in form 1 answers 8 (after 5, before 6)": form 2 has a field for all, so `beyond` is false of it.
pub record Saving (f : Form) (s : State) (buffer : List ℕ) : Type 0 where
  pub five : at_rest s.work ≡ false → call_save f s buffer ≡ not_saved in_work buffer
  pub eight : at_rest s.work ≡ true → beyond f s ≡ true → call_save f s buffer ≡ not_saved not_in_form buffer
  pub six : at_rest s.work ≡ true → beyond f s ≡ false → length buffer < length (saved f s) → call_save f s buffer ≡ not_saved too_short buffer
  pub done-when : ((call_save f s buffer).answer ≡ done → SaveDone f s buffer) × (SaveDone f s buffer → (call_save f s buffer).answer ≡ done)
  pub untouched : ((call_save f s buffer).answer ≡ done → ⊥) → NothingWritten (call_save f s buffer) buffer
  pub later-bytes : (call_save f s buffer).answer ≡ done → FileWritten (call_save f s buffer) (saved f s) buffer

pub when-a-desk-is-saved : (f : Form) (s : State) (buffer : List ℕ) → Saving f s buffer
when-a-desk-is-saved f s buffer =
    record {
      five = save-in-work f s buffer;
      eight = save-not-in-form f s buffer;
      six = save-too-short f s buffer;
      done-when = save-done-exactly f s buffer;
      untouched = refused-save-leaves-the-buffer f s buffer;
      later-bytes = done-save-keeps-later-bytes f s buffer;
    }

-- "once any token was used", "while detail is non-zero": form 1 answers 8 exactly then or where another name is live, unless it answers 5
pub record EightOfForm1 (s : State) : Type 0 where
  pub beyond_when : Exactly (beyond One s ≡ true) (BeyondForm1 s)
  pub eight-when : (buffer : List ℕ) → Exactly ((call_save One s buffer).answer ≡ not_in_form) ((at_rest s.work ≡ true) × BeyondForm1 s)

pub when-form-1-answers-8 : (s : State) → EightOfForm1 s
when-form-1-answers-8 s = record { beyond_when = beyond_form_1_exactly s; eight-when = form-1-is-refused-with-8 s }

-- "Loading answers 7, device unchanged, exactly when a field is missing or breaks a rule, or a byte follows the last .. It gives the offset of the first
-- such field .. or byte": the list of rules is `file-rules`
pub record Loading (s : State) (b : List ℕ) : Type 0 where
  pub bad-when : ((call_load s b).answer ≡ bad_file → FirstBroken (file_rules b) (call_load s b).place) × ((p : ℕ) → FirstBroken (file_rules b) p → call_load s b ≡ record { answer = bad_file; place = p; state = s })
  pub unchanged : (call_load s b).answer ≡ bad_file → (call_load s b).state ≡ s
  pub in-the-file : (call_load s b).answer ≡ bad_file → (call_load s b).place ≤ length b
  pub lowest : (call_load s b).answer ≡ bad_file → Every (NotBefore (call_load s b).place) (file_rules b)
  -- and else the device is what the file says, whatever it was
  pub good-when : ((call_load s b).answer ≡ done → Every Kept (file_rules b)) × (Every Kept (file_rules b) → call_load s b ≡ record { answer = done; place = 0; state = loaded b })
  pub either : ((call_load s b).answer ≡ done) ⊎ ((call_load s b).answer ≡ bad_file)

-- "Form 2 goes back exactly when both sections are empty and detail is 0, else 8 (7 comes before it, 6 after) and nothing written": the answers of a move
pub record Moving (b buffer : List ℕ) : Type 0 where
  pub seven-when : ((call_move b buffer).answer ≡ bad_file → LoadRefused b) × (LoadRefused b → (call_move b buffer).answer ≡ bad_file)
  pub eight-when : ((call_move b buffer).answer ≡ not_in_form → MoveNotInForm b) × (MoveNotInForm b → (call_move b buffer).answer ≡ not_in_form)
  pub six-when : ((call_move b buffer).answer ≡ too_short → MoveTooShort b buffer) × (MoveTooShort b buffer → (call_move b buffer).answer ≡ too_short)
  pub done-when : ((call_move b buffer).answer ≡ done → MoveDone b buffer) × (MoveDone b buffer → (call_move b buffer).answer ≡ done)
  pub form-1-goes : form_in b ≡ One → (call_move b buffer).answer ≡ not_in_form → ⊥
  pub form-2-goes : bad_place b ≡ none → form_in b ≡ Two
      → ((call_move b buffer).answer ≡ not_in_form → GoesBack (sections b) → ⊥) × ((GoesBack (sections b) → ⊥) → call_move b buffer ≡ not_saved not_in_form buffer)
  pub untouched : ((call_move b buffer).answer ≡ done → ⊥) → NothingWritten (call_move b buffer) buffer
  pub later-bytes : (call_move b buffer).answer ≡ done → FileWritten (call_move b buffer) (moved b) buffer

-- "The completed fence may be lower after loading": it is what the file says, and there is a device and a file where it is lower. Apart from a load, only a reset lowers it.
pub record WhenTheFenceFalls : Type 0 where
  pub the-files : (s : State) (b : List ℕ) → (call_load s b).answer ≡ done → (call_load s b).state.regs.completed ≡ (loaded b).regs.completed
  pub may_be_lower : LowerAfterLoading
  pub else-not : (qs : List Asked) (s : State) → NoResetOrLoad qs → s.regs.completed ≤ (left_all qs s).regs.completed

-- ---- wish 12: bytes that cannot matter

-- "Another program's leftovers must not sway a result. Take two memories of one length, same device, same allowance and answers: if they agree on the named fields of
-- the ring header, opened slots, tables, entries and streams, every packet's opcode and size, and the fields of known packets, then records, errors, registers, units and
-- resources are equal." What is named is listed in rules/specs/Listed.antt, by the fields that the rules read. Of any device and any calls, writes of registers too: every
-- call replies the same (its answer, its units, how it ended, a register's value, a record), and after them every register, record, resource, name and token is the same,
-- and all that is in work; and a byte that differs after them differed before. `AgreeOnListed`: on what is still to be read of the submission in work, and on all of each
-- submission that the calls open, as memory is when it is opened
pub record NothingElseMatters (cs : List Call) (s : State) (m m' : List ℕ) : Type 0 where
  pub replies : replies_of as_it_is cs (lent s m) ≡ replies_of as_it_is cs (lent s m')
  pub registers : (offset : ℕ) → call_read (after_all cs (lent s m)).state offset ≡ call_read (after_all cs (lent s m')).state offset
  pub records : (i : ℕ) → call_record (after_all cs (lent s m)).state i ≡ call_record (after_all cs (lent s m')).state i
  pub belongings : (after_all cs (lent s m)).state.belongings ≡ (after_all cs (lent s m')).state.belongings
  pub state : (after_all cs (lent s m)).state ≡ (after_all cs (lent s m')).state
  pub bytes : (i : ℕ) → AgreeAt i m m' → AgreeAt i (after_all cs (lent s m)).mem (after_all cs (lent s m')).mem

-- "It holds up to each settling": what is listed once, in the memories first lent, is all that counts until the submission settles. By calls, sliced as they are, from
-- its opening or from any place in it; unit by unit, with its last; and of the whole submission by the unsliced rules
pub record UpToEachSettling (s : State) (m m' : List ℕ) : Type 0 where
  pub from-rest : s.work ≡ resting → AgreeOn m m' (listed s m) → (cs : List Call) → Every (Before s m) (openings cs (lent s m)) → NothingElseMatters cs s m m'
  pub in_work : AgreeOn m m' (listed s m) → (cs : List Call) → openings cs (lent s m) ≡ [] → NothingElseMatters cs s m m'
  pub each-of-its-units : s.work ≡ resting → go (lent s m) ≡ true → AgreeOn m m' (listed s m) → (n : ℕ) → n ≤ (submitted (lent s m)).units
      → SameUnits (lent s m) (lent s m') (run_for n (lent s m)) (run_for n (lent s m'))
  pub unsliced : s.work ≡ resting → go (lent s m) ≡ true → AgreeOn m m' (listed s m)
      → SameUnits (lent s m) (lent s m') (submitted (lent s m)) (submitted (lent s m'))

-- "Unknown packets' payloads, appended fields, strides' spare bytes and bytes past the stream size may differ"
pub record MayDiffer : Type 0 where
  -- an unknown packet has no field; of a known one none ends past its table size
  pub payloads : (op : ℕ) → known op ≡ none → packet_layout op ≡ []
  pub appended : (op : ℕ) → Ends (least_size op) (packet_layout op)
  -- of a slot none past its first 56 bytes, of an entry none past 24, whatever the stride
  pub spare : SpareBytes
  pub past-the-stream : (m : List ℕ) (t : Stream) → Every (Between (t.gpa + stream_header_size) (t.gpa + t.size)) (stream_listed m t stream_header_size)
  -- and so may any byte that no field covers
  pub not_covered : (m m' : List ℕ) → length m ≡ length m' → (fs : List Named) → ((i : ℕ) → Covered fs i → AgreeAt i m m') → AgreeOn m m' fs
