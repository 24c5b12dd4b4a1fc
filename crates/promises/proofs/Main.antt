-- The theorems of specs/Main.antt, and what they rest on. Assumes nothing.
use Rattle.std.specs.Prelude.{◌≡◌, refl, Bool, true, false, List, [], ◌++◌, ◌⊎◌, ℕ, ◌+◌, ◌≤◌, ◌<◌, length, take, Ok}
use Rattle.std.proofs.Common.{ap, ◌∙◌, sym, subst, inl, inr, ⊎_elim, arith}
use Rattle.machine.specs.Machine.{run_none, run-stop}
use Rattle.rules.specs.Numbers.{done, clips, most, in_work}
use Rattle.rules.specs.Ring.{opening_of}
use Rattle.rules.specs.Layouts.{stream_header_size}
use Rattle.rules.specs.Packets.{live, Progress, at_first, pass, left_by}
use Rattle.rules.specs.Judging.{without_place}
use Rattle.rules.specs.Judging.Finding.{fine, broken}
use Rattle.rules.specs.State.{Work, State, World, registering}
use Rattle.rules.specs.State.Work.{resting, packets, waiting}
use Rattle.rules.specs.Settle.{settled, settled_keeping}
use Rattle.rules.specs.Steps.{go, step, run_for, waits_on, waits, answered}
use Rattle.rules.specs.Unsliced.{submitted}
use Rattle.rules.specs.Calls.{lent_another, ending, Ran, ran, Answered, call_read, call_run, call_record, answer_alone, call_answer, at_rest}
use Rattle.rules.specs.Lists.{over}
use Rattle.rules.specs.Lists.Found.{none}
use Rattle.rules.specs.declared.Ended.TheVariants.{Idle}
use Rattle.rules.specs.declared.Entry.{Entry}
use Rattle.rules.specs.declared.Job.{Job}
use Rattle.rules.specs.declared.Stream.{Stream}
use Rattle.rules.specs.declared.SetScissor.{SetScissor}
use Rattle.rules.specs.declared.DestroyResource.{DestroyResource}
use Rattle.rules.specs.declared.ImportSurface.{ImportSurface}
use Rattle.rules.specs.declared.Packet.{Packet}
use Rattle.rules.specs.declared.Packet.TheVariants.{Destroy, Scissor, Import}
use Rattle.rules.specs.declared.Opened.{Opened}
use Rattle.rules.specs.declared.Fault.{Fault}
use Rattle.rules.specs.declared.Registers.{Registers}
use Rattle.rules.specs.declared.Opening.TheVariants.{Started}
use Rattle.promises_of_units.specs.Refused.{refused-run-changes-nothing, refused-answer-changes-nothing, refused-write-changes-nothing}
use Rattle.promises_of_units.specs.Called.{Call, after, after_all, units_of_all, taken_by_all, Called}
use Rattle.promises_of_units.specs.Called.Call.{writes, reads, runs, records, answers}
use Rattle.promises_of_units.specs.Acts.{Act, acts_of_all, answers_in, registers_after, Led, NoReset}
use Rattle.promises_of_units.proofs.Acts.{acts-answers, calls_lead}
use Rattle.promises_of_units.specs.Acts.Led.{stays, spends, writes_one, takes}
use Rattle.promises.specs.Courses.{clash}
use Rattle.promises_of_submissions.specs.Slices.{waiting-stands-still}
use Rattle.promises_of_units.specs.Fences.{good-settles, failed-settles}
use Rattle.promises_of_units.specs.Units.{Breaks, Unit, not-waiting-hands-out-nothing}
use Rattle.promises_of_units.proofs.Units.{unit, unit-keeps-belongings, run-keeps-belongings}
use Rattle.promises.specs.Chains.{submitted_under, Rest, Served, Next, Stands}
use Rattle.promises.proofs.ChainsStand.{calls-stand, units-add-up, answers-are-those-given, same-acts-same-world}
use Rattle.promises.specs.Slicing.{NoWrite}
use Rattle.promises.proofs.Slicing.{same-units-same-answers}
use Rattle.promises_of_units.specs.Runs.{of-run, of-answer, taken-and-run, never-more-than-allowed, run-spends-all-or-is-done, paused-spent-all, answer-never-more-than-allowed, answer-spends-all-or-is-done, answer-paused-spent-all}
use Rattle.promises_of_units.specs.AnswerAndRun.{taken-alone, IsBoth}
use Rattle.promises_of_units.proofs.AnswerAndRun.{answer-and-run-is-both}
use Rattle.promises_of_units.specs.Events.{Event, History}
use Rattle.promises_of_units.proofs.Events.{calls-have-events}
use Rattle.promises_of_units.specs.Changes.{told, Says}
use Rattle.promises_of_units.proofs.Changes.{calls-say}
use Rattle.promises_of_units.specs.Kept.{EachLent}
use Rattle.promises_of_submissions.specs.LentBytes.{OfBytes}
use Rattle.promises.specs.Places.{OfAnEntry, OfAPacket, TellsWhere, bad-ring-has-no-place, detail-is-read, detail-is-not-written}
use Rattle.promises.proofs.Places.{sizes-fit, settling-tells, each-settling-tells-where, failed-has-no-place}
use Rattle.promises.specs.NightLog.{night_log, agree}
use Rattle.promises.proofs.NightLog.{night-log-holds}
use Rattle.promises_of_submissions.specs.AppendedUnits.{SameAhead, SameOut}
use Rattle.promises_of_submissions.proofs.AppendedUnits.{appended-bytes-same-run, appended-bytes-same-outcome}
use Rattle.promises_of_submissions.specs.Whole.{midst}
use Rattle.promises.proofs.UnslicedPlaces.{unsliced-tells-where}
use Rattle.promises.specs.PlacesByNumber.{TellsWhich}
use Rattle.promises.proofs.PlacesByNumber.{each-settling-tells-which}
use Rattle.promises.specs.UnslicedByNumber.{ByTheCode}
use Rattle.promises.proofs.UnslicedByNumber.{unsliced-by-the-code}
use Rattle.promises_of_units.specs.Bytes.{WrittenBy}
use Rattle.promises_of_units.proofs.Bytes.{calls-write}
use Rattle.promises_of_units.specs.Ranges.{InOneEntry}
use Rattle.promises_of_units.proofs.Ranges.{ranges-at-the-record-call, kinds-at-the-record-call, called-sound}
use Rattle.promises_of_packets.specs.Held.{OfAKind, TargetLives, SoundProgress}
use Rattle.promises_of_packets.proofs.Held.{refused-packet-keeps-progress}
use Rattle.promises_of_submissions.specs.FloatBits.{not-finite-viewport, not-finite-clear}
use Rattle.promises_of_submissions.proofs.FloatBits.{viewport-is-carried, clear-is-carried, viewport-judged-by-its-words, clear-judged-by-its-words}
use Rattle.promises_of_sharing.specs.Targets.{other-packets-keep-the-target, destroyed-ends-the-target, another-destroyed-keeps-the-target, ended-target-stays-ended}
use Rattle.promises_of_sharing.proofs.Targets.{called-target-lives, first-packet-finds-no-target}
use Rattle.promises_of_sharing.specs.Shared.{IsBound, Destroyed, SecondName}
use Rattle.promises_of_sharing.proofs.Shared.{destroying_a_name_leaves_the_others, an-import-is-a-second-name}
use Rattle.promises_of_sharing.specs.SharedTokens.{TokensGoOn, TokensStay}
use Rattle.promises_of_sharing.proofs.SharedTokens.{tokens-stay}
use Rattle.promises_of_sharing.specs.BoundTokens.{BoundUnless}
use Rattle.promises_of_sharing.proofs.BoundTokens.{a-bound-token-is-spent-only-by-its-release-or-with-its-last-name}
use Rattle.promises_of_sharing.specs.SharedPackets.{when-an-import-is-accepted}
use Rattle.promises_of_sharing.proofs.SharedPackets.{when-an-export-is-accepted, when-a-release-is-accepted}
use Rattle.promises_of_sharing.specs.TokensOverCalls.{CalledOn, a-failed-submission-leaves-the-tokens}
use Rattle.promises_of_sharing.proofs.TokensOverCalls.{tokens-go-on-between-resets, a-reset-forgets-the-tokens, at-most-256-tokens, shared-is-one-mip-one-layer, bound-is-one-mip-one-layer, what-is-held-is-sound}
use Rattle.promises_of_sharing.specs.NamesKept.{KeepsNamesBut}
use Rattle.promises_of_sharing.specs.NamesOverCalls.{names_since}
use Rattle.promises_of_sharing.proofs.NamesOverCalls.{a-bound-token-keeps-its-names-between-resets}
use Rattle.promises_of_sharing.specs.PacketsTaken.{packets_since}
use Rattle.promises_of_sharing.specs.TokenLives.{Some, Exports, Spends, TokensLive, BoundIsFound, ImportAccepted}
use Rattle.promises_of_sharing.proofs.TokenLives.{tokens-live-between-resets, a-token-stays-bound-exactly, bound-exactly-if-found}
use Rattle.promises_of_sharing.proofs.LaterImport.{a-later-import-is-accepted}
use Rattle.promises_of_sharing.specs.TokenMeans.{TokensMean, NamesTheExported}
use Rattle.promises_of_sharing.proofs.TokenMeans.{tokens-mean-between-resets, a-later-import-names-the-exported}
use Rattle.promises_of_sharing.specs.RecordHandles.{AddsUnderItsHandle}
use Rattle.promises_of_sharing.proofs.RecordHandles.{ranges-carry-the-packets-handle}
use Rattle.promises_of_sharing.specs.SinceBegun.{BetweenResetsAndLoads, since-begun, BoundSince}
use Rattle.promises_of_sharing.proofs.SinceBegun.{asked_on, whatever-is-asked, bound-since-make-reset-or-load}
use Rattle.promises_of_units.specs.Asked.{Asked, left_all, Change, Course, SaysAll, NoResetOrLoad}
use Rattle.promises_of_units.proofs.Asked.{asked-have-changes, course-says, all_asked_called}
use Rattle.promises_of_units.proofs.FenceRises.{only-a-reset-or-a-load-lowers-the-fence}
use Rattle.promises.specs.LowerFence.{the-fence-is-the-files}
use Rattle.promises.proofs.LowerFence.{the_fence_may_be_lower_after_loading}
use Rattle.promises_of_submissions.specs.Clipping.{Scissored}
use Rattle.promises_of_submissions.proofs.Clipping.{accepted-scissor-is-clipped}
use Rattle.promises_of_submissions.specs.Locality.{lent, SameWhereRead, SameRun}
use Rattle.promises_of_submissions.proofs.Locality.{run-of-one-reads-only}
use Rattle.rules.specs.Saved.{call_save}
use Rattle.rules.specs.Loaded.{Loaded, form_in, bad_place, loaded, call_load, call_move}
use Rattle.rules.specs.declared.Form.{Form}
use Rattle.rules.specs.declared.Form.TheVariants.{One}
use Rattle.promises_of_units.specs.Called.Called.{loads}
use Rattle.promises_of_units.specs.Sound.{SoundState}
use Rattle.promises_of_units.proofs.LoadedSound.{loaded-sound}
use Rattle.promises_of_saving.specs.Savable.{Fits, Savable}
use Rattle.promises_of_saving.specs.SameDevice.{SameDevice}
use Rattle.promises_of_saving.specs.Refusals.{refused-exactly, refused-load-leaves-the-device, loaded-exactly, loaded-or-refused, kept-is-good, load-of-good}
use Rattle.promises_of_saving.specs.Places.{reported-place-is-in-the-file}
use Rattle.promises_of_saving.proofs.Places.{reported-place-is-the-lowest}
use Rattle.promises_of_saving.specs.Numbered.{with_number}
use Rattle.promises_of_saving.specs.SaveOfLoad.{equal-devices-equal-files}
use Rattle.promises_of_saving.proofs.SaveOfLoad.{load-then-save}
use Rattle.promises_of_saving.specs.LoadOfSave.{LoadedBack}
use Rattle.promises_of_saving.proofs.LoadOfSave.{load-of-save}
use Rattle.promises_of_saving.proofs.MoveAnswers.{move-refused-exactly, move-not-in-form-exactly, move-too-short-exactly, move-done-exactly, refused-move-leaves-the-buffer, done-move-keeps-later-bytes}
use Rattle.promises_of_same_desks.specs.Desks.{SameDesk}
use Rattle.promises_of_same_desks.specs.ForEver.{told_all, SameForEver}
use Rattle.promises_of_same_desks.proofs.ForEver.{told-the-same-is-the-same}
use Rattle.promises_of_same_desks.proofs.DesksForEver.{same-desks-for-ever, same-devices-for-ever}
use Rattle.promises_of_same_desks.proofs.GoesOnElsewhere.{a-saved-desk-goes-on-elsewhere, a-moved-desk-goes-on-elsewhere}
use Rattle.promises_of_saving.specs.Moved.{move_wrote}
use Rattle.promises_of_saving.proofs.Moved.{form-1-is-never-refused-with-8, form-2-goes-back-exactly, load-of-moved, moves-there-and-back}
use Rattle.promises_of_saving.proofs.ThereAndBack.{form-1-moves-there-and-back}
use Rattle.rules.specs.Listed.{submission_listed, listed_at, listed}
use Rattle.rules.specs.declared.Refusal.TheVariants.{HostFailed}
use Rattle.promises_of_submissions.specs.Reads.{AgreeOn}
use Rattle.promises_of_leftovers.specs.Matter.{AgreeOnListed, SameResults}
use Rattle.promises_of_leftovers.proofs.Matter.{bytes-not-listed-cannot-matter as only-the-listed}
use Rattle.promises_of_leftovers.specs.AskedOver.{AgreeOnListedAsked, SameResultsAsked, AskedAlike, SameResultsMoving}
use Rattle.promises_of_leftovers.proofs.AskedOver.{whatever-is-asked-bytes-not-listed-cannot-matter as only-the-listed-asked, in-moving-memory-bytes-not-listed-cannot-matter}
use Rattle.promises_of_leftovers.proofs.Fixed.{listed-is-fixed-at}
use Rattle.promises_of_leftovers.proofs.UpTo.{up-to-the-settling, while-it-is-in-work, each-unit}
use Rattle.promises_of_leftovers.proofs.WholeSubmission.{whole-submission}
use Rattle.promises_of_leftovers.specs.Touch.{AgreeInFirst, TouchNoListed}
use Rattle.promises_of_leftovers.proofs.Touch.{beyond-if-no-listed-byte-is-touched as only-the-listed-beyond}
use Rattle.promises_of_leftovers.specs.Spare.{agree-by-bytes, payloads-are-not-named}
use Rattle.promises_of_leftovers.proofs.Spare.{strides_have_spare_bytes, bytes-past-the-stream-size-are-not-named}
use Rattle.promises.specs.Main.{Allowed, AllowedAfter, ByTheirRules, Carried, ErrorDetail, GoesByItsWords, Lasts, Leaves, Loading, MayDiffer, Moving, NothingElseMatters, OwnCount, Settles, SharesOnly, UpToEachSettling, WhenTheFenceFalls, WhileUnitsRun, answer_of, judged, refused-completes}

-- ---- demand 1

-- 1. "A refused call gives its number and changes no state and no byte."
pub refused-call-changes-nothing : (c : Call) (w : World) → (answer_of c w ≡ done → ⊥) → after c w ≡ w
unfolding answer_of after
refused-call-changes-nothing (writes offset v) w h = rw (refused-write-changes-nothing w.state offset v h)
refused-call-changes-nothing (reads offset) w h = refl
refused-call-changes-nothing (runs n) w h = refused-run-changes-nothing w n h
refused-call-changes-nothing (records i) w h = refl
refused-call-changes-nothing (answers good n) w h = refused-answer-changes-nothing w good n h

-- 2. "touches nothing outside what it was lent": of guest memory only the heads and the fence pages of submissions that settled are written.
-- Every list of calls has a history, which says what settled, and memory after it is what those settlings write.
pub only-heads-and-pages-change : (cs : List Call) (w : World)
    → (es : List Event) × (History w cs es (after_all cs w) × WrittenBy w es (after_all cs w))
only-heads-and-pages-change cs w =
    let h = calls-have-events cs w in
    (h.0, (h.1, calls-write w cs h.0 (after_all cs w) h.1))

-- ---- demand 2

-- 3. "With still memory and no reset, a submission is accepted exactly when the published rules hold; else the first broken rule is its error."
-- From any device and memory, after any calls of which none is a reset, what was in work at first is still in progress; or the device is past its
-- end, through whole submissions, each from its opening to what the unsliced rules give, some units into the next. There is one such
-- place, since the acts lead there one by one, each unit where one is due and each answer where one is awaited (`one_place`).
pub submissions_go_by_the_rules : (cs : List Call) (w : World) → NoReset cs
    → Led w (acts_of_all cs w) (after_all cs w) × Stands w (acts_of_all cs w) (after_all cs w)
submissions_go_by_the_rules cs w n = (calls_lead cs w n, calls-stand cs w n)

pub units-hand-out-nothing : (w : World) → WhileUnitsRun w
units-hand-out-nothing w = record { hands-out-nothing = not-waiting-hands-out-nothing w.state; keeps-belongings = λ n. run-keeps-belongings n w }

-- a submission that was opened at w and settled or accepted with the registers q
module _ (w : World) (q : Registers) (o : Opened) (opened : opening_of w.mem w.state.regs.ring w.state.regs.ringsize ≡ Started o) where
  module _ (f : Fault) (e : (judged w q o opened).finding ≡ broken f) where
    -- Wish 9, "tell me where it broke": the registers have the number and the place that the unsliced rules give with it, and it lies in the
    -- table or in the stream. Memory holds bytes.
    pub refused-tells-where : OfBytes w.mem
        → ((submitted_under q w).state.state.regs.error ≡ told o.job f q.error) × (OfAnEntry o.table f ⊎ OfAPacket o.stream f)
    refused-tells-where b = (
      ap (λ (x : World). x.state.regs.error) (refused-completes w q o opened f e) ∙ settling-tells o.job f w.state.belongings (registering q w),
      unsliced-tells-where w.mem w.state.regs.ring w.state.regs.ringsize o opened b (at_first w.state.belongings) f e,
    )

    -- "the entry index for 14 and 15, the packet's byte offset in the stream for packet errors": the number alone tells which of the two it is
    pub the-number-tells-which : (b : OfBytes w.mem) → ByTheCode w.mem w.state.regs.ring w.state.regs.ringsize o opened b (at_first w.state.belongings) f
    the-number-tells-which b = unsliced-by-the-code w.mem w.state.regs.ring w.state.regs.ringsize o opened b (at_first w.state.belongings) f e

-- Wish 9 at every unit that settles: the entry's index, the packet's offset, "else 0". Of any device made and called, over any bytes.
pub every-settling-tells-where : (s : State) (k : Called s) → EachLent OfBytes s k → (m : List ℕ) (j : Job) (f : Fault) → Breaks (lent s m) s.work j f
    → TellsWhere (lent s m) j f
every-settling-tells-where s k b = each-settling-tells-where s k (sizes-fit s k b)

-- And the number is 14 or 15 exactly if the unit judged an entry, so that number and detail tell which entry or packet it was, or that it was neither.
pub every-settling-tells-which : (s : State) (k : Called s) → EachLent OfBytes s k → (m : List ℕ) (j : Job) (f : Fault) → Breaks (lent s m) s.work j f
    → TellsWhich (lent s m) j f
every-settling-tells-which s k b = each-settling-tells-which s k (sizes-fit s k b)

pub the-error-detail-is-a-read-only-register : (w : World) → ErrorDetail w
the-error-detail-is-a-read-only-register w =
    record { read = detail-is-read w.state; read_only = detail-is-not-written w.state; of-a-bad-ring = bad-ring-has-no-place w; of-a-failed-one = failed-has-no-place w }

-- it goes on waiting until an answer is taken, and only registers are written
pub waits-until-answered : (cs : List Call) (w : World) → NoReset cs → waits w.state ≡ true → taken_by_all cs w ≡ []
    → after_all cs w ≡ registering (registers_after (acts_of_all cs w) w.state.regs) w
unfolding answers_in registers_after
waits-until-answered cs w n k a = led-waits (calls_lead cs w n) k (acts-answers cs w ∙ a)
  where
    led-waits : {w v : World} {xs : List Act} → Led w xs v → waits w.state ≡ true → answers_in xs ≡ []
        → v ≡ registering (registers_after xs w.state.regs) w
    led-waits stays k a = refl
    led-waits {w = w} (spends g p) k a = clash g (waiting-stands-still w k)
    led-waits (writes_one offset v h p) k a = led-waits p k a
    led-waits (takes good h p) k a = absurd (let z : ◌≡◌ {A = ℕ} 0 1 = cc in omega arith)

-- and an answer that is lent the device's memory is taken: it settles the submission, with its resources and tokens or with error 27 and place 0
pub an-answer-settles : (w : World) (j : Job) (es : List Entry) (h : Progress) → w.state.work ≡ waiting j es h → lent_another w ≡ false
    → Settles w true (settled j fine (left_by h) w) × Settles w false (settled_keeping j (broken (without_place HostFailed)) w)
an-answer-settles w j es h e l = (settles true _ (good-settles w j es h e), settles false _ (failed-settles w j es h e))
  where
    settles : (good : Bool) (v : World) → answered good w ≡ v → Settles w good v
    settles good v is =
        let old : answer_alone w good ≡ record { answer = done; world = answered good w } = taken-alone w good l (ap waits_on e) in
        record {
          alone = taken-and-run w good 0 l (ap waits_on e)
              ∙ (ap ran (run_none go step (answered good w)) ∙ ap {B = Ran} (λ (x : World). record { answer = done; units = 0; ended = ending x.state; world = x }) is);
          runs_on = λ n.
              let both : (call_answer w good n ≡ call_run (answer_alone w good).world n) × ((call_answer w good n).answer ≡ done) =
              (answer-and-run-is-both w good n).taken (ap (λ (a : Answered). a.answer) old) in
              (both.0 ∙ ap (λ (x : World). call_run x n) (ap (λ (a : Answered). a.world) old ∙ is), both.1);
        }

-- 6. "Each range handed out lies inside the one matching entry of that submission's table": of any device made and called, over any memories.
-- "Demand 2's ranges mean kinds 1 to 3" (wish 7)
pub ranges-lie-in-their-one-entry : (s : State) → Called s → (i : ℕ) → (call_record s i).answer ≡ done → ((call_record s i).range.kind ≡ clips → ⊥)
    → InOneEntry s i (call_record s i).range
ranges-lie-in-their-one-entry = ranges-at-the-record-call

-- 7. Completed fence, last error, resources and tokens are what settlings, bad rings and resets make of them, and change by nothing else.
pub fence-error-and-belongings : (cs : List Call) (w : World)
    → (es : List Event) × (History w cs es (after_all cs w) × Says w.state es (after_all cs w).state)
fence-error-and-belongings cs w =
    let h = calls-have-events cs w in
    (h.0, (h.1, calls-say w cs h.0 (after_all cs w) h.1))

-- The same with saves, loads and moves among the calls, over any memories, buffers and files: settlings, bad rings, resets and loads of good files make them what they
-- are, and nothing else changes them. A load makes each of them what the file says.
pub fence-error-and-belongings-whatever-is-asked : (qs : List Asked) (s : State) → (ds : List Change) × (Course s qs ds (left_all qs s) × SaysAll s ds (left_all qs s))
fence-error-and-belongings-whatever-is-asked qs s =
    let c = asked-have-changes qs s in
    (c.0, (c.1, course-says s qs c.0 (left_all qs s) c.1))

-- ---- demand 3

-- 8. "Two ways of slicing with the same units and the same accepted answers stand in the same state with the same memory"
pub slicing-changes-nothing : (cs ds : List Call) (w : World) → NoWrite cs → NoWrite ds → units_of_all cs w ≡ units_of_all ds w
    → taken_by_all cs w ≡ taken_by_all ds w → after_all cs w ≡ after_all ds w
slicing-changes-nothing = same-units-same-answers

-- With register writes among the calls: the same units, writes and answers in the same order, however the runs were cut
pub the-same-acts-lead-to-the-same-world : (cs ds : List Call) (w : World) → NoReset cs → NoReset ds → acts_of_all cs w ≡ acts_of_all ds w
    → after_all cs w ≡ after_all ds w
the-same-acts-lead-to-the-same-world = same-acts-same-world

pub the-units-are-the-rules-own-count : (cs : List Call) (w : World) {x y v : World} {first night next : List Act} → acts_of_all cs w ≡ first ++ (night ++ next)
    → Rest w first x → (s : Served x night y) → Next y next v → OwnCount cs w first next s
the-units-are-the-rules-own-count cs w {first = first} {next = next} e r s n =
    record { units = units-add-up cs w first next e s; answers = answers-are-those-given cs w first next e s r n }

pub a-run-spends-its-allowance : (w : World) (n : ℕ) → Allowed w n
a-run-spends-its-allowance w n =
    record {
      most = never-more-than-allowed w n;
      all-or-done = run-spends-all-or-is-done w n;
      paused = paused-spent-all w n;
      ends = λ l. of-run (λ (r : Ran). r.ended ≡ ending r.world.state) w n (λ e. absurd (let z : ◌≡◌ {A = ℕ} 0 1 = cc in omega arith)) (λ e. refl);
      still = λ g. of-run (λ (r : Ran). (r.units ≡ 0) × (r.world ≡ w)) w n (λ e. (refl, refl)) (λ e. rw (run-stop go step n w g) (refl, refl));
    }

pub an-answer-spends-its-allowance : (w : World) (good : Bool) (n : ℕ) → AllowedAfter w good n
an-answer-spends-its-allowance w good n =
    record {
      most = answer-never-more-than-allowed w good n;
      all-or-done = answer-spends-all-or-is-done w good n;
      paused = answer-paused-spent-all w good n;
      ends =
          of-answer (λ (r : Ran). r.answer ≡ done → r.ended ≡ ending r.world.state) w good n (λ e h. absurd (omega arith))
          (λ e f h. absurd (omega arith)) (λ e f h. refl);
    }

-- Wish 6, "answer and carry on in one call": where the old answer is taken, "it must equal the two old calls one after the other"; else
-- nothing is run. "an allowance of 0 is the old call".
pub answer-and-carry-on : (w : World) (good : Bool) (n : ℕ) → IsBoth w good n
answer-and-carry-on = answer-and-run-is-both

-- each unit is one of the rules' units: it works on; or finds a bad ring or no work; or settles with a rule that is broken there
pub a-unit-is-the-rules : (w : World) → Unit w (step w)
a-unit-is-the-rules = unit

-- 10. A unit is fixed by what it reads of the memory lent at that unit: what was read ahead, and what another unit reads, cannot matter.
pub a-unit-reads-only-its-own : (s : State) (m m' : List ℕ) → length m ≡ length m' → (go (lent s m) ≡ true → SameWhereRead s m m')
    → SameRun m m' (call_run (lent s m) 1) (call_run (lent s m') 1)
a-unit-reads-only-its-own = run-of-one-reads-only

-- ---- 01, "Night-log examples"

-- "[P] marks those to be proved together as a single table of cases with one statement"
pub the-night-log-holds : agree night_log ≡ true
the-night-log-holds = night-log-holds

-- ---- wish 2, "newer drivers send longer packets"

-- "the extra bytes are ignored": over two memories of one length that differ, in what a submission reads, only in bytes appended to its packets, the
-- unsliced rules give the same units, the same error, place and fence, or the same resources, tokens and records that wait
pub appended-bytes-are-ignored : (m m' : List ℕ) → length m ≡ length m' → (s : State) → SameAhead s.regs resting m m'
    → SameOut m m' (submitted (lent s m)) (submitted (lent s m'))
appended-bytes-are-ignored = appended-bytes-same-outcome

-- and a run has the same answer, units, ending and state, up to the end of the submission
pub appended-bytes-are-ignored-by-runs : (m m' : List ℕ) → length m ≡ length m' → (n : ℕ) (s : State) → SameAhead s.regs s.work m m'
    → ((i : ℕ) → 0 < i → i < n → midst (run_for i (lent s m)).state.state.work ≡ true)
    → SameRun m m' (call_run (lent s m) n) (call_run (lent s m') n)
appended-bytes-are-ignored-by-runs = appended-bytes-same-run

-- ---- wish 7, "state packets"

pub floats-are-carried-bit-for-bit : (b : List ℕ) → OfBytes b → Carried b
floats-are-carried-bit-for-bit b bytes = record { viewport = λ e. (viewport-is-carried b bytes e).1; clear = λ e. (clear-is-carried b bytes e).1 }

pub viewport-and-clear-go-by-their-words : (b : List ℕ) → OfBytes b → GoesByItsWords b
viewport-and-clear-go-by-their-words b bytes =
    record {
      viewport = viewport-judged-by-its-words b bytes;
      clear = clear-judged-by-its-words b bytes;
      not-finite-viewport = not-finite-viewport b;
      not-finite-clear = not-finite-clear b;
    }

pub how-long-a-target-lasts : (es : List Entry) (h : Progress) → Lasts es h
how-long-a-target-lasts es h =
    record {
      refused = refused-packet-keeps-progress es h;
      others = other-packets-keep-the-target es h;
      another-destroyed = another-destroyed-keeps-the-target es h;
      destroyed = λ c same e. destroyed-ends-the-target es h c e same;
      not-again = ended-target-stays-ended es h;
    }

-- of any device made and called, over any memories: a submission begins with no target, and one that it has is a live texture
pub targets-stay-live-textures : (s : State) → Called s → (j : Job) (t : Stream) (at : ℕ) (es : List Entry) (h : Progress) → s.work ≡ packets j t at es h
    → (at ≡ stream_header_size → h.target ≡ 0) × TargetLives h
targets-stay-live-textures s k j t at es h e = (first-packet-finds-no-target s k j t at es h e, called-target-lives s k j t at es h e)

-- "A scissor is clipped to the target over plain integers, negative corners included, and given to the host as a record of kind 4"
pub a-scissor-is-clipped-to-its-target : (es : List Entry) (h : Progress) (c : SetScissor) → (pass es h (Scissor c)).verdict ≡ Ok tt → Scissored h c (pass es h (Scissor c))
a-scissor-is-clipped-to-its-target = accepted-scissor-is-clipped

-- a record is of kind 1, 2, 3 or 4: of any device made and called
pub records-are-of-four-kinds : (s : State) → Called s → (i : ℕ) → (call_record s i).answer ≡ done → OfAKind (call_record s i).range
records-are-of-four-kinds = kinds-at-the-record-call

-- ---- wish 5, "two programs, one surface"

pub exports-imports-and-releases : (es : List Entry) (h : Progress) → ByTheirRules es h
exports-imports-and-releases es h = record { exports = when-an-export-is-accepted es h; imports = when-an-import-is-accepted es h; releases = when-a-release-is-accepted es h }

-- what a submission of any device made and called holds, over any memories: so what follows is said of it
pub any-submission-is-sound : (s : State) → Called s → (j : Job) (t : Stream) (at : ℕ) (es : List Entry) (h : Progress) → s.work ≡ packets j t at es h → SoundProgress es h
any-submission-is-sound = what-is-held-is-sound

-- "destroying one name leaves the others, and destroying the last frees the room"
pub destroying_one_name_leaves_the_others : (es : List Entry) (h : Progress) → SoundProgress es h
    → (c : DestroyResource) → (pass es h (Destroy c)).verdict ≡ Ok tt → Destroyed c.handle h (pass es h (Destroy c)).held
destroying_one_name_leaves_the_others = destroying_a_name_leaves_the_others

-- "Import makes the handle a second name for the exported resource"
pub an-import-makes-a-second-name : (es : List Entry) (h : Progress) → SoundProgress es h
    → (c : ImportSurface) → (pass es h (Import c)).verdict ≡ Ok tt → SecondName c.token c.handle h (pass es h (Import c)).held
an-import-makes-a-second-name = an-import-is-a-second-name

-- "A record made under a second name carries the packet's handle" (DECISIONS.md, 104): the records of kinds 1 to 3 that a packet adds have the handle that it
-- gives, a copy's dst, whichever name of the resource that is
pub a-range-carries-the-packets-handle : (es : List Entry) (h : Progress) (p : Packet)
    → AddsUnderItsHandle p h.holdings.records (pass es h p).held.holdings.records
a-range-carries-the-packets-handle = ranges-carry-the-packets-handle

-- from packet to packet, whatever they are, a token stays used, or spent, or with its resource
pub tokens-from-packet-to-packet : (es : List Entry) (h : Progress) → SoundProgress es h → (p : Packet) → TokensStay h (pass es h p).held
tokens-from-packet-to-packet = tokens-stay

-- "destroying one name leaves the others": whatever the packet, a bound token stays bound, unless it is that token's release or a destroy of the last
-- name of its resource
pub only-its-release-or-its-last-name-spends-a-token : (es : List Entry) (h : Progress) → SoundProgress es h → (token : ℕ) → IsBound token h.tokens
    → (p : Packet) → BoundUnless token h p (pass es h p).held.tokens
only-its-release-or-its-last-name-spends-a-token = a-bound-token-is-spent-only-by-its-release-or-with-its-last-name

-- and so over any calls, between resets: "a token ever bound to another resource or one released" is found so
pub tokens-between-resets : (s t : State) → Called s → CalledOn s t → TokensGoOn s.belongings.tokens t.belongings.tokens
tokens-between-resets = tokens-go-on-between-resets

-- and a token that is bound before and after keeps its resource's names, but for those that submissions answered good have imported or destroyed since: what was refused
-- or failed does not count
pub names-between-resets : (s t : State) (k : Called s) (q : CalledOn s t) → KeepsNamesBut (names_since s t k q).by_good s.belongings t.belongings
names-between-resets = a-bound-token-keeps-its-names-between-resets

-- "Two programs, one surface": a token lives from one submission to the next. Take any calls between resets. A token that is bound before them, or that a submission
-- answered good exports, is bound after them exactly unless a submission answered good has released it or destroyed the last name of its resource. One that is bound
-- after them was bound before them or exported since.
pub tokens-live-from-one-submission-to-the-next : (s t : State) (k : Called s) (q : CalledOn s t)
    → TokensLive (packets_since s t k q).by_good s.belongings.tokens t.belongings.tokens
tokens-live-from-one-submission-to-the-next = tokens-live-between-resets

-- "Import and release give 29 for a token not bound to a live resource": one that was bound is bound still exactly if no submission answered good has spent it.
pub a-bound-token-stays-bound-exactly-unless-spent : (s t : State) (k : Called s) (q : CalledOn s t) (token : ℕ) → IsBound token s.belongings.tokens
    → ((Some (Spends token) (packets_since s t k q).by_good → ⊥) → IsBound token t.belongings.tokens)
    × (IsBound token t.belongings.tokens → Some (Spends token) (packets_since s t k q).by_good → ⊥)
a-bound-token-stays-bound-exactly-unless-spent = a-token-stays-bound-exactly

-- Bound, as it is said here, is what import itself looks for.
pub a-bound-token-is-one-that-import-finds : (s : State) → Called s → (token : ℕ) → BoundIsFound token s
a-bound-token-is-one-that-import-finds = bound-exactly-if-found

-- "Import makes the handle a second name for the exported resource", over any calls between resets: a token that is bound before and after them is bound to a
-- resource of the same kind, bytes, pitch, backing and offset. One that was exported since and is bound is bound to one that has those of the exported handle's
-- resource, as it was at the export.
pub a-token-keeps-its-resource : (s t : State) (k : Called s) (q : CalledOn s t) → TokensMean (packets_since s t k q).by_good s.belongings t.belongings
a-token-keeps-its-resource = tokens-mean-between-resets

-- So an import in a later submission is accepted and makes a second name, if its token was bound or was exported since by a submission answered good, and its handle is
-- free and there is room; unless the token was spent since by a submission answered good, or by the importing submission itself. It is a name of the resource that
-- the token was bound to, or that was exported.
pub an-import-in-a-later-submission-is-accepted : (s t : State) (k : Called s) → Called t → (q : CalledOn s t) (j : Job) (r : Stream) (at : ℕ) (es : List Entry) (h : Progress)
    → t.work ≡ packets j r at es h → (c : ImportSurface)
    → IsBound c.token s.belongings.tokens ⊎ Some (Exports c.token) (packets_since s t k q).by_good
    → (c.handle ≡ 0 → ⊥) → live c.handle h.holdings ≡ none → length h.holdings.resources < most
    → (ImportAccepted es h c
    × NamesTheExported c.token c.handle ((packets_since s t k q).in_work ++ (packets_since s t k q).by_good) s.belongings (pass es h (Import c)).held.holdings.resources)
    ⊎ Some (Spends c.token) ((packets_since s t k q).in_work ++ (packets_since s t k q).by_good)
an-import-in-a-later-submission-is-accepted s t k l q j r at es h e c b some free room =
    ⊎_elim (λ x. inl (x, a-later-import-names-the-exported s t k l q j r at es h e c x.accepted)) (λ x. inr x)
    (a-later-import-is-accepted s t k l q j r at es h e c b some free room)

-- Since the last make, reset or load: a token is bound exactly if the file had it bound or it was exported since, and it was not spent since.
pub bound-since-the-last-make-reset-or-load : (s : State) (k : Called s) (token : ℕ) → BoundSince token s (since-begun s k)
bound-since-the-last-make-reset-or-load = bound-since-make-reset-or-load

-- With saves, moves and loads of bad files among the calls all four hold: they speak of calls up to the next reset or load of a good file.
pub whatever-is-asked-between-resets-and-loads : (s : State) (k : Called s) (qs : List Asked) (n : NoResetOrLoad qs) → BetweenResetsAndLoads s (left_all qs s) k (asked_on qs s n)
whatever-is-asked-between-resets-and-loads = whatever-is-asked

pub only-such-textures-are-shared : (s : State) → Called s → SharesOnly s
only-such-textures-are-shared s k = record { two-names = shared-is-one-mip-one-layer s k; a-token = bound-is-one-mip-one-layer s k; few = at-most-256-tokens s k }

pub when-tokens-are-left-and-when-forgotten : (w : World) → Leaves w
when-tokens-are-left-and-when-forgotten w =
    record { forgotten = a-reset-forgets-the-tokens w.state; refused = unit-keeps-belongings w; failed = a-failed-submission-leaves-the-tokens w }

-- ---- wish 1: a desk that can be saved; wish 11, in either form

-- what soundness says of every device that was made, called or loaded; that its numbers fit the fields of a file is so of all that stand in words
called-is-savable : (s : State) → Called s → Fits s → Savable s
called-is-savable s k fits =
    let sound : SoundState s = called-sound s k in
    record {
      error = sound.error;
      few = sound.belongings.resources.few;
      some = sound.belongings.resources.some;
      once = sound.belongings.resources.once;
      created = sound.belongings.resources.created;
      names = sound.belongings.resources.names;
      tokens = sound.belongings.tokens;
      fits = fits;
    }

-- "the device at rest written into a lent buffer and read back elsewhere": what was saved is loaded as the same device, whatever the device it is loaded
-- into was: the same memory length, registers and flag, the same resources by their names, the same tokens, nothing in work
pub a-saved-desk-is-read-back-elsewhere : (f : Form) (s : State) → Called s → Fits s → (buffer : List ℕ) → (call_save f s buffer).answer ≡ done
    → (t : State) → LoadedBack s (call_load t (take (call_save f s buffer).length (call_save f s buffer).buffer))
a-saved-desk-is-read-back-elsewhere f s k fits = load-of-save f s (called-is-savable s k fits)

pub when-a-file-is-loaded : (s : State) (b : List ℕ) → Loading s b
when-a-file-is-loaded s b =
    record {
      bad-when = refused-exactly s b;
      unchanged = refused-load-leaves-the-device s b;
      in-the-file = reported-place-is-in-the-file s b;
      lowest = reported-place-is-the-lowest s b;
      good-when = loaded-exactly s b;
      either = loaded-or-refused s b;
    }

-- and a good file and the device that it says are one thing: saving what was loaded in the file's form gives the same bytes, an old file with its
-- number, and two files of one form that say the same device are equal but for that number
pub what-was-loaded-is-saved-again : (s : State) (b : List ℕ) → OfBytes b → (call_load s b).answer ≡ done → (buffer : List ℕ) → length (with_number b) ≤ length buffer
    → call_save (form_in b) (call_load s b).state buffer ≡ record { answer = done; length = length (with_number b); buffer = over 0 (with_number b) buffer }
what-was-loaded-is-saved-again = load-then-save

pub one-device-has-one-file : (b c : List ℕ) → OfBytes b → OfBytes c → bad_place b ≡ none → bad_place c ≡ none → form_in b ≡ form_in c
    → SameDevice (loaded b) (loaded c) → with_number b ≡ with_number c
one-device-has-one-file = equal-devices-equal-files

pub when-a-file-is-moved : (b buffer : List ℕ) → Moving b buffer
when-a-file-is-moved b buffer =
    record {
      seven-when = move-refused-exactly b buffer;
      eight-when = move-not-in-form-exactly b buffer;
      six-when = move-too-short-exactly b buffer;
      done-when = move-done-exactly b buffer;
      form-1-goes = form-1-is-never-refused-with-8 b buffer;
      form-2-goes = λ good form. form-2-goes-back-exactly b good form buffer;
      untouched = refused-move-leaves-the-buffer b buffer;
      later-bytes = done-move-keeps-later-bytes b buffer;
    }

-- "Every form 1 file, an old one once it has its number, moves to form 2 and back to equal bytes": form 2 takes 12 bytes more
pub every-form-1-file-moves-to-form-2-and-back : (b : List ℕ) → OfBytes b → bad_place b ≡ none → form_in b ≡ One → (buffer back : List ℕ)
    → 12 + length (with_number b) ≤ length buffer → length (with_number b) ≤ length back
    → ((call_move b buffer).answer ≡ done)
    × (call_move (move_wrote b buffer) back ≡ record { answer = done; length = length (with_number b); buffer = over 0 (with_number b) back })
every-form-1-file-moves-to-form-2-and-back = form-1-moves-there-and-back

-- and so does every file that a move was done of, one of form 2 that goes back too
pub every-moved-file-moves-back-to-equal-bytes : (b buffer : List ℕ) → OfBytes b → (call_move b buffer).answer ≡ done
    → (back : List ℕ) → length (with_number b) ≤ length back
    → call_move (move_wrote b buffer) back ≡ record { answer = done; length = length (with_number b); buffer = over 0 (with_number b) back }
every-moved-file-moves-back-to-equal-bytes = moves-there-and-back

-- "Loading either gives the same device"
pub loading-either-gives-the-same-device : (b buffer : List ℕ) → OfBytes b → (call_move b buffer).answer ≡ done
    → (t : State) → LoadedBack (loaded b) (call_load t (move_wrote b buffer))
loading-either-gives-the-same-device = load-of-moved

-- And devices that are the same behave the same for ever. A host may make any calls of both, the five calls over any memory, moving memory too, saves into any
-- buffer, loads and moves of any file. It gets the same from both (every answer, value, unit, ending, record and file, and the memory that is left), and
-- the two stay the same desk, also while a submission is in work.
pub the-same-devices-behave-the-same-for-ever : (s t : State) → Called s → Called t → SameDevice s t → SameForEver s t
the-same-devices-behave-the-same-for-ever s t k l = same-devices-for-ever s t (called-sound s k) (called-sound t l)

-- `SameForEver` leaves the two the same desk, and that is all that it asks for: so it holds again from there, also while a submission is in work.
pub the-same-desks-behave-the-same-for-ever : (s t : State) → Called s → Called t → SameDesk s t → SameForEver s t
the-same-desks-behave-the-same-for-ever s t k l = same-desks-for-ever s t (called-sound s k) (called-sound t l)

-- The converse: a device at rest and one that no host can tell from it are the same.
pub indistinguishable-devices-are-the-same : (s t : State) → Called s → Called t → Fits s → Fits t → at_rest s.work ≡ true
    → ((qs : List Asked) → told_all qs s ≡ told_all qs t) → SameDevice s t
indistinguishable-devices-are-the-same s t k l = told-the-same-is-the-same s t (called-sound s k) (called-sound t l)

-- So "read back elsewhere" means: it goes on there exactly as the saved one would have.
pub a-saved-desk-goes-on-as-it-would-have : (f : Form) (s t : State) → Called s → Fits s → (buffer : List ℕ) → (call_save f s buffer).answer ≡ done
    → SameForEver (call_load t (take (call_save f s buffer).length (call_save f s buffer).buffer)).state s
a-saved-desk-goes-on-as-it-would-have f s t k = a-saved-desk-goes-on-elsewhere f s t (called-sound s k)

-- And "the same device" means the same of a file that was moved.
pub a-moved-desk-goes-on-as-it-would-have : (b buffer : List ℕ) (t : State) → OfBytes b → bad_place b ≡ none → (call_move b buffer).answer ≡ done
    → SameForEver (call_load t (move_wrote b buffer)).state (loaded b)
a-moved-desk-goes-on-as-it-would-have = a-moved-desk-goes-on-elsewhere

pub the_completed_fence_may_be_lower_after_loading : WhenTheFenceFalls
the_completed_fence_may_be_lower_after_loading =
    record { the-files = the-fence-is-the-files; may_be_lower = the_fence_may_be_lower_after_loading; else-not = only-a-reset-or-a-load-lowers-the-fence }

-- "Demands 2 and 3 read from the loaded state on": the statements above are of any device, or of any that is `Called`. A device that was loaded is so, and
-- it is sound
pub demands_read_from_the_loaded_state_on : (s : State) (b : List ℕ) → (call_load s b).answer ≡ done
    → Called (call_load s b).state × SoundState (call_load s b).state
demands_read_from_the_loaded_state_on s b d =
    let good : bad_place b ≡ none = kept-is-good b ((loaded-exactly s b).0 d) in
    subst (λ (l : Loaded). Called l.state × SoundState l.state) (sym (load-of-good s b good)) (loads b good, loaded-sound b good)

-- and saves, loads and moves may be among the calls: whatever is asked of a device made and called, it is one still
pub whatever_is_asked_it_is_made_and_called : (qs : List Asked) (s : State) → Called s → Called (left_all qs s)
whatever_is_asked_it_is_made_and_called = all_asked_called

-- ---- wish 12: bytes that cannot matter

-- what the theorem says of a course, by its parts
by_parts : (cs : List Call) (s : State) (m m' : List ℕ) → SameResults cs s m m' → NothingElseMatters cs s m m'
by_parts cs s m m' same =
    record {
      replies = same.replies;
      registers = λ offset. ap (λ (t : State). call_read t offset) same.state;
      records = λ i. ap (λ (t : State). call_record t i) same.state;
      belongings = ap (λ (t : State). t.belongings) same.state;
      state = same.state;
      bytes = same.bytes;
    }

pub bytes-not-listed-cannot-matter : (cs : List Call) (s : State) (m m' : List ℕ) → AgreeOnListed cs s m m' → NothingElseMatters cs s m m'
bytes-not-listed-cannot-matter cs s m m' same = by_parts cs s m m' (only-the-listed cs s m m' same)

-- and with saves, loads and moves among the calls
pub bytes-not-listed-cannot-matter-whatever-is-asked : (qs : List Asked) (s : State) (m m' : List ℕ) → AgreeOnListedAsked qs s m m' → SameResultsAsked qs s m m'
bytes-not-listed-cannot-matter-whatever-is-asked = only-the-listed-asked

-- and where memory moves: each call is lent two memories of its own, which agree on what is listed for that call
pub bytes-not-listed-cannot-matter-in-moving-memory : {s : State} {qs rs : List Asked} → AskedAlike s qs rs → SameResultsMoving s qs rs
bytes-not-listed-cannot-matter-in-moving-memory = in-moving-memory-bytes-not-listed-cannot-matter

-- the list may be read in either memory: it is fixed by the bytes that it lists, of the next submission and of what is in work
pub listed-is-fixed : (m m' : List ℕ) → length m ≡ length m' → (s : State) → AgreeOn m m' (listed s m) → listed s m ≡ listed s m'
listed-is-fixed m m' len s = listed-is-fixed-at m m' len s.regs s.work

pub up-to-each-settling : (s : State) (m m' : List ℕ) → length m ≡ length m' → UpToEachSettling s m m'
up-to-each-settling s m m' len =
    record {
      from-rest = λ rest same cs before. by_parts cs s m m' (up-to-the-settling s m m' len rest (next rest same) cs before);
      in_work = λ same cs no_other. by_parts cs s m m' (while-it-is-in-work s m m' len same cs no_other);
      each-of-its-units = λ rest due same. each-unit s m m' len rest due (next rest same);
      unsliced = λ rest due same. whole-submission s m m' len rest due (next rest same);
    }
  where
    next : s.work ≡ resting → AgreeOn m m' (listed s m) → AgreeOn m m' (submission_listed m s.regs.ring s.regs.ringsize)
    next rest same = subst (λ (k : Work). AgreeOn m m' (listed_at s.regs k m)) rest same

-- "and beyond if the head and fence writes touch no listed byte but the head's own": each submission is listed in the memory first lent, with the head as it is when it is
-- opened; no field of these but the head's own lies in the head or in the page; and the calls move neither ring nor page
pub beyond-if-no-listed-byte-is-touched : (cs : List Call) (s : State) (m m' : List ℕ) → AgreeInFirst cs s m m' → TouchNoListed cs s m
    → NothingElseMatters cs s m m'
beyond-if-no-listed-byte-is-touched cs s m m' same clear = by_parts cs s m m' (only-the-listed-beyond cs s m m' same clear)

pub what_may_differ : MayDiffer
what_may_differ =
    record {
      payloads = λ op. (payloads-are-not-named op).0;
      appended = λ op. (payloads-are-not-named op).1;
      spare = strides_have_spare_bytes;
      past-the-stream = bytes-past-the-stream-size-are-not-named;
      not_covered = agree-by-bytes;
    }
