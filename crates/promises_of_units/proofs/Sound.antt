-- The theorems of specs/Sound.antt, and what they rest on. Assumes nothing.
use Rattle.std.specs.Prelude.{◌≡◌, Bool, true, false, ℕ, zero, suc, ◌+◌, ◌<◌, ltb, eqb, length, Err, Ok}
use Rattle.std.proofs.Math.Path.{refl, subst}
use Rattle.std.proofs.Common.{sym, arith, ltb-true, length-append}
use mathlib.Core.List.{List, []}
use Rattle.machine.specs.Machine.{pick, run_none, run-stop, run-go}
use Rattle.rules.specs.Numbers.{most}
use Rattle.rules.specs.Lists.Found.{none}
use Rattle.rules.specs.Judging.{rule, Finding, at_place, without_place, Verdict}
use Rattle.rules.specs.Judging.Finding.{fine, broken}
use Rattle.rules.specs.Layouts.{entry}
use Rattle.rules.specs.Table.{entry_id, matching, entry_place, entry_rules, keep, in_reach, take_entry}
use Rattle.rules.specs.Ring.{opening_of}
use Rattle.rules.specs.Stream.{left}
use Rattle.rules.specs.Packets.{Progress, at_first, take_packet, Belongings}
use Rattle.rules.specs.State.{Work, State, World, made}
use Rattle.rules.specs.State.Work.{resting, entries, packets, waiting}
use Rattle.rules.specs.Settle.{doorbell_cleared, settled}
use Rattle.rules.specs.Steps.{packets_at, entries_at, after_opening, open_step, after_entry, entry_step, after_packet, next_place, packet_step, step_on, step, go, run_for, answer_on, answered}
use Rattle.rules.specs.declared.Entry.{Entry}
use Rattle.rules.specs.declared.Job.{Job}
use Rattle.rules.specs.declared.Table.{Table}
use Rattle.rules.specs.declared.Stream.{Stream}
use Rattle.rules.specs.declared.Opened.{Opened}
use Rattle.rules.specs.declared.Opening.{Opening}
use Rattle.rules.specs.declared.Opening.TheVariants.{BadRing, NoWork, Refused, Started}
use Rattle.rules.specs.declared.Refusal.TheVariants.{BadRing, BadEntry, TwiceInTable, HostFailed}
use Rattle.rows.specs.Keys.{Once, once-nil, once-pushed}
use Rattle.rule_laws.specs.Created.{AsCreated, SoundError}
use Rattle.promises_of_packets.specs.Held.{Every, Inside, OfAKind, SoundBelongings, SoundProgress}
use Rattle.promises_of_packets.proofs.Held.{nothing-sound, first-sound, left-sound, take-sound}
use Rattle.rule_laws.specs.Fine.{fine-later, kept_rule, both_left}
use Rattle.rule_laws.specs.Listed.{take_entry_listed, take_packet_listed, ListedOpening, opening_listed}
use Rattle.promises_of_units.specs.SoundErrors.{ListedFinding, found-listed}
use Rattle.promises_of_units.proofs.SoundErrors.{fault-sound, ended-sound}
use Rattle.promises_of_units.specs.Sound.{KeepsBytes, SoundEntries, SoundState, SoundWork, created-keep-bytes, unfound}

-- ---- the entries of a table: at most 64, each id once

no-entries : SoundEntries []
no-entries = record { few = omega arith; once = once-nil entry_id }

module _ (m : List ℕ) (t : Table) (kept : List Entry) (s : SoundEntries kept) where
  -- an entry that is fine has an id that no earlier one has
  new-id : (e : Entry) → entry_rules (length m) kept e ≡ Ok tt → matching e.id kept ≡ none
  unfolding entry_rules
  new-id e h =
      unfound (matching e.id kept)
      (kept_rule TwiceInTable _
      (fine-later (rule BadEntry (ltb (length m) (e.gpa + e.size))) _
      (fine-later (rule BadEntry (eqb e.size 0)) _
      (fine-later (rule BadEntry (eqb e.id 0)) _ h))))

  keep-sound : (v : Verdict) (e : Entry) → length kept < most → entry_rules (length m) kept e ≡ v → SoundEntries (keep v kept e).kept
  keep-sound (Ok _) e room h =
      record { few = simp length-append (omega arith); once = once-pushed entry_id kept e s.once (new-id e h) }
  keep-sound (Err r) e room h = s

  taken_by : (b : Bool) → in_reach m t (length kept) ≡ b
      → SoundEntries (pick b (keep (entry_rules (length m) kept (entry m (entry_place t (length kept)))) kept (entry m (entry_place t (length kept)))) (record { verdict = Err BadEntry; kept = kept })).kept
  taken_by true e = keep-sound (entry_rules (length m) kept (entry m (entry_place t (length kept)))) (entry m (entry_place t (length kept))) (ltb-true (length kept) most (both_left (ltb (length kept) most) _ e)) refl
  taken_by false e = s

  pub take-entry-sound : SoundEntries (take_entry m t kept).kept
  unfolding take_entry
  take-entry-sound = taken_by (in_reach m t (length kept)) refl

-- ---- the state

-- a new device is sound
pub made-sound : (memory : ℕ) → SoundState (made memory)
made-sound memory = record { belongings = nothing-sound; work = omega arith; error = record { code = refl; rest = refl; detail = λ e. refl } }

-- ---- kept by a step

packets-at-sound : (j : Job) (s : Stream) (at : ℕ) (es : List Entry) (h : Progress) → SoundEntries es → SoundProgress es h → SoundWork (packets_at j s at es h)
packets-at-sound j s at es h e k = by_test (ltb at s.size)
  where
    by_test : (b : Bool) → SoundWork (pick b (packets j s at es h) (waiting j es h))
    by_test true = (e, k)
    by_test false = (e, k)

entries-at-sound : (o : Opened) (kept : List Entry) (owned : Belongings) → SoundEntries kept → SoundBelongings owned → SoundWork (entries_at o kept owned)
entries-at-sound o kept owned e r = by_test (ltb (length kept) o.table.count)
  where
    by_test : (b : Bool) → SoundWork (pick b (entries o kept) (packets_at o.job o.stream 24 kept (at_first owned)))
    by_test true = e
    by_test false = packets-at-sound o.job o.stream 24 kept (at_first owned) e (first-sound kept owned r)

settled-sound : (j : Job) (v : Finding) (owned : Belongings) (w : World) → ListedFinding v → SoundBelongings owned → SoundError w.state.regs.error
    → SoundState (settled j v owned w).state
unfolding settled
settled-sound j v owned w l r g = record { belongings = r; work = omega arith; error = ended-sound j v w.state.regs l g }

module _ (w : World) (s : SoundBelongings w.state.belongings) (g : SoundError w.state.regs.error) where
  opening-sound : (v : Opening) → ListedOpening v → SoundWork w.state.work → SoundState (after_opening w v).state
  unfolding doorbell_cleared
  opening-sound BadRing l k = record { belongings = s; work = k; error = fault-sound (without_place BadRing) 0 w.state.regs refl }
  opening-sound NoWork l k = record { belongings = s; work = k; error = g }
  opening-sound (Refused j r) l k = settled-sound j (broken (without_place r)) _ w l s g
  opening-sound (Started o) l k = record { belongings = s; work = entries-at-sound o [] w.state.belongings no-entries s; error = g }

  after-entry-sound : (o : Opened) (kept : List Entry) (v : Finding) → ListedFinding v → SoundEntries kept → SoundState (after_entry w o kept v).state
  after-entry-sound o kept fine l e = record { belongings = s; work = entries-at-sound o kept w.state.belongings e s; error = g }
  after-entry-sound o kept (broken f) l e = settled-sound o.job (broken f) _ w l s g

  after-packet-sound : (j : Job) (t : Stream) (next : ℕ) (es : List Entry) (h : Progress) (v : Finding) → ListedFinding v → SoundEntries es → SoundProgress es h
      → SoundState (after_packet w j t next es h v).state
  after-packet-sound j t next es h fine l e k = record { belongings = s; work = packets-at-sound j t next es h e k; error = g }
  after-packet-sound j t next es h (broken f) l e k = settled-sound j (broken f) _ w l s g

  step-on-sound : (k : Work) → w.state.work ≡ k → SoundWork k → SoundState (step_on w k).state
  unfolding open_step entry_step packet_step
  step-on-sound resting e h =
      opening-sound (opening_of w.mem w.state.regs.ring w.state.regs.ringsize) (opening_listed w.mem w.state.regs.ring w.state.regs.ringsize) (subst SoundWork (sym e) h)
  step-on-sound (entries o kept) e h =
      after-entry-sound o (take_entry w.mem o.table kept).kept (at_place (length kept) (take_entry w.mem o.table kept).verdict)
      (found-listed (length kept) (take_entry w.mem o.table kept).verdict (take_entry_listed w.mem o.table kept)) (take-entry-sound w.mem o.table kept h)
  step-on-sound (packets j t at es held) e h =
      after-packet-sound j t (next_place at (left w.mem t at)) es (take_packet es held (left w.mem t at)).held (at_place at (take_packet es held (left w.mem t at)).verdict)
      (found-listed at (take_packet es held (left w.mem t at)).verdict (take_packet_listed es held (left w.mem t at))) h.0
      (take-sound es held h.1 (left w.mem t at))
  step-on-sound (waiting j es held) e h = record { belongings = s; work = subst SoundWork (sym e) h; error = g }

  answer-sound : (good : Bool) (k : Work) → w.state.work ≡ k → SoundWork k → SoundState (answer_on good w k).state
  answer-sound good resting e h = record { belongings = s; work = subst SoundWork (sym e) h; error = g }
  answer-sound good (entries o kept) e h = record { belongings = s; work = subst SoundWork (sym e) h; error = g }
  answer-sound good (packets j t at es held) e h = record { belongings = s; work = subst SoundWork (sym e) h; error = g }
  answer-sound true (waiting j es held) e h = settled-sound j fine _ w (omega arith) (left-sound es held h.1) g
  answer-sound false (waiting j es held) e h = settled-sound j (broken (without_place HostFailed)) _ w refl s g

-- one unit keeps it, over any memory
pub step-keeps-sound : (w : World) → SoundState w.state → SoundState (step w).state
unfolding step
step-keeps-sound w s = step-on-sound w s.belongings s.error w.state.work refl s.work

-- and so does a run
pub run-keeps-sound : (n : ℕ) (w : World) → SoundState w.state → SoundState (run_for n w).state.state
run-keeps-sound zero w s = rw (run_none go step w) s
run-keeps-sound (suc n) w s = by_test (go w) refl (run-keeps-sound n (step w) (step-keeps-sound w s))
  where
    by_test : (b : Bool) → go w ≡ b → SoundState (run_for n (step w)).state.state → SoundState (run_for (suc n) w).state.state
    by_test true g k = rw (run-go go step n w g) k
    by_test false g k = rw (run-stop go step (suc n) w g) s

-- and an answer
pub answer-keeps-sound : (good : Bool) (w : World) → SoundState w.state → SoundState (answered good w).state
unfolding answered
answer-keeps-sound good w s = answer-sound w s.belongings s.error good w.state.work refl s.work

-- while a submission waits: every range lies inside the one entry of its table that has its id, and no other has it
pub waiting-ranges-inside : (s : State) (j : Job) (es : List Entry) (h : Progress) → SoundState s → s.work ≡ waiting j es h → Every (Inside es) h.holdings.records × Once entry_id es
waiting-ranges-inside s j es h k e =
    let here : SoundWork (waiting j es h) = subst SoundWork e k.work in
    (here.1.holdings.inside, here.0.once)

-- and every record is a range to back, to read or to write, or a clipped rectangle: of kind 1 to 4
pub waiting-kinds : (s : State) (j : Job) (es : List Entry) (h : Progress) → SoundState s → s.work ≡ waiting j es h → Every OfAKind h.holdings.records
waiting-kinds s j es h k e =
    let here : SoundWork (waiting j es h) = subst SoundWork e k.work in
    here.1.holdings.kinds

-- every resource of a device is as create leaves it: shape, pitch and offset are good, and its bytes are those of its kind
pub resources-as-created : (s : State) → SoundState s → Every AsCreated s.belongings.resources
resources-as-created s k = k.belongings.resources.created

pub resources-keep-bytes : (s : State) → SoundState s → Every KeepsBytes s.belongings.resources
resources-keep-bytes s k = created-keep-bytes s.belongings.resources (resources-as-created s k)
