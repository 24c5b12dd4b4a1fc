-- What one unit does, over any world at all: any state, any bytes in memory. It works on, finds a bad ring or no work, or settles a
-- submission whose rule is broken; and there is no other way. Assumes nothing.
use Rattle.std.specs.Prelude.{◌≡◌, true, false, [], ℕ, suc, length, Ok}
use Rattle.std.proofs.Math.Path.{refl, sym, ap}
use Rattle.std.proofs.Common.{◌∙◌, arith}
use Rattle.rules.specs.Numbers.{no_record}
use Rattle.rules.specs.Lists.{nth}
use Rattle.rules.specs.Judging.{at_place, without_place}
use Rattle.rules.specs.Judging.Finding.{broken}
use Rattle.rules.specs.Ring.{opening_of}
use Rattle.rules.specs.Table.{take_entry}
use Rattle.rules.specs.Stream.{left}
use Rattle.rules.specs.Packets.{take_packet}
use Rattle.rules.specs.State.{Work, State, World, working}
use Rattle.rules.specs.State.Work.{resting, entries, packets, waiting}
use Rattle.rules.specs.Settle.{settled_keeping, ring_refused, found_no_work}
use Rattle.rules.specs.Steps.{packets_at, entries_at, after_opening, open_step, after_entry, entry_step, after_packet, next_place, packet_step, step_on, waits_on, waits}
use Rattle.rules.specs.Calls.{handed_out, record_read, call_record, no_range}
use Rattle.rules.specs.declared.Fault.{Fault}
use Rattle.rules.specs.declared.Refusal.{Refusal}
use Rattle.rules.specs.declared.Job.{Job}
use Rattle.rules.specs.declared.Opened.{Opened}
use Rattle.rules.specs.declared.Opening.{Opening}
use Rattle.rules.specs.declared.Opening.TheVariants.{BadRing, NoWork, Refused, Started}

-- what an opening would say now
abbrev pub opening_here : World → Opening
opening_here w = opening_of w.mem w.state.regs.ring w.state.regs.ringsize

-- a submission is opened here, and this is its first work
pub record Opens (w : World) (next : Work) : Type 0 where
  pub what : Opened
  pub here : opening_here w ≡ Started what
  pub first : next ≡ entries_at what [] w.state.belongings

-- the work that comes next, where the unit's opening, entry or packet is good. The submission stays the same one, and so does its
-- table once packets are judged.
abbrev pub Next : World → Work → Work → Type 0
Next w resting next = Opens w next
Next w (entries o kept) next =
    ((take_entry w.mem o.table kept).verdict ≡ Ok tt) × (next ≡ entries_at o (take_entry w.mem o.table kept).kept w.state.belongings)
Next w (packets j s at es h) next =
    ((take_packet es h (left w.mem s at)).verdict ≡ Ok tt)
    × (next ≡ packets_at j s (next_place at (left w.mem s at)) es (take_packet es h (left w.mem s at)).held)
Next w (waiting j es h) next = next ≡ waiting j es h

-- a submission is refused by its opening, which has no place
pub record RefusedHere (w : World) (j : Job) (f : Fault) : Type 0 where
  pub why : Refusal
  pub here : opening_here w ≡ Refused j why
  pub nowhere : f ≡ without_place why

-- the rule that this unit finds broken, and where: of the submission in work, or of the one that it opens. An entry's place is its index,
-- a packet's its offset in the stream.
abbrev pub Breaks : World → Work → Job → Fault → Type 0
Breaks w resting j f = RefusedHere w j f
Breaks w (entries o kept) j f = (j ≡ o.job) × (at_place (length kept) (take_entry w.mem o.table kept).verdict ≡ broken f)
Breaks w (packets k s at es h) j f = (j ≡ k) × (at_place at (take_packet es h (left w.mem s at)).verdict ≡ broken f)
Breaks w (waiting k es h) j f = ⊥

-- what one unit makes of a world
pub data Unit (w : World) : World → Type 0 where
  -- only the work is another: registers, resources, tokens and every byte are as they were
  works-on : (next : Work) → Next w w.state.work next → Unit w (working next w)
  -- nothing in work, and a ring that breaks its rules: the error is told, the doorbell flag cleared
  finds-bad-ring : w.state.work ≡ resting → opening_here w ≡ BadRing → Unit w (ring_refused w)
  -- nothing in work and nothing to open: the doorbell flag is cleared
  finds-no-work : w.state.work ≡ resting → opening_here w ≡ NoWork → Unit w (found_no_work w)
  -- a rule is broken: the submission is settled with it and its place, and the device keeps its resources and tokens
  settles : (j : Job) (f : Fault) → Breaks w w.state.work j f → Unit w (settled_keeping j (broken f) w)

-- and what a case asks for decides it: a world that one of them gives is the unit's
module _ (w : World) where
  pub next-is-step : (k next : Work) → w.state.work ≡ k → Next w k next → step_on w k ≡ working next w
  unfolding open_step entry_step packet_step
  next-is-step resting next e h = ap (after_opening w) h.here ∙ ap (λ k. working k w) (sym h.first)
  next-is-step (entries o kept) next e h =
      ap (λ v. after_entry w o (take_entry w.mem o.table kept).kept (at_place (length kept) v)) h.0 ∙ ap (λ k. working k w) (sym h.1)
  next-is-step (packets j s at es held) next e h =
      ap (λ v. after_packet w j s (next_place at (left w.mem s at)) es (take_packet es held (left w.mem s at)).held (at_place at v)) h.0 ∙ ap (λ k. working k w) (sym h.1)
  next-is-step (waiting j es held) next e h = ap (λ k. working k w) (e ∙ sym h)

-- ---- what does not wait hands out nothing: every record call answers 4, with zeros beside it

pub not-waiting-hands-out-nothing : (s : State) → waits s ≡ false → (i : ℕ) → call_record s i ≡ record { answer = no_record; range = no_range }
unfolding call_record nth
not-waiting-hands-out-nothing s h i = by-phase s.work h
  where
    by-phase : (k : Work) → waits_on k ≡ false → record_read (nth (handed_out k) i) ≡ record { answer = no_record; range = no_range }
    by-phase resting e = refl
    by-phase (entries o kept) e = refl
    by-phase (packets j t at es held) e = refl
    by-phase (waiting j es held) e = absurd (let z : ◌≡◌ {A = ℕ} 0 1 = cc in omega arith)
