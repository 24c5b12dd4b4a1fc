-- The theorems of specs/Units.antt, and what they rest on. Assumes nothing.
use Rattle.std.specs.Prelude.{◌≡◌, refl, Bool, true, false, ◌&&◌, List, [], ℕ, zero, suc, ◌+◌, ltb, length}
use Rattle.std.proofs.Common.{sym, ◌∙◌}
use Rattle.std.proofs.Math.Path.{ap, subst}
use Rattle.machine.specs.Machine.{pick, run_none, run-stop, run-go}
use Rattle.rules.specs.Judging.{Finding, at_place, without_place}
use Rattle.rules.specs.Judging.Finding.{fine, broken}
use Rattle.rules.specs.Layouts.{stream_header_size}
use Rattle.rules.specs.Table.{take_entry}
use Rattle.rules.specs.Stream.{left}
use Rattle.rules.specs.Ring.{opening_of}
use Rattle.rules.specs.Packets.{Progress, Belongings, at_first, left_by, take_packet}
use Rattle.rules.specs.State.{Work, World, working}
use Rattle.rules.specs.State.Work.{entries, packets, waiting}
use Rattle.rules.specs.Settle.{faulted, doorbell_cleared, ended_by, marked, settled, settled_keeping}
use Rattle.rules.specs.Steps.{packets_at, entries_at, after_opening, open_step, after_entry, entry_step, after_packet, next_place, packet_step, step_on, step, busy, go, run_for, answer_on, answered}
use Rattle.rules.specs.declared.Entry.{Entry}
use Rattle.rules.specs.declared.Job.{Job}
use Rattle.rules.specs.declared.Stream.{Stream}
use Rattle.rules.specs.declared.Opened.{Opened}
use Rattle.rules.specs.declared.Registers.{Registers}
use Rattle.rules.specs.declared.Opening.{Opening}
use Rattle.rules.specs.declared.Opening.TheVariants.{BadRing, NoWork, Refused, Started}
use Rattle.rules.specs.declared.Refusal.TheVariants.{BadRing, HostFailed}
use Rattle.promises_of_units.specs.Sound.{SoundWork, SoundState}
use Rattle.promises_of_units.proofs.Sound.{step-keeps-sound}
use Rattle.promises_of_same_desks.specs.Packets.{SameHeld, SamePassed}
use Rattle.promises_of_same_desks.proofs.PassedPackets.{take_same}
use Rattle.promises_of_same_desks.specs.Desks.{SameBelongings, SameWork, SameWorld}
use Rattle.promises_of_same_desks.proofs.Desks.{same-busy, first-same, left-same}
use Rattle.promises_of_same_desks.specs.Desks.SameWork.{both_rest, both_at_entries, both_at_packets, both_wait}
use Rattle.promises_of_same_desks.specs.Units.{SameOut}

-- ---- what comes next

packets_at_same : (j : Job) (s : Stream) (at : ℕ) (es : List Entry) (g h : Progress) → SameHeld g h → SameWork (packets_at j s at es g) (packets_at j s at es h)
packets_at_same j s at es g h d = by_test (ltb at s.size)
  where
    by_test : (b : Bool) → SameWork (pick b (packets j s at es g) (waiting j es g)) (pick b (packets j s at es h) (waiting j es h))
    by_test true = both_at_packets j s at es d
    by_test false = both_wait j es d

entries_at_same : (o : Opened) (kept : List Entry) (b c : Belongings) → SameBelongings b c → SameWork (entries_at o kept b) (entries_at o kept c)
entries_at_same o kept b c d = by_test (ltb (length kept) o.table.count)
  where
    by_test : (t : Bool) → SameWork (pick t (entries o kept) (packets_at o.job o.stream stream_header_size kept (at_first b)))
        (pick t (entries o kept) (packets_at o.job o.stream stream_header_size kept (at_first c)))
    by_test true = both_at_entries o kept
    by_test false = packets_at_same o.job o.stream stream_header_size kept (at_first b) (at_first c) (first-same b c d)

module _ (w v : World) (d : SameWorld w v) where
  working-same : (k l : Work) → SameWork k l → SameWorld (working k w) (working l v)
  working-same k l e = record { state = record { memory = d.state.memory; regs = d.state.regs; belongings = d.state.belongings; work = e }; mem = d.mem }

  settled_same : (j : Job) (x : Finding) (b c : Belongings) → SameBelongings b c → SameWorld (settled j x b w) (settled j x c v)
  unfolding settled
  settled_same j x b c e =
      record {
        state = record { memory = d.state.memory; regs = ap (ended_by j x) d.state.regs; belongings = e; work = both_rest };
        mem = ap (λ (r : Registers). marked j (ended_by j x r) w.mem) d.state.regs ∙ ap (marked j (ended_by j x v.state.regs)) d.mem;
      }

  keeping-same : (j : Job) (x : Finding) → SameWorld (settled_keeping j x w) (settled_keeping j x v)
  keeping-same j x = settled_same j x w.state.belongings v.state.belongings d.state.belongings

  -- ---- an opening, an entry, a packet

  opening-same : (o : Opening) → SameWorld (after_opening w o) (after_opening v o)
  opening-same BadRing =
      record {
        state = record {
          memory = d.state.memory;
          regs = ap (λ (r : Registers). doorbell_cleared (faulted (without_place BadRing) 0 r)) d.state.regs;
          belongings = d.state.belongings;
          work = d.state.work;
        };
        mem = d.mem;
      }
  opening-same NoWork =
      record {
        state = record { memory = d.state.memory; regs = ap doorbell_cleared d.state.regs; belongings = d.state.belongings; work = d.state.work };
        mem = d.mem;
      }
  opening-same (Refused j r) = keeping-same j (broken (without_place r))
  opening-same (Started o) = working-same _ _ (entries_at_same o [] w.state.belongings v.state.belongings d.state.belongings)

  open-same : SameWorld (open_step w) (open_step v)
  unfolding open_step
  open-same =
      let e : opening_of w.mem w.state.regs.ring w.state.regs.ringsize ≡ opening_of v.mem v.state.regs.ring v.state.regs.ringsize =
      ap (λ (r : Registers). opening_of w.mem r.ring r.ringsize) d.state.regs ∙ ap (λ m. opening_of m v.state.regs.ring v.state.regs.ringsize) d.mem in
      subst (λ o. SameWorld (after_opening w o) (after_opening v (opening_of v.mem v.state.regs.ring v.state.regs.ringsize))) (sym e)
      (opening-same (opening_of v.mem v.state.regs.ring v.state.regs.ringsize))

  after-entry-same : (o : Opened) (kept : List Entry) (x : Finding) → SameWorld (after_entry w o kept x) (after_entry v o kept x)
  after-entry-same o kept fine = working-same _ _ (entries_at_same o kept w.state.belongings v.state.belongings d.state.belongings)
  after-entry-same o kept (broken f) = keeping-same o.job (broken f)

  entry-same : (o : Opened) (kept : List Entry) → SameWorld (entry_step w o kept) (entry_step v o kept)
  unfolding entry_step
  entry-same o kept =
      subst (λ m. SameWorld (after_entry w o (take_entry m o.table kept).kept (at_place (length kept) (take_entry m o.table kept).verdict)) (entry_step v o kept)) (sym d.mem)
      (after-entry-same o (take_entry v.mem o.table kept).kept (at_place (length kept) (take_entry v.mem o.table kept).verdict))

  after-packet-same : (j : Job) (s : Stream) (next : ℕ) (es : List Entry) (g h : Progress) (x : Finding) → SameHeld g h
      → SameWorld (after_packet w j s next es g x) (after_packet v j s next es h x)
  after-packet-same j s next es g h fine e = working-same _ _ (packets_at_same j s next es g h e)
  after-packet-same j s next es g h (broken f) e = keeping-same j (broken f)

  packet-same : (j : Job) (s : Stream) (at : ℕ) (es : List Entry) (g h : Progress) → ((b : List ℕ) → SamePassed (take_packet es g b) (take_packet es h b))
      → SameWorld (packet_step w j s at es g) (packet_step v j s at es h)
  unfolding packet_step
  packet-same j s at es g h takes =
      let p : SamePassed (take_packet es g (left v.mem s at)) (take_packet es h (left v.mem s at)) = takes (left v.mem s at) in
      subst (λ m. SameWorld (after_packet w j s (next_place at (left m s at)) es (take_packet es g (left m s at)).held (at_place at (take_packet es g (left m s at)).verdict)) (packet_step v j s at es h)) (sym d.mem)
      (subst (λ x. SameWorld (after_packet w j s (next_place at (left v.mem s at)) es (take_packet es g (left v.mem s at)).held (at_place at x)) (packet_step v j s at es h)) (sym p.verdict)
      (after-packet-same j s (next_place at (left v.mem s at)) es (take_packet es g (left v.mem s at)).held (take_packet es h (left v.mem s at)).held
      (at_place at (take_packet es h (left v.mem s at)).verdict) p.held))

  step-on-same : {k l : Work} → SameWork k l → SoundWork k → SoundWork l → SameWorld (step_on w k) (step_on v l)
  step-on-same both_rest a b = open-same
  step-on-same (both_at_entries o kept) a b = entry-same o kept
  step-on-same (both_at_packets j s at es {g = g} {h = h} e) a b = packet-same j s at es g h (take_same es g h a.1 b.1 e)
  step-on-same (both_wait j es e) a b = d

  answer-on-same : (good : Bool) {k l : Work} → SameWork k l → SameWorld (answer_on good w k) (answer_on good v l)
  answer-on-same good both_rest = d
  answer-on-same good (both_at_entries o kept) = d
  answer-on-same good (both_at_packets j s at es e) = d
  answer-on-same true (both_wait j es {g = g} {h = h} e) = settled_same j fine (left_by g) (left_by h) (left-same g h e)
  answer-on-same false (both_wait j es e) = keeping-same j (broken (without_place HostFailed))

-- ---- one unit

pub step_same : (w v : World) → SoundState w.state → SoundState v.state → SameWorld w v → SameWorld (step w) (step v)
unfolding step
step_same w v s t d = step-on-same w v d d.state.work s.work t.work

-- a unit is due to both or to neither
pub go_same : (w v : World) → SameWorld w v → go w ≡ go v
unfolding go
go_same w v d =
    ap (λ (r : Registers). r.enabled && busy r.doorbell w.state.work) d.state.regs
    ∙ ap (λ b. v.state.regs.enabled && b) (same-busy v.state.regs.doorbell d.state.work)

-- ---- a run

pub run-same : (n : ℕ) (w v : World) → SoundState w.state → SoundState v.state → SameWorld w v → SameOut (run_for n w) (run_for n v)
run-same zero w v s t d = rw (run_none go step w, run_none go step v) (record { state = d; units = refl })
run-same (suc n) w v s t d =
    by_test (go v) refl (run-same n (step w) (step v) (step-keeps-sound w s) (step-keeps-sound v t) (step_same w v s t d))
  where
    by_test : (b : Bool) → go v ≡ b → SameOut (run_for n (step w)) (run_for n (step v)) → SameOut (run_for (suc n) w) (run_for (suc n) v)
    by_test true e k =
        rw (run-go go step n w (go_same w v d ∙ e), run-go go step n v e) (record { state = k.state; units = ap (λ u. 1 + u) k.units })
    by_test false e k = rw (run-stop go step (suc n) w (go_same w v d ∙ e), run-stop go step (suc n) v e) (record { state = d; units = refl })

-- ---- the host's answer

pub answered-same : (good : Bool) (w v : World) → SameWorld w v → SameWorld (answered good w) (answered good v)
unfolding answered
answered-same good w v d = answer-on-same w v d good d.state.work
