-- Demand 2, with the registers written meanwhile: what a submission comes to does not depend on them. Only those that stand at its last
-- unit matter, for the settling. Assumes nothing.
use Rattle.std.proofs.Math.Path.{◌≡◌, refl, sym, ap}
use Rattle.std.proofs.Common.{◌∙◌, arith}
use Rattle.std.specs.Prelude.{Bool, ◌&&◌, ℕ, suc, ◌<◌, length}
use Rattle.std.proofs.Math.Bool.{true}
use mathlib.Core.List.{List, [], ◌∷◌}
use Rattle.machine.specs.Machine.{Out, run_none, run-go}
use Rattle.rules.specs.Judging.{Finding, at_place}
use Rattle.rules.specs.Judging.Finding.{fine, broken}
use Rattle.rules.specs.Table.{take_entry}
use Rattle.rules.specs.Stream.{left}
use Rattle.rules.specs.Packets.{Progress, take_packet}
use Rattle.rules.specs.State.{Work, World, registering}
use Rattle.rules.specs.State.Work.{resting, entries, packets, waiting}
use Rattle.rules.specs.Settle.{settled}
use Rattle.rules.specs.Steps.{after_entry, entry_step, after_packet, next_place, packet_step, step_on, step, busy, go, run_for}
use Rattle.rules.specs.Unsliced.{finished}
use Rattle.rules.specs.declared.Entry.{Entry}
use Rattle.rules.specs.declared.Job.{Job}
use Rattle.rules.specs.declared.Registers.{Registers}
use Rattle.rules.specs.declared.Stream.{Stream}
use Rattle.rules.specs.declared.Opened.{Opened}
use Rattle.promises_of_submissions.specs.Whole.{midst}

-- ---- a unit that is not a submission's last takes no heed of the registers

module _ (x : World) (q r : Registers) where
  entry-heedless : (o : Opened) (kept : List Entry) (v : Finding) → midst (after_entry (registering q x) o kept v).state.work ≡ true
      → after_entry (registering r x) o kept v ≡ registering r (after_entry (registering q x) o kept v)
  unfolding settled
  entry-heedless o kept fine h = refl
  entry-heedless o kept (broken f) h = absurd (let z : ◌≡◌ {A = ℕ} 0 1 = cc in omega arith)

  packet-heedless : (j : Job) (t : Stream) (next : ℕ) (es : List Entry) (held : Progress) (v : Finding) → midst (after_packet (registering q x) j t next es held v).state.work ≡ true
      → after_packet (registering r x) j t next es held v ≡ registering r (after_packet (registering q x) j t next es held v)
  unfolding settled
  packet-heedless j t next es held fine h = refl
  packet-heedless j t next es held (broken f) h = absurd (let z : ◌≡◌ {A = ℕ} 0 1 = cc in omega arith)

  on-heedless : (k : Work) → midst k ≡ true → midst (step_on (registering q x) k).state.work ≡ true → step_on (registering r x) k ≡ registering r (step_on (registering q x) k)
  unfolding entry_step packet_step
  on-heedless resting m h = absurd (let z : ◌≡◌ {A = ℕ} 0 1 = cc in omega arith)
  on-heedless (entries o kept) m h = entry-heedless o (take_entry x.mem o.table kept).kept (at_place (length kept) (take_entry x.mem o.table kept).verdict) h
  on-heedless (packets j t at es held) m h =
      packet-heedless j t (next_place at (left x.mem t at)) es (take_packet es held (left x.mem t at)).held (at_place at (take_packet es held (left x.mem t at)).verdict) h
  on-heedless (waiting j es held) m h = absurd (let z : ◌≡◌ {A = ℕ} 0 1 = cc in omega arith)

  heedless : midst x.state.work ≡ true → midst (step (registering q x)).state.work ≡ true → step (registering r x) ≡ registering r (step (registering q x))
  unfolding step
  heedless m h = on-heedless x.state.work m h

-- ---- units, each under registers of its own; q are those of the last

unfoldable pub under : List Registers → Registers → World → World
under [] q x = step (registering q x)
under (r ∷ rs) q x = under rs q (step (registering r x))

pub goes_on : (e r : Bool) (k : Work) → e ≡ true → midst k ≡ true → e && busy r k ≡ true
goes_on e r resting h m = absurd (let z : ◌≡◌ {A = ℕ} 0 1 = cc in omega arith)
goes_on e r (entries o kept) h m = rw h
goes_on e r (packets j s at es held) h m = rw h
goes_on e r (waiting j es held) h m = absurd (let z : ◌≡◌ {A = ℕ} 0 1 = cc in omega arith)

module _ (q : Registers) (on : q.enabled ≡ true) where
  goes : (x : World) → midst x.state.work ≡ true → go (registering q x) ≡ true
  unfolding go
  goes x m = goes_on q.enabled q.doorbell x.state.work on m

  -- in the midst before each of n units under q
  abbrev pub Midst : ℕ → World → Type 0
  Midst n x = (i : ℕ) → i < n → midst (run_for i (registering q x)).state.state.work ≡ true

  begins : (n : ℕ) (x : World) → 0 < n → Midst n x → midst x.state.work ≡ true
  begins n x h m = sym (ap (λ (o : Out World). midst o.state.state.work) (run_none go step (registering q x))) ∙ m 0 h

  pub under-any-registers : (rs : List Registers) (x : World) → Midst (suc (length rs)) x → under rs q x ≡ (run_for (suc (length rs)) (registering q x)).state
  unfolding under
  under-any-registers [] x m =
      sym (ap (λ (o : Out World). o.state) (run-go go step 0 (registering q x) (goes x (begins 1 x (omega arith) m))) ∙ ap (λ (o : Out World). o.state) (run_none go step (step (registering q x))))
  under-any-registers (r ∷ rs) x m =
      let here : midst x.state.work ≡ true = begins (suc (suc (length rs))) x (omega arith) m in
      let on-it : (n : ℕ) → (run_for (suc n) (registering q x)).state ≡ (run_for n (step (registering q x))).state = λ n. ap (λ (o : Out World). o.state) (run-go go step n (registering q x) (goes x here)) in
      let one : midst (step (registering q x)).state.work ≡ true =
      sym (ap (λ (o : Out World). midst o.state.state.work) (run_none go step (step (registering q x)))) ∙ (ap (λ (y : World). midst y.state.work) (sym (on-it 0)) ∙ m 1 (omega arith)) in
      let same : registering q (step (registering q x)) ≡ step (registering q x) = sym (heedless x q q here one) in
      let turned : step (registering r x) ≡ registering r (step (registering q x)) = heedless x q r here one in
      let later : Midst (suc (length rs)) (registering r (step (registering q x))) =
      λ i h. ap (λ (y : World). midst (run_for i y).state.state.work) same ∙ (ap (λ (y : World). midst y.state.work) (sym (on-it i)) ∙ m (suc i) (omega arith)) in
      ap (under rs q) turned
      ∙ (under-any-registers rs (registering r (step (registering q x))) later
      ∙ (ap (λ (y : World). (run_for (suc (length rs)) y).state) same ∙ sym (on-it (suc (length rs)))))
