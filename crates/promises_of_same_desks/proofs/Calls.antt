-- The theorems of specs/Calls.antt, and what they rest on. Assumes nothing.
use Rattle.std.specs.Prelude.{◌≡◌, Bool, not, ◌&&◌, ◌||◌, List, ℕ, eqb, length}
use Rattle.std.proofs.Math.Path.{refl, ap}
use Rattle.std.proofs.Common.{◌∙◌}
use Rattle.std.proofs.Math.Bool.{true, false}
use Rattle.machine.specs.Machine.{pick, Out}
use Rattle.rules.specs.Numbers.{done, other_memory, nothing_waits}
use Rattle.rules.specs.Lists.{lookup, nth}
use Rattle.rules.specs.Lists.Found.{found}
use Rattle.rules.specs.State.{State, World, with_regs}
use Rattle.rules.specs.Registers.{register, with_low, with_high, bit_of, with_ring, with_ringsize, with_enabled, with_page, with_irqenable, with_doorbell, acknowledged, reset_registers, reset, controlled, Write, write_offset, gives, writable, write_of}
use Rattle.rules.specs.Steps.{run_for, waits, answered}
use Rattle.rules.specs.Calls.{lent_another, at_rest, ending, wrote, call_write, valued, call_read, not_run, Ran, ran, call_run, record_read, call_record, Answered, answer_alone, and_run, call_answer}
use Rattle.rules.specs.declared.Registers.{Registers}
use Rattle.rules.specs.declared.Ended.TheVariants.{Idle, Waiting, Paused}
use Rattle.promises_of_units.specs.Sound.{SoundState}
use Rattle.promises_of_units.proofs.Sound.{answer-keeps-sound}
use Rattle.promises_of_units.specs.Called.{Call, after}
use Rattle.promises_of_units.specs.Called.Call.{writes, reads, runs, records, answers}
use Rattle.promises_of_units.specs.Replies.{answering, reply_to}
use Rattle.promises_of_same_desks.specs.Desks.{SameDesk, SameWorld}
use Rattle.promises_of_same_desks.proofs.Desks.{same-waits, same_rest, same-handed-out}
use Rattle.promises_of_same_desks.specs.Desks.SameWork.{both_rest}
use Rattle.promises_of_same_desks.specs.Units.{SameOut}
use Rattle.promises_of_same_desks.proofs.Units.{run-same, answered-same}
use Rattle.promises_of_same_desks.specs.Calls.{SameCall, SameRan, SameWrites, SameWrote}
use Rattle.promises_of_same_desks.specs.Calls.SameWrites.{both, no_more}

-- ---- register writes

module _ (s t : State) (d : SameDesk s t) where
  registers-same : (f : Registers → Registers) → SameDesk (with_regs (f s.regs) s) (with_regs (f t.regs) t)
  registers-same f = record { memory = d.memory; regs = ap f d.regs; belongings = d.belongings; work = d.work }

  reset-same : (enabled : Bool) → SameDesk (reset enabled s) (reset enabled t)
  unfolding reset
  reset-same enabled =
      record {
        memory = d.memory;
        regs = ap (reset_registers enabled) d.regs;
        belongings = record { resources = λ k. refl; tokens = λ k. refl };
        work = both_rest;
      }

  controlled-same : (v : ℕ) → SameDesk (controlled v s) (controlled v t)
  unfolding controlled
  controlled-same v = by_bit (bit_of 1 v)
    where
      by_bit : (b : Bool) → SameDesk (pick b (reset (bit_of 0 v) s) (with_regs (with_enabled (bit_of 0 v) s.regs) s))
          (pick b (reset (bit_of 0 v) t) (with_regs (with_enabled (bit_of 0 v) t.regs) t))
      by_bit true = reset-same (bit_of 0 v)
      by_bit false = registers-same (with_enabled (bit_of 0 v))

module _ (s t : State) (d : SameDesk s t) where
  lookup-same : (offset : ℕ) {xs ys : List Write} → SameWrites xs ys → SameWrote (wrote s (lookup write_offset offset xs)) (wrote t (lookup write_offset offset ys))
  unfolding lookup
  lookup-same offset no_more = record { answer = refl; state = d }
  lookup-same offset (both at {s = a} {t = b} {xs = xs} {ys = ys} e more) = by_test (eqb at offset) (lookup-same offset more)
    where
      by_test : (z : Bool) → SameWrote (wrote s (lookup write_offset offset xs)) (wrote t (lookup write_offset offset ys))
          → SameWrote (wrote s (pick z (found (gives at a)) (lookup write_offset offset xs))) (wrote t (pick z (found (gives at b)) (lookup write_offset offset ys)))
      by_test true k = record { answer = refl; state = e }
      by_test false k = k

  all_same : (v : ℕ) → SameWrites (writable s v) (writable t v)
  all_same v =
      both 0x100 (registers-same s t d (λ (r : Registers). with_ring (with_low v r.ring) r))
      (both 0x104 (registers-same s t d (λ (r : Registers). with_ring (with_high v r.ring) r))
      (both 0x108 (registers-same s t d (with_ringsize v))
      (both 0x10c (controlled-same s t d v)
      (both 0x120 (registers-same s t d (λ (r : Registers). with_page (with_low v r.fencepage) r))
      (both 0x124 (registers-same s t d (λ (r : Registers). with_page (with_high v r.fencepage) r))
      (both 0x200 (registers-same s t d with_doorbell)
      (both 0x304 (registers-same s t d (with_irqenable v))
      (both 0x308 (registers-same s t d (acknowledged v)) no_more))))))))

  pub write_same : (offset v : ℕ) → SameWrote (call_write s offset v) (call_write t offset v)
  unfolding call_write write_of
  write_same offset v = lookup-same offset (all_same v)

  -- ---- register reads and record calls: nothing changes, and the same is said

  pub read_same : (offset : ℕ) → call_read s offset ≡ call_read t offset
  unfolding call_read
  read_same offset = ap (λ (r : Registers). valued (register r offset)) d.regs

  pub record_same : (i : ℕ) → call_record s i ≡ call_record t i
  unfolding call_record
  record_same i = ap (λ l. record_read (nth l i)) (same-handed-out d.work)

  pub ending-same : ending s ≡ ending t
  unfolding ending
  ending-same =
      ap (λ (r : Registers). pick (waits s) Waiting (pick (not r.enabled || (not r.doorbell && at_rest s.work)) Idle Paused)) d.regs
      ∙ (ap (λ b. pick b Waiting (pick (not t.regs.enabled || (not t.regs.doorbell && at_rest s.work)) Idle Paused)) (same-waits d.work)
      ∙ ap (λ b. pick (waits t) Waiting (pick (not t.regs.enabled || (not t.regs.doorbell && b)) Idle Paused)) (same_rest d.work))

-- ---- runs and answers

module _ (w v : World) (d : SameWorld w v) where
  lent_same : lent_another w ≡ lent_another v
  lent_same = ap (λ (m : List ℕ). not (eqb (length m) w.state.memory)) d.mem ∙ ap (λ n. not (eqb (length v.mem) n)) d.state.memory

  not-run-same : (n : ℕ) → SameRan (not_run n w) (not_run n v)
  not-run-same n = record { answer = refl; units = refl; ended = refl; world = d }

ran-same : (o q : Out World) → SameOut o q → SameRan (ran o) (ran q)
ran-same o q e = record { answer = refl; units = e.units; ended = ending-same o.state.state q.state.state e.state.state; world = e.state }

picked : (a b : Bool) (x y p q : Ran) → a ≡ b → SameRan x y → SameRan p q → SameRan (pick a x p) (pick b y q)
picked a true x y p q e h k = rw e h
picked a false x y p q e h k = rw e k

pub call-run-same : (w v : World) → SoundState w.state → SoundState v.state → SameWorld w v → (n : ℕ) → SameRan (call_run w n) (call_run v n)
unfolding call_run
call-run-same w v s t d n =
    picked (lent_another w) (lent_another v) _ _ _ _ (lent_same w v d) (not-run-same w v d other_memory) (ran-same (run_for n w) (run_for n v) (run-same n w v s t d))

pub call-answer-same : (w v : World) → SoundState w.state → SoundState v.state → SameWorld w v → (good : Bool) (n : ℕ)
    → SameRan (call_answer w good n) (call_answer v good n)
unfolding call_answer answer_alone
call-answer-same w v s t d good n = by_tests (lent_another w) (lent_another v) (waits w.state) (waits v.state) (lent_same w v d) (same-waits d.state.work)
  where
    reply : World → Bool → Bool → Answered
    reply x a b =
        pick a (record { answer = other_memory; world = x })
        (pick b (record { answer = done; world = answered good x }) (record { answer = nothing_waits; world = x }))

    by_tests : (a b x y : Bool) → a ≡ b → x ≡ y → SameRan (and_run (reply w a x) n) (and_run (reply v b y) n)
    by_tests a true x y e f = rw e (not-run-same w v d other_memory)
    by_tests a false x true e f =
        rw (e, f) (call-run-same (answered good w) (answered good v) (answer-keeps-sound good w s) (answer-keeps-sound good v t) (answered-same good w v d) n)
    by_tests a false x false e f = rw (e, f) (not-run-same w v d nothing_waits)

-- ---- any of the five

pub call_same : (c : Call) (w v : World) → SoundState w.state → SoundState v.state → SameWorld w v → SameCall c w v
unfolding reply_to after
call_same (writes offset x) w v s t d =
    let e : SameWrote (call_write w.state offset x) (call_write v.state offset x) = write_same w.state v.state d.state offset x in
    record { reply = ap answering e.answer; world = record { state = e.state; mem = d.mem } }
call_same (reads offset) w v s t d = record { reply = rw (read_same w.state v.state d.state offset); world = d }
call_same (runs n) w v s t d =
    let e : SameRan (call_run w n) (call_run v n) = call-run-same w v s t d n in
    record { reply = rw (e.answer, e.units, e.ended); world = e.world }
call_same (records i) w v s t d = record { reply = rw (record_same w.state v.state d.state i); world = d }
call_same (answers good n) w v s t d =
    let e : SameRan (call_answer w good n) (call_answer v good n) = call-answer-same w v s t d good n in
    record { reply = rw (e.answer, e.units, e.ended); world = e.world }
