-- What calls list, submission by submission: each that they open, as memory is when it is opened; and of one that is in work when they begin, what is still to be
-- read. It covers what their units list. Assumes nothing.
use Rattle.std.proofs.Math.Path.{◌≡◌, refl}
use Rattle.std.specs.Prelude.{Bool, eqb}
use Rattle.std.proofs.Math.Bool.{true, false}
use mathlib.Core.List.{List, [], ◌∷◌, ◌++◌}
use Prim.Native.Nat.{ℕ, zero, suc}
use Rattle.std.proofs.Common.{arith}
use Rattle.machine.specs.Machine.{pick}
use Rattle.rules.specs.Numbers.{done}
use Rattle.rules.specs.Registers.{bit_of, reset}
use Rattle.rules.specs.State.{Work, State, World}
use Rattle.rules.specs.State.Work.{resting, entries, packets, waiting}
use Rattle.rules.specs.Settle.{settled}
use Rattle.rules.specs.Steps.{step, go, run_for, answer_on, answered}
use Rattle.rules.specs.Calls.{at_rest, call_run, call_answer}
use Rattle.rules.specs.Listed.{Named, where_true, submission_listed, listed_at, listed}
use Rattle.promises_of_packets.specs.Held.{Every}
use Rattle.promises_of_units.specs.Writes.{Written}
use Rattle.promises_of_units.specs.Writes.Written.{keeps, drops}
use Rattle.promises_of_units.specs.Called.{Call, after}
use Rattle.promises_of_units.specs.Called.Call.{writes, reads, runs, records, answers}
use Rattle.promises_of_leftovers.specs.Course.{units_listed}

-- ---- where calls open a submission

abbrev pub where_so : {A : Type 0} → Bool → List A → List A
where_so t l = pick t l []

-- a run, by its allowance: each world in which it makes an opening
unfoldable pub run_openings : ℕ → World → List World
run_openings zero w = []
run_openings (suc n) w = where_so (go w) (where_so (at_rest w.state.work) (w ∷ []) ++ run_openings n (step w))

-- a call: one that is refused makes none
unfoldable pub call_openings : Call → World → List World
call_openings (writes offset v) w = []
call_openings (reads offset) w = []
call_openings (runs n) w = where_so (eqb (call_run w n).answer done) (run_openings n w)
call_openings (records i) w = []
call_openings (answers good n) w = where_so (eqb (call_answer w good n).answer done) (run_openings n (answered good w))

-- and calls one after the other
unfoldable pub openings : List Call → World → List World
openings [] w = []
openings (c ∷ cs) w = call_openings c w ++ openings cs (after c w)

-- what the submission lists that is opened in a world
abbrev pub listed_there : World → List Named
listed_there v = submission_listed v.mem v.state.regs.ring v.state.regs.ringsize

-- what is still to be read of the submission in work, if one is
abbrev pub in_work : Work → List Named → List Named
in_work resting l = []
in_work (entries o kept) l = l
in_work (packets j s at es h) l = l
in_work (waiting j es h) l = l

abbrev pub listed_in_work : State → List ℕ → List Named
listed_in_work s m = in_work s.work (listed s m)

-- ---- it covers what their units list

module _ (P : Named → Type 0) where
  abbrev pub There : World → Type 0
  There v = Every P (listed_there v)

  -- where a submission is in work, what is still to be read of it has the property
  abbrev pub InWork : World → Type 0
  InWork w = at_rest w.state.work ≡ false → Every P (listed w.state w.mem)

  pub no-work : (w : World) → w.state.work ≡ resting → InWork w
  no-work w e h = absurd (let t : at_rest w.state.work ≡ true = rw e in let z : ◌≡◌ {A = ℕ} 0 1 = cc in omega arith)

  pub record Covered (n : ℕ) (w : World) : Type 0 where
    pub units : Every P (units_listed n w)
    pub rest : InWork (run_for n w).state

  pub in-work-answered : (good : Bool) (w : World) → InWork w → InWork (answered good w)
  unfolding answered settled
  in-work-answered good w i = by-work good w.state.work refl
    where
      by-work : (g : Bool) (k : Work) → w.state.work ≡ k → InWork (answer_on g w k)
      by-work g resting e = i
      by-work g (entries o kept) e = i
      by-work g (packets j t at es h) e = i
      by-work true (waiting j es h) e = no-work (answer_on true w (waiting j es h)) refl
      by-work false (waiting j es h) e = no-work (answer_on false w (waiting j es h)) refl

  pub in-work-written : (w : World) (offset v : ℕ) (s' : State) → Written w.state offset v s' → InWork w → InWork (record { state = s'; mem = w.mem })
  unfolding reset
  in-work-written w offset v s' (keeps r n c e) i = λ h. other-registers w.state.work h (i h)
    where
      other-registers : (k : Work) → at_rest k ≡ false → Every P (listed_at w.state.regs k w.mem) → Every P (listed_at r k w.mem)
      other-registers resting h s = absurd (let z : ◌≡◌ {A = ℕ} 0 1 = cc in omega arith)
      other-registers (entries o kept) h s = s
      other-registers (packets j t at es held) h s = s
      other-registers (waiting j es held) h s = s
  in-work-written w offset v s' (drops h) i = no-work (record { state = reset (bit_of 0 v) w.state; mem = w.mem }) refl
