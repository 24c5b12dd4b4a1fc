-- Wish 12, "up to each settling": until a submission settles, what is listed of it in the memory first lent is all that counts. By slices and by the unsliced rules. Assumes
-- nothing.
use Rattle.std.specs.Prelude.{◌≡◌, refl, Bool, true, false, List, [], ◌∷◌, ◌++◌}
use Rattle.std.proofs.Common.{sym, ap, ◌∙◌, arith}
use Prim.Native.Nat.{ℕ, zero, suc, ◌≤◌, ◌<◌}
use Rattle.machine.specs.Machine.{Out, run_none, run-go}
use Rattle.rules.specs.State.{Work, State, World}
use Rattle.rules.specs.State.Work.{resting, entries, packets, waiting}
use Rattle.rules.specs.Steps.{step, go, run_for}
use Rattle.rules.specs.Judging.{Finding}
use Rattle.rules.specs.Judging.Finding.{fine, broken}
use Rattle.rules.specs.Table.{entries_of}
use Rattle.rules.specs.Ring.{opening_of}
use Rattle.rules.specs.Packets.{Progress, at_first}
use Rattle.rules.specs.Settle.{settled}
use Rattle.rules.specs.Unsliced.{submission, finished, submitted_on, submitted}
use Rattle.rules.specs.Calls.{at_rest}
use Rattle.rules.specs.declared.Entry.{Entry}
use Rattle.rules.specs.declared.Job.{Job}
use Rattle.rules.specs.declared.Opening.{Opening}
use Rattle.rules.specs.declared.Opening.TheVariants.{BadRing, NoWork, Refused, Started}
use Rattle.promises_of_packets.specs.Held.{Every}
use Rattle.promises_of_submissions.specs.Whole.{midst}
use Rattle.promises_of_submissions.specs.Locality.{lent}
use Rattle.promises_of_leftovers.specs.Submissions.{where_so, run_openings}

-- ---- calls whose openings all come before a settling: each opening finds the memory first lent, and the ring where it was

abbrev pub Before : State → List ℕ → World → Type 0
Before s m v = (v.mem ≡ m) × ((v.state.regs.ring ≡ s.regs.ring) × (v.state.regs.ringsize ≡ s.regs.ringsize))

-- ---- the units of one submission, and the unsliced rules

midst-works : (k : Work) → midst k ≡ true → at_rest k ≡ false
midst-works resting h = absurd (let z : ◌≡◌ {A = ℕ} 0 1 = cc in omega arith)
midst-works (entries o kept) h = refl
midst-works (packets j t at es held) h = refl
midst-works (waiting j es held) h = refl

-- a run that is at rest before no unit makes no opening
none-opened : (n : ℕ) (w : World) → ((i : ℕ) → i < n → midst (run_for i w).state.state.work ≡ true) → run_openings n w ≡ []
unfolding run_openings
none-opened zero w h = refl
none-opened (suc n) w h = by_test (go w) refl (none-opened n (step w))
  where
    works : at_rest w.state.work ≡ false
    works = midst-works w.state.work (ap (λ (o : Out World). midst o.state.state.work) (sym (run_none go step w)) ∙ h 0 (omega arith))

    by_test : (t : Bool) → go w ≡ t → (((i : ℕ) → i < n → midst (run_for i (step w)).state.state.work ≡ true) → run_openings n (step w) ≡ [])
        → where_so t (where_so (at_rest w.state.work) (w ∷ []) ++ run_openings n (step w)) ≡ []
    by_test true g later =
        rw (works, later (λ i b. ap (λ (o : Out World). midst o.state.state.work) (sym (run-go go step i w g)) ∙ h (suc i) (omega arith)))
    by_test false g later = refl

-- so the units of one submission make the one
pub one-opened : (n : ℕ) (w : World) → w.state.work ≡ resting → go w ≡ true → ((i : ℕ) → 0 < i → i < n → midst (run_for i w).state.state.work ≡ true)
    → (P : World → Type 0) → P w → Every P (run_openings n w)
unfolding run_openings Every
one-opened zero w rest g h P p = omega arith
one-opened (suc n) w rest g h P p =
    let idle : at_rest w.state.work ≡ true = ap at_rest rest in
    rw (g, idle, none-opened n (step w) (λ i b. ap (λ (o : Out World). midst o.state.state.work) (sym (run-go go step i w g)) ∙ h (suc i) (omega arith) (omega arith)))
    (p, omega arith)

-- a whole submission has ended, or waits
pub not-midst : (w : World) → w.state.work ≡ resting → midst (submitted w).state.state.work ≡ false
unfolding submitted settled
not-midst w rest = by-opening (opening_of w.mem w.state.regs.ring w.state.regs.ringsize)
  where
    by-finding : (j : Job) (es : List Entry) (h : Progress) (v : Finding) → midst (finished w j es h v).state.work ≡ false
    by-finding j es h fine = refl
    by-finding j es h (broken f) = refl

    by-opening : (v : Opening) → midst (submitted_on w v).state.state.work ≡ false
    by-opening BadRing = ap midst rest
    by-opening NoWork = ap midst rest
    by-opening (Refused j r) = refl
    by-opening (Started o) = by-finding o.job (entries_of w.mem o.table) _ (submission w.mem o (at_first w.state.belongings)).finding

pub clash : {t : Bool} → t ≡ false → t ≡ true → ⊥
clash p q = let z : ◌≡◌ {A = ℕ} 0 1 = cc in omega arith
