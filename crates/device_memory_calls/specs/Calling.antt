-- A run and an answer: what their code asks. Assumes nothing.
use Rattle.std.specs.Prelude.{◌≡◌, Bool, false, List, ℕ, ◌≤◌, ◌<◌, eqb, length, get_or, Result, Ok, Err, ⊤}
use Rattle.std.proofs.Math.Path.{refl}
use Rattle.std.proofs.Common.{sym, ap, ◌∙◌, rules, arith}
use Rattle.std.proofs.Math.Bool.{true}
use Rattle.machine.specs.Machine.{pick}
use Rattle.rules.specs.Numbers.{done}
use Rattle.rules.specs.State.{World}
use Rattle.rules.specs.Steps.{run_for, waits, answered}
use Rattle.rules.specs.Calls.{lent_another, Ran, ran, call_run, answer_alone, call_answer}
use Rattle.rules.specs.declared.Ended.{Ended}
use Rattle.run_state.specs.Views.{tag_in, world_in, side_in, token_side_in, desk_in, lent}
use Rattle.run_state.specs.Stages.{waits_in, works-on}
use Rattle.settle.specs.Only.{answered-is-lent-alike}
use Rattle.device_memory_calls.specs.Views.{lent_memory, CarriesOn, Runs, Answers}
use Rattle.call_errors.specs.Answers.{answer_of}
use Rattle.call_errors.specs.declared.CallError.{CallError}
use Rattle.call_errors.specs.declared.CallError.TheVariants.{OtherMemory, NothingWaits}
use Rattle.run_answered.specs.Views.{Ends, SettlesAnswered}
use Rattle.run_sides.specs.Views.{RanOn}
use Rattle.run_sides.specs.Sides.{on-nothing}
use Rattle.device_memory_calls.specs.declared.Spent.{Spent}

-- ---- as many units as are allowed, and how the device then stands

carries-on : (allowance u : ℕ) (k : Ended) (s e a b ft st c m s' e' a' b' ft' st' c' m' : List ℕ) → RanOn allowance (lent s e a b ft st c m) u (lent s' e' a' b' ft' st' c' m') → Ends s' k
    → CarriesOn allowance (lent s e a b ft st c m) (Ok (record { units = u; ended = k })) (lent s' e' a' b' ft' st' c' m')
carries-on allowance u k s e a b ft st c m s' e' a' b' ft' st' c' m' x ends =
    record { carried = rw (ends.ended e' (pick (side_in s') b' a') (pick (side_in s') a' b') (pick (token_side_in s') st' ft') (pick (token_side_in s') ft' st') c' m') (ap ran x.run) }

-- no unit is allowed: the device stands as it is
carries-nothing : (allowance : ℕ) (k : Ended) (s e a b ft st c m : List ℕ) → allowance ≤ 0 → Ends s k → CarriesOn allowance (lent s e a b ft st c m) (Ok (record { units = 0; ended = k })) (lent s e a b ft st c m)
carries-nothing allowance k s e a b ft st c m z = carries-on allowance 0 k s e a b ft st c m s e a b ft st c m (on-nothing allowance s e a b ft st c m (omega arith))

-- ---- the memory that is lent

memory-in : (s e a b ft st c m : List ℕ) → (desk_in s e a b ft st c m).state.memory ≡ get_or s 0 0
unfolding world_in
memory-in s e a b ft st c m = refl

lent-in : (s e a b ft st c m : List ℕ) → (desk_in s e a b ft st c m).mem ≡ m
unfolding world_in
lent-in s e a b ft st c m = refl

-- which memory was lent
abbrev memory_test : Bool → Result ⊤ CallError
memory_test t = pick t (Ok tt) (Err OtherMemory)

refused-test : (t : Bool) (r : CallError) → Err r ≡ memory_test t → (r ≡ OtherMemory) × (t ≡ false)
refused-test true r k = cc
refused-test false r k = let same : r ≡ OtherMemory = cc in (same, refl)

taken-test : (t : Bool) (y : ⊤) → Ok y ≡ memory_test t → t ≡ true
taken-test true y k = refl
taken-test false y k = cc

module _ (s e a b ft st c m : List ℕ) (x : Result ⊤ CallError) (is : x ≡ lent_memory s m) where
  other : (r : CallError) → x ≡ Err r → (r ≡ OtherMemory) × (lent_another (desk_in s e a b ft st c m) ≡ true)
  other r k =
      let t : (r ≡ OtherMemory) × (eqb (length m) (get_or s 0 0) ≡ false) = refused-test (eqb (length m) (get_or s 0 0)) r (sym k ∙ is) in
      (t.0, rw (memory-in s e a b ft st c m, lent-in s e a b ft st c m, t.1))

  own : (y : ⊤) → x ≡ Ok y → lent_another (desk_in s e a b ft st c m) ≡ false
  own y k = rw (memory-in s e a b ft st c m, lent-in s e a b ft st c m, taken-test (eqb (length m) (get_or s 0 0)) y (sym k ∙ is))

-- ---- run

-- what was carried on was not refused
not-refused : (allowance : ℕ) (s e a b ft st c m s' e' a' b' ft' st' c' m' : List ℕ) (x : Result Spent CallError) → CarriesOn allowance (lent s e a b ft st c m) x (lent s' e' a' b' ft' st' c' m') → answer_of x ≡ done
not-refused allowance s e a b ft st c m s' e' a' b' ft' st' c' m' x k = ap (λ (r : Ran). r.answer) k.carried

module _ (s e a b ft st c m : List ℕ) (allowance : ℕ) (own_one : Result ⊤ CallError) (is : own_one ≡ lent_memory s m) where
  pub runs_other : (r : CallError) → own_one ≡ Err r → Runs allowance (lent s e a b ft st c m) (Err r) (lent s e a b ft st c m)
  unfolding call_run
  runs_other r n =
      let o = other s e a b ft st c m own_one is r n in
      record { ran = rw (o.0, o.1); still = λ q. refl }

  runs_done : (x : Result Spent CallError) (s' e' a' b' ft' st' c' m' : List ℕ) (y : ⊤) → own_one ≡ Ok y → CarriesOn allowance (lent s e a b ft st c m) x (lent s' e' a' b' ft' st' c' m')
      → Runs allowance (lent s e a b ft st c m) x (lent s' e' a' b' ft' st' c' m')
  unfolding call_run
  runs_done x s' e' a' b' ft' st' c' m' y n k =
      record {
        ran = rw (own s e a b ft st c m own_one is y n) k.carried;
        still = λ q. absurd (q (not-refused allowance s e a b ft st c m s' e' a' b' ft' st' c' m' x k));
      }

pub runs-on : {s e a b ft st c m : List ℕ} {allowance : ℕ} {own_one : Result ⊤ CallError} → own_one ≡ lent_memory s m → {y : ⊤} → own_one ≡ Ok y
    → {u : ℕ} {k : Ended} {s' e' a' b' ft' st' c' m' : List ℕ} → RanOn allowance (lent s e a b ft st c m) u (lent s' e' a' b' ft' st' c' m') → Ends s' k
    → Runs allowance (lent s e a b ft st c m) (Ok (record { units = u; ended = k })) (lent s' e' a' b' ft' st' c' m')
runs-on {s} {e} {a} {b} {ft} {st} {c} {m} {allowance} {own_one} is {y} n {u} {k} {s'} {e'} {a'} {b'} {ft'} {st'} {c'} {m'} x ends =
    runs_done s e a b ft st c m allowance own_one is (Ok (record { units = u; ended = k })) s' e' a' b' ft' st' c' m' y n (carries-on allowance u k s e a b ft st c m s' e' a' b' ft' st' c' m' x ends)

pub ruleset running = (runs_other, rules)

-- ---- answer

module _ (s e a b ft st c m : List ℕ) (good : Bool) (allowance : ℕ) (own_one : Result ⊤ CallError) (is : own_one ≡ lent_memory s m) where
  pub answers-other : (r : CallError) → own_one ≡ Err r → Answers good allowance (lent s e a b ft st c m) (Err r) (lent s e a b ft st c m)
  unfolding answer_alone call_answer
  answers-other r n =
      let o = other s e a b ft st c m own_one is r n in
      record { ran = rw (o.0, o.1); still = λ q. refl }

  module _ (y : ⊤) (n : own_one ≡ Ok y) where
    pub answers-unasked : tag_in s < 3 → Answers good allowance (lent s e a b ft st c m) (Err NothingWaits) (lent s e a b ft st c m)
    unfolding answer_alone call_answer
    answers-unasked low =
        record { ran = rw (own s e a b ft st c m own_one is y n, works-on s e (pick (side_in s) b a) (pick (side_in s) a b) (pick (token_side_in s) st ft) (pick (token_side_in s) ft st) c m low); still = λ q. refl }

    module _ (asked : 3 ≤ tag_in s) where
      -- what the rules' call then is
      answered-as : call_answer (desk_in s e a b ft st c m) good allowance ≡ ran (run_for allowance (answered good (desk_in s e a b ft st c m)))
      unfolding answer_alone call_answer call_run
      answered-as =
          let awaits : waits (desk_in s e a b ft st c m).state ≡ true = rw (waits_in s e (pick (side_in s) b a) (pick (side_in s) a b) (pick (token_side_in s) st ft) (pick (token_side_in s) ft st) c m asked) in
          let same : lent_another (desk_in s e a b ft st c m) ≡ false = own s e a b ft st c m own_one is y n in
          rw (same, awaits, answered-is-lent-alike good (desk_in s e a b ft st c m), same)

      answers-done : (s₁ m₁ s' e' a' b' ft' st' c' m' : List ℕ) (x : Result Spent CallError) → SettlesAnswered s m good s₁ m₁ → CarriesOn allowance (lent s₁ e a b ft st c m₁) x (lent s' e' a' b' ft' st' c' m')
          → Answers good allowance (lent s e a b ft st c m) x (lent s' e' a' b' ft' st' c' m')
      answers-done s₁ m₁ s' e' a' b' ft' st' c' m' x t k =
          record {
            ran = k.carried ∙ (ap (λ (w : World). ran (run_for allowance w)) (t.settled e a b ft st c) ∙ sym answered-as);
            still = λ q. absurd (q (not-refused allowance s₁ e a b ft st c m₁ s' e' a' b' ft' st' c' m' x k));
          }

      pub answers-alone : (s₁ m₁ : List ℕ) (k : Ended) → SettlesAnswered s m good s₁ m₁ → allowance ≤ 0 → Ends s₁ k
          → Answers good allowance (lent s e a b ft st c m) (Ok (record { units = 0; ended = k })) (lent s₁ e a b ft st c m₁)
      answers-alone s₁ m₁ k settled z ends = answers-done s₁ m₁ s₁ e a b ft st c m₁ (Ok (record { units = 0; ended = k })) settled (carries-nothing allowance k s₁ e a b ft st c m₁ z ends)

pub answers-on : {s e a b ft st c m : List ℕ} {good : Bool} {allowance : ℕ} {own_one : Result ⊤ CallError} → own_one ≡ lent_memory s m → {y : ⊤} → own_one ≡ Ok y → 3 ≤ tag_in s
    → {s₁ m₁ : List ℕ} → SettlesAnswered s m good s₁ m₁ → {u : ℕ} {k : Ended} {s' e' a' b' ft' st' c' m' : List ℕ}
    → RanOn allowance (lent s₁ e a b ft st c m₁) u (lent s' e' a' b' ft' st' c' m') → Ends s' k
    → Answers good allowance (lent s e a b ft st c m) (Ok (record { units = u; ended = k })) (lent s' e' a' b' ft' st' c' m')
answers-on {s} {e} {a} {b} {ft} {st} {c} {m} {good} {allowance} {own_one} is {y} n asked {s₁} {m₁} settled {u} {k} {s'} {e'} {a'} {b'} {ft'} {st'} {c'} {m'} x ends =
    answers-done s e a b ft st c m good allowance own_one is y n asked s₁ m₁ s' e' a' b' ft' st' c' m' (Ok (record { units = u; ended = k })) settled
    (carries-on allowance u k s₁ e a b ft st c m₁ s' e' a' b' ft' st' c' m' x ends)

pub ruleset answering = (answers-other, answers-unasked, answers-alone, rules)
