-- The theorems of one call, said by the contracts of the methods and exports themselves: a record that is handed out, and a run of one unit.
-- Assumes nothing.
use Rattle.std.specs.Prelude.{◌≡◌, true, List, [], ℕ, length, Result}
use Rattle.std.proofs.Common.{ap}
use Rattle.rules.specs.Numbers.{done, clips}
use Rattle.rules.specs.Steps.{go}
use Rattle.rules.specs.Calls.{call_run, call_record}
use Rattle.run_state.specs.Views.{world_in}
use Rattle.device_calls.specs.Views.{record_read_of}
use Rattle.call_errors.specs.Answers.{answer_of}
use Rattle.call_errors.specs.declared.CallError.{CallError}
use Rattle.rules.specs.declared.Record.{Record}
use Rattle.device_memory_calls.specs.Views.{spent_beside, Runs}
use Rattle.device_memory_calls.specs.declared.Spent.{Spent}
use Rattle.device.specs.Views.{state_of, world_of, ran_of}
use Rattle.device.specs.declared.Device.{Device}
use Rattle.device.specs.declared.Ran.{Ran}
use Rattle.zelezmut.specs.Said.{SaysRun, SaysRecord}
use Rattle.promises_of_units.specs.Ranges.{InOneEntry}
use Rattle.promises_of_units.specs.Replies.{spending, handing}
use Rattle.promises_of_submissions.specs.Locality.{SameWhereRead, SameEnd}
use Rattle.promises_of_calls.specs.ByValue.{by_value}
use Rattle.promises_of_calls.specs.ByValue.Gives.{run-gives, record-gives}
use Rattle.promises_of_calls.specs.OverLent.{lent_of, over_lent}
use Rattle.promises_of_calls.specs.OverLent.Gives.{lent-run}
use Rattle.promises_of_calls.specs.Exports.{Said, returning, range_in, exports}
use Rattle.promises_of_calls.specs.Exports.Gives.{zelezmut-run, zelezmut-record}
use Rattle.promises_of_calls.specs.Calls.{MadeAndCalled}
use Rattle.promises_of_calls.proofs.Calls.{handed-out-in-one-entry, run-of-one-reads-only-there}

-- ---- of a device that was made and called, where the record call answers 0

-- `Device::record`
pub device-record-in-one-entry : (d : Device) → MadeAndCalled by_value d → (i : ℕ) (x : Result Record CallError) → record_read_of x ≡ call_record (state_of d) i → (record_read_of x).answer ≡ done
    → ((record_read_of x).range.kind ≡ clips → ⊥) → InOneEntry (state_of d) i (record_read_of x).range
device-record-in-one-entry d c i x k =
    handed-out-in-one-entry i (record { of = d; over = []; said = handing (record_read_of x).answer (record_read_of x).range; leaves = d; memory = []; gives = record-gives i x k }) c

-- `zelezmut_record`: the range is what stands in the five words
pub export-record-in-one-entry : (d : Device) → MadeAndCalled exports d → (i n : ℕ) (words : List ℕ) → SaysRecord d.words d.records i n words → n ≡ done
    → ((range_in words).kind ≡ clips → ⊥) → InOneEntry (state_of d) i (range_in words)
export-record-in-one-entry d c i n words k =
    handed-out-in-one-entry i (record { of = d; over = []; said = record { number = n; words = words }; leaves = d; memory = []; gives = zelezmut-record i n words k }) c

-- ---- a run of one unit, of two devices that mean one state, over memories that agree where the unit reads

module _ (d e d₁ e₁ : Device) (m n m₁ n₁ : List ℕ) (same : state_of d ≡ state_of e) (len : length m ≡ length n)
    (read : go (world_of d m) ≡ true → SameWhereRead (state_of d) m n) where
  -- `Device::run`
  pub device-run-reads-only-there : (r q : Ran) → ran_of r m₁ ≡ call_run (world_of d m) 1 → ran_of q n₁ ≡ call_run (world_of e n) 1
      → (spending (ran_of r m₁).answer (ran_of r m₁).units (ran_of r m₁).ended ≡ spending (ran_of q n₁).answer (ran_of q n₁).units (ran_of q n₁).ended) × SameEnd m n (world_of r.device m₁) (world_of q.device n₁)
  unfolding world_in
  device-run-reads-only-there r q k l =
      run-of-one-reads-only-there {L = by_value}
      (record { of = d; over = m; said = spending (ran_of r m₁).answer (ran_of r m₁).units (ran_of r m₁).ended; leaves = r.device; memory = m₁; gives = run-gives 1 r m₁ k })
      (record { of = e; over = n; said = spending (ran_of q n₁).answer (ran_of q n₁).units (ran_of q n₁).ended; leaves = q.device; memory = n₁; gives = run-gives 1 q n₁ l })
      same len read

  -- the run over lent state
  pub lent-run-reads-only-there : (x y : Result Spent CallError) → Runs 1 (lent_of d m) x (lent_of d₁ m₁) → Runs 1 (lent_of e n) y (lent_of e₁ n₁)
      → (spending (answer_of x) (spent_beside x).units (spent_beside x).ended ≡ spending (answer_of y) (spent_beside y).units (spent_beside y).ended) × SameEnd m n (world_of d₁ m₁) (world_of e₁ n₁)
  unfolding world_in
  lent-run-reads-only-there x y k l =
      run-of-one-reads-only-there {L = over_lent}
      (record { of = d; over = m; said = spending (answer_of x) (spent_beside x).units (spent_beside x).ended; leaves = d₁; memory = m₁; gives = lent-run 1 x d₁ m₁ k })
      (record { of = e; over = n; said = spending (answer_of y) (spent_beside y).units (spent_beside y).ended; leaves = e₁; memory = n₁; gives = lent-run 1 y e₁ n₁ l })
      same len read

  -- `zelezmut_run`: it returns the same number
  pub export-run-reads-only-there : (x y : ℕ) → SaysRun 1 (lent_of d m) x (lent_of d₁ m₁) → SaysRun 1 (lent_of e n) y (lent_of e₁ n₁)
      → (x ≡ y) × SameEnd m n (world_of d₁ m₁) (world_of e₁ n₁)
  unfolding world_in
  export-run-reads-only-there x y k l =
      let both : (returning x ≡ returning y) × SameEnd m n (world_of d₁ m₁) (world_of e₁ n₁) =
      run-of-one-reads-only-there {L = exports}
      (record { of = d; over = m; said = returning x; leaves = d₁; memory = m₁; gives = zelezmut-run 1 x d₁ m₁ k })
      (record { of = e; over = n; said = returning y; leaves = e₁; memory = n₁; gives = zelezmut-run 1 y e₁ n₁ l })
      same len read in
      (ap (λ (z : Said). z.number) both.0, both.1)
