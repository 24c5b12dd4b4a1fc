-- The theorems of specs/AnyRegisters.antt, and what they rest on. Assumes nothing.
use Rattle.std.proofs.Math.Path.{◌≡◌, ap}
use Rattle.std.proofs.Common.{◌∙◌, arith}
use Rattle.std.specs.Prelude.{ℕ, suc, length}
use Rattle.std.proofs.Math.Bool.{true}
use mathlib.Core.List.{List, []}
use Rattle.machine.specs.Machine.{Out}
use Rattle.rules.specs.Table.{entries_of}
use Rattle.rules.specs.Packets.{at_first}
use Rattle.rules.specs.State.{World, working, registering}
use Rattle.rules.specs.Steps.{entries_at, run_for}
use Rattle.rules.specs.Unsliced.{submission, finished}
use Rattle.rules.specs.declared.Registers.{Registers}
use Rattle.rules.specs.declared.Opened.{Opened}
use Rattle.promises_of_submissions.specs.Whole.{Course}
use Rattle.promises_of_submissions.specs.Submission.{Lies, later_units, table_judged, packets_judged}
use Rattle.promises_of_submissions.proofs.Submission.{course_started, submission-units}
use Rattle.promises_of_submissions.specs.AnyRegisters.{under, under-any-registers}

-- ---- a submission that was opened, and its units after the opening, whatever registers stand at each, the device being enabled at the last:
-- what the unsliced rules give, settled by the registers that stand at the last one

pub writes-between-units : (w : World) (o : Opened) → Lies w.mem o → (rs : List Registers) (q : Registers) → q.enabled ≡ true
    → suc (suc (length rs)) ≡ (submission w.mem o (at_first w.state.belongings)).units
    → under rs q (working (entries_at o [] w.state.belongings) w)
    ≡ finished (registering q w) o.job (entries_of w.mem o.table) (submission w.mem o (at_first w.state.belongings)).held (submission w.mem o (at_first w.state.belongings)).finding
writes-between-units w o lies rs q on e = by_count (later_units (table_judged (registering q w) on o lies).finding (table_judged (registering q w) on o lies).count (packets_judged (registering q w) on o lies).count) (course_started (registering q w) on o lies) (e ∙ submission-units (registering q w) on o lies)
  where
    by_count : (n : ℕ) {v : World} → Course n (registering q (working (entries_at o [] w.state.belongings) w)) v → suc (suc (length rs)) ≡ suc n
        → under rs q (working (entries_at o [] w.state.belongings) w) ≡ v
    by_count n {v} c p =
        let units : suc (length rs) ≡ n = omega arith in
        under-any-registers q on rs (working (entries_at o [] w.state.belongings) w) (λ i h. c.inside i (omega arith))
        ∙ (ap (λ k. (run_for k (registering q (working (entries_at o [] w.state.belongings) w))).state) units ∙ ap (λ (x : Out World). x.state) c.ends)
