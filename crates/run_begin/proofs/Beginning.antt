-- The law of `store_job`, by the words spelled out. Assumes nothing.
use Rattle.std.specs.Prelude.{◌≡◌, List, ℕ, ◌<◌, length, set}
use Rattle.std.proofs.Common.{◌∙◌}
use Rattle.rules.specs.declared.Job.{Job}
use Rattle.run_state.specs.Views.{flag_of, job_in, bare_in, sides_in}
use Rattle.run_state.specs.Reading.{flag-as, small-as}
use Rattle.run_state.specs.Spelled.{spell}
use Rattle.run_begin.specs.Views.{StoresJob}
use Rattle.run_begin.specs.Beginning.{jobbed}

-- ---- store_job

pub stores-job : (s : List ℕ) (j : Job) (head silent : ℕ) → length s ≡ 36 → (head ≡ j.head) × (head < 4294967296) → silent ≡ flag_of j.silent
    → StoresJob s j (set (set (set (set s 14 j.ring) 15 head) 16 j.signal) 17 silent)
stores-job s j head silent long a b =
    record {
      job = spell (λ w. job_in (jobbed j head silent w)) s long ∙ rw (small-as head j.head a, flag-as silent j.silent b);
      bare = λ r dt m. spell (λ w. bare_in (jobbed j head silent w) r dt m) s long;
      side = spell (λ w. sides_in (jobbed j head silent w)) s long;
    }
