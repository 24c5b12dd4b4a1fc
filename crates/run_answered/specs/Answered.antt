-- How a run ends, and the host's answer: what their code asks. Assumes nothing.
use Rattle.std.specs.Prelude.{◌≡◌, Bool, not, List, ℕ, ◌≤◌, ◌<◌, get_or}
use Rattle.std.proofs.Math.Path.{refl, ap}
use Rattle.std.proofs.Common.{sym, ◌∙◌, rules}
use Rattle.std.proofs.Math.Bool.{true, false, and-false}
use Rattle.machine.specs.Machine.{pick}
use Rattle.rules.specs.Numbers.{host_failed}
use Rattle.rules.specs.Judging.{without_place}
use Rattle.rules.specs.Judging.Finding.{fine, broken}
use Rattle.rules.specs.Packets.{left_by}
use Rattle.rules.specs.Steps.{answer_on, answered}
use Rattle.rules.specs.Settle.{settled, settled_keeping}
use Rattle.rules.specs.Calls.{ending}
use Rattle.rules.specs.declared.Ended.TheVariants.{Idle, Waiting, Paused}
use Rattle.rules.specs.declared.Refusal.TheVariants.{HostFailed}
use Rattle.run_state.specs.Views.{set_in, tag_in, job_in, held_in, world_in, bare_in, side_in, token_side_in, Sides}
use Rattle.run_state.specs.Reading.{unset, is_set}
use Rattle.run_state.specs.Stages.{rests-in, waits_in, works-on, works-in}
use Rattle.run_settle.specs.Views.{Refuses, Accepts}
use Rattle.run_answered.specs.Views.{Ends, SettlesAnswered}

-- ---- ended_in

module _ (s : List ℕ) where
  enabled-in : (e r h dt ot c m : List ℕ) → (world_in s e r h dt ot c m).state.regs.enabled ≡ set_in (get_or s 3 0)
  unfolding world_in
  enabled-in e r h dt ot c m = refl

  rung-in : (e r h dt ot c m : List ℕ) → (world_in s e r h dt ot c m).state.regs.doorbell ≡ set_in (get_or s 12 0)
  unfolding world_in
  rung-in e r h dt ot c m = refl

  pub ends-waits : 3 ≤ tag_in s → Ends s Waiting
  unfolding ending
  ends-waits h = record { ended = λ e r x dt ot c m. rw (waits_in s e r x dt ot c m h) }

  module _ (low : tag_in s < 3) where
    pub ends-off : get_or s 3 0 ≡ 0 → Ends s Idle
    unfolding ending
    ends-off h = record { ended = λ e r x dt ot c m. rw (works-on s e r x dt ot c m low, enabled-in e r x dt ot c m, unset (get_or s 3 0) h) }

    module _ (on : get_or s 3 0 ≡ 0 → ⊥) where
      pub ends-paused : (tag_in s ≡ 0 → ⊥) → Ends s Paused
      unfolding ending
      ends-paused h =
          record {
            ended = λ e r x dt ot c m.
                rw (works-on s e r x dt ot c m low, enabled-in e r x dt ot c m, is_set (get_or s 3 0) on, works-in s e r x dt ot c m h, and-false (not (world_in s e r x dt ot c m).state.regs.doorbell));
          }

      module _ (rests : tag_in s ≡ 0) where
        pub ends-idle : get_or s 12 0 ≡ 0 → Ends s Idle
        unfolding ending
        ends-idle h = record { ended = λ e r x dt ot c m. rw (rests-in s e r x dt ot c m rests, enabled-in e r x dt ot c m, is_set (get_or s 3 0) on, rung-in e r x dt ot c m, unset (get_or s 12 0) h) }

        pub ends-rung : (get_or s 12 0 ≡ 0 → ⊥) → Ends s Paused
        unfolding ending
        ends-rung h = record { ended = λ e r x dt ot c m. rw (rests-in s e r x dt ot c m rests, enabled-in e r x dt ot c m, is_set (get_or s 3 0) on, rung-in e r x dt ot c m, is_set (get_or s 12 0) h) }

pub ruleset ending_in = (ends-waits, ends-off, ends-paused, ends-idle, ends-rung, rules)

-- ---- settle_answered

-- the rules' answer to what waits
module _ (s e r h dt ot c m : List ℕ) (asked : 3 ≤ tag_in s) where
  good-answer : answered true (world_in s e r h dt ot c m) ≡ settled (job_in s) fine (left_by (held_in s r h dt ot c)) (bare_in s r dt m)
  unfolding answered settled world_in
  good-answer = ap (answer_on true (world_in s e r h dt ot c m)) (waits_in s e r h dt ot c m asked)

  failed-answer : answered false (world_in s e r h dt ot c m) ≡ settled_keeping (job_in s) (broken (without_place HostFailed)) (bare_in s r dt m)
  unfolding answered settled world_in
  failed-answer = ap (answer_on false (world_in s e r h dt ot c m)) (waits_in s e r h dt ot c m asked)

module _ (s m : List ℕ) (good : Bool) (asked : 3 ≤ tag_in s) (s' m' : List ℕ) where
  pub settles-good : good ≡ true → Accepts s m s' m' → SettlesAnswered s m good s' m'
  settles-good g x =
      record { settled = λ e a b ft st c. x.world e a b ft st c ∙ (sym (good-answer s e (pick (side_in s) b a) (pick (side_in s) a b) (pick (token_side_in s) st ft) (pick (token_side_in s) ft st) c m asked) ∙ rw g) }

  pub settles-failed : good ≡ false → Refuses s m (record { code = host_failed; place = 0 }) s' m' → SettlesAnswered s m good s' m'
  settles-failed g x =
      record {
        settled = λ e a b ft st c.
            ap (λ (k : Sides). world_in s' e (pick (set_in k.resources) b a) (pick (set_in k.resources) a b) (pick (set_in k.tokens) st ft) (pick (set_in k.tokens) ft st) c m') x.side
            ∙ (x.world e (pick (side_in s) b a) (pick (side_in s) a b) (pick (token_side_in s) st ft) (pick (token_side_in s) ft st) c
            ∙ (sym (failed-answer s e (pick (side_in s) b a) (pick (side_in s) a b) (pick (token_side_in s) st ft) (pick (token_side_in s) ft st) c m asked) ∙ rw g));
      }

pub ruleset settling_answered = (settles-good, settles-failed, rules)
