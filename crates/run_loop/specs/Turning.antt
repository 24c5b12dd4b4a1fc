-- A run, turn by turn: what its code asks. Assumes nothing.
use Rattle.std.specs.Prelude.{◌≡◌, refl, true, false, List, ℕ, ◌-◌, ◌≤◌, ◌<◌, get_or}
use Rattle.std.proofs.Math.Path.{ap}
use Rattle.std.proofs.Common.{◌∙◌, arith, rules}
use Rattle.std.proofs.Math.Bool.{and-false}
use Rattle.machine.specs.Machine.{pick, spent, loop-start, loop-out}
use Rattle.machine.specs.Within.{turned-stop, turned-step, turns-on, turns-stop}
use Rattle.rules.specs.Steps.{go, step, after_opening, open_step, run_for}
use Rattle.rules.specs.Ring.{opening_of}
use Rattle.rules.specs.State.{World}
use Rattle.run_state.specs.Views.{small_in, registers_in, tag_in, world_in, bare_in, sides_in, token_side_in}
use Rattle.run_state.specs.Reading.{unset, is_set}
use Rattle.run_state.specs.Stages.{waits_in}
use Rattle.run_open.specs.Opening.{Opens}
use Rattle.run_turns.specs.Views.{tables, world_with, TurnOf, EntriesTurn, PacketsTurn}
use Rattle.run_turns.specs.Turns.{same-side}
use Rattle.run_loop.specs.Views.{RanFor}

-- ---- turn_once

module _ (s e r h ft st c m : List ℕ) (left : ℕ) (pre : 0 < left) where
  abbrev here : World
  here = world_with s (tables e r h ft st c) m

  stands : go here ≡ false → TurnOf left s (tables e r h ft st c) m 0 s (tables e r h ft st c) m
  stands g = record { turned = turned-stop go step left here g; side = refl }

  off-stops : get_or s 3 0 ≡ 0 → go here ≡ false
  unfolding go world_in world_with
  off-stops q = rw (unset (get_or s 3 0) q)

  pub turn-off : get_or s 3 0 ≡ 0 → TurnOf left s (tables e r h ft st c) m 0 s (tables e r h ft st c) m
  turn-off off = stands (off-stops off)

  module _ (on : get_or s 3 0 ≡ 0 → ⊥) where
    is-on : (registers_in s).enabled ≡ true
    is-on = is_set (get_or s 3 0) on

    pub turn-waits : (tag_in s ≡ 2 → ⊥) → (tag_in s ≡ 1 → ⊥) → (tag_in s ≡ 0 → ⊥) → TurnOf left s (tables e r h ft st c) m 0 s (tables e r h ft st c) m
    unfolding go world_with
    turn-waits x y z = stands (rw (waits_in s e r h (pick (token_side_in s) st ft) (pick (token_side_in s) ft st) c m (omega arith)) (and-false here.state.regs.enabled))

    module _ (i : tag_in s ≡ 0) where
      quiet-stops : get_or s 12 0 ≡ 0 → go here ≡ false
      unfolding go world_in world_with
      quiet-stops q = rw (i, is-on, unset (get_or s 12 0) q)

      pub turn-quiet : get_or s 12 0 ≡ 0 → TurnOf left s (tables e r h ft st c) m 0 s (tables e r h ft st c) m
      turn-quiet q = stands (quiet-stops q)

      rung-goes : (get_or s 12 0 ≡ 0 → ⊥) → go here ≡ true
      unfolding go world_in world_with
      rung-goes q = rw (i, is-on, is_set (get_or s 12 0) q)

      opens-step : after_opening (bare_in s r (pick (token_side_in s) st ft) m) (opening_of m (get_or s 1 0) (small_in (get_or s 2 0))) ≡ step here
      unfolding step open_step world_in world_with
      opens-step = rw i

      pub turn-opens : (s' m' : List ℕ) → (get_or s 12 0 ≡ 0 → ⊥) → Opens s m s' m' → TurnOf left s (tables e r h ft st c) m 1 s' (tables e r h ft st c) m'
      unfolding world_with
      turn-opens s' m' q o =
          let there : world_with s' (tables e r h ft st c) m' ≡ world_in s' e r h (pick (token_side_in s) st ft) (pick (token_side_in s) ft st) c m' =
          ap (λ b. world_in s' e r h (pick b st ft) (pick b ft st) c m') (same-side s s' o.side) in
          record {
            turned =
                turned-step go step left here (world_with s' (tables e r h ft st c) m') pre (rung-goes q)
                (there ∙ (o.world e r h (pick (token_side_in s) st ft) (pick (token_side_in s) ft st) c ∙ opens-step));
            side = o.side;
          }

    pub turn-entries : (u : ℕ) (s' m' e' : List ℕ) → tag_in s ≡ 1 → EntriesTurn s left m e u s' m' e' → TurnOf left s (tables e r h ft st c) m u s' (tables e' r h ft st c) m'
    turn-entries u s' m' e' i x = x.turn is-on r h ft st c

    pub turn-packets : (u : ℕ) (s' m' h' ft' st' c' : List ℕ) → tag_in s ≡ 2 → PacketsTurn s left m (tables e r h ft st c) u s' m' (tables e r h' ft' st' c')
        → TurnOf left s (tables e r h ft st c) m u s' (tables e r h' ft' st' c') m'
    turn-packets u s' m' h' ft' st' c' i x = x.turn is-on

pub ruleset turning_once = (turn-off, turn-waits, turn-quiet, turn-opens, turn-entries, turn-packets, rules)

-- ---- run

module _ (a u : ℕ) (s₀ e₀ h₀ ft₀ st₀ c₀ m₀ s e r h ft st c m : List ℕ)
    (inv : run_for a (world_with s₀ (tables e₀ r h₀ ft₀ st₀ c₀) m₀) ≡ spent u (run_for (a - u) (world_with s (tables e r h ft st c) m))) (same : sides_in s ≡ sides_in s₀) where
  -- a turn that spends nothing is the end
  pub run-stops : (k : ℕ) (s' e' h' ft' st' c' m' : List ℕ) → TurnOf (a - u) s (tables e r h ft st c) m k s' (tables e' r h' ft' st' c') m' → k ≡ 0
      → RanFor a s₀ (tables e₀ r h₀ ft₀ st₀ c₀) m₀ u s' (tables e' r h' ft' st' c') m'
  run-stops k s' e' h' ft' st' c' m' t z =
      record {
        run = turns-stop go step a u (world_with s (tables e r h ft st c) m) (run_for a (world_with s₀ (tables e₀ r h₀ ft₀ st₀ c₀) m₀)) inv (world_with s' (tables e' r h' ft' st' c') m') k t.turned z;
        side = t.side ∙ same;
      }

  pub run_ends : a ≤ u → RanFor a s₀ (tables e₀ r h₀ ft₀ st₀ c₀) m₀ u s (tables e r h ft st c) m
  run_ends d = record { run = loop-out go step a u (world_with s (tables e r h ft st c) m) (run_for a (world_with s₀ (tables e₀ r h₀ ft₀ st₀ c₀) m₀)) inv d; side = same }

  pub run-side : (k : ℕ) (s' e' h' ft' st' c' m' : List ℕ) → TurnOf (a - u) s (tables e r h ft st c) m k s' (tables e' r h' ft' st' c') m' → sides_in s' ≡ sides_in s₀
  run-side k s' e' h' ft' st' c' m' t = t.side ∙ same

pub ruleset advancing = (loop-start, turns-on, run-stops, run_ends, run-side, rules)
