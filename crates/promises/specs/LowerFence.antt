-- 02, wish 1, "The completed fence may be lower after loading": a desk that was saved, went on to fence 8, and is loaded from that file again stands at fence 0.
-- By computation. Assumes nothing.
use Rattle.std.specs.Prelude.{◌≡◌, true, List, ℕ, ◌<◌}
use Rattle.std.proofs.Common.{ap}
use Rattle.rules.specs.Numbers.{done}
use Rattle.rules.specs.Lists.Found.{none}
use Rattle.rules.specs.State.{State}
use Rattle.rules.specs.Saved.{saved}
use Rattle.rules.specs.Loaded.{Loaded, bad_place, loaded, call_load}
use Rattle.rules.specs.declared.Form.TheVariants.{Two}
use Rattle.promises_of_saving.specs.Refusals.{load-of-good, kept-is-good, loaded-exactly}
use Rattle.promises_of_units.specs.Called.{Called, after}
use Rattle.promises_of_units.specs.Called.Call.{runs, answers}
use Rattle.promises.specs.TwoSubmissions.{rung}

-- what the fence is after a load, whatever it was
pub the-fence-is-the-files : (s : State) (b : List ℕ) → (call_load s b).answer ≡ done → (call_load s b).state.regs.completed ≡ (loaded b).regs.completed
the-fence-is-the-files s b d = ap (λ (l : Loaded). l.state.regs.completed) (load-of-good s b (kept-is-good b ((loaded-exactly s b).0 d)))

-- a device made and called, a good file, and a fence that is lower after loading it
pub record LowerAfterLoading : Type 0 where
  pub device : State
  pub called : Called device
  pub file : List ℕ
  pub loads-it : (call_load device file).answer ≡ done
  pub lower : (call_load device file).state.regs.completed < device.regs.completed

-- the device of two submissions, after both; and saved in form 2 before the first
abbrev pub both_done : State
both_done = (after (answers true 0) (after (runs 65535) (after (answers true 1) (after (runs 65535) rung)))).state

unfoldable pub saved_before : List ℕ
saved_before = saved Two rung.state

pub record SavedBefore : Type 0 where
  pub good : bad_place saved_before ≡ none
  pub fence : (loaded saved_before).regs.completed ≡ 0
