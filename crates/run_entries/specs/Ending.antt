-- How a phase stands, as the step machine sees it; and the laws of a phase's loop, once for both phases. Assumes nothing.
use Rattle.std.specs.Prelude.{◌≡◌, Bool, ℕ, ◌+◌, ◌-◌, ◌≤◌, ◌<◌, ltb}
use Rattle.std.proofs.Math.Path.{refl}
use Rattle.std.proofs.Common.{sym, rules}
use Rattle.std.proofs.Math.Bool.{true, false}
use borrow.Author.Tests.{lt-ltb, le-ltb}
use Rattle.machine.specs.Machine.{pick, Out, spent, run_while, loop-turn, loop-stop}
use Rattle.run_entries.specs.declared.ending.Ending.{Ending}
use Rattle.run_entries.specs.declared.ending.Ending.TheVariants.{Going, Done, Broken, Left}

abbrev pub onward : Ending → Bool
onward Going = true
onward Done = false
onward (Broken r) = false
onward Left = false

-- more is left below the end
abbrev pub ending_at : ℕ → ℕ → Ending
ending_at at end = pick (ltb at end) Going Done

module _ (at end : ℕ) where
  pub ends-below : at < end → Going ≡ ending_at at end
  ends-below h = rw (lt-ltb at end h)

  pub ends-there : end ≤ at → Done ≡ ending_at at end
  ends-there h = rw (le-ltb at end h)

pub ruleset ending = (ends-below, ends-there, rules)

pub goes : (e : Ending) → e ≡ Going → onward e ≡ true
goes e h = rw h

pub ends : (e : Ending) → (e ≡ Going → ⊥) → onward e ≡ false
ends Going h = absurd (h refl)
ends Done h = refl
ends (Broken r) h = refl
ends Left h = refl

-- ---- for a loop `while units < allowance { step; units += 1; let Going = ending else { return .. } }`

module _ {S : Type 0} (go : S → Bool) (step : S → S) (a u : ℕ) (s : S) (o : Out S) (inv : o ≡ spent u (run_while go step (a - u) s)) (more : u < a) (here : go s ≡ true) (s' : S) (stepped : s' ≡ step s) where
  pub phase-on : o ≡ spent (u + 1) (run_while go step (a - (u + 1)) s')
  phase-on = loop-turn go step a u s o inv s' true more (sym here) refl stepped

  pub phase-left : go s' ≡ false → record { state = s'; units = u + 1 } ≡ o
  phase-left h = loop-stop go step a (u + 1) s' o phase-on false (sym h) refl
