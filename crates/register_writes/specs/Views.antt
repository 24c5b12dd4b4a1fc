-- What a write to a register gives, whatever stands in the tables; a refused one leaves every word.
use Rattle.std.specs.Prelude.{◌≡◌, true, List, ℕ}
use Rattle.rules.specs.State.{with_regs}
use Rattle.rules.specs.Registers.{bit_of, acknowledged, controlled}
use Rattle.rules.specs.Calls.{Wrote, call_write}
use Rattle.run_state.specs.Views.{Rests, Refused, state_in}

pub record Writes (s : List ℕ) (offset v a : ℕ) (s' : List ℕ) : Type 0 where
  pub wrote : (e x y ft st c : List ℕ) → ◌≡◌ {A = Wrote} (record { answer = a; state = state_in s' e x y ft st c }) (call_write (state_in s e x y ft st c) offset v)
  pub still : Refused a → s' ≡ s

-- after a reset no word is left of what was in work
pub record Controls (s : List ℕ) (v : ℕ) (s' : List ℕ) : Type 0 where
  pub state : (e x y ft st c : List ℕ) → state_in s' e x y ft st c ≡ controlled v (state_in s e x y ft st c)
  pub rests : bit_of 1 v ≡ true → Rests s'

pub record Acks (s : List ℕ) (v : ℕ) (s' : List ℕ) : Type 0 where
  pub state : (e x y ft st c : List ℕ) → state_in s' e x y ft st c ≡ with_regs (acknowledged v (state_in s e x y ft st c).regs) (state_in s e x y ft st c)
