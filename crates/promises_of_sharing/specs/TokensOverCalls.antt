-- Wish 5, tokens over a device's whole life: between resets, a token that was used stays used and one that is spent stays spent, over any calls and
-- any memories; a reset forgets all of them, and "a submission refused or answered failed leaves the tokens, too, as they were before it". Assumes
-- nothing.
use Rattle.std.specs.Prelude.{◌≡◌, List, ℕ, ◌≤◌}
use Rattle.std.proofs.Math.Path.{refl}
use Rattle.std.proofs.Math.Bool.{true, false}
use Rattle.rules.specs.State.{Work, State, World}
use Rattle.rules.specs.State.Work.{resting, entries, packets, waiting}
use Rattle.rules.specs.Settle.{settled}
use Rattle.rules.specs.Steps.{answer_on, answered}
use Rattle.rules.specs.Calls.{call_write}
use Rattle.rules.specs.declared.Token.{Token}
use Rattle.promises_of_units.specs.Called.{Call, after, is_reset}
use Rattle.promises_of_units.specs.Sound.{SoundState}
use Rattle.promises_of_units.specs.Writes.{resets}
use Rattle.promises_of_sharing.specs.SharedTokens.{TokensGoOn}

-- ---- the tokens of a submission in work go on from the device's

abbrev pub WorkGoesOn : List Token → Work → Type 0
WorkGoesOn ts resting = 0 ≤ 0
WorkGoesOn ts (entries o kept) = 0 ≤ 0
WorkGoesOn ts (packets j t at es h) = TokensGoOn ts h.tokens
WorkGoesOn ts (waiting j es h) = TokensGoOn ts h.tokens

module _ (w : World) where
  abbrev pub its : List Token
  its = w.state.belongings.tokens

-- ---- a device whose tokens go on from some

pub record Onward (ts : List Token) (s : State) : Type 0 where
  pub sound : SoundState s
  pub tokens : TokensGoOn ts s.belongings.tokens
  pub work : WorkGoesOn s.belongings.tokens s.work

-- ---- any device made and called

-- calls of which none is a reset, each lent any memory
pub data CalledOn (s : State) : State → Type 0 where
  not_yet : CalledOn s s
  calls-on : {t : State} → CalledOn s t → (c : Call) → is_reset c ≡ false → (m : List ℕ) → CalledOn s (after c (record { state = t; mem = m })).state

-- units change nothing of it, so neither does a submission that is refused; an answer "failed" does not either
pub a-failed-submission-leaves-the-tokens : (w : World) → (answered false w).state.belongings ≡ w.state.belongings
unfolding answered settled
a-failed-submission-leaves-the-tokens w = by-work w.state.work
  where
    by-work : (k : Work) → (answer_on false w k).state.belongings ≡ w.state.belongings
    by-work resting = refl
    by-work (entries o kept) = refl
    by-work (packets j t at es h) = refl
    by-work (waiting j es h) = refl
