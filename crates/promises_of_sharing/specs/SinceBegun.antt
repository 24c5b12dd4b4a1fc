-- Since a make, a reset or a load: whatever a host asks, saves, moves and loads of bad files among it, what is said of calls between resets holds. And of any
-- device made and called, from the last of the three on: a token is bound exactly if it was in the file that was loaded, bound, or was exported since, and was
-- not spent since. Assumes nothing.
use Rattle.std.specs.Prelude.{◌≡◌, refl, Bool, true, false, List, [], ◌⊎◌, ℕ}
use Rattle.rules.specs.Lists.{lookup}
use Rattle.rules.specs.Lists.Found.{none}
use Rattle.rules.specs.State.{State, World, made}
use Rattle.rules.specs.Loaded.{bad_place, loaded}
use Rattle.rules.specs.declared.Token.{Token}
use Rattle.promises_of_packets.specs.Names.{none-not-found}
use Rattle.promises_of_units.specs.Called.{Call, after, Called, is_reset}
use Rattle.promises_of_units.specs.Called.Called.{makes, loads as was_loaded, calls as was_Called}
use Rattle.promises_of_sharing.specs.Shared.{IsBound}
use Rattle.promises_of_sharing.specs.SharedTokens.{TokensGoOn}
use Rattle.promises_of_sharing.specs.TokensOverCalls.{CalledOn}
use Rattle.promises_of_sharing.specs.TokensOverCalls.CalledOn.{not_yet, calls-on}
use Rattle.promises_of_sharing.specs.NamesKept.{KeepsNamesBut}
use Rattle.promises_of_sharing.specs.NamesOverCalls.{names_since}
use Rattle.promises_of_sharing.specs.PacketsTaken.{packets_since}
use Rattle.promises_of_sharing.specs.TokenLives.{Some, Exports, Spends, TokensLive}
use Rattle.promises_of_sharing.specs.TokenMeans.{TokensMean}

-- ---- whatever is asked, but a reset and a load of a good file

pub then_on : {s t u : State} → CalledOn s t → CalledOn t u → CalledOn s u
then_on q not_yet = q
then_on q (calls-on p c n m) = calls-on (then_on q p) c n m

-- so the theorems between resets are of such
pub record BetweenResetsAndLoads (s t : State) (k : Called s) (q : CalledOn s t) : Type 0 where
  pub used-and-spent : TokensGoOn s.belongings.tokens t.belongings.tokens
  pub names : KeepsNamesBut (names_since s t k q).by_good s.belongings t.belongings
  pub tokens : TokensLive (packets_since s t k q).by_good s.belongings.tokens t.belongings.tokens
  pub resources : TokensMean (packets_since s t k q).by_good s.belongings t.belongings

-- ---- from the last make, reset or load on

-- a device that was just made, reset or loaded
pub data JustBegun : State → Type 0 where
  just_made : (memory : ℕ) → JustBegun (made memory)
  just_loaded : (b : List ℕ) → bad_place b ≡ none → JustBegun (loaded b)
  just_reset : (c : Call) → is_reset c ≡ true → (w : World) → JustBegun (after c w).state

-- the tokens that it has: those of the file, or none
abbrev pub tokens_at_first : {s : State} → JustBegun s → List Token
tokens_at_first (just_made memory) = []
tokens_at_first (just_loaded b good) = (loaded b).belongings.tokens
tokens_at_first (just_reset c y w) = []

-- where a device began last, and the calls since
pub record Since (s : State) : Type 0 where
  pub first : State
  pub begun : JustBegun first
  pub called : Called first
  pub on : CalledOn first s

unfoldable pub since-begun : (s : State) → Called s → Since s
since-begun s (makes memory) = record { first = made memory; begun = just_made memory; called = makes memory; on = not_yet }
since-begun s (was_loaded b good) = record { first = loaded b; begun = just_loaded b good; called = was_loaded b good; on = not_yet }
since-begun s (was_Called {s = t} c m k) = by-reset (is_reset c) refl (since-begun t k)
  where
    by-reset : (b : Bool) → is_reset c ≡ b → Since t → Since (after c (record { state = t; mem = m })).state
    by-reset true y x = record { first = _; begun = just_reset c y (record { state = t; mem = m }); called = was_Called c m k; on = not_yet }
    by-reset false n x = record { first = x.first; begun = x.begun; called = x.called; on = calls-on x.on c n m }

-- a token of such a device is bound exactly if it was bound at first or exported since, and not spent since
pub record BoundSince (token : ℕ) (s : State) (x : Since s) : Type 0 where
  pub bound-if : IsBound token (tokens_at_first x.begun) ⊎ Some (Exports token) (packets_since x.first s x.called x.on).by_good
      → (Some (Spends token) (packets_since x.first s x.called x.on).by_good → ⊥) → IsBound token s.belongings.tokens
  pub only_if : IsBound token s.belongings.tokens
      → (IsBound token (tokens_at_first x.begun) ⊎ Some (Exports token) (packets_since x.first s x.called x.on).by_good)
      × (Some (Spends token) (packets_since x.first s x.called x.on).by_good → ⊥)

-- with no load: there were none at first
pub none-at-first : (token : ℕ) → IsBound token [] → ⊥
unfolding lookup
none-at-first token b = none-not-found b.0 b.1
