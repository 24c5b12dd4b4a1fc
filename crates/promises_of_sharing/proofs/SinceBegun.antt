-- The theorems of specs/SinceBegun.antt, and what they rest on. Assumes nothing.
use Rattle.std.specs.Prelude.{◌≡◌, refl, true, false, List, [], ◌∷◌, ℕ}
use Rattle.std.proofs.Common.{sym, ap, subst, ⊎_elim, arith}
use Rattle.rules.specs.State.{State, World, nothing_owned}
use Rattle.promises_of_packets.specs.Held.{Every}
use Rattle.promises_of_units.specs.Called.{Call, after, Called, is_reset}
use Rattle.promises_of_units.specs.Called.Call.{writes, reads, runs, records, answers}
use Rattle.promises_of_units.specs.Asked.{Asked, left, left_all, resets_or_loads, NoResetOrLoad, bad-file-leaves}
use Rattle.promises_of_units.specs.Asked.Asked.{calls, saves, loads, moves}
use Rattle.promises_of_sharing.specs.SharedTokens.{not-both}
use Rattle.promises_of_sharing.specs.TokensOverCalls.{CalledOn}
use Rattle.promises_of_sharing.proofs.TokensOverCalls.{tokens-go-on-between-resets, a-reset-forgets-the-tokens}
use Rattle.promises_of_sharing.specs.TokensOverCalls.CalledOn.{not_yet, calls-on}
use Rattle.promises_of_sharing.proofs.NamesOverCalls.{a-bound-token-keeps-its-names-between-resets}
use Rattle.promises_of_sharing.specs.PacketsTaken.{packets_since}
use Rattle.promises_of_sharing.specs.TokenLives.{TokensLive}
use Rattle.promises_of_sharing.proofs.TokenLives.{tokens-live-between-resets}
use Rattle.promises_of_sharing.proofs.TokenMeans.{tokens-mean-between-resets}
use Rattle.promises_of_sharing.specs.SinceBegun.{BetweenResetsAndLoads, BoundSince, JustBegun, Since, since-begun, then_on, tokens_at_first}
use Rattle.promises_of_sharing.specs.SinceBegun.JustBegun.{just_loaded, just_made, just_reset}

-- ---- whatever is asked, but a reset and a load of a good file

pub one_on : (a : Asked) (s : State) → resets_or_loads a ≡ false → CalledOn s (left a s)
unfolding left
one_on (calls c m) s n = calls-on not_yet c n m
one_on (saves f buffer) s n = not_yet
one_on (loads b) s n = subst (CalledOn s) (sym (bad-file-leaves b s n)) not_yet
one_on (moves b buffer) s n = not_yet

unfoldable pub asked_on : (qs : List Asked) (s : State) → NoResetOrLoad qs → CalledOn s (left_all qs s)
unfolding left_all Every
asked_on [] s n = not_yet
asked_on (a ∷ qs) s n = then_on (one_on a s n.0) (asked_on qs (left a s) n.1)

pub whatever-is-asked : (s : State) (k : Called s) (qs : List Asked) (n : NoResetOrLoad qs) → BetweenResetsAndLoads s (left_all qs s) k (asked_on qs s n)
whatever-is-asked s k qs n =
    let q : CalledOn s (left_all qs s) = asked_on qs s n in
    record {
      used-and-spent = tokens-go-on-between-resets s (left_all qs s) k q;
      names = a-bound-token-keeps-its-names-between-resets s (left_all qs s) k q;
      tokens = tokens-live-between-resets s (left_all qs s) k q;
      resources = tokens-mean-between-resets s (left_all qs s) k q;
    }

-- ---- from the last make, reset or load on

reset-forgets : (c : Call) → is_reset c ≡ true → (w : World) → (after c w).state.belongings ≡ nothing_owned
unfolding after
reset-forgets (writes offset v) y w = a-reset-forgets-the-tokens w.state offset v y
reset-forgets (reads offset) y w = absurd (let z : ◌≡◌ {A = ℕ} 0 1 = cc in omega arith)
reset-forgets (runs n) y w = absurd (let z : ◌≡◌ {A = ℕ} 0 1 = cc in omega arith)
reset-forgets (records i) y w = absurd (let z : ◌≡◌ {A = ℕ} 0 1 = cc in omega arith)
reset-forgets (answers good n) y w = absurd (let z : ◌≡◌ {A = ℕ} 0 1 = cc in omega arith)

has-at-first : (s : State) (b : JustBegun s) → s.belongings.tokens ≡ tokens_at_first b
has-at-first s (just_made memory) = refl
has-at-first s (just_loaded b good) = refl
has-at-first s (just_reset c y w) = ap (λ x. x.tokens) (reset-forgets c y w)

pub bound-since-make-reset-or-load : (s : State) (k : Called s) (token : ℕ) → BoundSince token s (since-begun s k)
bound-since-make-reset-or-load s k token =
    let x : Since s = since-begun s k in
    let l : TokensLive (packets_since x.first s x.called x.on).by_good (tokens_at_first x.begun) s.belongings.tokens =
    subst (λ ts. TokensLive (packets_since x.first s x.called x.on).by_good ts s.belongings.tokens) (has-at-first x.first x.begun)
    (tokens-live-between-resets x.first s x.called x.on) in
    record {
      bound-if = λ h none-does. ⊎_elim (λ b. b) (λ y. absurd (none-does y)) (l.lives token h);
      only_if = λ b. (l.came token b, λ y. not-both token s.belongings.tokens (l.spent token y) b);
    }
