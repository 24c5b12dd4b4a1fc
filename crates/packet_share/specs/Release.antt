-- What a release packet comes to, whatever records are held. Assumes nothing.
use Rattle.std.specs.Prelude.{◌≡◌, refl, Option, Some, None, List, [], ◌∷◌, ℕ, ◌≤◌, ◌<◌, Err, Ok}
use Rattle.std.proofs.Common.{ap, arith, rules}
use Rattle.rules.specs.Numbers.{most, most_tokens}
use Rattle.rules.specs.Lists.{index_of, over}
use Rattle.rules.specs.Names.{token_of}
use Rattle.rules.specs.Packets.{if-fine, on_release_packet, tokens_after}
use Rattle.rules.specs.declared.Packet.TheVariants.{Release}
use Rattle.rules.specs.declared.ReleaseToken.{ReleaseToken}
use Rattle.rows.specs.Keys.{place_of, place-some}
use Rattle.kept_resources.specs.Views.{holdings_of}
use Rattle.kept_tokens.specs.Views.{tokens_of, spent_at}
use Rattle.kept_tokens.specs.Tokens.{token-place, token-at}
use Rattle.packet_ranges.specs.Views.{Applies, refused_with}
use Rattle.packet_ranges.specs.Handout.{accepted_with}
use Rattle.packet_ranges.specs.declared.applied.Applied.{Applied}
use Rattle.packet_share.specs.Bound.{BindsToken}
use Rattle.packet_share.specs.declared.bound.Bound.{Bound}
use Rattle.packet_share.specs.declared.release.Released.{Released}
use Rattle.rules.specs.Judging.{Verdict}
use Rattle.rules.specs.declared.Refusal.TheVariants.{UnboundToken}

-- the answer is the rules' outcome; where the packet is accepted, the token at the place is the one that is spent
pub record Releases (c : ReleaseToken) (live made used : ℕ) (l t : List ℕ) (x : Released) : Type 0 where
  pub applies : (records : List ℕ) → Applies (on_release_packet (tokens_of used t) (holdings_of live l made records) c) x.applied l records
  pub place : x.applied.verdict ≡ Ok tt → x.place < used
  pub spends : (records : List ℕ)
      → tokens_after (Release c) x.applied.verdict (holdings_of live l made records) (tokens_of used t)
      ≡ if-fine x.applied.verdict (over x.place (spent_at t x.place ∷ []) (tokens_of used t)) (tokens_of used t)

-- the place that an accepted packet names is one of the tokens
pub released-place : (c : ReleaseToken) (live made used : ℕ) (l t : List ℕ) (x : Released) → Releases c live made used l t x → x.applied.verdict ≡ Ok tt → x.place < used
released-place c live made used l t x r e = r.place e

broken-not-fine : (x : Verdict) (y : _) → x ≡ Err y → x ≡ Ok tt → ⊥
broken-not-fine x y e f = let z : ◌≡◌ {A = ℕ} 0 1 = cc in omega arith

module _ (c : ReleaseToken) (live made used : ℕ) (l t : List ℕ) (room : ((live ≤ most) × (made ≤ most)) × (used ≤ most_tokens)) (o : Option Bound) (at : BindsToken live l used t c.token o) where
  pub releases-nothing : (a : Applied) → o ≡ None → a ≡ refused_with UnboundToken live made → Releases c live made used l t (record { applied = a; place = 0 })
  unfolding on_release_packet tokens_after
  releases-nothing a p e =
      record {
        applies = λ records. rw e (record { outcome = rw (at.missing p); live = room.0.0; made = room.0.1 });
        place = λ f. absurd (broken-not-fine a.verdict _ (ap (λ b. b.verdict) e) f);
        spends = λ records. rw e;
      }

  pub releases-one : (y : Bound) → o ≡ Some y → Releases c live made used l t (record { applied = accepted_with live made; place = y.place })
  unfolding on_release_packet tokens_after
  releases-one y p =
      let place : Some y.place ≡ place_of token_of c.token (tokens_of used t) = (at.known y p).0 in
      let first : y.place ≡ index_of token_of c.token (tokens_of used t) = (place-some token_of c.token y.place (tokens_of used t) place).0 in
      record {
        applies = λ records. record { outcome = rw (at.here y p); live = room.0.0; made = room.0.1 };
        place = λ f. token-place used c.token t (Some y.place) place y.place refl;
        spends = λ records. rw (token-at used c.token t (Some y.place) place y.place refl, ← first);
      }

pub ruleset releasing = (releases-nothing, releases-one, rules)
