-- A packet that needs tokens, on the words: what it comes to, with the submission's tokens in the words before and after, and that all else that the
-- words mean while packets are due is as it was, but for the place and what else is held, which landing sets. Assumes nothing.
use Rattle.std.specs.Prelude.{◌≡◌, Bool, List, ℕ, ◌≤◌, ◌<◌, length, get_or, set}
use Rattle.std.proofs.Common.{◌∙◌, arith, rules, eq-eqb, ne_eqb}
use Rattle.machine.specs.Machine.{pick}
use Rattle.rules.specs.Numbers.{most, most_tokens}
use Rattle.rules.specs.Packets.{pass}
use Rattle.rules.specs.declared.Entry.{Entry}
use Rattle.packet_held.specs.Tokens.{tokens_held}
use Rattle.packet_held.specs.Held.{held_of, packet_of}
use Rattle.packet_held.specs.declared.tokens.HeldTokens.{HeldTokens}
use Rattle.packet_apply_shared.specs.Shared.{Shares}
use Rattle.packet_apply_shared.specs.declared.Shared.{Shared}
use Rattle.run_packets.specs.Playing.{packet_tables, playing, shared_step, place_after, after-plays, after-held}
use Rattle.run_packets.specs.declared.PacketsPlace.{PacketsPlace}
use Rattle.run_packets.specs.declared.Left.{Left}
use Rattle.run_state.specs.Views.{set_in, flag_of, token_count_in, tag_in, job_in, stream_in, kept_in, held_tokens_in, bare_in, sides_in, token_side_in}
use Rattle.run_state.specs.Reading.{flag-as, token-count-as}
use Rattle.run_state.specs.Spelled.{spell}
use Rattle.run_shared.specs.declared.SharedStep.{SharedStep}

-- ---- held_tokens, store_tokens

-- the submission's tokens, read from the words, whatever the rows are
pub record TokensHeldIn (s : List ℕ) (t : HeldTokens) : Type 0 where
  pub tokens : (dt ot : List ℕ) → tokens_held t dt ot ≡ held_tokens_in s dt ot
  pub room : t.used ≤ most_tokens

pub held-are : (s : List ℕ) (used : ℕ) (own : Bool) → (used ≡ token_count_in (get_or s 33 0)) × (used ≤ most_tokens) → own ≡ set_in (get_or s 35 0) → TokensHeldIn s (record { used = used; copied = own })
held-are s used own i j = record { tokens = λ dt ot. rw (i.0, j); room = i.1 }

pub ruleset finding_tokens = (held-are, rules)

-- what the words mean, but for the submission's tokens, the place and what else is held: those are set when the packets land
pub record SameButTokens (s s' : List ℕ) : Type 0 where
  pub tag : tag_in s' ≡ tag_in s
  pub bare : (r dt m : List ℕ) → bare_in s' r dt m ≡ bare_in s r dt m
  pub job : job_in s' ≡ job_in s
  pub stream : stream_in s' ≡ stream_in s
  pub kept : (e : List ℕ) → kept_in s' e ≡ kept_in s e
  pub side : sides_in s' ≡ sides_in s

-- these are the submission's tokens by the words after it
pub record StoresTokens (s : List ℕ) (t : HeldTokens) (s' : List ℕ) : Type 0 where
  pub tokens : (dt ot : List ℕ) → held_tokens_in s' dt ot ≡ tokens_held t dt ot
  pub same : SameButTokens s s'

pub stored : (s : List ℕ) (t : HeldTokens) (k i : ℕ) → length s ≡ 36 → t.used ≤ most_tokens → (k ≡ t.used) × (k < 4294967296) → i ≡ flag_of t.copied → StoresTokens s t (set (set s 33 k) 35 i)
stored s t k i long room is-k is-i =
    record {
      tokens = λ dt ot. spell (λ w. held_tokens_in (set (set w 33 k) 35 i) dt ot) s long ∙ rw (token-count-as k t.used (is-k.0, omega (arith, is-k.1)) room, flag-as i t.copied is-i);
      same = record {
        tag = spell (λ w. tag_in (set (set w 33 k) 35 i)) s long;
        bare = λ r dt m. spell (λ w. bare_in (set (set w 33 k) 35 i) r dt m) s long;
        job = spell (λ w. job_in (set (set w 33 k) 35 i)) s long;
        stream = spell (λ w. stream_in (set (set w 33 k) 35 i)) s long;
        kept = λ e. spell (λ w. kept_in (set (set w 33 k) 35 i) e) s long;
        side = spell (λ w. sides_in (set (set w 33 k) 35 i)) s long;
      };
    }

pub ruleset storing_tokens = (stored, rules)

-- ---- step_shared

-- the place after it is what the packet comes to, whatever the entries and the records are
pub record SharedStepped (end : ℕ) (r h dt ot : List ℕ) (p : PacketsPlace) (y : Left) (u : HeldTokens) (x : SharedStep) (h' ot' : List ℕ) : Type 0 where
  pub step : (es : List Entry) (e c : List ℕ) → playing x.place (packet_tables e r h' c) (tokens_held x.tokens dt ot') ≡ shared_step es end p y (packet_tables e r h c) (tokens_held u dt ot)
  pub live : x.place.held.live ≤ most
  pub made : x.place.held.made ≤ most
  pub tokens : x.tokens.used ≤ most_tokens

pub shared-stepped : (end : ℕ) (r h dt ot h' ot' : List ℕ) (p q : PacketsPlace) (y : Left) (u : HeldTokens) (x : Shared) → Shares p.held u r h dt ot (packet_of y.packet) x h' ot'
    → q ≡ place_after p.at y.next end x.changed → SharedStepped end r h dt ot p y u (record { place = q; tokens = x.tokens }) h' ot'
shared-stepped end r h dt ot h' ot' p q y u x s is =
    let held = after-held p.at y.next end x.changed (packet_tables h r h' h) (tokens_held u dt ot) in
    rw is
    (record {
      step = λ es e c.
          after-plays p.at y.next end x.changed (packet_tables e r h' c) (tokens_held x.tokens dt ot') (pass es (held_of p.held r h c (tokens_held u dt ot)) (packet_of y.packet))
          (s.verdict es c) (s.held es c);
      live = rw held s.live;
      made = rw held s.made;
      tokens = s.tokens;
    })

pub ruleset stepping_shared = (shared-stepped, rules)

-- ---- share_on

-- the place after it, with the tokens in the words, is what the packet comes to, with those in the words before
pub record SharesOn (end : ℕ) (r : List ℕ) (p : PacketsPlace) (y : Left) (s h dt ot : List ℕ) (q : PacketsPlace) (s' h' ot' : List ℕ) : Type 0 where
  pub step : (es : List Entry) (e c : List ℕ) → playing q (packet_tables e r h' c) (held_tokens_in s' dt ot') ≡ shared_step es end p y (packet_tables e r h c) (held_tokens_in s dt ot)
  pub same : SameButTokens s s'
  pub live : q.held.live ≤ most
  pub made : q.held.made ≤ most

module _ (end : ℕ) (r h dt ot h' ot' s : List ℕ) (p : PacketsPlace) (y : Left) (u : HeldTokens) (had : TokensHeldIn s u) where
  pub shared-on : (s' : List ℕ) (x : SharedStep) → SharedStepped end r h dt ot p y u x h' ot' → StoresTokens s x.tokens s' → SharesOn end r p y s h dt ot x.place s' h' ot'
  shared-on s' x stepped stores =
      record {
        step = λ es e c. rw (stores.tokens dt ot', ← had.tokens dt ot) (stepped.step es e c);
        same = stores.same;
        live = stepped.live;
        made = stepped.made;
      }

  pub shared-room : (p.held.live ≤ most) × (p.held.made ≤ most) → ((p.held.live ≤ most) × (p.held.made ≤ most)) × (u.used ≤ most_tokens)
  shared-room room = (room, had.room)

pub stepped-room : (end : ℕ) (r h dt ot h' ot' : List ℕ) (p : PacketsPlace) (y : Left) (u : HeldTokens) (x : SharedStep) → SharedStepped end r h dt ot p y u x h' ot' → x.tokens.used ≤ most_tokens
stepped-room end r h dt ot h' ot' p y u x s = s.tokens

pub ruleset sharing_on = (shared-on, shared-room, stepped-room, rules)

-- ---- share

-- by the first and the second table of tokens; the device's stays
pub record SharesSided (end : ℕ) (r : List ℕ) (p : PacketsPlace) (y : Left) (s h ft st : List ℕ) (q : PacketsPlace) (s' h' ft' st' : List ℕ) : Type 0 where
  pub shares : SharesOn end r p y s h (pick (token_side_in s) st ft) (pick (token_side_in s) ft st) q s' h' (pick (token_side_in s) ft' st')
  pub device : pick (token_side_in s) st' ft' ≡ pick (token_side_in s) st ft

module _ (end : ℕ) (r h h' s s' : List ℕ) (p q : PacketsPlace) (y : Left) (ft st : List ℕ) where
  pub first-is-device : (st' : List ℕ) → get_or s 34 0 ≡ 0 → SharesOn end r p y s h ft st q s' h' st' → SharesSided end r p y s h ft st q s' h' ft st'
  first-is-device st' z x = record { shares = rw (eq-eqb (get_or s 34 0) 0 z) x; device = rw (eq-eqb (get_or s 34 0) 0 z) }

  pub second-is-device : (ft' : List ℕ) → (get_or s 34 0 ≡ 0 → ⊥) → SharesOn end r p y s h st ft q s' h' ft' → SharesSided end r p y s h ft st q s' h' ft' st
  second-is-device ft' n x = record { shares = rw (ne_eqb (get_or s 34 0) 0 n) x; device = rw (ne_eqb (get_or s 34 0) 0 n) }

pub ruleset sharing = (first-is-device, second-is-device, rules)
