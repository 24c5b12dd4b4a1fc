-- A turn of a phase: what its code asks. Assumes nothing.
use Rattle.std.specs.Prelude.{◌≡◌, Bool, get_or, None, Some}
use Rattle.std.proofs.Math.Path.{refl, ap}
use Rattle.std.proofs.Common.{◌∙◌, arith, rules}
use mathlib.Core.List.{List}
use Prim.Native.Nat.{ℕ, ◌≤◌, ◌<◌}
use Rattle.machine.specs.Machine.{pick}
use Rattle.machine.specs.Within.{turned-phase, turned-part}
use Rattle.rules.specs.Numbers.{most}
use Rattle.rules.specs.Stream.{stream_bytes}
use Rattle.rules.specs.State.{working}
use Rattle.rules.specs.State.Work.{entries, packets}
use Rattle.rules.specs.Steps.{go, step}
use Rattle.rules.specs.declared.Table.{Table}
use Rattle.rules.specs.declared.Stream.{Stream}
use Rattle.rules.specs.declared.Token.{Token}
use Rattle.packet_ranges.specs.Views.{RowsExist}
use Rattle.run_entries.specs.declared.ending.Ending.TheVariants.{Going}
use Rattle.run_entries.specs.Entries.{reading_goes, read_step, EntriesRan, from_row, out_of as entriesOut}
use Rattle.run_entries.specs.declared.entries.EntriesRun.{EntriesRun}
use Rattle.run_packets.specs.Playing.{Playing, playing_goes, PacketsRan, packet_tables, playing, shared_step}
use Rattle.run_packets.specs.declared.PacketsPlace.{PacketsPlace}
use Rattle.run_packets.specs.declared.PacketsRun.{PacketsRun}
use Rattle.run_packets.specs.declared.Left.{Left}
use Rattle.run_state.specs.Views.{set_in, small_in, count_in, tag_in, job_in, table_in, stream_in, opened_in, place_in, kept_in, held_tokens_in, held_in, world_in, bare_in, Sides, sides_in, token_side_in}
use Rattle.run_shared.specs.Shared.{SameButTokens, SharesSided}
use Rattle.run_after_phase.specs.Views.{laid, LandsEntries, played, LandsPackets}
use Rattle.packet_held.specs.declared.held.Held.{Held}
use Rattle.run_turns.specs.Views.{tables, world_with, HeldIn, playing_in, step_in, PlaysWords, PlaysShared, EntriesTurn, PacketsTurn}
use Rattle.run_turns.specs.Phases.{entries-go, entries-step, packets-go, packets-step}

-- a device in some work is the bare one with that work
module _ (s e r h dt ot c m : List ℕ) where
  works-entries : tag_in s ≡ 1 → world_in s e r h dt ot c m ≡ working (entries (opened_in s) (kept_in s e)) (bare_in s r dt m)
  unfolding world_in
  works-entries i = rw i

  works-packets : tag_in s ≡ 2 → world_in s e r h dt ot c m ≡ working (packets (job_in s) (stream_in s) (place_in s) (kept_in s e) (held_in s r h dt ot c)) (bare_in s r dt m)
  unfolding world_in
  works-packets i = rw i

-- the same table of tokens is the device's
pub same-side : (s s' : List ℕ) → sides_in s' ≡ sides_in s → token_side_in s' ≡ token_side_in s
same-side s s' e = ap (λ (k : Sides). set_in k.tokens) e

-- ---- entries_turn

module _ (s s' m e m' e' : List ℕ) (left n : ℕ) (t : Table) (x : EntriesRun) (pre : (tag_in s ≡ 1) × (0 < left)) where
  pub entries-turned : t ≡ table_in s → (n ≡ count_in (get_or s 24 0)) × (n ≤ most) → EntriesRan m t n e left x e' → LandsEntries s x.place m s' m' → EntriesTurn s left m e x.units s' m' e'
  unfolding world_with
  entries-turned is-t is-n ran lands =
      record {
        turn = λ on r h ft st c.
            let dt : List ℕ = pick (token_side_in s) st ft in
            let ot : List ℕ = pick (token_side_in s) ft st in
            let ends : world_in s' e' r h (pick (token_side_in s') st ft) (pick (token_side_in s') ft st) c m' ≡ world_in s' e' r h dt ot c m' =
            ap (λ b. world_in s' e' r h (pick b st ft) (pick b ft st) c m') (same-side s s' lands.side) in
            record {
              turned =
                  turned-phase go step reading_goes (read_step m (table_in s)) (laid (bare_in s r dt m) (opened_in s)) (entries-go (bare_in s r dt m) on (opened_in s)) (entries-step (bare_in s r dt m) on (opened_in s)) left
                  (world_in s e r h dt ot c m) (world_in s' e' r h (pick (token_side_in s') st ft) (pick (token_side_in s') ft st) c m') (from_row (count_in (get_or s 24 0)) e) (entriesOut x e') pre.1 refl (works-entries s e r h dt ot c m pre.0)
                  (rw (is-t, is-n.0) at ran.run) (ends ∙ lands.world e' r h dt ot c);
              side = lands.side;
            };
      }

pub entries-land : (s m e e' : List ℕ) (left n : ℕ) (t : Table) (x : EntriesRun) → (tag_in s ≡ 1) × (0 < left) → EntriesRan m t n e left x e' → (tag_in s ≡ 1) × (x.place.kept ≤ most)
entries-land s m e e' left n t x pre ran = (pre.0, ran.room)

pub ruleset turning_entries = (entries-turned, entries-land, rules)

-- ---- held_in

pub held-is : (s : List ℕ) (live made target : ℕ) (copied : Bool) → (live ≡ count_in (get_or s 26 0)) × (live ≤ most) → (made ≡ count_in (get_or s 27 0)) × (made ≤ most)
    → copied ≡ set_in (get_or s 29 0) → target ≡ small_in (get_or s 31 0)
    → HeldIn s (record { live = live; made = made; copied = copied; target = target })
held-is s live made target copied a b c d = record { held = λ r h l ts. rw (a.0, b.0, c, d); live = a.1; made = b.1 }

pub ruleset finding_held = (held-is, rules)

-- ---- play_words

module _ (s m e r h c h' c' : List ℕ) (left n at : ℕ) (k : Held) (t : Stream) (x : PacketsRun) where
  pub plays-words : t ≡ stream_in s → (n ≡ count_in (get_or s 24 0)) × (n ≤ most) → at ≡ get_or s 23 0 → HeldIn s k
      → PacketsRan (stream_bytes m t) t.size n (packet_tables e r h c) (record { at = at; held = k; ending = Going }) left x (packet_tables e r h' c')
      → PlaysWords s left m (packet_tables e r h c) x (packet_tables e r h' c')
  plays-words is-t is-n is_at is_held_lem ran =
      let from : (ts : List Token) → playing (record { at = at; held = k; ending = Going }) (packet_tables e r h c) ts ≡ playing_in s (packet_tables e r h c) ts = λ ts. rw (is_at, is_held_lem.held r h c ts) in
      record {
        run = λ z ts. rw (is-t, is-n.0, from ts) at (ran.run z ts);
        left = λ y z ts. rw (is-t, is-n.0, from ts) at (ran.left y z ts);
        some = ran.some;
        live = ran.room.live;
        made = ran.room.made;
      }

pub packets-room : (s : List ℕ) (n y : ℕ) (k : Held) → (n ≡ count_in y) × (n ≤ most) → HeldIn s k → RowsExist n k.live k.made
packets-room s n y k a b = record { entries = a.1; live = b.live; made = b.made }

pub ruleset playing_words = (plays-words, packets-room, rules)

-- ---- play_shared

same-words : (s : List ℕ) → SameButTokens s s
same-words s = record { tag = refl; bare = λ r dt m. refl; job = refl; stream = refl; kept = λ e. refl; side = refl }

module _ (s m e r h ft st c h₁ c₁ : List ℕ) (left : ℕ) (x : PacketsRun) (pos : 0 < left) (ran : PlaysWords s left m (packet_tables e r h c) x (packet_tables e r h₁ c₁)) where
  abbrev the_device : List ℕ
  the_device = pick (token_side_in s) st ft

  abbrev the_own : List ℕ
  the_own = pick (token_side_in s) ft st

  pub plays-plain : x.left ≡ None → PlaysShared s left m (tables e r h ft st c) x.place x.units s (tables e r h₁ ft st c₁)
  plays-plain z =
      record {
        played =
            turned-phase playing_goes (step_in s e m) playing_goes (step_in s e m) (λ (p : Playing). p) (λ p g. g) (λ p g. refl) left (playing_in s (packet_tables e r h c) (held_tokens_in s the_device the_own))
            (playing x.place (packet_tables e r h₁ c₁) (held_tokens_in s the_device the_own)) (playing_in s (packet_tables e r h c) (held_tokens_in s the_device the_own))
            (record { state = playing x.place (packet_tables e r h₁ c₁) (held_tokens_in s the_device the_own); units = x.units }) pos refl refl (ran.run z (held_tokens_in s the_device the_own)) refl;
        device = refl;
        same = same-words s;
        live = ran.live;
        made = ran.made;
      }

  pub plays-left : (y : Left) (end : ℕ) (q : PacketsPlace) (s' h' ft' st' : List ℕ) → x.left ≡ Some y → end ≡ (stream_in s).size → SharesSided end r x.place y s h₁ ft st q s' h' ft' st'
      → PlaysShared s left m (tables e r h ft st c) q x.units s' (tables e r h' ft' st' c₁)
  plays-left y end q s' h' ft' st' z is-end shared =
      let ts : List Token = held_tokens_in s the_device the_own in
      let stepped : playing q (packet_tables e r h' c₁) (held_tokens_in s' the_device (pick (token_side_in s) ft' st')) ≡ shared_step (kept_in s e) end x.place y (packet_tables e r h₁ c₁) ts = shared.shares.step (kept_in s e) e c₁ in
      let runs = ran.left y z ts in
      record {
        played = record {
          room = (ran.some y z).1;
          runs = rw (stepped, is-end) runs;
          stops = λ n. absurd (omega (arith, (ran.some y z).0));
        };
        device = shared.device;
        same = shared.shares.same;
        live = shared.shares.live;
        made = shared.shares.made;
      }

  pub left-room : (x.place.held.live ≤ most) × (x.place.held.made ≤ most)
  left-room = (ran.live, ran.made)

pub ruleset playing_shared = (plays-plain, plays-left, left-room, rules)

-- ---- packets_turn

module _ (s s₁ s' m e r h ft st c m' h' ft' st' c' : List ℕ) (left u : ℕ) (q : PacketsPlace) (pre : (tag_in s ≡ 2) × (0 < left)) (played-out : PlaysShared s left m (tables e r h ft st c) q u s₁ (tables e r h' ft' st' c')) where
  pub packets-turned : LandsPackets s₁ q m s' m' → PacketsTurn s left m (tables e r h ft st c) u s' m' (tables e r h' ft' st' c')
  unfolding world_with
  packets-turned lands =
      let dt : List ℕ = pick (token_side_in s) st ft in
      let ot : List ℕ = pick (token_side_in s) ft st in
      let ot' : List ℕ = pick (token_side_in s) ft' st' in
      let same = played-out.same in
      let side : sides_in s' ≡ sides_in s = lands.side ∙ same.side in
      let ends : world_in s' e r h' (pick (token_side_in s') st' ft') (pick (token_side_in s') ft' st') c' m' ≡ world_in s' e r h' dt ot' c' m' =
      ap (λ b. world_in s' e r h' (pick b st' ft') (pick b ft' st') c' m') (same-side s s' side) ∙ ap (λ l. world_in s' e r h' l ot' c' m') played-out.device in
      let landed : world_in s' e r h' dt ot' c' m' ≡ played (bare_in s r dt m) (job_in s) (stream_in s) (kept_in s e) (playing q (packet_tables e r h' c') (held_tokens_in s₁ dt ot')) =
      rw (same.bare r dt m, same.job, same.stream, same.kept e) at (lands.world e r h' dt ot' c') in
      record {
        turn = λ on.
            record {
              turned =
                  turned-part go step playing_goes (step_in s e m) (played (bare_in s r dt m) (job_in s) (stream_in s) (kept_in s e)) (packets-go (bare_in s r dt m) on (job_in s) (stream_in s) (kept_in s e)) (packets-step (bare_in s r dt m) on (job_in s) (stream_in s) (kept_in s e)) left
                  (world_in s e r h dt ot c m) (world_in s' e r h' (pick (token_side_in s') st' ft') (pick (token_side_in s') ft' st') c' m') (playing_in s (packet_tables e r h c) (held_tokens_in s dt ot)) (playing q (packet_tables e r h' c') (held_tokens_in s₁ dt ot')) u
                  refl (works-packets s e r h dt ot c m pre.0) (ends ∙ landed) played-out.played;
              side = side;
            };
      }

  pub packets-land : (tag_in s₁ ≡ 2) × (q.held.live ≤ most) × (q.held.made ≤ most)
  packets-land = (played-out.same.tag ∙ pre.0, played-out.live, played-out.made)

pub ruleset turning_packets = (packets-turned, packets-land, rules)
