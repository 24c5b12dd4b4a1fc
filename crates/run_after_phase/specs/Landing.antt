-- Where a phase has come to: what its code asks. Assumes nothing.
use Rattle.std.specs.Prelude.{◌≡◌, List, ℕ, ◌≤◌, ◌<◌, length, set}
use Rattle.std.proofs.Math.Path.{refl}
use Rattle.std.proofs.Common.{sym, ap, ◌∙◌, rules}
use Rattle.rules.specs.Numbers.{most}
use Rattle.rules.specs.Judging.{fault_at, error_number}
use Rattle.rules.specs.Judging.Finding.{broken}
use Rattle.rules.specs.Settle.{settled_keeping}
use Rattle.rules.specs.declared.Fault.{Fault}
use Rattle.rules.specs.declared.Refusal.{Refusal}
use Rattle.rows.specs.Rows.{length-table}
use Rattle.kept_entries.specs.Views.{entry_of}
use Rattle.run_entries.specs.declared.ending.Ending.{Ending}
use Rattle.run_entries.specs.declared.ending.Ending.TheVariants.{Going, Done, Broken, Left}
use Rattle.run_entries.specs.Entries.{reading_of}
use Rattle.run_entries.specs.declared.entries.EntriesPlace.{EntriesPlace}
use Rattle.run_packets.specs.Playing.{packet_tables, playing}
use Rattle.run_packets.specs.declared.PacketsPlace.{PacketsPlace}
use Rattle.run_state.specs.Views.{flag_of, small_in, tag_in, job_in, stream_in, opened_in, kept_in, held_tokens_in, world_in, bare_in, sides_in}
use Rattle.run_state.specs.Reading.{flag-as, small-as, count-as}
use Rattle.run_state.specs.Spelled.{spell}
use Rattle.run_settle.specs.Views.{Refuses}
use Rattle.run_begin.specs.Views.{Begins}
use Rattle.run_after_phase.specs.Views.{unruled_at, laid_on, played_on, LandsEntries, LandsPackets}

-- ---- fault

pub fault-is : (why : Refusal) (at x place code : ℕ) → code ≡ error_number why → (x ≡ at) × (x < 18446744073709551616) → place ≡ small_in x → record { code = code; place = place } ≡ fault_at at why
fault-is why at x place code q is cut = rw (q, cut, is.0)

-- ---- unruled

pub unruled-is : (at x place : ℕ) → (x ≡ at) × (x < 18446744073709551616) → place ≡ small_in x → record { code = 0; place = place } ≡ unruled_at at
unruled-is at x place is cut = rw (cut, is.0)

pub ruleset faulting = (fault-is, unruled-is, rules)

-- ---- land_entries

module _ (s : List ℕ) (p : EntriesPlace) (m : List ℕ) (pre : (tag_in s ≡ 1) × (p.kept ≤ most)) where
  -- a device whose phase has this ending
  ended : (k : Ending) → p.ending ≡ k → (e r dt : List ℕ) → laid_on (bare_in s r dt m) (opened_in s) (reading_of p e).kept k ≡ laid_on (bare_in s r dt m) (opened_in s) (reading_of p e).kept (reading_of p e).ending
  ended k q e r dt = ap (laid_on (bare_in s r dt m) (opened_in s) (reading_of p e).kept) (sym q)

  pub lands-going : (x : ℕ) → p.ending ≡ Going → length s ≡ 36 → (x ≡ p.kept) × (x < 18446744073709551616) → LandsEntries s p m (set s 24 x) m
  unfolding world_in
  lands-going x q long is =
      record {
        world = λ e r h dt ot c. spell (λ w. world_in (set w 24 x) e r h dt ot c m) s long ∙ rw (pre.0, count-as x p.kept is pre.1) (ended Going q e r dt);
        side = spell (λ w. sides_in (set w 24 x)) s long;
      }

  pub lands-done : (s' : List ℕ) → p.ending ≡ Done → Begins s p.kept s' → LandsEntries s p m s' m
  lands-done s' q b = record { world = λ e r h dt ot c. b.world e r h dt ot c m ∙ ended Done q e r dt; side = b.side }

  -- what it is refused with, by the place that it has come to
  lands-refused : (s' m' : List ℕ) (x : Fault) (k : Ending) (why : ℕ → Fault)
      → ((e r dt : List ℕ) → settled_keeping (job_in s) (broken (why (length (reading_of p e).kept))) (bare_in s r dt m) ≡ laid_on (bare_in s r dt m) (opened_in s) (reading_of p e).kept k)
      → p.ending ≡ k → x ≡ why p.kept → Refuses s m x s' m' → LandsEntries s p m s' m'
  lands-refused s' m' x k why settles q is f =
      record {
        world = λ e r h dt ot c.
            f.world e r h dt ot c
            ∙ (ap (λ y. settled_keeping (job_in s) (broken y) (bare_in s r dt m)) (is ∙ ap why (sym (length-table entry_of 4 p.kept e)))
            ∙ (settles e r dt ∙ ended k q e r dt));
        side = f.side;
      }

  pub lands-broken : (s' m' : List ℕ) (x : Fault) (why : Refusal) → p.ending ≡ Broken why → x ≡ fault_at p.kept why → Refuses s m x s' m' → LandsEntries s p m s' m'
  lands-broken s' m' x why = lands-refused s' m' x (Broken why) (λ place. fault_at place why) (λ e r dt. refl)

  pub lands-left : (s' m' : List ℕ) (x : Fault) → p.ending ≡ Left → x ≡ unruled_at p.kept → Refuses s m x s' m' → LandsEntries s p m s' m'
  lands-left s' m' x = lands-refused s' m' x Left unruled_at (λ e r dt. refl)

pub ruleset landing_entries = (lands-going, lands-done, lands-broken, lands-left, rules)

-- ---- land_packets

module _ (s : List ℕ) (p : PacketsPlace) (m : List ℕ) (pre : (tag_in s ≡ 2) × (p.held.live ≤ most) × (p.held.made ≤ most)) where
  -- a device whose phase has this ending
  played-to : (k : Ending) → p.ending ≡ k → (e r h dt ot c : List ℕ)
      → played_on (bare_in s r dt m) (job_in s) (stream_in s) (kept_in s e) (playing p (packet_tables e r h c) (held_tokens_in s dt ot)) k ≡ played_on (bare_in s r dt m) (job_in s) (stream_in s) (kept_in s e) (playing p (packet_tables e r h c) (held_tokens_in s dt ot)) (playing p (packet_tables e r h c) (held_tokens_in s dt ot)).ending
  played-to k q e r h dt ot c = ap (played_on (bare_in s r dt m) (job_in s) (stream_in s) (kept_in s e) (playing p (packet_tables e r h c) (held_tokens_in s dt ot))) (sym q)

  pub plays-broken : (s' m' : List ℕ) (x : Fault) (why : Refusal) → p.ending ≡ Broken why → x ≡ fault_at p.at why → Refuses s m x s' m' → LandsPackets s p m s' m'
  plays-broken s' m' x why q is f =
      record {
        world = λ e r h dt ot c. f.world e r h dt ot c ∙ rw is (played-to (Broken why) q e r h dt ot c);
        side = f.side;
      }

  pub plays-left : (s' m' : List ℕ) (x : Fault) → p.ending ≡ Left → x ≡ unruled_at p.at → Refuses s m x s' m' → LandsPackets s p m s' m'
  plays-left s' m' x q is f =
      record {
        world = λ e r h dt ot c. f.world e r h dt ot c ∙ rw is (played-to Left q e r h dt ot c);
        side = f.side;
      }

  module _ (long : length s ≡ 36) (y z o t : ℕ) (is_y : (y ≡ p.held.live) × (y < 18446744073709551616)) (is-z : (z ≡ p.held.made) × (z < 18446744073709551616)) (is-o : o ≡ flag_of p.held.copied) (is-t : (t ≡ p.held.target) × (t < 4294967296)) where
    abbrev onward_words : ℕ → List ℕ → List ℕ
    onward_words x w = set (set (set (set (set w 23 x) 26 y) 27 z) 29 o) 31 t

    abbrev waiting_words : List ℕ → List ℕ
    waiting_words w = set (set (set (set (set (set (set (set w 13 3) 21 0) 22 0) 23 0) 26 y) 27 z) 29 o) 31 t

    pub plays-going : (x : ℕ) → p.ending ≡ Going → (x ≡ p.at) × (x < 18446744073709551616) → LandsPackets s p m (set (set (set (set (set s 23 x) 26 y) 27 z) 29 o) 31 t) m
    unfolding world_in
    plays-going x q is_x =
        record {
          world = λ e r h dt ot c.
              spell (λ w. world_in (onward_words x w) e r h dt ot c m) s long
              ∙ rw (pre.0, is_x.0, count-as y p.held.live is_y pre.1, count-as z p.held.made is-z pre.2, flag-as o p.held.copied is-o, small-as t p.held.target is-t) (played-to Going q e r h dt ot c);
          side = spell (λ w. sides_in (onward_words x w)) s long;
        }

    pub plays-done : p.ending ≡ Done → LandsPackets s p m (set (set (set (set (set (set (set (set s 13 3) 21 0) 22 0) 23 0) 26 y) 27 z) 29 o) 31 t) m
    unfolding world_in
    plays-done q =
        record {
          world = λ e r h dt ot c.
              spell (λ w. world_in (waiting_words w) e r h dt ot c m) s long
              ∙ rw (count-as y p.held.live is_y pre.1, count-as z p.held.made is-z pre.2, flag-as o p.held.copied is-o, small-as t p.held.target is-t) (played-to Done q e r h dt ot c);
          side = spell (λ w. sides_in (waiting_words w)) s long;
        }

pub ruleset landing_packets = (plays-broken, plays-left, plays-going, plays-done, rules)
