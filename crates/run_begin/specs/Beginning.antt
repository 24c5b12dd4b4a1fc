-- What the beginning of a submission asks: a law for each way out, by the words spelled out. Assumes nothing.
use Rattle.std.specs.Prelude.{◌≡◌, List, [], ℕ, ◌≤◌, ◌<◌, length, get_or, set}
use Rattle.std.proofs.Common.{ap, ◌∙◌, arith, rules}
use borrow.Author.Tests.{lt-ltb, le-ltb}
use Rattle.rules.specs.Numbers.{most}
use Rattle.rules.specs.State.{World, working}
use Rattle.rules.specs.Layouts.{stream_header_size}
use Rattle.rules.specs.Packets.{at_first}
use Rattle.rules.specs.State.Work.{entries}
use Rattle.rules.specs.Steps.{packets_at}
use Rattle.rules.specs.declared.Job.{Job}
use Rattle.rules.specs.declared.Opened.{Opened}
use Rattle.rows.specs.Rows.{table-zero}
use Rattle.kept_entries.specs.Views.{entry_of, entries_of}
use Rattle.run_state.specs.Views.{small_in, opened_in, world_in, bare_in, sides_in}
use Rattle.run_state.specs.Reading.{flag-as, small-as, count-as, none_kept, none_made}
use Rattle.run_state.specs.Spelled.{spell}
use Rattle.run_begin.specs.Views.{Begins, StoresJob, StoresOpened, Starts}

-- ---- begin_packets

module _ (s : List ℕ) (kept size n : ℕ) (long : length s ≡ 36) (few : kept ≤ most) (is-n : (n ≡ kept) × (n < 18446744073709551616)) (is-size : size ≡ small_in (get_or s 22 0)) where
  -- with no word left of the table
  abbrev begun : List ℕ → List ℕ
  begun w = set (set (set (set (set (set (set (set (set (set w 18 0) 19 0) 20 0) 24 n) 26 (get_or w 25 0)) 27 0) 29 0) 31 0) 33 (get_or w 32 0)) 35 0

  pub begins-more : 24 < size → Begins s kept (set (set (set (set (set (set (set (set (set (set (set (set s 18 0) 19 0) 20 0) 24 n) 26 (get_or s 25 0)) 27 0) 29 0) 31 0) 33 (get_or s 32 0)) 35 0) 23 24) 13 2)
  unfolding world_in
  begins-more h =
      record {
        world = λ e r x dt ot c m. spell (λ w. world_in (set (set (begun w) 23 24) 13 2) e r x dt ot c m) s long ∙ rw (count-as n kept is-n few, none_made c, ← is-size, lt-ltb 24 size h);
        side = spell (λ w. sides_in (set (set (begun w) 23 24) 13 2)) s long;
      }

  -- and none of the stream
  abbrev begun_none : List ℕ → List ℕ
  begun_none w = set (set (set (set (begun w) 21 0) 22 0) 23 0) 13 3

  pub begins-none : size ≤ 24 → Begins s kept (set (set (set (set (set (set (set (set (set (set (set (set (set (set s 18 0) 19 0) 20 0) 24 n) 26 (get_or s 25 0)) 27 0) 29 0) 31 0) 33 (get_or s 32 0)) 35 0) 21 0) 22 0) 23 0) 13 3)
  unfolding world_in
  begins-none h =
      record {
        world = λ e r x dt ot c m. spell (λ w. world_in (begun_none w) e r x dt ot c m) s long ∙ rw (count-as n kept is-n few, none_made c, ← is-size, le-ltb 24 size h);
        side = spell (λ w. sides_in (begun_none w)) s long;
      }

pub ruleset beginning = (begins-more, begins-none, rules)

-- ---- store_job

abbrev pub jobbed : Job → ℕ → ℕ → List ℕ → List ℕ
jobbed j head silent w = set (set (set (set w 14 j.ring) 15 head) 16 j.signal) 17 silent

-- ---- store_opened

module _ (o : Opened) (n stride size : ℕ) where
  abbrev opened : List ℕ → List ℕ
  opened w = set (set (set (set (set (set (set w 13 1) 18 o.table.gpa) 19 n) 20 stride) 21 o.stream.gpa) 22 size) 24 0

  pub stores-opened : (s s₁ : List ℕ) → length s₁ ≡ 36 → StoresJob s o.job s₁
      → (n ≡ o.table.count) × (n < 4294967296) → (stride ≡ o.table.stride) × (stride < 4294967296) → (size ≡ o.stream.size) × (size < 4294967296)
      → StoresOpened s o (set (set (set (set (set (set (set s₁ 13 1) 18 o.table.gpa) 19 n) 20 stride) 21 o.stream.gpa) 22 size) 24 0)
  unfolding world_in
  stores-opened s s₁ long k c d e =
      record {
        opened = is-opened;
        bare = λ r dt m. spell (λ w. bare_in (opened w) r dt m) s₁ long ∙ k.bare r dt m;
        world = λ x r h dt ot y m.
            spell (λ w. world_in (opened w) x r h dt ot y m) s₁ long
            ∙ rw (small-as n o.table.count c, small-as stride o.table.stride d, small-as size o.stream.size e, k.job, none_kept x)
            (ap (working (entries o [])) (k.bare r dt m));
        side = spell (λ w. sides_in (opened w)) s₁ long ∙ k.side;
      }
    where
      is-opened : opened_in (opened s₁) ≡ o
      is-opened = spell (λ w. opened_in (opened w)) s₁ long ∙ rw (small-as n o.table.count c, small-as stride o.table.stride d, small-as size o.stream.size e, k.job)

pub ruleset storing_opened = (stores-opened, rules)

-- ---- start

module _ (s s₁ : List ℕ) (o : Opened) (k : StoresOpened s o s₁) where
  pub starts-entries : (o.table.count ≡ 0 → ⊥) → Starts s o s₁
  starts-entries n =
      record {
        world = λ e r h dt ot c m. k.world e r h dt ot c m ∙ rw (lt-ltb 0 o.table.count (omega arith));
        side = k.side;
      }

  -- with its first packet next, by what was opened
  abbrev begun_with : List ℕ → Opened → World → World
  begun_with e p w = working (packets_at p.job p.stream stream_header_size (entries_of 0 e) (at_first w.state.belongings)) w

  pub starts-packets : (s' : List ℕ) → o.table.count ≡ 0 → Begins s₁ 0 s' → Starts s o s'
  starts-packets s' z b =
      record {
        world = λ e r h dt ot c m.
            b.world e r h dt ot c m
            ∙ (ap (λ (p : Opened). begun_with e p (bare_in s₁ r dt m)) k.opened
            ∙ (ap (begun_with e o) (k.bare r dt m) ∙ rw (z, table-zero entry_of 4 e)));
        side = b.side ∙ k.side;
      }

pub ruleset starting = (starts-entries, starts-packets, rules)
