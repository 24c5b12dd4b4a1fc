-- The stream's part of the memory, and the phases as small machines within the large one. Assumes nothing.
use Rattle.std.proofs.Math.Path.{◌≡◌, refl}
use Rattle.std.proofs.Common.{sym, ◌∙◌, arith, rules, length-drop, drop_of_length-le, take_all, Fits}
use Rattle.std.specs.Prelude.{Bool, List, [], ℕ, ◌+◌, ◌-◌, ◌^◌, ◌≤◌, ◌<◌, ltb, length, take, drop, Err, Ok}
use Rattle.std.proofs.Math.Bool.{true, false}
use Rattle.std.proofs.Math.Seq.{take-nil}
use Rattle.std.specs.Int.{w64}
use Rattle.machine.specs.Machine.{pick}
use Rattle.rules.specs.Judging.{at_place, Verdict}
use Rattle.rules.specs.Layouts.{entry, stream_header_size}
use Rattle.rules.specs.Table.{entry_place, entry_rules, keep, in_reach, take_entry}
use Rattle.rules.specs.Stream.{stream_bytes}
use Rattle.rules.specs.Packets.{Progress, at_first, take_packet}
use Rattle.rules.specs.State.{Work, World, working}
use Rattle.rules.specs.State.Work.{entries, packets, waiting}
use Rattle.rules.specs.Settle.{settled}
use Rattle.rules.specs.Steps.{go, step, packets_at, entry_step, after_entry, packet_step, after_packet, next_place}
use Rattle.rules.specs.declared.Entry.{Entry}
use Rattle.rules.specs.declared.Job.{Job}
use Rattle.rules.specs.declared.Table.{Table}
use Rattle.rules.specs.declared.Refusal.{Refusal}
use Rattle.rules.specs.declared.Stream.{Stream}
use Rattle.rules.specs.declared.Opened.{Opened}
use Rattle.rules.specs.declared.Refusal.TheVariants.{BadEntry}
use Rattle.run_entries.specs.Ending.{onward}
use Rattle.run_entries.specs.declared.ending.Ending.{Ending}
use Rattle.run_entries.specs.declared.ending.Ending.TheVariants.{Going, Done, Broken, Left}
use Rattle.run_entries.specs.Entries.{Reading, reading_goes, read_on, read_step}
use Rattle.run_packets.specs.Playing.{Playing, playing_goes, play_on, play_step, PacketsRan, packet_tables}
use Rattle.run_packets.specs.declared.PacketsPlace.{PacketsPlace}
use Rattle.run_packets.specs.declared.PacketsRun.{PacketsRun}
use Rattle.run_after_phase.specs.Views.{laid_on, laid, played_on, played}

-- ---- stream_part

module _ (m : List ℕ) (s : Stream) (from size : ℕ) (at : from ≡ s.gpa) (long : size ≡ s.size) where
  pub part_none : length m < from → take (length m - length m) (drop (length m) m) ≡ stream_bytes m s
  part_none h =
      let gone : drop (length m) m ≡ [] = drop_of_length-le m {i = length m} (omega arith) in
      let beyond : drop s.gpa m ≡ [] = drop_of_length-le m {i = s.gpa} (omega arith) in
      rw (gone, beyond) (take-nil (length m - length m) ∙ sym (take-nil s.size))

  module _ (h : from ≤ length m) where
    rest : length (drop from m) ≡ length m - from
    rest = length-drop from m

    pub part-short : length m - from < size → take (length m - from) (drop from m) ≡ stream_bytes m s
    part-short k =
        take_all (length m - from) (drop from m) (omega (arith, rest))
        ∙ (sym (take_all size (drop from m) (omega (arith, rest))) ∙ rw (at, long))

    pub part-fits : size ≤ length m - from → length m < 2 ^ 64 → Fits w64 (from + size)
    part-fits k f = record { fits = omega arith }

    pub part-whole : (to : ℕ) → size ≤ length m - from → to ≡ from + size → take (to - from) (drop from m) ≡ stream_bytes m s
    part-whole to k e =
        let n : to - from ≡ size = omega arith in
        rw (n, at, long)

pub ruleset parting = (part_none, part-short, part-fits, part-whole, rules)

-- ---- play

pub played-part : (m b : List ℕ) (t : Stream) (end n : ℕ) (e : List ℕ) (p : PacketsPlace) (r l c : List ℕ) (left : ℕ) (x : PacketsRun) (l' c' : List ℕ) → b ≡ stream_bytes m t → end ≡ t.size
    → PacketsRan b end n (packet_tables e r l c) p left x (packet_tables e r l' c') → PacketsRan (stream_bytes m t) t.size n (packet_tables e r l c) p left x (packet_tables e r l' c')
played-part m b t end n e p r l c left x l' c' same long h = rw (← same, ← long) h

pub ruleset playing = (played-part, rules)

-- ---- the phases within the device

-- an entry that is refused is not kept, so as many are kept as its index says
refused-not-kept : (m : List ℕ) (t : Table) (kept : List Entry) (r : Refusal) → (take_entry m t kept).verdict ≡ Err r → length (take_entry m t kept).kept ≡ length kept
unfolding take_entry
refused-not-kept m t kept r = by_tests (in_reach m t (length kept)) (entry_rules (length m) kept (entry m (entry_place t (length kept))))
  where
    by_tests : (b : Bool) (v : Verdict)
        → (pick b (keep v kept (entry m (entry_place t (length kept)))) (record { verdict = Err BadEntry; kept = kept })).verdict ≡ Err r
        → length (pick b (keep v kept (entry m (entry_place t (length kept)))) (record { verdict = Err BadEntry; kept = kept })).kept ≡ length kept
    by_tests true (Ok _) h = absurd (let z : ◌≡◌ {A = ℕ} 0 1 = cc in omega arith)
    by_tests true (Err x) h = refl
    by_tests false v h = refl

module _ (w : World) (on : w.state.regs.enabled ≡ true) (o : Opened) where
  pub entries-go : (p : Reading) → reading_goes p ≡ true → go (laid w o p) ≡ true
  unfolding go
  entries-go p g = by-ending p.ending g
    where
      by-ending : (e : Ending) → onward e ≡ true → go (laid_on w o p.kept e) ≡ true
      by-ending Going h = rw on
      by-ending Done h = absurd (let z : ◌≡◌ {A = ℕ} 0 1 = cc in omega arith)
      by-ending (Broken r) h = absurd (let z : ◌≡◌ {A = ℕ} 0 1 = cc in omega arith)
      by-ending Left h = absurd (let z : ◌≡◌ {A = ℕ} 0 1 = cc in omega arith)

  read-lays : (k : Work) (n : ℕ) (kept : List Entry) (v : Verdict) → ((r : Refusal) → v ≡ Err r → length kept ≡ n)
      → after_entry (working k w) o kept (at_place n v) ≡ laid w o (read_on o.table.count v kept)
  unfolding settled
  read-lays k n kept (Ok _) same = by_test (ltb (length kept) o.table.count)
    where
      by_test : (b : Bool) → working (pick b (entries o kept) (packets_at o.job o.stream stream_header_size kept (at_first w.state.belongings))) (working k w) ≡ laid_on w o kept (pick b Going Done)
      by_test true = refl
      by_test false = refl
  read-lays k n kept (Err r) same = rw (same r refl)

  pub entries-step : (p : Reading) → reading_goes p ≡ true → step (laid w o p) ≡ laid w o (read_step w.mem o.table p)
  unfolding step entry_step read_step
  entries-step p g = by-ending p.ending g
    where
      by-ending : (e : Ending) → onward e ≡ true
          → step (laid_on w o p.kept e) ≡ laid w o (read_on o.table.count (take_entry w.mem o.table p.kept).verdict (take_entry w.mem o.table p.kept).kept)
      by-ending Going h =
          read-lays (entries o p.kept) (length p.kept) (take_entry w.mem o.table p.kept).kept (take_entry w.mem o.table p.kept).verdict
          (refused-not-kept w.mem o.table p.kept)
      by-ending Done h = absurd (let z : ◌≡◌ {A = ℕ} 0 1 = cc in omega arith)
      by-ending (Broken r) h = absurd (let z : ◌≡◌ {A = ℕ} 0 1 = cc in omega arith)
      by-ending Left h = absurd (let z : ◌≡◌ {A = ℕ} 0 1 = cc in omega arith)

module _ (w : World) (on : w.state.regs.enabled ≡ true) (j : Job) (t : Stream) (es : List Entry) where
  pub packets-go : (p : Playing) → playing_goes p ≡ true → go (played w j t es p) ≡ true
  unfolding go
  packets-go p g = by-ending p.ending g
    where
      by-ending : (e : Ending) → onward e ≡ true → go (played_on w j t es p e) ≡ true
      by-ending Going h = rw on
      by-ending Done h = absurd (let z : ◌≡◌ {A = ℕ} 0 1 = cc in omega arith)
      by-ending (Broken r) h = absurd (let z : ◌≡◌ {A = ℕ} 0 1 = cc in omega arith)
      by-ending Left h = absurd (let z : ◌≡◌ {A = ℕ} 0 1 = cc in omega arith)

  play-lays : (k : Work) (at next : ℕ) (h : Progress) (v : Verdict) → after_packet (working k w) j t next es h (at_place at v) ≡ played w j t es (play_on at next t.size h v)
  unfolding settled
  play-lays k at next h (Ok _) = by_test (ltb next t.size)
    where
      by_test : (b : Bool) → working (pick b (packets j t next es h) (waiting j es h)) (working k w)
          ≡ played_on w j t es (record { at = next; held = h; ending = pick b Going Done }) (pick b Going Done)
      by_test true = refl
      by_test false = refl
  play-lays k at next h (Err r) = refl

  -- what is left of the stream
  abbrev left_at : Playing → List ℕ
  left_at p = drop p.at (stream_bytes w.mem t)

  pub packets-step : (p : Playing) → playing_goes p ≡ true → step (played w j t es p) ≡ played w j t es (play_step es (stream_bytes w.mem t) t.size p)
  unfolding step packet_step play_step
  packets-step p g = by-ending p.ending g
    where
      by-ending : (e : Ending) → onward e ≡ true
          → step (played_on w j t es p e) ≡ played w j t es (play_on p.at (next_place p.at (left_at p)) t.size (take_packet es p.held (left_at p)).held (take_packet es p.held (left_at p)).verdict)
      by-ending Going h = play-lays (packets j t p.at es p.held) p.at (next_place p.at (left_at p)) (take_packet es p.held (left_at p)).held (take_packet es p.held (left_at p)).verdict
      by-ending Done h = absurd (let z : ◌≡◌ {A = ℕ} 0 1 = cc in omega arith)
      by-ending (Broken r) h = absurd (let z : ◌≡◌ {A = ℕ} 0 1 = cc in omega arith)
      by-ending Left h = absurd (let z : ◌≡◌ {A = ℕ} 0 1 = cc in omega arith)
