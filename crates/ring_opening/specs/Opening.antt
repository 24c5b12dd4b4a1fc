-- The opening: what each of its turns asks. Assumes nothing.
use Rattle.std.specs.Prelude.{◌≡◌, refl, Bool, true, false, not, List, ℕ, ◌+◌, ◌*◌, ◌-◌, ◌%◌, ◌^◌, ◌≤◌, ◌<◌, ltb, leb, eqb, length, Err, Ok, Result}
use Rattle.std.proofs.Common.{sym, ◌∙◌, mul-le-mul_right, mod-lt, arith, rules, Fits}
use Rattle.std.proofs.Math.Path.{ap}
use borrow.Author.Tests.{eq-eqb, ne_eqb, le-leb, lt-leb, leb-true, ltb-false, not-true, not-false}
use Rattle.std.specs.Int.{w64}
use Rattle.machine.specs.Machine.{pick}
use Rattle.widths.specs.Beyond.{leb-ltb}
use Rattle.rules.specs.Numbers.{slot_doublings, ring_magic}
use Rattle.rules.specs.Judging.{rule, only, ◌▹◌, Verdict}
use Rattle.rules.specs.Layouts.{good_version, ring_header, ring_header_size, descriptor, descriptor_size, table_header, stream_header}
use Rattle.rules.specs.Table.{header_rules, checked_table, no_table}
use Rattle.rules.specs.Stream.{stream_rules, stream_of, no_stream}
use Rattle.ring_header.specs.Header.{counted}
use Rattle.rules.specs.Ring.{power_of_two, good_header, good_ring, slot, slot_place, present, descriptor_rules, range_rules, submission_rules, opened_of, concluded, submission_opening, ring_opening, opening_of}
use Rattle.rules.specs.declared.RingHeader.{RingHeader}
use Rattle.rules.specs.declared.Descriptor.{Descriptor}
use Rattle.rules.specs.declared.Job.{Job}
use Rattle.rules.specs.declared.Table.{Table}
use Rattle.rules.specs.declared.Stream.{Stream}
use Rattle.rules.specs.declared.Refusal.{Refusal}
use Rattle.rules.specs.declared.Opening.{Opening}
use Rattle.rules.specs.declared.Opening.TheVariants.{BadRing, NoWork, Refused, Started}
use Rattle.rules.specs.declared.Refusal.TheVariants.{OutsideMemory}
use Rattle.table_header.specs.Header.{headed}
use Rattle.stream_header.specs.Header.{begun}
use Rattle.rule_laws.specs.Fine.{fine-first, fine-later, kept_rule, kept-only, both_left, both_right}

-- ---- a table or a stream, where it is present

-- a range that is present lies within memory
pub record Inside (memory gpa size : ℕ) : Type 0 where
  pub ends : (size ≡ 0 → ⊥) → gpa + size ≤ memory

unfoldable pub table_of : List ℕ → ℕ → ℕ → Result Table Refusal
table_of m gpa size =
    headed (only (present size) (header_rules size (table_header m gpa))) (pick (present size) (checked_table gpa (table_header m gpa)) no_table)

unfoldable pub judged_stream : List ℕ → ℕ → ℕ → Result Stream Refusal
judged_stream m gpa size =
    begun (only (present size) (stream_rules size (stream_header m gpa))) (pick (present size) (stream_of gpa (stream_header m gpa)) no_stream)

module _ (m : List ℕ) (gpa size : ℕ) where
  pub no-table-there : size ≡ 0 → Ok no_table ≡ table_of m gpa size
  unfolding table_of
  no-table-there e = rw (eq-eqb _ _ e)

  pub no-stream-there : size ≡ 0 → Ok no_stream ≡ judged_stream m gpa size
  unfolding judged_stream
  no-stream-there e = rw (eq-eqb _ _ e)

  module _ (n : size ≡ 0 → ⊥) (p s : ℕ) (at : p ≡ gpa) (long : (s ≡ size) × (s < 4294967296)) where
    pub range-lies : Inside (length m) gpa size → p + s ≤ length m
    range-lies i = omega (arith, i.ends n)

    pub table-there : (h : Result Table Refusal) → h ≡ headed (header_rules s (table_header m p)) (checked_table p (table_header m p)) → h ≡ table_of m gpa size
    unfolding table_of
    table-there h e = rw (e, at, long.0, ne_eqb _ _ n)

    pub stream-there : (h : Result Stream Refusal) → h ≡ begun (stream_rules s (stream_header m p)) (stream_of p (stream_header m p)) → h ≡ judged_stream m gpa size
    unfolding judged_stream
    stream-there h e = rw (e, at, long.0, ne_eqb _ _ n)

pub ruleset opening_range = (no-table-there, no-stream-there, range-lies, table-there, stream-there, rules)

-- ---- the ranges of a descriptor

pub record RangesInside (memory : ℕ) (d : Descriptor) : Type 0 where
  pub cmd : Inside memory d.cmd d.cmdsize
  pub table : Inside memory d.table d.tablesize

-- 13, 19 and 16, and what is then started
unfoldable pub ranges_of : List ℕ → Job → Descriptor → Opening
ranges_of m j d =
    concluded
    (only (present d.tablesize) (header_rules d.tablesize (table_header m d.table)) ▹ only (present d.cmdsize) (stream_rules d.cmdsize (stream_header m d.cmd)))
    j (opened_of m j d)

bad-table-says : (v : Verdict) (t : Table) (r : Refusal) → headed v t ≡ Err r → v ≡ Err r
bad-table-says (Ok _) t r e = absurd (let z : ◌≡◌ {A = ℕ} 0 1 = cc in omega arith)
bad-table-says (Err x) t r e = let same : x ≡ r = cc in ap Err same

good-table-says : (v : Verdict) (t u : Table) → headed v t ≡ Ok u → (v ≡ Ok tt) × (u ≡ t)
good-table-says (Ok _) t u e = let same : u ≡ t = cc in (refl, same)
good-table-says (Err x) t u e = absurd (let z : ◌≡◌ {A = ℕ} 0 1 = cc in omega arith)

bad-stream-says : (v : Verdict) (t : Stream) (r : Refusal) → begun v t ≡ Err r → v ≡ Err r
bad-stream-says (Ok _) t r e = absurd (let z : ◌≡◌ {A = ℕ} 0 1 = cc in omega arith)
bad-stream-says (Err x) t r e = let same : x ≡ r = cc in ap Err same

good-stream-says : (v : Verdict) (t u : Stream) → begun v t ≡ Ok u → (v ≡ Ok tt) × (u ≡ t)
good-stream-says (Ok _) t u e = let same : u ≡ t = cc in (refl, same)
good-stream-says (Err x) t u e = absurd (let z : ◌≡◌ {A = ℕ} 0 1 = cc in omega arith)

module _ (m : List ℕ) (j : Job) (d : Descriptor) (t : Result Table Refusal) (et : t ≡ table_of m d.table d.tablesize) where
  pub table-refused : (r : Refusal) → t ≡ Err r → Refused j r ≡ ranges_of m j d
  unfolding ranges_of table_of
  table-refused r e =
      let broken : only (present d.tablesize) (header_rules d.tablesize (table_header m d.table)) ≡ Err r = bad-table-says _ _ r (sym et ∙ e) in
      rw broken

  module _ (u : Table) (eu : t ≡ Ok u) (s : Result Stream Refusal) (es : s ≡ judged_stream m d.cmd d.cmdsize) where
    table_fine : (only (present d.tablesize) (header_rules d.tablesize (table_header m d.table)) ≡ Ok tt) × (u ≡ pick (present d.tablesize) (checked_table d.table (table_header m d.table)) no_table)
    unfolding table_of
    table_fine = good-table-says _ _ u (sym et ∙ eu)

    pub stream-refused : (r : Refusal) → s ≡ Err r → Refused j r ≡ ranges_of m j d
    unfolding ranges_of judged_stream
    stream-refused r e =
        let broken : only (present d.cmdsize) (stream_rules d.cmdsize (stream_header m d.cmd)) ≡ Err r = bad-stream-says _ _ r (sym es ∙ e) in
        rw (table_fine.0, broken)

    pub both-started : (x : Stream) → s ≡ Ok x → Started (record { job = j; table = u; stream = x }) ≡ ranges_of m j d
    unfolding ranges_of judged_stream
    both-started x e =
        let two : (only (present d.cmdsize) (stream_rules d.cmdsize (stream_header m d.cmd)) ≡ Ok tt) × (x ≡ pick (present d.cmdsize) (stream_of d.cmd (stream_header m d.cmd)) no_stream) =
        good-stream-says _ _ x (sym es ∙ e) in
        rw (table_fine.0, two.0, table_fine.1, two.1)

pub ruleset opening_ranges = (table-refused, stream-refused, both-started, rules)

-- ---- the submission

-- what 12 says when it passes
present-size : (size : ℕ) → (size ≡ 0 → ⊥) → present size ≡ true
present-size size n = rw (ne_eqb _ _ n)

pub ranges-lie : (memory : ℕ) (d : Descriptor) → range_rules memory d ≡ Ok tt → RangesInside memory d
unfolding range_rules
ranges-lie memory d fine =
    record {
      cmd = record {
        ends = λ n. ltb-false memory (d.cmd + d.cmdsize) (kept_rule OutsideMemory (ltb memory (d.cmd + d.cmdsize)) (kept-only (present d.cmdsize) _ (present-size d.cmdsize n) (fine-first _ _ fine)));
      };
      table = record {
        ends = λ n.
            ltb-false memory (d.table + d.tablesize)
            (kept_rule OutsideMemory (ltb memory (d.table + d.tablesize)) (kept-only (present d.tablesize) _ (present-size d.tablesize n) (fine-later (only (present d.cmdsize) (rule OutsideMemory (ltb memory (d.cmd + d.cmdsize)))) _ fine)));
      };
    }

module _ (m : List ℕ) (stride : ℕ) (j : Job) (d : Descriptor) (v : Verdict) (ev : v ≡ descriptor_rules stride d) where
  pub descriptor-refused : (r : Refusal) → v ≡ Err r → Refused j r ≡ submission_opening m stride j d
  unfolding submission_opening submission_rules
  descriptor-refused r e = rw (← ev, e)

  module _ (n : ℕ) (same : (n ≡ length m) × (n < 18446744073709551616)) (f : v ≡ Ok tt) (u : Verdict) (eu : u ≡ range_rules n d) where
    pub ranges-refused : (r : Refusal) → u ≡ Err r → Refused j r ≡ submission_opening m stride j d
    unfolding submission_opening submission_rules
    ranges-refused r e = rw (← ev, f, ← same.0, ← eu, e)

    module _ (g : u ≡ Ok tt) where
      pub ranges-given : RangesInside (length m) d
      ranges-given = ranges-lie (length m) d (rw (← same.0) (sym eu ∙ g))

      pub submission-is : (o : Opening) → o ≡ ranges_of m j d → o ≡ submission_opening m stride j d
      unfolding submission_opening submission_rules ranges_of
      submission-is o e = e ∙ rw (← ev, f, ← same.0, ← eu, g)

pub ruleset opening_submission = (descriptor-refused, ranges-refused, ranges-given, submission-is, rules)

-- ---- the head's slot

pub record SlotInside (memory ring : ℕ) (h : RingHeader) : Type 0 where
  pub power : power_of_two slot_doublings h.count ≡ true
  pub fits : ring + (ring_header_size + slot h * h.stride) + descriptor_size ≤ memory

-- what a good header says of its slots
pub record GoodSlots (size : ℕ) (h : RingHeader) : Type 0 where
  pub power : power_of_two slot_doublings h.count ≡ true
  pub stride : descriptor_size ≤ h.stride
  pub inside : ring_header_size + h.count * h.stride ≤ size

good-header-says : (size : ℕ) (h : RingHeader) → good_header size h ≡ true → GoodSlots size h
unfolding good_header
good-header-says size h e =
    let r₁ = both_right (eqb h.magic ring_magic) _ e in
    let r₂ = both_right (good_version h.version) _ r₁ in
    let r₃ = both_right (power_of_two slot_doublings h.count) _ r₂ in
    let r₄ = both_right (leb descriptor_size h.stride) _ r₃ in
    let r₅ = both_right (leb (ring_header_size + h.count * h.stride) h.size) _ r₄ in
    let rows : ring_header_size + h.count * h.stride ≤ h.size = leb-true _ _ (both_left (leb (ring_header_size + h.count * h.stride) h.size) _ r₄) in
    let whole : h.size ≤ size = leb-true _ _ (both_left (leb h.size size) _ r₅) in
    record {
      power = both_left (power_of_two slot_doublings h.count) _ r₂;
      stride = leb-true _ _ (both_left (leb descriptor_size h.stride) _ r₃);
      inside = omega arith;
    }

slot-below : (h : RingHeader) → 0 < h.count → slot h < h.count
slot-below h p = mod-lt h.head p

module _ (m : List ℕ) (ring : ℕ) (h : RingHeader) where
  pub no-work : h.head ≡ h.tail → NoWork ≡ ring_opening m ring h
  unfolding ring_opening
  no-work e = rw (eq-eqb _ _ e)

  module _ (n : h.head ≡ h.tail → ⊥) (lies : SlotInside (length m) ring h) (o : ℕ) (at : (o ≡ ring_header_size + slot h * h.stride) × (o + 4294967296 ≤ 18446744073709551616)) where
    pub slot-fits : length m < 2 ^ 64 → Fits w64 (ring + o)
    slot-fits k = record { fits = omega (arith, lies.fits) }

    module _ (p : ℕ) (same : p ≡ ring + o) where
      pub slot-lies : p + descriptor_size ≤ length m
      slot-lies = omega (arith, lies.fits)

      pub head_opened : (d : Descriptor) (x : Opening) → d ≡ descriptor m p
          → x ≡ submission_opening m h.stride (record { ring = ring; head = h.head; signal = d.signal; silent = eqb (d.flags % 2) 1 }) d → x ≡ ring_opening m ring h
      unfolding ring_opening
      head_opened d x e q =
          let there : d ≡ descriptor m (slot_place ring h) = e ∙ ap (descriptor m) (same ∙ ap (λ k. ring + k) at.0) in
          q ∙ rw (ne_eqb _ _ n, there)

pub ruleset opening_head = (no-work, slot-fits, slot-lies, head_opened, rules)

-- ---- the ring

module _ (m : List ℕ) (ring size : ℕ) where
  pub ring-short : size < ring_header_size → BadRing ≡ opening_of m ring size
  unfolding opening_of good_ring
  ring-short p = rw (lt-leb _ _ p)

  module _ (p : ring_header_size ≤ size) (n b : ℕ) (long : (n ≡ length m) × (n < 18446744073709551616)) (wide : (b ≡ size) × (b < 4294967296))
      (t : Bool) (is : t ≡ ltb n (ring + b)) where
    ends : leb (ring + size) (length m) ≡ not t
    ends = leb-ltb (ring + size) (length m) ∙ rw (is, long.0, wide.0)

    pub ring-past : t ≡ true → BadRing ≡ opening_of m ring size
    unfolding opening_of good_ring
    ring-past q = rw (le-leb _ _ p, ends, q)

    module _ (q : t ≡ false) (k : ℕ) (at : k ≡ ring) where
      within : ring + size ≤ length m
      within = leb-true _ _ (ends ∙ ap not q)

      pub header-lies : k + ring_header_size ≤ length m
      header-lies = omega (arith, within)

      module _ (h : RingHeader) (read : h ≡ ring_header m k) (g : Bool) (judged : g ≡ good_header size h) where
        there : good_ring m ring size ≡ g
        unfolding good_ring
        there = rw (le-leb _ _ p, le-leb _ _ within, ← at, ← read, ← judged)

        pub header-bad : not g ≡ true → BadRing ≡ opening_of m ring size
        unfolding opening_of
        header-bad e = rw (there, not-true g e)

        module _ (e : not g ≡ false) where
          pub slot-given : SlotInside (length m) ring h
          slot-given =
              let s : GoodSlots size h = good-header-says size h (sym judged ∙ not-false g e) in
              let row : slot h * h.stride + h.stride ≤ h.count * h.stride = omega (arith, mul-le-mul_right h.stride (slot-below h (counted h.count s.power))) in
              record { power = s.power; fits = omega (arith, within, s.inside, s.stride, row) }

          pub ring-opened : (x : Opening) → x ≡ ring_opening m ring h → x ≡ opening_of m ring size
          unfolding opening_of
          ring-opened x y = y ∙ rw (there, not-false g e, ← at, ← read, at)

pub ruleset opening_ring = (ring-short, ring-past, header-lies, header-bad, slot-given, ring-opened, rules)
