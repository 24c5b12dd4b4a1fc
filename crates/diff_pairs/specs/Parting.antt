-- Where two streams part: the pass over both. Assumes nothing.
use Rattle.std.specs.Prelude.{◌≡◌, refl, List, ℕ, ◌+◌, ◌-◌, ◌≤◌, ◌<◌, ◌^◌, length, None, Option, Some}
use Rattle.std.proofs.Common.{sym, ap, ◌∙◌, arith, rules, Fits}
use Rattle.std.specs.Int.{w64}
use Rattle.rules.specs.Layouts.{stream_header_size}
use Rattle.rules.specs.Lists.{Found}
use Rattle.rules.specs.Lists.Found.{none, found}
use Rattle.rules.specs.Dump.{Listed}
use Rattle.rules.specs.Difference.{class_of, parted_by, parted, packet_at, size_at, behind, pair_in}
use Rattle.rules.specs.declared.Class.{Class}
use Rattle.rules.specs.declared.Class.TheVariants.{Equal, SameOpcode, OtherOpcode, OnlyFirst, OnlySecond, Neither}
use Rattle.rules.specs.declared.Pair.{Pair}
use Rattle.diff_walk.specs.Walk.{packets_from, packets-first, found_then, PacketThere, no-packet, some-packet}

-- the packets at two places, and those behind them
by_first : (f g : Found Listed) (ps qs : List Listed) (i : ℕ) → parted i (found_then f ps) (found_then g qs) ≡ parted_by (class_of f g) i (parted (i + 1) ps qs)
unfolding parted
by_first none none ps qs i = refl
by_first none (found q) ps qs i = refl
by_first (found p) none ps qs i = refl
by_first (found p) (found q) ps qs i = refl

module _ (s t : List ℕ) where
  parted-first : (at to i : ℕ) → parted i (packets_from s at) (packets_from t to)
      ≡ parted_by (class_of (packet_at s at) (packet_at t to)) i (parted (i + 1) (packets_from s (behind s at)) (packets_from t (behind t to)))
  parted-first at to i =
      ap (λ l. parted i l (packets_from t to)) (packets-first s at)
      ∙ (ap (λ l. parted i (found_then (packet_at s at) (packets_from s (behind s at))) l) (packets-first t to)
      ∙ by_first (packet_at s at) (packet_at t to) (packets_from s (behind s at)) (packets_from t (behind t to)) i)

  -- the streams part where the rest of them does
  pub record PartsFrom (at to i : ℕ) : Type 0 where
    pub same : parted 0 (packets_from s stream_header_size) (packets_from t stream_header_size) ≡ parted i (packets_from s at) (packets_from t to)
    pub count : i ≤ at

  pub parts-start : PartsFrom stream_header_size stream_header_size 0
  parts-start = record { same = refl; count = omega arith }

  module _ (at to i : ℕ) (w : PartsFrom at to i) (x : Pair) (is : x ≡ pair_in s at t to) (c : Class) (of : c ≡ x.class) where
    class-is : class_of (packet_at s at) (packet_at t to) ≡ c
    class-is = sym (of ∙ ap (λ (p : Pair). p.class) is)

    abbrev later : Option ℕ
    later = parted (i + 1) (packets_from s (behind s at)) (packets_from t (behind t to))

    parts-by : parted 0 (packets_from s stream_header_size) (packets_from t stream_header_size) ≡ parted_by c i later
    parts-by = w.same ∙ (parted-first at to i ∙ ap (λ k. parted_by k i later) class-is)

    pub parts-never : c ≡ Neither → None ≡ parted 0 (packets_from s stream_header_size) (packets_from t stream_header_size)
    parts-never e = sym (parts-by ∙ ap (λ k. parted_by k i later) e)

    pub parts-same-opcode : c ≡ SameOpcode → Some i ≡ parted 0 (packets_from s stream_header_size) (packets_from t stream_header_size)
    parts-same-opcode e = sym (parts-by ∙ ap (λ k. parted_by k i later) e)

    pub parts-other-opcode : c ≡ OtherOpcode → Some i ≡ parted 0 (packets_from s stream_header_size) (packets_from t stream_header_size)
    parts-other-opcode e = sym (parts-by ∙ ap (λ k. parted_by k i later) e)

    pub parts-only-first : c ≡ OnlyFirst → Some i ≡ parted 0 (packets_from s stream_header_size) (packets_from t stream_header_size)
    parts-only-first e = sym (parts-by ∙ ap (λ k. parted_by k i later) e)

    pub parts-only-second : c ≡ OnlySecond → Some i ≡ parted 0 (packets_from s stream_header_size) (packets_from t stream_header_size)
    parts-only-second e = sym (parts-by ∙ ap (λ k. parted_by k i later) e)

    module _ (e : c ≡ Equal) where
      equal : class_of (packet_at s at) (packet_at t to) ≡ Equal
      equal = class-is ∙ e

      first_some : size_at s at ≡ 0 → ⊥
      first_some z = none_equal (packet_at t to) (ap (λ f. class_of f (packet_at t to)) (sym (no-packet s at z)) ∙ equal)
        where
          none_equal : (g : Found Listed) → class_of none g ≡ Equal → ⊥
          none_equal none h = let z : ◌≡◌ {A = ℕ} 0 1 = cc in omega arith
          none_equal (found q) h = let z : ◌≡◌ {A = ℕ} 0 1 = cc in omega arith

      second-some : size_at t to ≡ 0 → ⊥
      second-some z = equal-none (packet_at s at) (ap (λ g. class_of (packet_at s at) g) (sym (no-packet t to z)) ∙ equal)
        where
          equal-none : (f : Found Listed) → class_of f none ≡ Equal → ⊥
          equal-none none h = let z : ◌≡◌ {A = ℕ} 0 1 = cc in omega arith
          equal-none (found p) h = let z : ◌≡◌ {A = ℕ} 0 1 = cc in omega arith

      first-there : PacketThere s at (size_at s at)
      first-there = some-packet s at (size_at s at) refl first_some

      second-there : PacketThere t to (size_at t to)
      second-there = some-packet t to (size_at t to) refl second-some

      module _ (size : ℕ) (firstsize : size ≡ x.firstsize) where
        size_is : size ≡ size_at s at
        size_is = firstsize ∙ ap (λ (p : Pair). p.firstsize) is

        pub parts-fits : length s < 2 ^ 64 → Fits w64 (at + size)
        parts-fits h = record { fits = omega (arith, size_is, first-there.inside) }

        pub parts-less : length s - (at + size) < length s - at
        parts-less = omega (arith, size_is, first-there.inside, first-there.some)

        module _ (long : ℕ) (secondsize : long ≡ x.secondsize) where
          long-is : long ≡ size_at t to
          long-is = secondsize ∙ ap (λ (p : Pair). p.secondsize) is

          pub parts-on : PartsFrom (at + size) (to + long) (i + 1)
          parts-on =
              record {
                same = parts-by ∙ (ap (λ k. parted_by k i later) e
                    ∙ rw (size_is, long-is));
                count = omega (arith, w.count, size_is, first-there.some);
              }

      pub parts-fits-second : (long : ℕ) → long ≡ x.secondsize → length t < 2 ^ 64 → Fits w64 (to + long)
      parts-fits-second long p h =
          let q : long ≡ size_at t to = p ∙ ap (λ (y : Pair). y.secondsize) is in
          record { fits = omega (arith, second-there.inside) }

      pub parts-count : length s < 2 ^ 64 → Fits w64 (i + 1)
      parts-count h = record { fits = omega (arith, w.count, first-there.inside, first-there.some) }

pub ruleset parting = (parts-start, parts-never, parts-same-opcode, parts-other-opcode, parts-only-first, parts-only-second, parts-fits, parts-less, parts-on, parts-fits-second, parts-count, rules)
