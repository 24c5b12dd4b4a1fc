-- What the questions ask of their parts. Assumes nothing.
use Rattle.std.specs.Prelude.{◌≡◌, List, ℕ, ◌+◌, ◌<◌, ◌^◌, length, Option, ⊤, Result, Ok, Err}
use Rattle.std.proofs.Common.{ap, ◌∙◌, ⊎_elim, arith, rules, eq-eqb, ne_eqb, Fits}
use Rattle.std.specs.Int.{w64}
use Rattle.words.specs.Over.{below_or_not}
use Rattle.rules.specs.Layouts.{stream_header_size}
use Rattle.rules.specs.Lists.{nth}
use Rattle.rules.specs.Difference.{packets, refused_stream, checked, check, class_of, offsets_of, next_from, parted, parts, class_asked, next_asked, own, packet_at, size_at, behind, pair_in, pair_at, next_at, onward, start}
use Rattle.rules.specs.declared.Class.{Class}
use Rattle.rules.specs.declared.Cursor.{Cursor}
use Rattle.rules.specs.declared.Pair.{Pair}
use Rattle.diff_walk.specs.Walk.{packets_from, some-packet}
use Rattle.diff_walk.specs.Own.{own-packets}
use Rattle.rules.specs.declared.RefusedStream.{RefusedStream}
use Rattle.rules.specs.Judging.{Verdict}
use Rattle.rules.specs.declared.Refusal.{Refusal}

-- ---- check

module _ (m n x : Verdict) (p : x ≡ m) where
  pub refused-first : (r : Refusal) → x ≡ Err r → Err (refused_stream r 1) ≡ checked m n
  refused-first r k = rw (← p, k)

  module _ (e : x ≡ Ok tt) (y : Verdict) (q : y ≡ n) where
    pub refused-second : (r : Refusal) → y ≡ Err r → Err (refused_stream r 2) ≡ checked m n
    refused-second r k = rw (← p, ← q, e, k)

    pub valid : y ≡ Ok tt → Ok tt ≡ checked m n
    valid f = rw (← p, ← q, e, f)

pub ruleset checking = (refused-first, refused-second, valid, rules)

-- ---- parts, class_of, next_offset, start

module _ (b c : List ℕ) (x : Result ⊤ RefusedStream) (is : x ≡ check b c) where
  module _ (r : RefusedStream) (e : x ≡ Err r) where
    pub parts-refused : Err r ≡ parts b c
    parts-refused = rw (← is, e)

    pub class-refused : (i : ℕ) → Err r ≡ class_asked b c i
    class-refused i = rw (← is, e)

    pub next-refused : (i from : ℕ) → Err r ≡ next_asked b c i from
    next-refused i from = rw (← is, e)

    pub start-refused : Err r ≡ start b c
    start-refused = rw (← is, e)

  module _ (e : x ≡ Ok tt) where
    pub start_is : Ok (record { first = 24; second = 24 }) ≡ start b c
    start_is = rw (← is, e)

    module _ (s t : List ℕ) (p : s ≡ own b) (q : t ≡ own c) where
      first-is : packets_from s stream_header_size ≡ packets b
      first-is = ap (λ l. packets_from l stream_header_size) p ∙ own-packets b

      second_is : packets_from t stream_header_size ≡ packets c
      second_is = ap (λ l. packets_from l stream_header_size) q ∙ own-packets c

      pub parts_is : (r : Option ℕ) → r ≡ parted 0 (packets_from s stream_header_size) (packets_from t stream_header_size) → Ok r ≡ parts b c
      parts_is r h = rw (← is, e, ← first-is, ← second_is, h)

      module _ (i at to : ℕ) (f : packet_at s at ≡ nth (packets_from s stream_header_size) i) (g : packet_at t to ≡ nth (packets_from t stream_header_size) i) where
        pub class-is : (r : Pair) (k : Class) → r ≡ pair_in s at t to → k ≡ r.class → Ok k ≡ class_asked b c i
        class-is r k h l =
            let same : k ≡ class_of (nth (packets b) i) (nth (packets c) i) =
            l ∙ (ap (λ (y : Pair). y.class) h
            ∙ (ap (λ u. class_of u (packet_at t to)) (f ∙ ap (λ u. nth u i) first-is)
            ∙ ap (λ u. class_of (nth (packets b) i) u) (g ∙ ap (λ u. nth u i) second_is))) in
            rw (← is, e, same)

        pub next-is : (from : ℕ) (r : Option ℕ) → r ≡ next_from from (offsets_of (packet_at s at) (packet_at t to)) → Ok r ≡ next_asked b c i from
        next-is from r h =
            let same : r ≡ next_from from (offsets_of (nth (packets b) i) (nth (packets c) i)) =
            h ∙ (ap (λ u. next_from from (offsets_of u (packet_at t to))) (f ∙ ap (λ u. nth u i) first-is)
            ∙ ap (λ u. next_from from (offsets_of (nth (packets b) i) u)) (g ∙ ap (λ u. nth u i) second_is)) in
            rw (← is, e, same)

pub ruleset asking_parts = (parts-refused, parts_is, rules)

pub ruleset asking_class = (class-refused, class-is, rules)

pub ruleset asking_next = (next-refused, next-is, rules)

pub ruleset asking_start = (start-refused, start_is, rules)

-- ---- pair_at, next_at

module _ (b c s t : List ℕ) (p : s ≡ own b) (q : t ≡ own c) (k : Cursor) where
  pub pair-here : (r : Pair) → r ≡ pair_in s k.first t k.second → r ≡ pair_at b c k
  pair-here r h = rw (← p, ← q) h

  pub next_here : (from : ℕ) (r : Option ℕ) → r ≡ next_from from (offsets_of (packet_at s k.first) (packet_at t k.second)) → r ≡ next_at b c k from
  next_here from r h = rw (← p, ← q) h

  pub goes-onward : (m n : ℕ) → m ≡ behind s k.first → n ≡ behind t k.second → record { first = m; second = n } ≡ onward b c k
  goes-onward m n f g = rw (← p, ← q, f, g)

pub ruleset at_cursor = (pair-here, next_here, goes-onward, rules)

-- ---- behind

module _ (s : List ℕ) (at size : ℕ) (is : size ≡ size_at s at) where
  pub behind-fits : length s < 2 ^ 64 → at < 2 ^ 64 → Fits w64 (at + size)
  behind-fits h k =
      ⊎_elim (λ l. record { fits = omega arith }) (λ l. record { fits = omega (arith, (some-packet s at size is (λ z. omega arith)).inside) }) (below_or_not size 1)

  pub behind-is : at + size ≡ behind s at
  behind-is = rw is

pub ruleset stepping = (behind-fits, behind-is, rules)
