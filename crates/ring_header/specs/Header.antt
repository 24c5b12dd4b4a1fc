-- The ring's header: what its reading and its judging ask. Assumes nothing.
use Rattle.std.specs.Prelude.{◌≡◌, ℕ, zero, suc, ◌+◌, ◌-◌, ◌*◌, ◌/◌, ◌%◌, ◌^◌, ◌<◌, ◌≤◌, Bool, true, false, not, ◌&&◌, ◌||◌, List, ◌==◌, ◌≢◌, bit_and, nat_le, refl}
use Rattle.std.proofs.Common.{sym, ap, ◌∙◌, arith, rules}
use borrow.Author.Tests.{eq-eqb, ne_eqb, le-leb, lt-leb, eqb-true, eqb-false, not-true, not-false}
use Rattle.std.proofs.lemmas.Nat.{and_mask}
use Rattle.rules.specs.Numbers.{ring_magic, slot_doublings, minors, good_major}
use Rattle.rules.specs.Layouts.{word, ring_header, ring_header_size, descriptor_size}
use Rattle.rules.specs.Ring.{power_of_two, pending, good_header, slot}
use Rattle.rules.specs.declared.RingHeader.{RingHeader}
use Rattle.rule_laws.specs.Fine.{both_left, both_right}

pub header_read : (m : List ℕ) (at a b c d e f g : ℕ) → a ≡ word m at → b ≡ word m (at + 4) → c ≡ word m (at + 8) → d ≡ word m (at + 12) → e ≡ word m (at + 16)
    → f ≡ word m (at + 24) → g ≡ word m (at + 28)
    → ◌≡◌ {A = RingHeader} (record { magic = a; version = b; size = c; count = d; stride = e; head = f; tail = g }) (ring_header m at)
unfolding ring_header
header_read m at a b c d e f g p q r s t u v = rw (p, q, r, s, t, u, v)

pub ruleset reading_header = (header_read, rules)

-- ---- good_count: up to 1,024 the powers of two are those that have no bit in common with the number below

same_bool : Bool → Bool → Bool
same_bool true b = b
same_bool false b = not b

same-is : (a b : Bool) → same_bool a b ≡ true → a ≡ b
unfolding same_bool
same-is true true h = refl
same-is true false h = sym h
same-is false true h = h
same-is false false h = refl

-- the test at 0, 1, .., n - 1
all_below : (ℕ → Bool) → ℕ → Bool
all_below t zero = true
all_below t (suc n) = t n && all_below t n

apart : ℕ → Bool
apart n = same_bool (power_of_two slot_doublings (suc n)) (bit_and (suc n) n == 0)

below_holds : (t : ℕ → Bool) (n : ℕ) → all_below t n ≡ true → (k : ℕ) → k < n → t k ≡ true
unfolding all_below
below_holds t zero h k p = absurd (omega arith)
below_holds t (suc n) h k p = by_place (k == n) refl (below_holds t n (both_right (t n) (all_below t n) h) k)
  where
    by_place : (b : Bool) → (k == n) ≡ b → (k < n → t k ≡ true) → t k ≡ true
    by_place true e ih = ap t (eqb-true k n e) ∙ both_left (t n) (all_below t n) h
    by_place false e ih = ih (omega (arith, eqb-false k n e))

-- computed once, at every count up to the limit
all-counts : all_below apart 1024 ≡ true
unfolding all_below apart same_bool power_of_two
all-counts = refl

pub count-zero : (n : ℕ) → n ≡ 0 → false ≡ power_of_two slot_doublings n
unfolding power_of_two
count-zero n e = rw e

few-slots : (k : ℕ) → k < 1024 → (bit_and (suc k) k == 0) ≡ power_of_two slot_doublings (suc k)
unfolding apart
few-slots k h = sym (same-is (power_of_two slot_doublings (suc k)) (bit_and (suc k) k == 0) (below_holds apart 1024 all-counts k h))

pub many-slots : (n : ℕ) → 1024 < n → false ≡ power_of_two slot_doublings n
unfolding power_of_two
many-slots n h =
    let out : (k : ℕ) → k ≤ 1024 → n ≡ k → ⊥ = λ k p e. omega arith in
    rw (
      ne_eqb n 1024 (out 1024 (omega arith)),
      ne_eqb n 512 (out 512 (omega arith)),
      ne_eqb n 256 (out 256 (omega arith)),
      ne_eqb n 128 (out 128 (omega arith)),
      ne_eqb n 64 (out 64 (omega arith)),
      ne_eqb n 32 (out 32 (omega arith)),
      ne_eqb n 16 (out 16 (omega arith)),
      ne_eqb n 8 (out 8 (omega arith)),
      ne_eqb n 4 (out 4 (omega arith)),
      ne_eqb n 2 (out 2 (omega arith)),
      ne_eqb n 1 (out 1 (omega arith)),
    )

pub count-apart : (n : ℕ) → (n ≢ 0) → n ≤ 1024 → (bit_and n (n - 1) == 0) ≡ power_of_two slot_doublings n
count-apart zero h g = absurd (h refl)
count-apart (suc k) h g = let e : suc k - 1 ≡ k = omega arith in rw e (few-slots k (omega arith))

pub ruleset counting = (count-zero, many-slots, count-apart, rules)

-- ---- pending_of

pub pending-is : (h : RingHeader) (r : ℕ) → (r + h.head) % 2 ^ 32 ≡ h.tail → r < 2 ^ 32 → h.head < 2 ^ 32 → r ≡ pending h
pending-is h r e p q = omega arith

pub ruleset wrapping = (pending-is, rules)

-- ---- good

module _ (size : ℕ) (h : RingHeader) where
  pub bad-magic : (h.magic ≢ ring_magic) → false ≡ good_header size h
  unfolding good_header
  bad-magic p = rw (ne_eqb _ _ p)

  module _ (p : h.magic ≡ ring_magic) where
    pub bad-version : (h.version / minors ≢ good_major) → false ≡ good_header size h
    unfolding good_header
    bad-version q = rw (eq-eqb _ _ p, ne_eqb _ _ q)

    module _ (q : h.version / minors ≡ good_major) (b : Bool) (e : b ≡ power_of_two slot_doublings h.count) where
      pub bad-count : not b ≡ true → false ≡ good_header size h
      unfolding good_header
      bad-count r = rw (eq-eqb _ _ p, eq-eqb _ _ q, ← e, not-true b r)

      module _ (r : not b ≡ false) where
        pub bad-stride : h.stride < descriptor_size → false ≡ good_header size h
        unfolding good_header
        bad-stride s = rw (eq-eqb _ _ p, eq-eqb _ _ q, ← e, not-false b r, lt-leb _ _ s)

        module _ (s : descriptor_size ≤ h.stride) (n k : ℕ) (en : (n ≡ h.size) × (n < 4294967296)) (ek : (k ≡ ring_header_size + h.count * h.stride) × (k + 4294967296 ≤ 18446744073709551616)) where
          pub bad-rows : n < k → false ≡ good_header size h
          unfolding good_header
          bad-rows t =
              let u : h.size < ring_header_size + h.count * h.stride = rw (← en.0, ← ek.0) t in
              rw (eq-eqb _ _ p, eq-eqb _ _ q, ← e, not-false b r, le-leb _ _ s, lt-leb _ _ u)

          module _ (t : k ≤ n) where
            within : ring_header_size + h.count * h.stride ≤ h.size
            within = rw (← en.0, ← ek.0) t

            pub bad-size : size < h.size → false ≡ good_header size h
            unfolding good_header
            bad-size u = rw (eq-eqb _ _ p, eq-eqb _ _ q, ← e, not-false b r, le-leb _ _ s, le-leb _ _ within, lt-leb _ _ u)

            pub good-all : (x : ℕ) → h.size ≤ size → x ≡ pending h → nat_le x h.count ≡ good_header size h
            unfolding good_header
            good-all x u v = rw (eq-eqb _ _ p, eq-eqb _ _ q, ← e, not-false b r, le-leb _ _ s, le-leb _ _ within, le-leb _ _ u, v)

pub ruleset judging_header = (bad-magic, bad-version, bad-count, bad-stride, bad-rows, bad-size, good-all, rules)

-- ---- slot_offset: by a power of two a remainder is a mask

pub counted : (n : ℕ) → power_of_two slot_doublings n ≡ true → 0 < n
unfolding power_of_two
counted zero e = absurd (let z : ◌≡◌ {A = ℕ} 0 1 = cc in omega arith)
counted (suc n) e = omega arith

masked : (k n v : ℕ) → power_of_two k n ≡ true → bit_and v (n - 1) ≡ v % n
unfolding power_of_two
masked zero n v h = rw (eqb-true n 1 h) (and_mask v 0)
masked (suc k) n v h = by_test (n == 2 ^ suc k) refl h (λ less. masked k n v less)
  where
    by_test : (b : Bool) → (n == 2 ^ suc k) ≡ b → b || power_of_two k n ≡ true → (power_of_two k n ≡ true → bit_and v (n - 1) ≡ v % n) → bit_and v (n - 1) ≡ v % n
    by_test true e h' ih = rw (eqb-true n (2 ^ suc k) e) (and_mask v (suc k))
    by_test false e h' ih = ih h'

pub slot_is : (h : RingHeader) (o : ℕ) → power_of_two slot_doublings h.count ≡ true
    → (o ≡ ring_header_size + bit_and h.head (h.count - 1) * h.stride) × (o + 4294967296 ≤ 18446744073709551616)
    → o ≡ ring_header_size + slot h * h.stride
slot_is h o p e = e.0 ∙ ap (λ k. ring_header_size + k * h.stride) (masked slot_doublings h.count h.head p)

pub ruleset placing_slots = (counted, slot_is, rules)
