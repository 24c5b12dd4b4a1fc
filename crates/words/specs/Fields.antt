-- Little-endian numbers, over the number of bytes: laws of `le`, `bytes_of` and `field`, and those that the readers and
-- writers of fields ask for. Assumes nothing.
use Rattle.std.specs.Prelude.{◌≡◌, refl, List, [], ◌∷◌, ◌++◌, ℕ, zero, suc, ◌+◌, ◌*◌, ◌-◌, ◌/◌, ◌%◌, ◌^◌, ◌≤◌, ◌<◌, length, get_or, take, drop}
use Rattle.std.proofs.Common.{sym, ap, ◌∙◌, append-nil, add-zero, zero-add, suc-add, add_assoc, mod-eq_of_lt, div-one, pow-suc, add-one, arith, rules, lit<, lit≤, length-drop, drop-cons, take-add, length-take-le, drop-drop, get_or-drop}
use Rattle.std.proofs.Math.Nat.{pow-succ', div-div-eq-div-mul, pow-zero, mod-one, one-le-pow}
use Rattle.std.proofs.Math.Arith.{mod-mul}
use Rattle.std.specs.Int.Bits.{bit_or, bit_and, or_shifted_r}
use Rattle.std.proofs.lemmas.Nat.{and_mask}
use Rattle.rules.specs.Bytes.{le, bytes_of, field}
use Rattle.rules.specs.Lists.{over}
use Rattle.words.specs.Over.{length_over, over-over, part-over, tail-over, part-read, part-before, part_at, drop-after}

-- ---- what bytes say

-- the first byte, and the rest
pub le_step : (k at : ℕ) (xs : List ℕ) → at < length xs → field (suc k) xs at ≡ get_or xs at 0 + 256 * field k xs (at + 1)
unfolding le
le_step k at xs h = rw (add-one, drop-cons xs at 0)

pub le-append : (xs ys : List ℕ) → le (xs ++ ys) ≡ le xs + 256 ^ length xs * le ys
unfolding le
le-append [] ys = omega (arith, pow-zero 256)
le-append (x ∷ xs) ys = omega (arith, le-append xs ys, pow-succ' 256 (length xs), ap (λ (n : ℕ). n * le ys) (pow-succ' 256 (length xs)))

-- m bytes, and the n after them
pub le-add : (m n at : ℕ) (xs : List ℕ) → at + m ≤ length xs → field (m + n) xs at ≡ field m xs at + 256 ^ m * field n xs (at + m)
le-add m n at xs h =
    let e : length (take m (drop at xs)) ≡ m = length-take-le m (drop at xs) (simp length-drop (omega arith)) in
    rw (take-add, le-append, e, drop-drop)

-- bytes below 256 say a number below 256 ^ k
pub le-bound : (k : ℕ) (xs : List ℕ) → ((i : ℕ) → get_or xs i 0 < 256) → le (take k xs) < 256 ^ k
unfolding le
le-bound zero xs h = rw pow-zero (omega arith)
le-bound (suc k) [] h = omega (arith, one-le-pow (suc k) 256 (lit< tt))
le-bound (suc k) (x ∷ xs) h = omega (arith, h 0, le-bound k xs (λ i. h (suc i)), pow-succ' 256 k)

pub field_bound : (k : ℕ) (m : List ℕ) (at : ℕ) → ((i : ℕ) → get_or m i 0 < 256) → field k m at < 256 ^ k
field_bound k m at h = le-bound k (drop at m) (λ i. rw get_or-drop (h (at + i)))

-- a field of a part is one of the whole
pub field-part : (w k n at : ℕ) (m : List ℕ) → k + w ≤ n → at + n ≤ length m → field w (take n (drop at m)) k ≡ field w m (at + k)
field-part w k n at m h r = ap le (part-read w k n at m h r)

-- ---- the bytes of a number

-- a word is the value of its own bytes
pub le-bytes_of : (k v : ℕ) → le (bytes_of k v) ≡ v % 256 ^ k
unfolding le bytes_of
le-bytes_of zero v = rw (pow-zero, mod-one)
le-bytes_of (suc k) v = rw (le-bytes_of k (v / 256), pow-suc 256 k, mod-mul v (one-le-pow k 256 (lit≤ tt)) (lit< tt)) (omega arith)

pub length-bytes_of : (k v : ℕ) → length (bytes_of k v) ≡ k
unfolding bytes_of
length-bytes_of zero v = refl
length-bytes_of (suc k) v = ap suc (length-bytes_of k (v / 256))

-- the bytes of a number's lower half and of its upper half are its bytes
pub bytes_of-add : (k n v : ℕ) → bytes_of k (v % 256 ^ k) ++ bytes_of n (v / 256 ^ k) ≡ bytes_of (k + n) v
unfolding bytes_of
bytes_of-add zero n v = rw (pow-zero, div-one, zero-add)
bytes_of-add (suc k) n v =
    let r : ℕ = v / 256 % 256 ^ k in
    let low : v % 256 ^ suc k ≡ r * 256 + v % 256 = rw (pow-suc 256 k, mod-mul v (one-le-pow k 256 (lit≤ tt)) (lit< tt)) in
    let first : v % 256 ^ suc k % 256 ≡ v % 256 = omega arith in
    let rest : v % 256 ^ suc k / 256 ≡ r = omega arith in
    let high : v / 256 ^ suc k ≡ v / 256 / 256 ^ k = rw (pow-succ', ← div-div-eq-div-mul) in
    rw (first, rest, high, suc-add) (ap (λ x. v % 256 ∷ x) (bytes_of-add k n (v / 256)))

-- the bytes that there is no room for say nothing
pub bytes_of_mod : (k v : ℕ) → bytes_of k (v % 256 ^ k) ≡ bytes_of k v
unfolding bytes_of
bytes_of_mod k v = sym (append-nil (bytes_of k (v % 256 ^ k))) ∙ (bytes_of-add k 0 v ∙ rw add-zero)

-- and bytes are the bytes of the number that they say
pub bytes_of-le : (xs : List ℕ) → ((i : ℕ) → get_or xs i 0 < 256) → bytes_of (length xs) (le xs) ≡ xs
unfolding le bytes_of
bytes_of-le [] h = refl
bytes_of-le (x ∷ xs) h =
    let b : x < 256 = h 0 in
    let first : (x + 256 * le xs) % 256 ≡ x = omega arith in
    let rest : (x + 256 * le xs) / 256 ≡ le xs = omega arith in
    rw (first, rest, bytes_of-le xs (λ i. h (suc i)))

-- ---- fields written and read

module _ (k at v : ℕ) (m : List ℕ) (room : at + k ≤ length m) where
  fits : at + length (bytes_of k v) ≤ length m
  fits = rw length-bytes_of room

  pub length-put : length (over at (bytes_of k v) m) ≡ length m
  length-put = length_over at (bytes_of k v) m fits

  -- what was written is read
  pub field_put : field k (over at (bytes_of k v) m) at ≡ v % 256 ^ k
  field_put = ap le (part_at at (bytes_of k v) m fits k (length-bytes_of k v)) ∙ le-bytes_of k v

-- a write leaves the fields before it and after it as they were
pub field-before : (at : ℕ) (b m : List ℕ) → at + length b ≤ length m → (k i : ℕ) → i + k ≤ at → field k (over at b m) i ≡ field k m i
field-before at b m room k i h = ap le (part-before at b m room k i h)

pub field-after : (at : ℕ) (b m : List ℕ) → at + length b ≤ length m → (k i : ℕ) → at + length b ≤ i → field k (over at b m) i ≡ field k m i
field-after at b m room k i h = ap (λ x. le (take k x)) (drop-after at b m room i h)

-- what a writer of k bytes that was lent the part from at to e says of it, said of the whole
pub put-part : (k at e v : ℕ) (m last : List ℕ) → e ≡ at + k → e ≤ length m → last ≡ over 0 (bytes_of k v) (take (e - at) (drop at m))
    → take at m ++ (last ++ drop (e - at) (drop at m)) ≡ over at (bytes_of k v) m
put-part k at e v m last h r l = part-over at e m last (bytes_of k v) (rw length-bytes_of h) r l

-- and one that was lent all from `at` on
pub put-tail : (k at v : ℕ) (m last : List ℕ) → at + k ≤ length m → last ≡ over 0 (bytes_of k v) (take (length m - at) (drop at m))
    → take at m ++ (last ++ drop (length m - at) (drop at m)) ≡ over at (bytes_of k v) m
put-tail k at v m last r l = tail-over at m last (bytes_of k v) (rw length-bytes_of r) l

-- a lower half written, and the upper half after it
pub put-halves : (k n v : ℕ) (m : List ℕ) → k + n ≤ length m
    → over k (bytes_of n (v / 256 ^ k)) (over 0 (bytes_of k (v % 256 ^ k)) m) ≡ over 0 (bytes_of (k + n) v) m
put-halves k n v m h =
    over-over 0 k (bytes_of k (v % 256 ^ k)) (bytes_of n (v / 256 ^ k)) m (simp length-bytes_of (omega arith)) (simp length-bytes_of (omega arith))
    ∙ ap (λ b. over 0 b m) (bytes_of-add k n v)

-- ---- low8, low32

pub mask-8 : (v : ℕ) → bit_and v 255 ≡ v % 256
mask-8 v = and_mask v 8

pub mask-32 : (v : ℕ) → bit_and v 4294967295 ≡ v % 4294967296
mask-32 v = and_mask v 32

-- ---- u32_at, u64_at

-- low bits and high bits side by side: the code's `lo | hi << k` at a width whose numbers are below w
pub or-join : (k w lo hi : ℕ) → lo < 2 ^ k → hi * 2 ^ k < w → bit_or lo ((hi * 2 ^ k) % w) ≡ lo + hi * 2 ^ k
or-join k w lo hi p q = rw (mod-eq_of_lt q, or_shifted_r) (omega arith)

-- four bytes, each one place further
pub or-four : (a b c d : ℕ) → a < 256 → b < 256 → c < 256 → d < 256
    → bit_or (bit_or (bit_or a ((b * 256) % 2 ^ 32)) ((c * 65536) % 2 ^ 32)) ((d * 16777216) % 2 ^ 32) ≡ a + b * 256 + c * 65536 + d * 16777216
or-four a b c d p q r s =
    rw (
      or-join 8 (2 ^ 32) a b (omega arith) (omega arith),
      or-join 16 (2 ^ 32) (a + b * 256) c (omega arith) (omega arith),
      or-join 24 (2 ^ 32) (a + b * 256 + c * 65536) d (omega arith) (omega arith),
    )

pub le_four : (at : ℕ) (xs : List ℕ) → at + 4 ≤ length xs
    → field 4 xs at ≡ get_or xs at 0 + get_or xs (at + 1) 0 * 256 + get_or xs (at + 2) 0 * 65536 + get_or xs (at + 3) 0 * 16777216
unfolding le
le_four at xs h =
    rw (
      le_step 3 at xs (omega arith),
      le_step 2 (at + 1) xs (omega arith),
      add_assoc,
      le_step 1 (at + 2) xs (omega arith),
      add_assoc,
      le_step 0 (at + 3) xs (omega arith),
    )
    (omega arith)

pub reads-four : (at a b c d : ℕ) (xs : List ℕ) → at + 4 ≤ length xs → (a ≡ get_or xs at 0) × (a < 256) → (b ≡ get_or xs (at + 1) 0) × (b < 256)
    → (c ≡ get_or xs (at + 2) 0) × (c < 256) → (d ≡ get_or xs (at + 3) 0) × (d < 256)
    → bit_or (bit_or (bit_or a ((b * 256) % 2 ^ 32)) ((c * 65536) % 2 ^ 32)) ((d * 16777216) % 2 ^ 32) ≡ field 4 xs at
reads-four at a b c d xs h p q r s = or-four a b c d p.1 q.1 r.1 s.1 ∙ omega (arith, le_four at xs h)

pub reads-eight : (at a b lo hi : ℕ) (xs : List ℕ) → at + 8 ≤ length xs → a ≡ field 4 xs at → (lo ≡ a) × (lo < 4294967296)
    → b ≡ field 4 xs (at + 4) → (hi ≡ b) × (hi < 4294967296) → bit_or lo ((hi * 4294967296) % 2 ^ 64) ≡ field 8 xs at
reads-eight at a b lo hi xs h p q r s = or-join 32 (2 ^ 64) lo hi (omega arith) (omega arith) ∙ omega (arith, le-add 4 4 at xs (omega arith))

pub ruleset reading = (reads-four, reads-eight, rules)
