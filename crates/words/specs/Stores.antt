-- What the writing of a field asks. Assumes nothing.
use Rattle.std.specs.Prelude.{◌≡◌, refl, List, ◌++◌, ℕ, ◌/◌, ◌%◌, ◌≤◌, length, take, drop, set}
use Rattle.std.proofs.Common.{◌∙◌, arith, rules}
use Rattle.std.proofs.lemmas.List.Edits.{sets}
use Rattle.rules.specs.Bytes.{bytes_of}
use Rattle.rules.specs.Lists.{over}
use Rattle.words.specs.Over.{sets_over}
use Rattle.words.specs.Fields.{bytes_of_mod, length-bytes_of, length-put, put-halves, put-part}

-- ---- put_u32, put_u64

-- k bytes stored one by one at the front
pub sets-put : (k v : ℕ) (l : List ℕ) → k ≤ length l → sets l 0 (bytes_of k v) ≡ over 0 (bytes_of k v) l
sets-put k v l h = sets_over 0 (bytes_of k v) l (rw length-bytes_of (omega arith))

pub puts-four : (v a b c d : ℕ) (l : List ℕ) → 4 ≤ length l → a ≡ v % 256 → b ≡ v / 256 % 256 → c ≡ v / 65536 % 256 → d ≡ v / 16777216 % 256
    → set (set (set (set l 0 a) 1 b) 2 c) 3 d ≡ over 0 (bytes_of 4 v) l
unfolding bytes_of
puts-four v a b c d l h p q r s =
    let e2 : c ≡ v / 256 / 256 % 256 = omega arith in
    let e3 : d ≡ v / 256 / 256 / 256 % 256 = omega arith in
    rw (p, q, e2, e3) (sets-put 4 v l h)

pub puts-eight : (v lo hi : ℕ) (l p q : List ℕ) → 8 ≤ length l → lo ≡ v % 4294967296 → p ≡ over 0 (bytes_of 4 lo) (take 4 l)
    → hi ≡ v / 4294967296 % 4294967296 → q ≡ over 0 (bytes_of 4 hi) (take 4 (drop 4 (p ++ drop 4 l)))
    → take 4 (p ++ drop 4 l) ++ (q ++ drop 4 (drop 4 (p ++ drop 4 l))) ≡ over 0 (bytes_of 8 v) l
puts-eight v lo hi l p q h a b c d =
    let first : p ++ drop 4 l ≡ over 0 (bytes_of 4 lo) l = put-part 4 0 4 lo l p refl (omega arith) b in
    let long : length (p ++ drop 4 l) ≡ length l = rw first (length-put 4 0 lo l (omega arith)) in
    let second : take 4 (p ++ drop 4 l) ++ (q ++ drop 4 (drop 4 (p ++ drop 4 l))) ≡ over 4 (bytes_of 4 hi) (p ++ drop 4 l) =
    put-part 4 4 8 hi (p ++ drop 4 l) q refl (omega arith) d in
    let top : bytes_of 4 hi ≡ bytes_of 4 (v / 4294967296) = rw c (bytes_of_mod 4 (v / 4294967296)) in
    second ∙ rw (first, top, a) (put-halves 4 4 v l h)

pub ruleset writing = (puts-four, puts-eight, rules)
