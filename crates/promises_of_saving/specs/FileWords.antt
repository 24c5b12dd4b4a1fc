-- A file is its fields: the words of a file that fields make are the fields, and a file of bytes is made by its words. Assumes nothing.
use Rattle.std.specs.Prelude.{◌≡◌, refl, List, [], ◌∷◌, ◌++◌, ℕ, zero, suc, ◌+◌, ◌*◌, ◌%◌, ◌^◌, ◌≤◌, ◌<◌, length, get_or, take, drop}
use Rattle.std.proofs.Common.{sym, ap, subst, ◌∙◌, append_assoc, add-zero, zero-add, suc-add, arith, length-append, length-drop, take_at, drop-drop, take-add, length-take-le, get_or-drop}
use Rattle.std.proofs.Math.Seq.{drop-append-add, drop-nil}
use Rattle.rules.specs.Bytes.{le, bytes_of}
use Rattle.rules.specs.Layouts.{word, long}
use Rattle.rules.specs.Saved.{file_of}
use Rattle.words.specs.Fields.{le-bytes_of, length-bytes_of, bytes_of-le, le-add}
use Rattle.promises_of_submissions.specs.LentBytes.{OfBytes, bytes-of, both_bytes}

-- ---- from fields to bytes

pub length-file : (vs : List ℕ) → length (file_of vs) ≡ 4 * length vs
unfolding file_of
length-file [] = refl
length-file (v ∷ vs) = simp (length-append, length-bytes_of) (omega (arith, length-file vs))

pub file-both : (us vs : List ℕ) → file_of (us ++ vs) ≡ file_of us ++ file_of vs
unfolding file_of
file-both [] vs = refl
file-both (u ∷ us) vs = rw (file-both us vs) (sym (append_assoc (bytes_of 4 u) (file_of us) (file_of vs)))

pub file-of-bytes : (vs : List ℕ) → OfBytes (file_of vs)
unfolding file_of
file-of-bytes [] i = omega arith
file-of-bytes (v ∷ vs) i = both_bytes (bytes_of 4 v) (file_of vs) (bytes-of 4 v) (file-of-bytes vs) i

-- the i-th field is read where it stands
pub word-of-file : (vs : List ℕ) (i : ℕ) → word (file_of vs) (4 * i) ≡ get_or vs i 0 % 2 ^ 32
unfolding file_of le
word-of-file [] i = rw (drop-nil (4 * i))
word-of-file (v ∷ vs) zero = ap le (take_at (bytes_of 4 v) (file_of vs) 4 (length-bytes_of 4 v)) ∙ le-bytes_of 4 v
word-of-file (v ∷ vs) (suc i) =
    let e : 4 * suc i ≡ length (bytes_of 4 v) + 4 * i = rw length-bytes_of (omega arith) in
    ap (λ n. le (take 4 (drop n (bytes_of 4 v ++ file_of vs)))) e
    ∙ (ap (λ x. le (take 4 x)) (drop-append-add (bytes_of 4 v) (file_of vs) (4 * i)) ∙ word-of-file vs i)

-- a number of 64 bits is two fields, LO first
pub long-is-two : (b : List ℕ) (at : ℕ) → at + 4 ≤ length b → long b at ≡ word b at + 2 ^ 32 * word b (at + 4)
long-is-two b at h = le-add 4 4 at b h

-- ---- from bytes to fields

-- so many words, from a place on
unfoldable pub words_at : ℕ → List ℕ → ℕ → List ℕ
words_at zero b at = []
words_at (suc n) b at = word b at ∷ words_at n b (at + 4)

pub words-both : (m n : ℕ) (b : List ℕ) (at : ℕ) → words_at (m + n) b at ≡ words_at m b at ++ words_at n b (at + 4 * m)
unfolding words_at
words-both zero n b at = rw (zero-add, add-zero)
words-both (suc m) n b at =
    let e : at + 4 + 4 * m ≡ at + 4 * suc m = omega arith in
    rw suc-add (ap (λ x. word b at ∷ x) (words-both m n b (at + 4) ∙ ap (λ i. words_at m b (at + 4) ++ words_at n b i) e))

-- the same, where the later ones' place is said otherwise
pub words-on : (m n : ℕ) (b : List ℕ) (at next : ℕ) → next ≡ at + 4 * m → words_at m b at ++ words_at n b next ≡ words_at (m + n) b at
words-on m n b at next e = ap (λ k. words_at m b at ++ words_at n b k) e ∙ sym (words-both m n b at)

-- the bytes of a word are those that it was read from
pub bytes-of-word : (b : List ℕ) (at : ℕ) → OfBytes b → at + 4 ≤ length b → bytes_of 4 (word b at) ≡ take 4 (drop at b)
bytes-of-word b at o h =
    let e : length (take 4 (drop at b)) ≡ 4 = length-take-le 4 (drop at b) (simp length-drop (omega arith)) in
    ap (λ n. bytes_of n (word b at)) (sym e) ∙ bytes_of-le (take 4 (drop at b)) (bytes-taken 4 (drop at b) (λ i. subst (λ x. x < 256) (sym (get_or-drop at b i 0)) (o (at + i))))
  where
    bytes-taken : (n : ℕ) (m : List ℕ) → OfBytes m → OfBytes (take n m)
    bytes-taken zero m k i = omega arith
    bytes-taken (suc n) [] k i = omega arith
    bytes-taken (suc n) (x ∷ m) k zero = k 0
    bytes-taken (suc n) (x ∷ m) k (suc i) = bytes-taken n m (λ j. k (suc j)) i

pub file-of-words : (n : ℕ) (b : List ℕ) (at : ℕ) → OfBytes b → at + 4 * n ≤ length b → file_of (words_at n b at) ≡ take (4 * n) (drop at b)
unfolding file_of words_at
file-of-words zero b at o h = refl
file-of-words (suc n) b at o h =
    let e : 4 * suc n ≡ 4 + 4 * n = omega arith in
    rw (bytes-of-word b at o (omega arith), file-of-words n b (at + 4) o (omega arith), e) (sym (take-add 4 (4 * n) (drop at b) ∙ rw drop-drop))
