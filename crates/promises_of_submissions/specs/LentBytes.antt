-- Lent memory that holds bytes holds bytes after every settling, since what is written there are bytes; and a word of it has 32 bits.
-- Assumes nothing.
use Rattle.std.specs.Prelude.{◌≡◌, refl, Bool, true, false, List, [], ◌∷◌, ◌++◌, ℕ, zero, suc, ◌+◌, ◌-◌, ◌/◌, ◌^◌, ◌≤◌, ◌<◌, leb, eqb, length, get_or}
use Rattle.std.proofs.Common.{sym, ap, subst, ⊎_elim, arith, leb-true}
use Rattle.machine.specs.Machine.{pick}
use Rattle.words.specs.Over.{below_or_not, get_or-before, get_or-within, get_d_after}
use Rattle.words.specs.Fields.{field_bound}
use Rattle.rules.specs.Numbers.{page_magic, version}
use Rattle.rules.specs.Bytes.{bytes_of}
use Rattle.rules.specs.Lists.{over}
use Rattle.rules.specs.Layouts.{word, head_offset, page_bytes}
use Rattle.rules.specs.Settle.{written, head_written, page_written, marked, next_head}
use Rattle.rules.specs.declared.Job.{Job}
use Rattle.rules.specs.declared.Registers.{Registers}

abbrev pub OfBytes : List ℕ → Type 0
OfBytes m = (i : ℕ) → get_or m i 0 < 256

pub word_fits : (m : List ℕ) (at : ℕ) → OfBytes m → word m at < 2 ^ 32
word_fits m at b = field_bound 4 m at b

-- ---- what is written

pub bytes-of : (k v : ℕ) → OfBytes (bytes_of k v)
unfolding bytes_of
bytes-of zero v i = omega arith
bytes-of (suc k) v zero = omega arith
bytes-of (suc k) v (suc i) = bytes-of k (v / 256) i

pub both_bytes : (xs ys : List ℕ) → OfBytes xs → OfBytes ys → OfBytes (xs ++ ys)
both_bytes [] ys h k i = k i
both_bytes (x ∷ xs) ys h k zero = h 0
both_bytes (x ∷ xs) ys h k (suc i) = both_bytes xs ys (λ n. h (suc n)) k i

page-of-bytes : (completed : ℕ) → OfBytes (page_bytes completed)
unfolding page_bytes
page-of-bytes completed =
    both_bytes (bytes_of 4 page_magic) (bytes_of 4 version ++ bytes_of 8 completed) (bytes-of 4 page_magic)
    (both_bytes (bytes_of 4 version) (bytes_of 8 completed) (bytes-of 4 version) (bytes-of 8 completed))

-- ---- and memory after it

over-bytes : (at : ℕ) (b m : List ℕ) → at + length b ≤ length m → OfBytes b → OfBytes m → OfBytes (over at b m)
over-bytes at b m fit h k i =
    ⊎_elim (λ before. subst (λ x. x < 256) (sym (get_or-before at b m fit i 0 before)) (k i))
    (λ from. ⊎_elim
    (λ within. subst (λ x. x < 256) (ap (λ n. get_or (over at b m) n 0) (omega arith)) (subst (λ x. x < 256) (sym (get_or-within at b m fit (i - at) 0 (omega arith))) (h (i - at))))
    (λ past. subst (λ x. x < 256) (sym (get_d_after at b m fit i 0 past)) (k i))
    (below_or_not i (at + length b)))
    (below_or_not i at)

written-bytes : (at : ℕ) (b m : List ℕ) → OfBytes b → OfBytes m → OfBytes (written at b m)
unfolding written
written-bytes at b m h k = by_test (leb (at + length b) (length m)) refl
  where
    by_test : (t : Bool) → leb (at + length b) (length m) ≡ t → OfBytes (pick t (over at b m) m)
    by_test true e = over-bytes at b m (leb-true _ _ e) h k
    by_test false e = k

pub marked-bytes : (j : Job) (r : Registers) (m : List ℕ) → OfBytes m → OfBytes (marked j r m)
unfolding marked head_written page_written
marked-bytes j r m b = by-page (eqb r.fencepage 0)
  where
    head : OfBytes (head_written j m)
    head = written-bytes (j.ring + head_offset) (bytes_of 4 (next_head j.head)) m (bytes-of 4 (next_head j.head)) b

    by-page : (t : Bool) → OfBytes (pick t (head_written j m) (written r.fencepage (page_bytes r.completed) (head_written j m)))
    by-page true = head
    by-page false = written-bytes r.fencepage (page_bytes r.completed) (head_written j m) (page-of-bytes r.completed) head
