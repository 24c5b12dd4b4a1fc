-- What settling does to memory: only the head of the opened ring and the fence page change, and the length never does.
-- Where they fit, they hold what they should. Assumes nothing.
use Rattle.std.specs.Prelude.{◌≡◌, ℕ, ◌+◌, ◌%◌, ◌^◌, ◌≤◌, Bool, true, false, ◌⊎◌, List, length, take, drop, ◌==◌, ◌≢◌, nat_le, nat_lt, slice_index}
use Rattle.std.proofs.Math.Path.{refl}
use Rattle.std.proofs.Common.{ap, ◌∙◌, inl, inr, leb-true, ltb-true, ltb-false, ne_eqb}
use native.Mathlib.Omega.{arith}
use Rattle.machine.specs.Machine.{pick}
use Rattle.words.specs.Over.{length_over, part_at, part-before, drop-after, get_or-before, get_d_after}
use Rattle.words.specs.Fields.{length-bytes_of, le-bytes_of}
use Rattle.rules.specs.Bytes.{le, bytes_of}
use Rattle.rules.specs.Lists.{over}
use Rattle.rules.specs.Judging.{Finding}
use Rattle.rules.specs.Judging.Finding.{fine, broken}
use Rattle.rules.specs.Layouts.{word, head_offset, page_bytes}
use Rattle.rules.specs.State.{Work, World}
use Rattle.rules.specs.State.Work.{resting, entries, packets, waiting}
use Rattle.rules.specs.Steps.{answer_on, answered}
use Rattle.rules.specs.Calls.{lent_another}
use Rattle.rules.specs.Settle.{faulted, signalled, faulted_by, ended_by, written, next_head, head_written, page_written, marked, settled}
use Rattle.rules.specs.declared.Registers.{Registers}
use Rattle.rules.specs.declared.Job.{Job}
use Rattle.rules.specs.declared.Fault.{Fault}
use Rattle.settle.specs.Settling.{page_size, head_size}
use Rattle.settle.specs.Laws.{written-within, length-page-bytes}

-- the n bytes at i lie outside the k bytes at `at`
abbrev pub Apart : ℕ → ℕ → ℕ → ℕ → Type 0
Apart i n at k = (i + n ≤ at) ⊎ (at + k ≤ i)

-- where a submission's head stands
abbrev pub head_at : Job → ℕ
head_at j = j.ring + head_offset

-- ---- one write, which may be none

-- what holds of memory, and of memory with the bytes over it where they fit, holds after a write
by-room : (P : List ℕ → Type 0) (at : ℕ) (b m : List ℕ) → (at + length b ≤ length m → P (over at b m)) → P m → P (written at b m)
unfolding written
by-room P at b m fit none = by_test (nat_le (at + length b) (length m)) refl
  where
    by_test : (t : Bool) → nat_le (at + length b) (length m) ≡ t → P (pick t (over at b m) m)
    by_test true e = fit (leb-true _ _ e)
    by_test false e = none

module _ (at : ℕ) (b m : List ℕ) where
  pub written-length : length (written at b m) ≡ length m
  written-length = by-room (λ x. length x ≡ length m) at b m (length_over at b m) refl

  pub written-part : (w i : ℕ) → Apart i w at (length b) → take w (drop i (written at b m)) ≡ take w (drop i m)
  written-part w i apart = by-room (λ x. take w (drop i x) ≡ take w (drop i m)) at b m (λ fit. by_side fit apart) refl
    where
      by_side : at + length b ≤ length m → Apart i w at (length b) → take w (drop i (over at b m)) ≡ take w (drop i m)
      by_side fit (inl h) = part-before at b m fit w i h
      by_side fit (inr h) = ap (λ x. take w x) (drop-after at b m fit i h)

  pub written_byte : (i : ℕ) → Apart i 1 at (length b) → slice_index (written at b m) i ≡ slice_index m i
  written_byte i apart = by-room (λ x. slice_index x i ≡ slice_index m i) at b m (λ fit. by_side fit apart) refl
    where
      by_side : at + length b ≤ length m → Apart i 1 at (length b) → slice_index (over at b m) i ≡ slice_index m i
      by_side fit (inl h) = get_or-before at b m fit i 0 (omega arith)
      by_side fit (inr h) = get_d_after at b m fit i 0 h

  pub written_stands : (w : ℕ) → length b ≡ w → at + w ≤ length m → take w (drop at (written at b m)) ≡ b
  written_stands w e h =
      let fit : at + length b ≤ length m = rw e h in
      rw (written-within at b m fit) (part_at at b m fit w e)

-- ---- the head and the page, each by itself

module _ (j : Job) (m : List ℕ) where
  pub head-length : length (head_written j m) ≡ length m
  unfolding head_written
  head-length = written-length (head_at j) (bytes_of head_size (next_head j.head)) m

  head-part : (w i : ℕ) → Apart i w (head_at j) head_size → take w (drop i (head_written j m)) ≡ take w (drop i m)
  unfolding head_written
  head-part w i h = written-part (head_at j) (bytes_of head_size (next_head j.head)) m w i (rw length-bytes_of h)

  head_byte : (i : ℕ) → Apart i 1 (head_at j) head_size → slice_index (head_written j m) i ≡ slice_index m i
  unfolding head_written
  head_byte i h = written_byte (head_at j) (bytes_of head_size (next_head j.head)) m i (rw length-bytes_of h)

  head-there : head_at j + head_size ≤ length m → take head_size (drop (head_at j) (head_written j m)) ≡ bytes_of head_size (next_head j.head)
  unfolding head_written
  head-there h = written_stands (head_at j) (bytes_of head_size (next_head j.head)) m head_size (length-bytes_of head_size (next_head j.head)) h

module _ (r : Registers) (m : List ℕ) where
  by-page : (P : List ℕ → Type 0) → P m → P (written r.fencepage (page_bytes r.completed) m) → P (page_written r m)
  unfolding page_written
  by-page P none there = by_test (r.fencepage == 0)
    where
      by_test : (t : Bool) → P (pick t m (written r.fencepage (page_bytes r.completed) m))
      by_test true = none
      by_test false = there

  pub page-length : length (page_written r m) ≡ length m
  page-length = by-page (λ x. length x ≡ length m) refl (written-length r.fencepage (page_bytes r.completed) m)

  page-part : (w i : ℕ) → Apart i w r.fencepage page_size → take w (drop i (page_written r m)) ≡ take w (drop i m)
  page-part w i h =
      by-page (λ x. take w (drop i x) ≡ take w (drop i m)) refl (written-part r.fencepage (page_bytes r.completed) m w i (rw length-page-bytes h))

  page-byte : (i : ℕ) → Apart i 1 r.fencepage page_size → slice_index (page_written r m) i ≡ slice_index m i
  page-byte i h = by-page (λ x. slice_index x i ≡ slice_index m i) refl (written_byte r.fencepage (page_bytes r.completed) m i (rw length-page-bytes h))

  page-there : (r.fencepage ≢ 0) → r.fencepage + page_size ≤ length m → take page_size (drop r.fencepage (page_written r m)) ≡ page_bytes r.completed
  unfolding page_written
  page-there some h = rw (ne_eqb r.fencepage 0 some) (written_stands r.fencepage (page_bytes r.completed) m page_size (length-page-bytes r.completed) h)

-- ---- both

module _ (j : Job) (r : Registers) (m : List ℕ) where
  pub marked-length : length (marked j r m) ≡ length m
  unfolding marked
  marked-length = page-length r (head_written j m) ∙ head-length j m

  -- a byte outside the head and the page stays
  pub only-head-and-page : (i : ℕ) → Apart i 1 (head_at j) head_size → Apart i 1 r.fencepage page_size → slice_index (marked j r m) i ≡ slice_index m i
  unfolding marked
  only-head-and-page i h p = page-byte r (head_written j m) i p ∙ head_byte j m i h

  -- and so do bytes side by side: what is read outside the head and the page is read as before
  pub only-head-and-page-part : (w i : ℕ) → Apart i w (head_at j) head_size → Apart i w r.fencepage page_size → take w (drop i (marked j r m)) ≡ take w (drop i m)
  unfolding marked
  only-head-and-page-part w i h p = page-part r (head_written j m) w i p ∙ head-part j m w i h

  -- where the page fits, it stands there whole: it is written last
  pub page-stands : (r.fencepage ≢ 0) → r.fencepage + page_size ≤ length m → take page_size (drop r.fencepage (marked j r m)) ≡ page_bytes r.completed
  unfolding marked
  page-stands some h = page-there r (head_written j m) some (rw (head-length j m) h)

  -- where the head fits and the page does not lie over it, the head has moved on by one
  pub head-stands : head_at j + head_size ≤ length m → Apart (head_at j) head_size r.fencepage page_size
      → take head_size (drop (head_at j) (marked j r m)) ≡ bytes_of head_size (next_head j.head)
  unfolding marked
  head-stands h p = page-part r (head_written j m) head_size (head_at j) p ∙ head-there j m h

  -- and is read as the next one
  pub head-reads : head_at j + head_size ≤ length m → Apart (head_at j) head_size r.fencepage page_size → word (marked j r m) (head_at j) ≡ next_head j.head
  head-reads h p =
      let small : next_head j.head % 2 ^ 32 ≡ next_head j.head = omega arith in
      ap le (head-stands h p) ∙ (le-bytes_of head_size (next_head j.head) ∙ small)

-- ---- the registers that say where memory is written, and those that only rise

-- what no error changes, settling takes over from the registers before it
by-finding : {A : Type 0} (part : Registers → A) (v : Finding) (fence : ℕ) (r : Registers)
    → ((f : Fault) → part (faulted f fence r) ≡ part r) → part (faulted_by v fence r) ≡ part r
by-finding part fine fence r h = refl
by-finding part (broken f) fence r h = h f

module _ (j : Job) (v : Finding) (r : Registers) where
  pub settling-keeps-page : (ended_by j v r).fencepage ≡ r.fencepage
  unfolding ended_by signalled faulted
  settling-keeps-page = by-finding (λ x. x.fencepage) v j.signal r (λ f. refl)

  pub settling-keeps-ring : (ended_by j v r).ring ≡ r.ring
  unfolding ended_by signalled faulted
  settling-keeps-ring = by-finding (λ x. x.ring) v j.signal r (λ f. refl)

  -- the completed fence is at least what it was, and at least the fence signalled
  pub completed-rises : (r.completed ≤ (ended_by j v r).completed) × (j.signal ≤ (ended_by j v r).completed)
  unfolding ended_by signalled faulted
  completed-rises =
      let same : (faulted_by v j.signal r).completed ≡ r.completed = by-finding (λ x. x.completed) v j.signal r (λ f. refl) in
      rw same (by_test (nat_lt r.completed j.signal) refl)
    where
      by_test : (t : Bool) → nat_lt r.completed j.signal ≡ t → (r.completed ≤ pick t j.signal r.completed) × (j.signal ≤ pick t j.signal r.completed)
      by_test true e = (omega (arith, ltb-true), omega arith)
      by_test false e = (omega arith, omega (arith, ltb-false))

-- ---- the host's answer: a memory of the device's own length is one after it too

module _ (good : Bool) (w : World) where
  pub answered-keeps-memory : (answered good w).state.memory ≡ w.state.memory
  unfolding answered settled
  answered-keeps-memory = by-work good w.state.work
    where
      by-work : (g : Bool) (k : Work) → (answer_on g w k).state.memory ≡ w.state.memory
      by-work g resting = refl
      by-work g (entries o kept) = refl
      by-work g (packets j s at es h) = refl
      by-work true (waiting j es h) = refl
      by-work false (waiting j es h) = refl

  pub answered-keeps-length : length (answered good w).mem ≡ length w.mem
  unfolding answered settled
  answered-keeps-length = by-work good w.state.work
    where
      by-work : (g : Bool) (k : Work) → length (answer_on g w k).mem ≡ length w.mem
      by-work g resting = refl
      by-work g (entries o kept) = refl
      by-work g (packets j s at es h) = refl
      by-work true (waiting j es h) = marked-length j _ w.mem
      by-work false (waiting j es h) = marked-length j _ w.mem

  pub answered-is-lent-alike : lent_another (answered good w) ≡ lent_another w
  answered-is-lent-alike = rw (answered-keeps-memory, answered-keeps-length)
