-- What a unit writes over two memories: nothing, or the same over each. Where they held the same byte, they do so after it. Assumes nothing.
use Rattle.std.specs.Prelude.{◌≡◌, Bool, List, ℕ, ◌+◌, ◌-◌, ◌≤◌, ◌<◌, eqb, get_or, drop}
use Rattle.std.proofs.Math.Path.{refl, sym}
use Rattle.std.proofs.Common.{ap, ◌∙◌, inl, inr, arith, get_or-take, get_or-drop}
use Rattle.std.proofs.Math.Bool.{true, false}
use borrow.Author.Tests.{leb-true, ltb-true, ltb-false}
use Rattle.std.proofs.Math.Dec.{ltb, leb}
use Rattle.std.proofs.Math.ListN.{length}
use Rattle.machine.specs.Machine.{pick}
use Rattle.rules.specs.Bytes.{bytes_of}
use Rattle.rules.specs.Layouts.{head_offset, page_bytes}
use Rattle.rules.specs.Settle.{written, next_head, head_written, page_written, marked}
use Rattle.rules.specs.declared.Job.{Job}
use Rattle.rules.specs.declared.Registers.{Registers}
use Rattle.settle.specs.Only.{Apart, written_byte, written_stands, head-length}

-- nothing is written, or over each the same head and, by the same registers, the same page
pub data SameWrites (r : Registers) (m m' : List ℕ) : List ℕ → List ℕ → Type 0 where
  unwritten : SameWrites r m m' m m'
  settles : (j : Job) → SameWrites r m m' (marked j r m) (marked j r m')

-- two memories hold the same byte at i
abbrev pub AgreeAt : ℕ → List ℕ → List ℕ → Type 0
AgreeAt i m m' = get_or m i 0 ≡ get_or m' i 0

-- a byte that was written is what was written there
written-inside : (i at : ℕ) (b m : List ℕ) → at + length b ≤ length m → at ≤ i → i < at + length b → get_or (written at b m) i 0 ≡ get_or b (i - at) 0
written-inside i at b m fit from to =
    let e : i ≡ at + (i - at) = omega arith in
    let inside : i - at < length b = omega arith in
    ap (λ (k : ℕ). get_or (written at b m) k 0) e
    ∙ (sym (get_or-drop at (written at b m) (i - at) 0)
    ∙ (sym (get_or-take (length b) (drop at (written at b m)) (i - at) 0 inside) ∙ ap (λ (l : List ℕ). get_or l (i - at) 0) (written_stands at b m (length b) refl fit)))

module _ (i : ℕ) (m m' : List ℕ) (len : length m ≡ length m') (same : AgreeAt i m m') where
  apart-both : (at : ℕ) (b : List ℕ) → Apart i 1 at (length b) → AgreeAt i (written at b m) (written at b m')
  apart-both at b h = written_byte at b m i h ∙ (same ∙ sym (written_byte at b m' i h))

  written_both : (at : ℕ) (b : List ℕ) → AgreeAt i (written at b m) (written at b m')
  unfolding written
  written_both at b = by_tests (ltb i at) (ltb i (at + length b)) (leb (at + length b) (length m)) refl refl refl
    where
      by_tests : (p q t : Bool) → ltb i at ≡ p → ltb i (at + length b) ≡ q → leb (at + length b) (length m) ≡ t → AgreeAt i (written at b m) (written at b m')
      by_tests true q t x y z = apart-both at b (inl (omega (arith, ltb-true i at x)))
      by_tests false false t x y z = apart-both at b (inr (ltb-false i (at + length b) y))
      by_tests false true true x y z =
          let fit : at + length b ≤ length m = leb-true (at + length b) (length m) z in
          let from : at ≤ i = ltb-false i at x in
          let to : i < at + length b = ltb-true i (at + length b) y in
          written-inside i at b m fit from to ∙ sym (written-inside i at b m' (rw (← len) fit) from to)
      by_tests false true false x y z = rw (← len, z) same

  page-both : (r : Registers) → AgreeAt i (page_written r m) (page_written r m')
  unfolding page_written
  page-both r = by_test (eqb r.fencepage 0)
    where
      by_test : (t : Bool) → AgreeAt i (pick t m (written r.fencepage (page_bytes r.completed) m)) (pick t m' (written r.fencepage (page_bytes r.completed) m'))
      by_test true = same
      by_test false = written_both r.fencepage (page_bytes r.completed)

  head-both : (j : Job) → AgreeAt i (head_written j m) (head_written j m')
  unfolding head_written
  head-both j = written_both (j.ring + head_offset) (bytes_of 4 (next_head j.head))

-- a byte that the two memories hold alike they hold alike after the same writes
pub same-writes-agree : (i : ℕ) (r : Registers) (m m' n n' : List ℕ) → length m ≡ length m' → AgreeAt i m m' → SameWrites r m m' n n' → AgreeAt i n n'
unfolding marked
same-writes-agree i r m m' n n' len same unwritten = same
same-writes-agree i r m m' n n' len same (settles j) =
    page-both i (head_written j m) (head_written j m') (head-length j m ∙ (len ∙ sym (head-length j m'))) (head-both i m m' len same j) r
