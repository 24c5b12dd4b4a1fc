-- Wish 12: "It holds up to each settling, and beyond if the head and fence writes touch no listed byte but the head's own." Then every submission can be listed in the memory
-- as it was first lent, with only the head as it is when the submission is opened. Assumes nothing.
use Rattle.std.specs.Prelude.{◌≡◌, refl, ◌⊎◌, length, take, drop, get_or}
use Rattle.std.proofs.Common.{sym, ap, subst, ◌∙◌, inl, inr, arith, length-take, length-drop, get_or-take, get_or-drop}
use mathlib.Core.List.{List, [], ◌∷◌}
use Rattle.std.proofs.Math.Logic.{⊎_elim}
use Prim.Native.Nat.{ℕ, ◌+◌, ◌-◌, ◌≤◌, ◌<◌, min}
use Rattle.std.proofs.Math.Nat.{min-le_left}
use Rattle.std.proofs.Math.ListN.{get_or-eq_default}
use Rattle.rules.specs.Layouts.{head_offset}
use Rattle.rules.specs.State.{State, World}
use Rattle.rules.specs.Settle.{written}
use Rattle.rules.specs.Steps.{step}
use Rattle.rules.specs.Listed.{Named, submission_listed}
use Rattle.words.specs.Over.{below_or_not}
use Rattle.settle.specs.Only.{Apart, written-length, written_byte, written_stands, answered-keeps-length}
use Rattle.promises_of_packets.specs.Held.{Every}
use Rattle.promises_of_submissions.specs.Reads.{AgreeOn, SameIn}
use Rattle.promises_of_submissions.specs.LocalWrites.{AgreeAt}
use Rattle.promises_of_submissions.specs.Locality.{lent}
use Rattle.promises_of_units.specs.Memory.{touched-length, unit-writes-by-settling}
use Rattle.promises_of_units.specs.Called.{Call}
use Rattle.promises_of_leftovers.specs.Unit.{bytes-agree, still-agree}
use Rattle.promises_of_leftovers.specs.Submissions.{openings, listed_in_work}
use Rattle.promises_of_leftovers.specs.Along.{openings-kept, any-calls}

-- the head's own four bytes, of a ring
abbrev pub head_of : ℕ → Named
head_of ring = record { at = ring + head_offset; width = 4 }

-- memory as it was first lent, with the head of a ring as it is now
unfoldable pub headed : List ℕ → ℕ → List ℕ → List ℕ
headed m ring now = written (ring + head_offset) (take 4 (drop (ring + head_offset) now)) m

-- what the submission that is opened in a world lists, read in the memory that was first lent but for the head
abbrev pub listed_at_first : List ℕ → World → List Named
listed_at_first m v = submission_listed (headed m v.state.regs.ring v.mem) v.state.regs.ring v.state.regs.ringsize

-- of these fields none has been written since, but the head's own
abbrev pub Unwritten : List ℕ → World → Type 0
Unwritten m v = Every (λ (f : Named). (f ≡ head_of v.state.regs.ring) ⊎ SameIn m v.mem f) (listed_at_first m v)

-- ---- the bytes of such a memory

module _ (m now : List ℕ) (ring : ℕ) (long : length m ≡ length now) where
  pub headed-length : length (headed m ring now) ≡ length m
  unfolding headed
  headed-length = written-length (ring + head_offset) (take 4 (drop (ring + head_offset) now)) m

  few : length (take 4 (drop (ring + head_offset) now)) ≤ 4
  few = rw length-take (min-le_left 4 (length (drop (ring + head_offset) now)))

  headed-out : (i : ℕ) → Apart i 1 (ring + head_offset) 4 → get_or (headed m ring now) i 0 ≡ get_or m i 0
  unfolding headed
  headed-out i (inl h) = written_byte (ring + head_offset) (take 4 (drop (ring + head_offset) now)) m i (inl h)
  headed-out i (inr h) = written_byte (ring + head_offset) (take 4 (drop (ring + head_offset) now)) m i (inr (omega (arith, few)))

  -- its head is that of now
  headed-in : (i : ℕ) → i < 4 → AgreeAt (ring + head_offset + i) (headed m ring now) now
  unfolding headed
  headed-in i h = ⊎_elim within past (below_or_not (ring + head_offset + i) (length m))
    where
      at : ℕ
      at = ring + head_offset

      head : List ℕ
      head = take 4 (drop (ring + head_offset) now)

      as_many : length head ≡ min 4 (length now - (ring + head_offset))
      as_many = simp (length-take, length-drop)

      past : length m ≤ ring + head_offset + i → AgreeAt (ring + head_offset + i) (written (ring + head_offset) head m) now
      past p =
          get_or-eq_default (written (ring + head_offset) head m) 0 {n = ring + head_offset + i} (rw written-length p)
          ∙ sym (get_or-eq_default now 0 {n = ring + head_offset + i} (rw (← long) p))

      within : ring + head_offset + i < length m → AgreeAt (ring + head_offset + i) (written (ring + head_offset) head m) now
      within p =
          let fit : ring + head_offset + length head ≤ length m = omega (arith, as_many) in
          let some : i < length head = omega (arith, as_many) in
          sym (get_or-drop (ring + head_offset) (written (ring + head_offset) head m) i 0)
          ∙ (sym (get_or-take (length head) (drop (ring + head_offset) (written (ring + head_offset) head m)) i 0 some)
          ∙ (ap (λ (l : List ℕ). get_or l i 0) (written_stands (ring + head_offset) head m (length head) refl fit)
          ∙ (get_or-take 4 (drop (ring + head_offset) now) i 0 h ∙ get_or-drop (ring + head_offset) now i 0)))

  -- a byte that has not been written since is the same there and now
  headed-still : (i : ℕ) → AgreeAt i m now → AgreeAt i (headed m ring now) now
  headed-still i same = ⊎_elim before from (below_or_not i (ring + head_offset))
    where
      before : i < ring + head_offset → AgreeAt i (headed m ring now) now
      before h = headed-out i (inl (omega arith)) ∙ same

      from : ring + head_offset ≤ i → AgreeAt i (headed m ring now) now
      from h = ⊎_elim (λ p. inside h p) (λ p. headed-out i (inr p) ∙ same) (below_or_not i (ring + head_offset + 4))
        where
          inside : ring + head_offset ≤ i → i < ring + head_offset + 4 → AgreeAt i (headed m ring now) now
          inside h p =
              let e : ring + head_offset + (i - (ring + head_offset)) ≡ i = omega arith in
              subst (λ (k : ℕ). AgreeAt k (headed m ring now) now) e (headed-in (i - (ring + head_offset)) (omega arith))

  field-now : (f : Named) → (f ≡ head_of ring) ⊎ SameIn m now f → SameIn (headed m ring now) now f
  field-now f (inl e) = rw e (bytes-agree (headed m ring now) now (headed-length ∙ long) (ring + head_offset) 4 headed-in)
  field-now f (inr s) = still-agree m now (headed m ring now) now (headed-length ∙ long) headed-still f.at f.width s

  pub fields-now : (fs : List Named) → Every (λ (f : Named). (f ≡ head_of ring) ⊎ SameIn m now f) fs → AgreeOn (headed m ring now) now fs
  unfolding Every
  fields-now [] h = h
  fields-now (f ∷ fs) h = (field-now f h.0, fields-now fs h.1)

-- ---- what is listed at first is what is listed there

-- the two memories agree on what is listed in the first of them; and, of each submission that the calls open, no listed field has been written since but the head's own
pub record AgreeAtFirst (cs : List Call) (s : State) (m m' : List ℕ) : Type 0 where
  pub as_long : length m ≡ length m'
  pub in_work : AgreeOn m m' (listed_in_work s m)
  pub opened : Every (λ (v : World). AgreeOn m m' (listed_at_first m v)) (openings cs (lent s m))
  pub unwritten : Every (Unwritten m) (openings cs (lent s m))

pub same-lengths : (cs : List Call) (w : World) → Every (λ (v : World). length w.mem ≡ length v.mem) (openings cs w)
same-lengths cs w =
    openings-kept (λ (v : World). length w.mem ≡ length v.mem) (λ v e. e ∙ sym (touched-length v v.state.work (step v).mem (unit-writes-by-settling v)))
    (λ good v e. e ∙ sym (answered-keeps-length good v)) (λ offset. 0 ≤ 0) (λ v offset n k e. e) cs w (any-calls cs) refl
