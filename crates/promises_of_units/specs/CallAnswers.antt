-- 01, "State and calls": each of the five calls gives each of its answers exactly when the table of call answers says so. Assumes nothing.
use Rattle.std.specs.Prelude.{◌≡◌, Bool, false, ◌⊎◌}
use Rattle.std.proofs.Math.Path.{refl}
use Rattle.std.proofs.Common.{sym, ◌∙◌, inl}
use Rattle.std.proofs.Math.Bool.{true}
use mathlib.Core.List.{List, [], ◌∷◌}
use Rattle.std.proofs.Math.Logic.{inr}
use Prim.Native.Nat.{ℕ, zero, suc, ◌≤◌, ◌<◌}
use native.Mathlib.Omega.{arith}
use Rattle.std.proofs.Math.ListN.{length}
use Rattle.rules.specs.Numbers.{done, other_memory, no_register, nothing_waits, no_record}
use Rattle.rules.specs.Lists.{Found, lookup, nth}
use Rattle.rules.specs.Lists.Found.{none, found}
use Rattle.rules.specs.State.{Work, State, World}
use Rattle.rules.specs.State.Work.{resting, entries, packets, waiting}
use Rattle.rules.specs.Registers.{Read, read_offset, readable, register, Write, write_offset, writable, write_of}
use Rattle.rules.specs.Steps.{waits_on, waits}
use Rattle.rules.specs.Calls.{lent_another, wrote, call_write, valued, call_read, Ran, call_run, handed_out, record_read, call_record, call_answer}
use Rattle.rules.specs.declared.Record.{Record}
use Rattle.rows.specs.Keys.{lookup-here, lookup-later}
use Rattle.promises_of_packets.specs.Held.{Every, every-none}
use Rattle.promises_of_packets.specs.Names.{none-not-found, true-not-false}
use Rattle.promises_of_units.specs.Runs.{of-run, of-answer}

-- one thing is so exactly if another is
abbrev pub Exactly : Type 0 → Type 0 → Type 0
Exactly A B = (A → B) × (B → A)

-- ---- run and answer: 1 comes before 3

module _ (w : World) (n : ℕ) where
  pub run-is-refused-with-1 : Exactly ((call_run w n).answer ≡ other_memory) (lent_another w ≡ true)
  run-is-refused-with-1 =
      of-run (λ (r : Ran). Exactly (r.answer ≡ other_memory) (lent_another w ≡ true)) w n (λ e. (λ _. e, λ _. refl))
      (λ e. (λ h. absurd (omega arith), λ h. absurd (true-not-false (sym h ∙ e))))

  pub run-is-done : Exactly ((call_run w n).answer ≡ done) (lent_another w ≡ false)
  run-is-done =
      of-run (λ (r : Ran). Exactly (r.answer ≡ done) (lent_another w ≡ false)) w n
      (λ e. (λ h. absurd (omega arith), λ h. absurd (true-not-false (sym e ∙ h)))) (λ e. (λ _. e, λ _. refl))

module _ (w : World) (good : Bool) (n : ℕ) where
  pub answer-is-refused-with-1 : Exactly ((call_answer w good n).answer ≡ other_memory) (lent_another w ≡ true)
  answer-is-refused-with-1 =
      of-answer (λ (r : Ran). Exactly (r.answer ≡ other_memory) (lent_another w ≡ true)) w good n (λ e. (λ _. e, λ _. refl))
      (λ e f. (λ h. absurd (omega arith), λ h. absurd (true-not-false (sym h ∙ e))))
      (λ e f. (λ h. absurd (omega arith), λ h. absurd (true-not-false (sym h ∙ e))))

  pub answer-is-refused-with-3 : Exactly ((call_answer w good n).answer ≡ nothing_waits) ((lent_another w ≡ false) × (waits w.state ≡ false))
  answer-is-refused-with-3 =
      of-answer (λ (r : Ran). Exactly (r.answer ≡ nothing_waits) ((lent_another w ≡ false) × (waits w.state ≡ false))) w good n
      (λ e. (λ h. absurd (omega arith), λ h. absurd (true-not-false (sym e ∙ h.0))))
      (λ e f. (λ _. (e, f), λ _. refl))
      (λ e f. (λ h. absurd (omega arith), λ h. absurd (true-not-false (sym f ∙ h.1))))

  pub answer-is-done : Exactly ((call_answer w good n).answer ≡ done) ((lent_another w ≡ false) × (waits w.state ≡ true))
  answer-is-done =
      of-answer (λ (r : Ran). Exactly (r.answer ≡ done) ((lent_another w ≡ false) × (waits w.state ≡ true))) w good n
      (λ e. (λ h. absurd (omega arith), λ h. absurd (true-not-false (sym e ∙ h.0))))
      (λ e f. (λ h. absurd (omega arith), λ h. absurd (true-not-false (sym h.1 ∙ f))))
      (λ e f. (λ _. (e, f), λ _. refl))

-- ---- write and read: 2 at any offset but those listed

-- "100/104 ring GPA; 108 ring size; 10C control; 120/124 fence page GPA; 304 IRQ enable: both ways. 200 doorbell, 308 IRQ ack: write only."
abbrev pub writable_offsets : List ℕ
writable_offsets = 0x100 ∷ 0x104 ∷ 0x108 ∷ 0x10c ∷ 0x120 ∷ 0x124 ∷ 0x200 ∷ 0x304 ∷ 0x308 ∷ []

-- those read only, 320 by wish 9, and those that go both ways
abbrev pub readable_offsets : List ℕ
readable_offsets =
    0x000 ∷ 0x004 ∷ 0x008 ∷ 0x00c ∷ 0x100 ∷ 0x104 ∷ 0x108 ∷ 0x10c ∷ 0x120 ∷ 0x124 ∷ 0x130 ∷ 0x134 ∷ 0x300 ∷ 0x304 ∷ 0x310 ∷ 0x314 ∷ 0x318 ∷ 0x31c ∷ 0x320 ∷ []

-- none of some offsets
abbrev pub NoneOf : List ℕ → ℕ → Type 0
NoneOf offsets offset = Every (λ n. n ≡ offset → ⊥) offsets

module _ {A : Type 0} (key : A → ℕ) where
  unfoldable keys : List A → List ℕ
  keys [] = []
  keys (x ∷ xs) = key x ∷ keys xs

  found_none : (k : ℕ) (xs : List A) → Exactly (lookup key k xs ≡ none) (NoneOf (keys xs) k)
  unfolding keys lookup Every
  found_none k [] = (λ _. every-none (λ n. n ≡ k → ⊥), λ _. refl)
  found_none k (x ∷ xs) = by_first (found_none k xs)
    where
      by_first : Exactly (lookup key k xs ≡ none) (NoneOf (keys xs) k) → Exactly (lookup key k (x ∷ xs) ≡ none) ((key x ≡ k → ⊥) × NoneOf (keys xs) k)
      by_first later = (
        λ e.
            let other : key x ≡ k → ⊥ = λ h. none-not-found x (sym e ∙ lookup-here key k x xs h) in
            (other, later.0 (sym (lookup-later key k x xs other) ∙ e)),
        λ h. lookup-later key k x xs h.0 ∙ later.1 h.1,
      )

module _ (s : State) (offset v : ℕ) where
  write_found_none : Exactly (write_of s offset v ≡ none) (NoneOf writable_offsets offset)
  unfolding write_of keys
  write_found_none = found_none write_offset offset (writable s v)

  pub write-is-refused-with-2 : Exactly ((call_write s offset v).answer ≡ no_register) (NoneOf writable_offsets offset)
  unfolding call_write
  write-is-refused-with-2 = by_found (write_of s offset v) refl
    where
      by_found : (f : Found Write) → write_of s offset v ≡ f → Exactly ((wrote s f).answer ≡ no_register) (NoneOf writable_offsets offset)
      by_found none e = (λ _. write_found_none.0 e, λ _. refl)
      by_found (found x) e = (λ h. absurd (omega arith), λ h. absurd (none-not-found x (sym (write_found_none.1 h) ∙ e)))

  pub write-is-done : Exactly ((call_write s offset v).answer ≡ done) (NoneOf writable_offsets offset → ⊥)
  unfolding call_write
  write-is-done = by_found (write_of s offset v) refl
    where
      by_found : (f : Found Write) → write_of s offset v ≡ f → Exactly ((wrote s f).answer ≡ done) (NoneOf writable_offsets offset → ⊥)
      by_found none e = (λ h. absurd (omega arith), λ h. absurd (h (write_found_none.0 e)))
      by_found (found x) e = (λ _ h. none-not-found x (sym (write_found_none.1 h) ∙ e), λ _. refl)

module _ (s : State) (offset : ℕ) where
  read_found_none : Exactly (register s.regs offset ≡ none) (NoneOf readable_offsets offset)
  unfolding register keys
  read_found_none = found_none read_offset offset (readable s.regs)

  pub read-is-refused-with-2 : Exactly ((call_read s offset).answer ≡ no_register) (NoneOf readable_offsets offset)
  unfolding call_read
  read-is-refused-with-2 = by_found (register s.regs offset) refl
    where
      by_found : (f : Found Read) → register s.regs offset ≡ f → Exactly ((valued f).answer ≡ no_register) (NoneOf readable_offsets offset)
      by_found none e = (λ _. read_found_none.0 e, λ _. refl)
      by_found (found x) e = (λ h. absurd (omega arith), λ h. absurd (none-not-found x (sym (read_found_none.1 h) ∙ e)))

  pub read-is-done : Exactly ((call_read s offset).answer ≡ done) (NoneOf readable_offsets offset → ⊥)
  unfolding call_read
  read-is-done = by_found (register s.regs offset) refl
    where
      by_found : (f : Found Read) → register s.regs offset ≡ f → Exactly ((valued f).answer ≡ done) (NoneOf readable_offsets offset → ⊥)
      by_found none e = (λ h. absurd (omega arith), λ h. absurd (h (read_found_none.0 e)))
      by_found (found x) e = (λ _ h. none-not-found x (sym (read_found_none.1 h) ∙ e), λ _. refl)

-- ---- record: 4 where nothing waits, or the index is not below the count

-- the records that a submission has made, while it waits
abbrev pub records_waiting : State → List Record
records_waiting s = handed_out s.work

module _ {A : Type 0} where
  nth_none : (xs : List A) (i : ℕ) → Exactly (nth xs i ≡ none) (length xs ≤ i)
  unfolding nth
  nth_none [] i = (λ _. omega arith, λ _. refl)
  nth_none (x ∷ xs) zero = (λ e. absurd (none-not-found x (sym e)), λ h. absurd (omega arith))
  nth_none (x ∷ xs) (suc i) = let later = nth_none xs i in (λ e. omega (arith, later.0 e), λ h. later.1 (omega arith))

module _ (s : State) (i : ℕ) where
  abbrev NoRecord : Type 0
  NoRecord = (waits s ≡ false) ⊎ (length (records_waiting s) ≤ i)

  -- what does not wait has none
  few-enough : NoRecord → length (records_waiting s) ≤ i
  few-enough = by-work s.work
    where
      by-work : (k : Work) → (waits_on k ≡ false) ⊎ (length (handed_out k) ≤ i) → length (handed_out k) ≤ i
      by-work resting h = omega arith
      by-work (entries o kept) h = omega arith
      by-work (packets j t at es held) h = omega arith
      by-work (waiting j es held) (inl e) = absurd (true-not-false e)
      by-work (waiting j es held) (inr h) = h

  pub record-is-refused-with-4 : Exactly ((call_record s i).answer ≡ no_record) ((waits s ≡ false) ⊎ (length (records_waiting s) ≤ i))
  unfolding call_record
  record-is-refused-with-4 = by_found (nth (records_waiting s) i) refl
    where
      by_found : (f : Found Record) → nth (records_waiting s) i ≡ f → Exactly ((record_read f).answer ≡ no_record) NoRecord
      by_found none e = (λ _. inr ((nth_none (records_waiting s) i).0 e), λ _. refl)
      by_found (found c) e = (λ h. absurd (omega arith), λ h. absurd (none-not-found c (sym ((nth_none (records_waiting s) i).1 (few-enough h)) ∙ e)))

  pub record-is-done : Exactly ((call_record s i).answer ≡ done) ((waits s ≡ true) × (i < length (records_waiting s)))
  unfolding call_record
  record-is-done = by_found (nth (records_waiting s) i) refl
    where
      waits-with : (k : Work) → i < length (handed_out k) → waits_on k ≡ true
      waits-with resting h = absurd (omega arith)
      waits-with (entries o kept) h = absurd (omega arith)
      waits-with (packets j t at es held) h = absurd (omega arith)
      waits-with (waiting j es held) h = refl

      by_found : (f : Found Record) → nth (records_waiting s) i ≡ f → Exactly ((record_read f).answer ≡ done) ((waits s ≡ true) × (i < length (records_waiting s)))
      by_found none e = (λ h. absurd (omega arith), λ h. absurd (omega (arith, h.1, (nth_none (records_waiting s) i).0 e)))
      by_found (found c) e =
          let below : i < length (records_waiting s) = not-above (λ h. none-not-found c (sym ((nth_none (records_waiting s) i).1 h) ∙ e)) in
          (λ _. (waits-with s.work below, below), λ _. refl)
        where
          not-above : (length (records_waiting s) ≤ i → ⊥) → i < length (records_waiting s)
          not-above n = omega arith
