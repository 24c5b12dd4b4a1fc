-- What a register write does: it changes registers alone, and of those neither the completed fence nor the error, unless it resets;
-- a reset is exactly the rules' `reset`. Assumes nothing.
use Rattle.std.specs.Prelude.{◌≡◌, Bool, ◌&&◌, ℕ, ◌≤◌, eqb}
use Rattle.std.proofs.Math.Path.{refl, ap}
use Rattle.std.proofs.Common.{sym, subst, ◌∙◌, arith, eqb-true}
use Rattle.std.proofs.Math.Bool.{true, false}
use mathlib.Core.List.{List, [], ◌∷◌}
use Rattle.machine.specs.Machine.{pick}
use Rattle.rules.specs.Lists.{Found, lookup}
use Rattle.rules.specs.Lists.Found.{none, found}
use Rattle.rules.specs.State.{State, made, with_regs}
use Rattle.rules.specs.Registers.{Write, with_enabled, bit_of, reset_registers, reset, controlled, writable, write_offset, write_of}
use Rattle.rules.specs.Calls.{wrote, call_write}
use Rattle.rules.specs.declared.Registers.{Registers}
use Rattle.promises_of_packets.specs.Held.{Every}

-- "Control .. Bit 1 resets"
abbrev pub resets : ℕ → ℕ → Bool
resets offset v = eqb offset 0x10c && bit_of 1 v

-- a write that is no reset changes registers alone, and keeps the completed fence and the error; one that is gives what `reset` gives
pub data Written (s : State) (offset v : ℕ) : State → Type 0 where
  keeps : (r : Registers) → resets offset v ≡ false → r.completed ≡ s.regs.completed → r.error ≡ s.regs.error
      → Written s offset v (with_regs r s)
  drops : resets offset v ≡ true → Written s offset v (reset (bit_of 0 v) s)

control-written : (s : State) (v : ℕ) → Written s 0x10c v (controlled v s)
unfolding controlled
control-written s v = by_bit (bit_of 1 v) refl
  where
    by_bit : (b : Bool) → bit_of 1 v ≡ b → Written s 0x10c v (pick b (reset (bit_of 0 v) s) (with_regs (with_enabled (bit_of 0 v) s.regs) s))
    by_bit true h = drops h
    by_bit false h = keeps (with_enabled (bit_of 0 v) s.regs) h refl refl

abbrev WrittenBy : State → ℕ → Write → Type 0
WrittenBy s v x = Written s x.offset v x.state

abbrev FoundWritten : State → ℕ → ℕ → Found Write → Type 0
FoundWritten s offset v none = 0 ≤ 0
FoundWritten s offset v (found x) = Written s offset v x.state

lookup-written : (s : State) (offset v : ℕ) (ws : List Write) → Every (WrittenBy s v) ws → FoundWritten s offset v (lookup write_offset offset ws)
unfolding lookup Every
lookup-written s offset v [] h = omega arith
lookup-written s offset v (x ∷ xs) h = by_test (eqb x.offset offset) refl (lookup-written s offset v xs h.1)
  where
    by_test : (b : Bool) → eqb x.offset offset ≡ b → FoundWritten s offset v (lookup write_offset offset xs) → FoundWritten s offset v (pick b (found x) (lookup write_offset offset xs))
    by_test true e k = subst (λ o. Written s o v x.state) (eqb-true x.offset offset e) h.0
    by_test false e k = k

all-written : (s : State) (v : ℕ) → Every (WrittenBy s v) (writable s v)
unfolding Every
all-written s v = (keeps _ refl refl refl, (keeps _ refl refl refl, (keeps _ refl refl refl, (control-written s v, (keeps _ refl refl refl, (keeps _ refl refl refl, (keeps _ refl refl refl, (keeps _ refl refl refl, (keeps _ refl refl refl, omega arith)))))))))

-- every write, of any number to any offset, is the one or the other
pub write-keeps-or-drops : (s : State) (offset v : ℕ) → Written s offset v (call_write s offset v).state
unfolding call_write write_of lookup
write-keeps-or-drops s offset v = by-control (eqb offset 0x10c) refl
  where
    by_found : (f : Found Write) → resets offset v ≡ false → FoundWritten s offset v f → Written s offset v (wrote s f).state
    by_found none n k = keeps s.regs n refl refl
    by_found (found x) n k = k

    by-control : (b : Bool) → eqb offset 0x10c ≡ b → Written s offset v (call_write s offset v).state
    by-control true e = subst (λ o. Written s o v (call_write s o v).state) (sym (eqb-true offset 0x10c e)) (control-written s v)
    by-control false e = by_found (write_of s offset v) (rw e) (lookup-written s offset v (writable s v) (all-written s v))

-- a write that is no reset leaves what is in work, and every resource
pub write-keeps-work : (s s' : State) (offset v : ℕ) → resets offset v ≡ false → Written s offset v s' → (s'.work ≡ s.work) × (s'.belongings ≡ s.belongings)
write-keeps-work s s' offset v n = by-written s'
  where
    by-written : (x : State) → Written s offset v x → (x.work ≡ s.work) × (x.belongings ≡ s.belongings)
    by-written x (keeps r h c e) = (refl, refl)
    by-written x (drops h) = absurd (let z : ◌≡◌ {A = ℕ} 0 1 = cc in omega arith)

-- ---- by the test alone

module _ (s : State) (offset v : ℕ) where
  keeps-by : resets offset v ≡ false → (s' : State) → Written s offset v s'
      → (s' ≡ with_regs s'.regs s) × ((s'.regs.completed ≡ s.regs.completed) × (s'.regs.error ≡ s.regs.error))
  keeps-by n s' (keeps r h c e) = (refl, (c, e))
  keeps-by n s' (drops h) = absurd (let z : ◌≡◌ {A = ℕ} 0 1 = cc in omega arith)

  drops-by : resets offset v ≡ true → (s' : State) → Written s offset v s' → s' ≡ reset (bit_of 0 v) s
  drops-by y s' (keeps r h c e) = absurd (let z : ◌≡◌ {A = ℕ} 0 1 = cc in omega arith)
  drops-by y s' (drops h) = refl

  -- a write that is no reset leaves all but the registers
  pub write-changes-registers-alone : resets offset v ≡ false → (call_write s offset v).state ≡ with_regs (call_write s offset v).state.regs s
  write-changes-registers-alone n = (keeps-by n _ (write-keeps-or-drops s offset v)).0

  -- and, of the registers, the completed fence and the error's code, fence, count and detail
  pub write-keeps-completed-and-error : resets offset v ≡ false
      → ((call_write s offset v).state.regs.completed ≡ s.regs.completed) × ((call_write s offset v).state.regs.error ≡ s.regs.error)
  write-keeps-completed-and-error n = (keeps-by n _ (write-keeps-or-drops s offset v)).1

  -- a reset is the rules' `reset`, with the bit that enables taken from the same write
  pub reset-drops : resets offset v ≡ true → (call_write s offset v).state ≡ reset (bit_of 0 v) s
  reset-drops y = drops-by y _ (write-keeps-or-drops s offset v)

  -- whatever is written, to reset or to acknowledge, the last error stays
  pub any-write-keeps-error : (call_write s offset v).state.regs.error ≡ s.regs.error
  unfolding reset reset_registers
  any-write-keeps-error = by_written _ (write-keeps-or-drops s offset v)
    where
      by_written : (s' : State) → Written s offset v s' → s'.regs.error ≡ s.regs.error
      by_written s' (keeps r n c e) = e
      by_written s' (drops h) = refl

-- ---- what a write makes of the registers

-- the same on every device: what else is in the state plays no part
abbrev pub registers_written : ℕ → ℕ → Registers → Registers
registers_written offset v r = (call_write (with_regs r (made 0)) offset v).state.regs

-- two lists of writes that give the same registers at the same offsets
unfoldable Alike : List Write → List Write → Type 0
Alike [] [] = 0 ≤ 0
Alike [] (y ∷ ys) = ⊥
Alike (x ∷ xs) [] = ⊥
Alike (x ∷ xs) (y ∷ ys) = (x.offset ≡ y.offset) × ((x.state.regs ≡ y.state.regs) × Alike xs ys)

module _ (s t : State) (same : s.regs ≡ t.regs) (offset : ℕ) where
  lookup-alike : (xs ys : List Write) → Alike xs ys
      → (wrote s (lookup write_offset offset xs)).state.regs ≡ (wrote t (lookup write_offset offset ys)).state.regs
  unfolding lookup Alike
  lookup-alike [] [] h = same
  lookup-alike [] (y ∷ ys) h = absurd h
  lookup-alike (x ∷ xs) [] h = absurd h
  lookup-alike (x ∷ xs) (y ∷ ys) h =
      ap (λ at. (wrote s (pick (eqb at offset) (found x) (lookup write_offset offset xs))).state.regs) h.0
      ∙ by_test (eqb y.offset offset) (lookup-alike xs ys h.1.1)
    where
      by_test : (b : Bool) → (wrote s (lookup write_offset offset xs)).state.regs ≡ (wrote t (lookup write_offset offset ys)).state.regs
          → (wrote s (pick b (found x) (lookup write_offset offset xs))).state.regs ≡ (wrote t (pick b (found y) (lookup write_offset offset ys))).state.regs
      by_test true k = h.1.0
      by_test false k = k

control-alike : (s : State) (v : ℕ) → (controlled v s).regs ≡ (controlled v (with_regs s.regs (made 0))).regs
unfolding controlled reset
control-alike s v = by_bit (bit_of 1 v)
  where
    by_bit : (b : Bool) → (pick b (reset (bit_of 0 v) s) (with_regs (with_enabled (bit_of 0 v) s.regs) s)).regs
        ≡ (pick b (reset (bit_of 0 v) (with_regs s.regs (made 0))) (with_regs (with_enabled (bit_of 0 v) s.regs) (made 0))).regs
    by_bit true = refl
    by_bit false = refl

same-written : (s : State) (offset v : ℕ) → (call_write s offset v).state.regs ≡ registers_written offset v s.regs
unfolding call_write write_of Alike
same-written s offset v =
    lookup-alike s (with_regs s.regs (made 0)) refl offset (writable s v) (writable (with_regs s.regs (made 0)) v)
    (refl, (refl, (refl, (refl, (refl, (refl, (refl, (control-alike s v, (refl, (refl, (refl, (refl, (refl, (refl, (refl, (refl, (refl, (refl, omega arith))))))))))))))))))

-- a write that is no reset is its registers, in whatever state
pub write-is-by-registers : (s : State) (offset v : ℕ) → resets offset v ≡ false
    → (call_write s offset v).state ≡ with_regs (registers_written offset v s.regs) s
write-is-by-registers s offset v n = write-changes-registers-alone s offset v n ∙ ap (λ (r : Registers). with_regs r s) (same-written s offset v)
