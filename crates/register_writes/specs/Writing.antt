-- A write to a register on a device's words: what its code asks. Assumes nothing.
use Rattle.std.specs.Prelude.{◌≡◌, refl, Bool, true, false, not, ◌&&◌, List, ℕ, ◌%◌, ◌<◌, eqb, length, get_or, set}
use Rattle.std.proofs.Math.Path.{sym}
use Rattle.std.proofs.Common.{ap, ◌∙◌, true≢false, div-one, rules}
use Rattle.machine.specs.Machine.{pick}
use Rattle.rules.specs.Numbers.{done, no_register}
use Rattle.rules.specs.Lists.{lookup}
use Rattle.rules.specs.State.{State, with_regs}
use Rattle.rules.specs.Registers.{with_low, with_high, bit_of, with_ring, with_ringsize, with_page, with_irqenable, with_doorbell, acknowledged, reset_registers, reset, controlled, write_offset, writable, write_of}
use Rattle.rules.specs.Calls.{call_write}
use Rattle.registers.specs.Laws.{Misses, keys, missed}
use Rattle.run_state.specs.Views.{set_in, flag_of, world_in, rested, state_in}
use Rattle.run_state.specs.Reading.{flag-as, small-as, none-live, none-used}
use Rattle.run_state.specs.Spelled.{spell}
use Rattle.register_writes.specs.Views.{Controls, Acks, Writes}

-- ---- left

module _ (x : ℕ) (b : Bool) where
  pub left-none : b ≡ true → set_in 0 ≡ (set_in x && not b)
  left-none e = rw e (by (set_in x))
    where
      by : (y : Bool) → false ≡ (y && false)
      by true = refl
      by false = refl

  pub left_all : b ≡ false → set_in x ≡ (set_in x && not b)
  left_all e = rw e (by (set_in x))
    where
      by : (y : Bool) → y ≡ (y && true)
      by true = refl
      by false = refl

pub ruleset leaving = (left-none, left_all, rules)

-- ---- bit_0

pub lowest-bit : (v : ℕ) → eqb (v % 2) 1 ≡ bit_of 0 v
lowest-bit v = rw (div-one v)

pub ruleset bits = (lowest-bit, rules)

-- ---- control, acknowledge

module _ (s : List ℕ) (v : ℕ) (long : length s ≡ 36) (a b : Bool) (is-a : a ≡ bit_of 0 v) (is_b : b ≡ bit_of 1 v) where
  pub control-keeps : (on : ℕ) → on ≡ flag_of a → b ≡ false → Controls s v (set s 3 on)
  unfolding world_in controlled
  control-keeps on o n =
      record {
        state = λ e r h ft st c. spell (λ w. state_in (set w 3 on) e r h ft st c) s long ∙ rw (flag-as on a o, ← is_b, n, is-a);
        rests = λ resets. absurd (true≢false (sym resets ∙ (sym is_b ∙ n)));
      }

  -- the words that a reset sets beside those of work
  abbrev reset_words : ℕ → List ℕ → List ℕ
  reset_words on w = set (set (set (set (set (set (set w 3 on) 5 0) 6 0) 7 0) 12 0) 25 0) 32 0

  pub control-resets : (on : ℕ) (s' : List ℕ) → on ≡ flag_of a → b ≡ true → s' ≡ rested (set (set (set (set (set (set (set s 3 on) 5 0) 6 0) 7 0) 12 0) 25 0) 32 0) → Controls s v s'
  unfolding world_in rested controlled reset reset_registers
  control-resets on s' o n is =
      record {
        state = λ e r h ft st c.
            rw is
            (spell (λ w. state_in (rested (reset_words on w)) e r h ft st c) s long ∙ rw (flag-as on a o, ← is_b, n, is-a, none-live (pick (set_in (get_or s 28 0)) h r), none-used (pick (set_in (get_or s 34 0)) st ft)));
        rests = λ resets. rw is (spell (λ w. rested (reset_words on w)) s long ∙ sym (spell (λ w. rested (rested (reset_words on w))) s long));
      }

  pub acks : (x y : ℕ) → set_in x ≡ (set_in (get_or s 6 0) && not a) → set_in y ≡ (set_in (get_or s 7 0) && not b) → Acks s v (set (set s 6 x) 7 y)
  unfolding world_in
  acks x y p q = record { state = λ e r h ft st c. spell (λ w. state_in (set (set w 6 x) 7 y) e r h ft st c) s long ∙ rw (p, q, is-a, is_b) }

pub ruleset controlling = (control-keeps, control-resets, acks, rules)

-- ---- write

module _ (s : List ℕ) (offset v : ℕ) where
  -- what is found at k
  found_at : (k : ℕ) (f : State → State) (s' : List ℕ) → offset ≡ k → ((x : State) → call_write x k v ≡ record { answer = done; state = f x })
      → ((e r h ft st c : List ℕ) → state_in s' e r h ft st c ≡ f (state_in s e r h ft st c)) → Writes s offset v done s'
  found_at k f s' o w p =
      record {
        wrote = λ e r h ft st c. ap (λ (x : State). record { answer = done; state = x }) (p e r h ft st c) ∙ (sym (w (state_in s e r h ft st c)) ∙ rw o);
        still = λ refused. absurd (refused refl);
      }

  pub writes-control : (s' : List ℕ) → offset ≡ 0x10c → Controls s v s' → Writes s offset v done s'
  unfolding call_write write_of lookup
  writes-control s' o k = found_at 0x10c (controlled v) s' o (λ x. refl) k.state

  pub writes-ack : (s' : List ℕ) → offset ≡ 0x308 → Acks s v s' → Writes s offset v done s'
  unfolding call_write write_of lookup
  writes-ack s' o k = found_at 0x308 (λ x. with_regs (acknowledged v x.regs) x) s' o (λ x. refl) k.state

  pub writes_nothing : ((x : State) → Misses (Unit {0}) (keys write_offset offset (writable x v)) offset) → Writes s offset v no_register s
  unfolding call_write write_of
  writes_nothing p =
      record {
        wrote = λ e r h ft st c. rw (missed write_offset offset (Unit {0}) (writable (state_in s e r h ft st c) v) (p (state_in s e r h ft st c))).1;
        still = λ refused. refl;
      }

  module _ (long : length s ≡ 36) where
    pub writes-doorbell : offset ≡ 0x200 → Writes s offset v done (set s 12 1)
    unfolding call_write write_of lookup world_in
    writes-doorbell o = found_at 0x200 (λ x. with_regs (with_doorbell x.regs) x) (set s 12 1) o (λ x. refl) (λ e r h ft st c. spell (λ w. state_in (set w 12 1) e r h ft st c) s long)

    module _ (x : ℕ) where
      pub writes-ring-low : offset ≡ 0x100 → x ≡ with_low v (get_or s 1 0) → Writes s offset v done (set s 1 x)
      unfolding call_write write_of lookup world_in
      writes-ring-low o p = found_at 0x100 (λ y. with_regs (with_ring (with_low v y.regs.ring) y.regs) y) (set s 1 x) o (λ y. refl) (λ e r h ft st c. spell (λ w. state_in (set w 1 x) e r h ft st c) s long ∙ rw p)

      pub writes-ring-high : offset ≡ 0x104 → x ≡ with_high v (get_or s 1 0) → Writes s offset v done (set s 1 x)
      unfolding call_write write_of lookup world_in
      writes-ring-high o p = found_at 0x104 (λ y. with_regs (with_ring (with_high v y.regs.ring) y.regs) y) (set s 1 x) o (λ y. refl) (λ e r h ft st c. spell (λ w. state_in (set w 1 x) e r h ft st c) s long ∙ rw p)

      pub writes-page-low : offset ≡ 0x120 → x ≡ with_low v (get_or s 4 0) → Writes s offset v done (set s 4 x)
      unfolding call_write write_of lookup world_in
      writes-page-low o p = found_at 0x120 (λ y. with_regs (with_page (with_low v y.regs.fencepage) y.regs) y) (set s 4 x) o (λ y. refl) (λ e r h ft st c. spell (λ w. state_in (set w 4 x) e r h ft st c) s long ∙ rw p)

      pub writes-page-high : offset ≡ 0x124 → x ≡ with_high v (get_or s 4 0) → Writes s offset v done (set s 4 x)
      unfolding call_write write_of lookup world_in
      writes-page-high o p = found_at 0x124 (λ y. with_regs (with_page (with_high v y.regs.fencepage) y.regs) y) (set s 4 x) o (λ y. refl) (λ e r h ft st c. spell (λ w. state_in (set w 4 x) e r h ft st c) s long ∙ rw p)

      pub writes-ringsize : offset ≡ 0x108 → (x ≡ v) × (x < 4294967296) → Writes s offset v done (set s 2 x)
      unfolding call_write write_of lookup world_in
      writes-ringsize o p = found_at 0x108 (λ y. with_regs (with_ringsize v y.regs) y) (set s 2 x) o (λ y. refl) (λ e r h ft st c. spell (λ w. state_in (set w 2 x) e r h ft st c) s long ∙ rw (small-as x v p))

      pub writes-irqenable : offset ≡ 0x304 → (x ≡ v) × (x < 4294967296) → Writes s offset v done (set s 8 x)
      unfolding call_write write_of lookup world_in
      writes-irqenable o p = found_at 0x304 (λ y. with_regs (with_irqenable v y.regs) y) (set s 8 x) o (λ y. refl) (λ e r h ft st c. spell (λ w. state_in (set w 8 x) e r h ft st c) s long ∙ rw (small-as x v p))

pub ruleset rewriting = (
  writes-control,
  writes-ack,
  writes_nothing,
  writes-doorbell,
  writes-ring-low,
  writes-ring-high,
  writes-page-low,
  writes-page-high,
  writes-ringsize,
  writes-irqenable,
  rules,
)
