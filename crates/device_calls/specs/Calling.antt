-- The calls that are lent no guest memory: what their code asks. Assumes nothing.
use Rattle.std.specs.Prelude.{◌≡◌, refl, ℕ, zero, suc, ◌+◌, ◌≤◌, ◌<◌, length, get_or, set, Option, Ok, Err}
use Rattle.std.specs.Option.{ok_or}
use Rattle.std.proofs.Math.Path.{sym}
use Rattle.std.proofs.Common.{◌∙◌, add-zero, suc-add, add-suc, arith, rules}
use mathlib.Core.List.{List, []}
use Rattle.std.proofs.Math.Nat.{zero-add}
use Rattle.machine.specs.Machine.{pick}
use Rattle.rules.specs.Numbers.{most}
use Rattle.rules.specs.Lists.{Found, nth}
use Rattle.rules.specs.Lists.Found.{none, found}
use Rattle.rules.specs.Registers.{Read as ReadAt, register}
use Rattle.rules.specs.State.Work.{waiting}
use Rattle.rules.specs.Calls.{valued, call_read, handed_out, call_record}
use Rattle.rules.specs.declared.Record.{Record}
use Rattle.registers.specs.Map.{shown}
use Rattle.rows.specs.Rows.{row_at, table, tab}
use Rattle.kept_resources.specs.Views.{record_of, records_of}
use Rattle.run_state.specs.Views.{count_in, registers_in, tag_in, world_in, rested, state_in, side_in, token_side_in}
use Rattle.run_state.specs.Reading.{none-live, none-used}
use Rattle.run_state.specs.Stages.{waits_in, outs-in}
use Rattle.run_state.specs.Spelled.{spell}
use Rattle.device_calls.specs.Views.{value_of, Makes, Reads, GivesRecord}
use Rattle.call_errors.specs.declared.CallError.{CallError}
use Rattle.call_errors.specs.declared.CallError.TheVariants.{NoRegister, NoRecord}

-- ---- make

abbrev made_words : ℕ → List ℕ → List ℕ
made_words n w = set (set (set (set (set (set (set (set (set (set (set (set (set (set (set (set (set (set w 0 n) 1 0) 2 0) 3 0) 4 0) 5 0) 6 0) 7 0) 8 0) 9 0) 10 0) 11 0) 30 0) 12 0) 25 0) 28 0) 32 0) 34 0

pub makes : (s s' : List ℕ) (memory n : ℕ) → length s ≡ 36 → (n ≡ memory) × (n < 18446744073709551616)
    → s' ≡ rested (set (set (set (set (set (set (set (set (set (set (set (set (set (set (set (set (set (set s 0 n) 1 0) 2 0) 3 0) 4 0) 5 0) 6 0) 7 0) 8 0) 9 0) 10 0) 11 0) 30 0) 12 0) 25 0) 28 0) 32 0) 34 0)
    → Makes memory s'
unfolding world_in rested
makes s s' memory n long p is =
    record {
      new = λ e a b ft st c. rw is (spell (λ w. state_in (rested (made_words n w)) e a b ft st c) s long ∙ rw (p.0, none-live a, none-used ft));
      rests = rw is (spell (λ w. rested (made_words n w)) s long ∙ sym (spell (λ w. rested (rested (made_words n w))) s long));
    }

pub ruleset making = (makes, rules)

-- ---- read

value-shown : (f : Found ReadAt) → value_of (ok_or (shown f) NoRegister) ≡ valued f
value-shown none = refl
value-shown (found x) = refl

pub reads-shown : (s : List ℕ) (offset : ℕ) (x : Option ℕ) → x ≡ shown (register (registers_in s) offset) → Reads s offset (ok_or x NoRegister)
unfolding call_read world_in
reads-shown s offset x is = record { value = λ e a b ft st c. rw is (value-shown (register (registers_in s) offset)) }

pub ruleset reading = (reads-shown, rules)

-- ---- record

nth-tab : (f : ℕ → Record) (i n k : ℕ) → k < n → nth (tab f i n) k ≡ found (f (i + k))
unfolding nth tab
nth-tab f i zero k h = absurd (omega arith)
nth-tab f i (suc n) zero h = rw add-zero
nth-tab f i (suc n) (suc k) h = nth-tab f (suc i) n k (omega arith) ∙ rw (suc-add, ← add-suc)

nth_past : (f : ℕ → Record) (i n k : ℕ) → n ≤ k → nth (tab f i n) k ≡ none
unfolding nth tab
nth_past f i zero k h = refl
nth_past f i (suc n) zero h = absurd (omega arith)
nth_past f i (suc n) (suc k) h = nth_past f (suc i) n k (omega arith)

module _ (s c : List ℕ) (i k : ℕ) (at : k ≡ i) where
  pub hands-unasked : tag_in s < 3 → GivesRecord s c i (Err NoRecord)
  unfolding call_record nth
  hands-unasked low = record { hands = λ e a b ft st. rw (outs-in s e (pick (side_in s) b a) (pick (side_in s) a b) (pick (token_side_in s) st ft) (pick (token_side_in s) ft st) c [] low) }

  module _ (waiting : 3 ≤ tag_in s) (n : ℕ) (is : (n ≡ count_in (get_or s 27 0)) × (n ≤ most)) where
    there : (e a b ft st : List ℕ) → handed_out (state_in s e a b ft st c).work ≡ records_of n c
    there e a b ft st = rw (waits_in s e (pick (side_in s) b a) (pick (side_in s) a b) (pick (token_side_in s) st ft) (pick (token_side_in s) ft st) c [] waiting, is.0)

    pub hands-past : n ≤ k → GivesRecord s c i (Err NoRecord)
    unfolding call_record table
    hands-past p =
        let out : nth (records_of n c) i ≡ none = nth_past (λ j. record_of (row_at 5 c j)) 0 n i (omega arith) in
        record { hands = λ e a b ft st. rw (there e a b ft st, out) }

    pub record-room : k < n → k < most
    record-room p = omega (arith, is.1)

    pub hands-there : (x : Record) → k < n → x ≡ record_of (row_at 5 c k) → GivesRecord s c i (Ok x)
    unfolding call_record table
    hands-there x p q =
        let out : nth (records_of n c) i ≡ found (record_of (row_at 5 c (0 + i))) = nth-tab (λ j. record_of (row_at 5 c j)) 0 n i (omega arith) in
        record { hands = λ e a b ft st. rw (there e a b ft st, out, zero-add, q, at) }

pub ruleset handing = (hands-unasked, hands-past, record-room, hands-there, rules)
