-- What the loading of words asks: the words in three parts, and all of them. Assumes nothing.
use Rattle.std.specs.Prelude.{◌≡◌, refl, Bool, true, false, List, ℕ, ◌+◌, ◌*◌, ◌/◌, ◌%◌, ◌≤◌, ◌<◌, eqb, length, set}
use Rattle.std.proofs.Common.{sym, ◌∙◌, mod-eq_of_lt, div-one, arith, rules}
use Rattle.rules.specs.Numbers.{most, most_tokens}
use Rattle.rules.specs.Layouts.{word, long}
use Rattle.rules.specs.Registers.{bit_of}
use Rattle.run_state.specs.Views.{flag_of, set_in, count_in, token_count_in, world_in, rested, state_in}
use Rattle.run_state.specs.Reading.{count-as, token-count-as}
use Rattle.run_state.specs.Spelled.{spell}
use Rattle.rules.specs.Saved.{more_registers, memory_place}
use Rattle.rules.specs.Loaded.{detail_in}
use Rattle.rules.specs.declared.Form.{Form}
use Rattle.rules.specs.declared.Form.TheVariants.{Two}
use Rattle.saved_load_words.specs.Views.{ring_words, status_words, error_words, register_words, LoadsRegisters, LoadsWords}

-- ---- load_ring, load_status, detail_in, load_error

module _ (b s : List ℕ) where
  -- a field of four bytes that was read
  pub small-field : (at n n' : ℕ) → n ≡ word b at → (n' ≡ n) × (n' < 4294967296) → word b at < 4294967296
  small-field at n n' e f = omega (arith, f.0, f.1)

  pub writes-ring : (at memory ring size size' control on page fence : ℕ) → memory ≡ long b at → ring ≡ long b 20
      → size ≡ word b 28 → (size' ≡ size) × (size' < 4294967296) → control ≡ word b 32 → on ≡ flag_of (eqb control 1) → page ≡ long b 36 → fence ≡ long b 44
      → set (set (set (set (set (set s 0 memory) 1 ring) 2 size') 3 on) 4 page) 5 fence ≡ ring_words at b s
  writes-ring at memory ring size size' control on page fence e₁ e₂ e₃ f e₄ g e₅ e₆ = rw (e₁, e₂, f.0, e₃, g, e₄, e₅, e₆)

  pub writes-status : (at status fenced failed enable enable' bell rung : ℕ) → status ≡ word b 52
      → fenced ≡ flag_of (eqb (status % 2) 1) → failed ≡ flag_of (eqb (status / 2 % 2) 1) → enable ≡ word b 56 → (enable' ≡ enable) × (enable' < 4294967296)
      → bell ≡ word b (at + 8) → rung ≡ flag_of (eqb bell 1)
      → set (set (set (set s 6 fenced) 7 failed) 8 enable') 12 rung ≡ status_words at b s
  writes-status at status fenced failed enable enable' bell rung e₁ g₁ g₂ e₂ f₂ e₃ g₃ =
      rw (g₁, g₂, e₁, f₂.0, e₂, g₃, e₃, div-one (word b 52))

  pub writes-error : (detail detail' code code' fence count count' : ℕ) → code ≡ word b 60 → (code' ≡ code) × (code' < 4294967296) → fence ≡ long b 64
      → count ≡ word b 72 → (count' ≡ count) × (count' < 4294967296) → (detail' ≡ detail) × (detail' < 4294967296)
      → set (set (set (set s 9 code') 10 fence) 11 count') 30 detail' ≡ error_words detail b s
  writes-error detail detail' code code' fence count count' e₁ f₁ e₂ e₃ f₃ f₄ = rw (f₁.0, e₁, e₂, f₃.0, e₃, f₄.0)

pub small-number : (n n' : ℕ) → (n' ≡ n) × (n' < 4294967296) → n < 4294967296
small-number n n' f = omega (arith, f.0, f.1)

pub has-detail : (f : Form) (b : List ℕ) (at n : ℕ) → f ≡ Two → at ≡ 76 → n ≡ word b at → n ≡ detail_in f b
has-detail f b at n e here g = g ∙ rw (e, here)

pub ruleset writing_words = (small-field, small-number, writes-ring, writes-status, writes-error, has-detail, rules)

-- ---- load_registers

module _ (f : Form) (b s : List ℕ) (more memory : ℕ) (m : (more ≡ more_registers f) × (more ≤ 1)) (here : memory ≡ 76 + 4 * more) where
  memory-is : memory ≡ memory_place f
  memory-is = here ∙ rw m.0

  pub writes-registers : (detail : ℕ) (s₁ s₂ s₃ : List ℕ) → detail ≡ detail_in f b → s₁ ≡ ring_words memory b s → word b 28 < 4294967296
      → s₂ ≡ status_words memory b s₁ → word b 56 < 4294967296
      → s₃ ≡ error_words detail b s₂ → word b 60 < 4294967296 → word b 72 < 4294967296 → detail < 4294967296 → LoadsRegisters f b s s₃
  writes-registers detail s₁ s₂ s₃ d e₁ size e₂ enable e₃ code count small =
      record {
        words = e₃ ∙ rw (e₂, e₁, d, memory-is);
        size = size;
        enable = enable;
        code = code;
        count = count;
        detail = rw (sym d) small;
      }

pub ruleset writing_registers = (writes-registers, rules)

-- ---- load_words

-- a flag that was stored is read
flag_is : (v : Bool) → set_in (flag_of v) ≡ v
flag_is true = refl
flag_is false = refl

abbrev all_words : Form → List ℕ → ℕ → ℕ → List ℕ → List ℕ
all_words f b n t w = set (set (set (set (register_words f b w) 25 n) 28 0) 32 t) 34 0

pub loads_words : (f : Form) (b s s₁ s' : List ℕ) (live rows used tokens : ℕ) → length s ≡ 36 → live ≤ most → used ≤ most_tokens
    → (rows ≡ live) × (rows < 18446744073709551616) → (tokens ≡ used) × (tokens < 18446744073709551616) → LoadsRegisters f b s s₁
    → s' ≡ rested (set (set (set (set s₁ 25 rows) 28 0) 32 tokens) 34 0) → LoadsWords f b live used s'
unfolding world_in rested
loads_words f b s s₁ s' live rows used tokens long36 few few-used r t l is =
    let whole : s' ≡ rested (all_words f b rows tokens s) = is ∙ rw l.words in
    let bell : Bool = eqb (word b (memory_place f + 8)) 1 in
    record {
      state = λ e a₁ a₂ ft st c.
          rw whole (spell (λ w. state_in (rested (all_words f b rows tokens w)) e a₁ a₂ ft st c) s long36
          ∙ rw (count-as rows live r few, token-count-as tokens used t few-used, mod-eq_of_lt l.size, mod-eq_of_lt l.enable, mod-eq_of_lt l.code, mod-eq_of_lt l.count, mod-eq_of_lt l.detail, flag_is (eqb (word b 32) 1), flag_is (bit_of 0 (word b 52)), flag_is (bit_of 1 (word b 52)), flag_is bell));
      rests = rw whole (spell (λ w. rested (all_words f b rows tokens w)) s long36 ∙ sym (spell (λ w. rested (rested (all_words f b rows tokens w))) s long36));
    }

pub ruleset loading_words = (loads_words, rules)
