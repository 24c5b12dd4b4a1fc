-- The form's number, section 1 of a device's words, and section 2's count. Assumes nothing.
use Rattle.std.specs.Prelude.{◌≡◌, List, [], ◌∷◌, ◌++◌, ℕ, ◌+◌, ◌%◌, ◌≤◌, length, get_or, take}
use Rattle.std.proofs.Common.{◌∙◌, arith, rules}
use Rattle.rules.specs.Numbers.{device_magic, version, features}
use Rattle.rules.specs.Lists.{over}
use Rattle.rules.specs.Registers.{low, high, bit, status, readable}
use Rattle.rules.specs.Saved.{values_of, file_of, number_of, number_bytes, head_bytes, section_1_count, saved_register_count}
use Rattle.words.specs.Over.{length_over}
use Rattle.run_state.specs.Views.{set_in, small_in, registers_in}
use Rattle.rules.specs.declared.Form.{Form}
use Rattle.rules.specs.declared.Form.TheVariants.{One, Two}
use Rattle.saved_write.specs.Fields.{length-file, fields-behind}

-- a form's number, how many numbers section 1 has, and the registers that both forms have
abbrev pub register_fields : ℕ → ℕ → List ℕ → List ℕ
register_fields number numbers s = number ∷ numbers ∷ values_of (take (saved_register_count One) (readable (registers_in s)))

-- the memory's length, the doorbell flag, and section 2's count
abbrev pub memory_fields : List ℕ → ℕ → List ℕ
memory_fields s count = low (get_or s 0 0) ∷ high (get_or s 0 0) ∷ bit (set_in (get_or s 12 0)) ∷ count ∷ []

-- section 1 of a form, and section 2's count
abbrev pub head_in : Form → List ℕ → ℕ → List ℕ
head_in f s count = section_1_count f ∷ (values_of (take (saved_register_count f) (readable (registers_in s))) ++ memory_fields s count)

-- ---- put_registers

-- the registers by the numbers that the code makes of the words
pub registers_written : (s l m : List ℕ) (number numbers ring₀ ring₁ size on page₀ page₁ completed₀ completed₁ bits enabled code fence₀ fence₁ errors : ℕ)
    → m ≡ over 0 (file_of (number ∷ numbers ∷ device_magic ∷ version ∷ features ∷ 0 ∷ ring₀ ∷ ring₁ ∷ size ∷ on ∷ page₀ ∷ page₁ ∷ completed₀ ∷ completed₁ ∷ bits ∷ enabled ∷ code ∷ fence₀ ∷ fence₁ ∷ errors ∷ [])) l
    → ring₀ ≡ get_or s 1 0 % 4294967296 → ring₁ ≡ high (get_or s 1 0) → size ≡ get_or s 2 0 % 4294967296 → (on ≡ bit (set_in (get_or s 3 0))) × (on ≤ 1)
    → page₀ ≡ get_or s 4 0 % 4294967296 → page₁ ≡ high (get_or s 4 0) → completed₀ ≡ get_or s 5 0 % 4294967296 → completed₁ ≡ high (get_or s 5 0)
    → bits ≡ status (registers_in s) → enabled ≡ get_or s 8 0 % 4294967296 → code ≡ get_or s 9 0 % 4294967296
    → fence₀ ≡ get_or s 10 0 % 4294967296 → fence₁ ≡ high (get_or s 10 0) → errors ≡ get_or s 11 0 % 4294967296
    → m ≡ over 0 (file_of (register_fields number numbers s)) l
registers_written s l m number numbers ring₀ ring₁ size on page₀ page₁ completed₀ completed₁ bits enabled code fence₀ fence₁ errors is a b d e f g h i j k n o p q =
    rw (is, a, b, d, e.0, f, g, h, i, j, k, n, o, p, q)

pub ruleset writing_registers = (registers_written, rules)

-- ---- put_memory

pub memory-written : (s l m : List ℕ) (at count memory₀ memory₁ rung : ℕ) → m ≡ over at (file_of (memory₀ ∷ memory₁ ∷ rung ∷ count ∷ [])) l
    → memory₀ ≡ get_or s 0 0 % 4294967296 → memory₁ ≡ high (get_or s 0 0) → (rung ≡ bit (set_in (get_or s 12 0))) × (rung ≤ 1)
    → m ≡ over at (file_of (memory_fields s count)) l
memory-written s l m at count memory₀ memory₁ rung is a b d = rw (is, a, b, d.0)

pub ruleset writing_memory = (memory-written, rules)

-- ---- put_head

module _ (f : Form) (s b : List ℕ) (count : ℕ) (room : number_bytes + head_bytes f ≤ length b) (m : List ℕ) where
  module _ (first : m ≡ over 0 (file_of (register_fields 1 21 s)) b) where
    pub one_written : f ≡ One → (m₁ : List ℕ) → m₁ ≡ over 80 (file_of (memory_fields s count)) m → m₁ ≡ over 0 (file_of (number_of f ∷ head_in f s count)) b
    one_written e m₁ p =
        rw e
        (fields-behind 0 80 (register_fields 1 21 s) (memory_fields s count) b m m₁ (omega (arith, length-file (register_fields 1 21 s)))
        (omega (arith, length-file (memory_fields s count)))
        first p)

  module _ (e : f ≡ Two) (first : m ≡ over 0 (file_of (register_fields 2 22 s)) b) where
    long : 100 ≤ length b
    long = rw e at room

    module _ (m₁ : List ℕ) (detail : ℕ) (at : detail ≡ get_or s 30 0 % 4294967296) (second : m₁ ≡ over 80 (file_of (detail ∷ [])) m) where
      with-detail : m₁ ≡ over 0 (file_of (register_fields 2 22 s ++ (small_in (get_or s 30 0) ∷ []))) b
      with-detail =
          fields-behind 0 80 (register_fields 2 22 s) (small_in (get_or s 30 0) ∷ []) b m m₁ (omega (arith, length-file (register_fields 2 22 s)))
          (omega (arith, long, length-file (small_in (get_or s 30 0) ∷ [])))
          first (second ∙ rw at)

      pub two-room : 80 + 4 + 16 ≤ length m₁
      two-room =
          rw (with-detail, length_over 0 (file_of (register_fields 2 22 s ++ (small_in (get_or s 30 0) ∷ []))) b (omega (arith, long, length-file (register_fields 2 22 s ++ (small_in (get_or s 30 0) ∷ [])))))
          (omega (arith, long))

      pub two-written : (m₂ : List ℕ) → m₂ ≡ over (80 + 4) (file_of (memory_fields s count)) m₁ → m₂ ≡ over 0 (file_of (number_of f ∷ head_in f s count)) b
      two-written m₂ p =
          rw e
          (fields-behind 0 84 (register_fields 2 22 s ++ (small_in (get_or s 30 0) ∷ [])) (memory_fields s count) b m₁ m₂
          (omega (arith, length-file (register_fields 2 22 s ++ (small_in (get_or s 30 0) ∷ []))))
          (omega (arith, long, length-file (memory_fields s count)))
          with-detail p)

pub ruleset writing_head = (one_written, two-room, two-written, rules)

-- ---- head_end

-- where the first resource stands
pub head-length : (f : Form) (s : List ℕ) (count : ℕ) → length (file_of (number_of f ∷ head_in f s count)) ≡ number_bytes + head_bytes f
head-length One s count = length-file (number_of One ∷ head_in One s count)
head-length Two s count = length-file (number_of Two ∷ head_in Two s count)

pub end-one : (f : Form) → f ≡ One → 96 ≡ number_bytes + head_bytes f
end-one f e = rw e

pub end-two : (f : Form) → f ≡ Two → 100 ≡ number_bytes + head_bytes f
end-two f e = rw e

pub ruleset ending_head = (end-one, end-two, rules)
