-- What saving writes, as the number of the form and the fields of its sections; how long it is. Assumes nothing.
use Rattle.std.specs.Prelude.{◌≡◌, refl, List, [], ◌∷◌, ◌++◌, ℕ, ◌+◌, ◌*◌, length, take}
use Rattle.std.proofs.Math.Path.{ap}
use Rattle.std.proofs.Common.{◌∙◌, arith, length-append}
use Rattle.rules.specs.State.{State}
use Rattle.rules.specs.Registers.{low, high, bit, readable}
use Rattle.rules.specs.Saved.{values_of, resources_fields, file_of, number_of, more_registers, section_1_count, firsts_of, others_of, tokens_of, head_fields, names_fields, tokens_fields, shared_fields, saved_fields, saved}
use Rattle.rules.specs.Loaded.{form_in, sections}
use Rattle.rules.specs.declared.Form.{Form}
use Rattle.rules.specs.declared.Form.TheVariants.{One, Two}
use Rattle.promises_of_submissions.specs.LentBytes.{OfBytes}
use Rattle.promises_of_saving.specs.FileWords.{length-file, file-of-bytes}
use Rattle.promises_of_saving.specs.Numbered.{numbered, length-numbered, form-of-numbered, sections-of-numbered}
use Rattle.promises_of_saving.specs.WrittenResources.{length_fields}
use Rattle.promises_of_saving.specs.WrittenShared.{length-names-fields, length-tokens-fields}

-- ---- the fields behind the number: section 1's count and the registers that both forms have; the detail; the memory's length, the doorbell flag and
-- section 2's count; and what comes after them

abbrev pub register_fields : Form → State → List ℕ
register_fields f s = section_1_count f ∷ values_of (take 18 (readable s.regs))

abbrev pub detail_fields : Form → State → List ℕ
detail_fields One s = []
detail_fields Two s = s.regs.error.detail ∷ []

abbrev pub memory_fields : State → List ℕ
memory_fields s = low s.memory ∷ high s.memory ∷ bit s.regs.doorbell ∷ length (firsts_of s) ∷ []

abbrev pub sections_fields : Form → State → List ℕ
sections_fields f s = register_fields f s ++ (detail_fields f s ++ (memory_fields s ++ (resources_fields (firsts_of s) ++ shared_fields f s)))

abbrev pub saved_sections : Form → State → List ℕ
saved_sections f s = file_of (sections_fields f s)

number-and-sections : (f : Form) (s : State) → saved_fields f s ≡ number_of f ∷ sections_fields f s
unfolding saved_fields head_fields
number-and-sections One s = refl
number-and-sections Two s = refl

module _ (f : Form) (s : State) where
  pub saved-is-numbered : saved f s ≡ numbered f (saved_sections f s)
  unfolding saved file_of
  saved-is-numbered = ap file_of (number-and-sections f s)

  -- a saved file tells its form, and what it says stands behind it
  pub form-of-saved : form_in (saved f s) ≡ f
  form-of-saved = ap form_in saved-is-numbered ∙ form-of-numbered f (saved_sections f s)

  pub sections-of-saved : sections (saved f s) ≡ saved_sections f s
  sections-of-saved = ap sections saved-is-numbered ∙ sections-of-numbered f (saved_sections f s)

  -- what saving writes are bytes
  pub saved-is-of-bytes : OfBytes (saved f s)
  unfolding saved
  saved-is-of-bytes = file-of-bytes (saved_fields f s)

-- ---- how long it is

pub length-detail : (f : Form) (s : State) → length (detail_fields f s) ≡ more_registers f
length-detail One s = refl
length-detail Two s = refl

-- of sections 3 and 4
abbrev pub shared_length : Form → State → ℕ
shared_length One s = 0
shared_length Two s = 2 + 2 * length (others_of s) + 3 * length (tokens_of s)

pub length-shared : (f : Form) (s : State) → length (shared_fields f s) ≡ shared_length f s
length-shared One s = refl
length-shared Two s =
    length-append (length (others_of s) ∷ names_fields (others_of s)) (length (tokens_of s) ∷ tokens_fields (tokens_of s))
    ∙ omega (arith, length-names-fields (others_of s), length-tokens-fields (tokens_of s))

module _ (f : Form) (s : State) where
  pub length-sections : length (saved_sections f s) ≡ 92 + 4 * more_registers f + 48 * length (firsts_of s) + 4 * shared_length f s
  length-sections =
      omega (
        arith,
        length-file (sections_fields f s),
        length-append (register_fields f s) (detail_fields f s ++ (memory_fields s ++ (resources_fields (firsts_of s) ++ shared_fields f s))),
        length-append (detail_fields f s) (memory_fields s ++ (resources_fields (firsts_of s) ++ shared_fields f s)),
        length-append (memory_fields s) (resources_fields (firsts_of s) ++ shared_fields f s),
        length-append (resources_fields (firsts_of s)) (shared_fields f s),
        length-detail f s,
        length_fields (firsts_of s),
        length-shared f s,
      )

  pub length-saved : length (saved f s) ≡ 96 + 4 * more_registers f + 48 * length (firsts_of s) + 4 * shared_length f s
  length-saved = ap length (saved-is-numbered f s) ∙ omega (arith, length-numbered f (saved_sections f s), length-sections)

-- no file is longer than one of 64 resources, in form 2 with 256 tokens
abbrev pub most_bytes : Form → ℕ
most_bytes One = 3168
most_bytes Two = 6252
