-- A file that moves to the other form, byte by byte: but for the number, section 1's count, the detail and the counts of sections 3 and 4 every byte is
-- copied. Assumes nothing.
use Rattle.std.specs.Prelude.{◌≡◌, false}
use Rattle.std.proofs.Common.{sym, subst, ◌∙◌, arith}
use Rattle.std.proofs.Math.Path.{ap}
use mathlib.Core.List.{List, [], ◌∷◌, ◌++◌, append_assoc, append-nil}
use Prim.Native.Nat.{ℕ, ◌+◌, ◌-◌, ◌*◌, ◌≤◌}
use Rattle.std.proofs.Math.ListN.{length, take, drop, length-drop}
use Rattle.std.proofs.Math.Seq.{take-length}
use Rattle.rules.specs.Lists.Found.{none}
use Rattle.rules.specs.Bytes.{bytes_of}
use Rattle.rules.specs.Layouts.{word}
use Rattle.rules.specs.Names.{token_of}
use Rattle.rules.specs.Packets.{handle_of}
use Rattle.rules.specs.State.{State}
use Rattle.rules.specs.Registers.{readable}
use Rattle.rules.specs.declared.Resource.{Resource}
use Rattle.rules.specs.declared.Token.{Token}
use Rattle.rules.specs.Saved.{values_of, resources_fields, file_of, is_other_name, beyond_form_1, memory_place, count_place, head_bytes, rising, firsts_of, others_of, tokens_of, names_fields, tokens_fields, shared_fields, saved}
use Rattle.rules.specs.Loaded.{names_place, form_in, sections, bad_place, section_2, loaded_sections, loaded}
use Rattle.rules.specs.declared.Form.{Form}
use Rattle.rules.specs.declared.Form.TheVariants.{One, Two}
use Rattle.promises_of_submissions.specs.LentBytes.{OfBytes}
use Rattle.promises_of_saving.specs.Rising.{none-rise, rising-of-rising, rising-every}
use Rattle.promises_of_saving.specs.Those.{none_passes}
use Rattle.promises_of_saving.specs.FileWords.{file-both, file-of-words}
use Rattle.promises_of_saving.specs.Numbered.{numbered, sections-of-bytes}
use Rattle.promises_of_saving.specs.GoodShared.{tokens_at}
use Rattle.promises_of_saving.specs.GoodFile.{GoodSections}
use Rattle.promises_of_saving.specs.LoadedResources.{OneName, loaded-one-name}
use Rattle.promises_of_saving.specs.LoadedShared.{length-names, length-tokens}
use Rattle.promises_of_saving.specs.LoadedParts.{no-others, others-loaded, tokens-loaded}
use Rattle.promises_of_saving.specs.LoadedWords.{registers-loaded, memory-and-resources}
use Rattle.promises_of_saving.specs.SavedFile.{detail_fields, memory_fields, saved_sections, saved-is-numbered}
use Rattle.promises_of_saving.specs.LoadOfSave.{InForm1, in-form-1}
use Rattle.promises_of_saving.specs.SaveOfLoad.{its-sections, form-1-is-in-form-1}

-- ---- a device within form 1 has nothing for sections 3 and 4

module _ (s : State) (f : InForm1 s) where
  pub no-names-shared : others_of s ≡ []
  no-names-shared =
      none_passes is_other_name (rising handle_of s.belongings.resources)
      (no-others (rising handle_of s.belongings.resources) (rising-every handle_of s.belongings.resources OneName f.one_name))

  pub no-tokens-used : tokens_of s ≡ []
  no-tokens-used = ap (rising token_of) f.tokens ∙ rising-of-rising token_of [] (none-rise token_of 0)

  nothing-shared : shared_fields Two s ≡ 0 ∷ 0 ∷ []
  unfolding names_fields tokens_fields
  nothing-shared =
      ap (λ (rs : List Resource). (length rs ∷ names_fields rs) ++ (length (tokens_of s) ∷ tokens_fields (tokens_of s))) no-names-shared
      ∙ ap (λ (ts : List Token). 0 ∷ length ts ∷ tokens_fields ts) no-tokens-used

-- ---- the parts that are copied

module _ (f : Form) (c : List ℕ) (o : OfBytes c) (g : GoodSections f c) where
  -- the registers that both forms have
  registers-copied : file_of (values_of (take 18 (readable (loaded_sections f c).regs))) ≡ take 72 (drop 4 c)
  registers-copied = ap file_of (registers-loaded f c o g) ∙ file-of-words 18 c 4 o (omega (arith, g.head.whole))

  -- from the memory's length to the last resource
  rest-copied : memory_place f + 16 + 48 * word c (count_place f) ≤ length c
      → file_of (memory_fields (loaded_sections f c) ++ resources_fields (firsts_of (loaded_sections f c)))
      ≡ take (16 + 48 * word c (count_place f)) (drop (memory_place f) c)
  rest-copied room =
      let e : 4 * (4 + 12 * word c (count_place f)) ≡ 16 + 48 * word c (count_place f) = omega arith in
      ap file_of (memory-and-resources f c o g)
      ∙ (file-of-words (4 + 12 * word c (count_place f)) c (memory_place f) o (omega arith) ∙ ap (λ k. take k (drop (memory_place f) c)) e)

-- ---- from form 1 to form 2

module _ (c : List ℕ) (o : OfBytes c) (g : GoodSections One c) (within : InForm1 (loaded_sections One c)) where
  abbrev one : State
  one = loaded_sections One c

  rest-to-2 : file_of (memory_fields one ++ (resources_fields (firsts_of one) ++ shared_fields Two one)) ≡ drop 76 c ++ (bytes_of 4 0 ++ bytes_of 4 0)
  unfolding file_of
  rest-to-2 =
      let n : ℕ = word c (count_place One) in
      let e : 16 + 48 * n ≡ length (drop 76 c) = simp length-drop (omega (arith, g.later)) in
      ap file_of (sym (append_assoc (memory_fields one) (resources_fields (firsts_of one)) (shared_fields Two one)))
      ∙ (file-both (memory_fields one ++ resources_fields (firsts_of one)) (shared_fields Two one)
      ∙ (ap (λ x. x ++ file_of (shared_fields Two one)) (rest-copied One c o g (omega (arith, g.later)) ∙ (ap (λ k. take k (drop 76 c)) e ∙ take-length (drop 76 c)))
      ∙ (ap (λ x. drop 76 c ++ file_of x) (nothing-shared one within)
      ∙ ap (λ x. drop 76 c ++ (bytes_of 4 0 ++ x)) (append-nil (bytes_of 4 0)))))

  sections-to-2 : saved_sections Two one ≡ bytes_of 4 22 ++ (take 72 (drop 4 c) ++ (bytes_of 4 0 ++ (drop 76 c ++ (bytes_of 4 0 ++ bytes_of 4 0))))
  unfolding file_of
  sections-to-2 =
      ap (λ x. bytes_of 4 22 ++ x)
      (file-both (values_of (take 18 (readable one.regs))) (detail_fields Two one ++ (memory_fields one ++ (resources_fields (firsts_of one) ++ shared_fields Two one)))
      ∙ (ap (λ x. x ++ file_of (detail_fields Two one ++ (memory_fields one ++ (resources_fields (firsts_of one) ++ shared_fields Two one)))) (registers-copied One c o g)
      ∙ ap (λ x. take 72 (drop 4 c) ++ x)
      (ap (λ d. bytes_of 4 d ++ file_of (memory_fields one ++ (resources_fields (firsts_of one) ++ shared_fields Two one))) within.detail
      ∙ ap (λ x. bytes_of 4 0 ++ x) rest-to-2)))

-- ---- from form 2 to form 1

module _ (c : List ℕ) (o : OfBytes c) (g : GoodSections Two c) (within : InForm1 (loaded_sections Two c)) where
  abbrev two : State
  two = loaded_sections Two c

  abbrev third : ℕ
  third = names_place Two (word c (count_place Two))

  no-names-there : word c third ≡ 0
  no-names-there =
      sym (length-names (section_2 Two c) (loaded-one-name (word c (count_place Two)) c (head_bytes Two) 0 g.resources) c (word c third) (third + 4) 0 g.later.names)
      ∙ ap length (sym (others-loaded Two c g) ∙ no-names-shared two within)

  no-tokens-there : word c (tokens_at c third) ≡ 0
  no-tokens-there =
      sym (length-tokens (word c (tokens_at c third)) c (tokens_at c third + 4)) ∙ ap length (sym (tokens-loaded Two c g) ∙ no-tokens-used two within)

  -- both sections are empty
  so-long : length c ≡ 104 + 48 * word c (count_place Two)
  so-long = omega (arith, g.later.long_as, no-names-there, no-tokens-there)

  sections-to-1 : saved_sections One two ≡ bytes_of 4 21 ++ (take 72 (drop 4 c) ++ take (length c - 88) (drop 80 c))
  unfolding file_of
  sections-to-1 =
      let n : ℕ = word c (count_place Two) in
      let e : 16 + 48 * n ≡ length c - 88 = omega (arith, so-long) in
      ap (λ x. bytes_of 4 21 ++ x)
      (file-both (values_of (take 18 (readable two.regs))) (memory_fields two ++ (resources_fields (firsts_of two) ++ []))
      ∙ (ap (λ x. x ++ file_of (memory_fields two ++ (resources_fields (firsts_of two) ++ []))) (registers-copied Two c o g)
      ∙ ap (λ x. take 72 (drop 4 c) ++ x)
      (ap (λ x. file_of (memory_fields two ++ x)) (append-nil (resources_fields (firsts_of two)))
      ∙ (rest-copied Two c o g (omega (arith, so-long)) ∙ ap (λ k. take k (drop 80 c)) e))))

-- ---- of files

in-its-form : (b : List ℕ) (f : Form) → form_in b ≡ f → loaded b ≡ loaded_sections f (sections b)
unfolding loaded
in-its-form b f e = ap (λ x. loaded_sections x (sections b)) e

module _ (b : List ℕ) (o : OfBytes b) (good : bad_place b ≡ none) where
  module _ (f : Form) (form : form_in b ≡ f) where
    good-in-form : GoodSections f (sections b)
    good-in-form = subst (λ x. GoodSections x (sections b)) form (its-sections b good)

    within-form : beyond_form_1 (loaded b) ≡ false → InForm1 (loaded_sections f (sections b))
    within-form e = subst InForm1 (in-its-form b f form) (in-form-1 (loaded b) e)

  -- a form 1 file gets the number 2, section 1's count 22, a detail of 0 and two empty sections
  pub moved-bytes-to-2 : form_in b ≡ One
      → saved Two (loaded b)
      ≡ bytes_of 4 2
      ++ (bytes_of 4 22 ++ (take 72 (drop 4 (sections b)) ++ (bytes_of 4 0 ++ (drop 76 (sections b) ++ (bytes_of 4 0 ++ bytes_of 4 0)))))
  moved-bytes-to-2 form =
      ap (saved Two) (in-its-form b One form)
      ∙ (saved-is-numbered Two (loaded_sections One (sections b))
      ∙ ap (numbered Two)
      (sections-to-2 (sections b) (sections-of-bytes b o) (good-in-form One form) (within-form One form (form-1-is-in-form-1 b good form))))

  -- and a form 2 file within form 1 loses them
  pub moved-bytes-to-1 : form_in b ≡ Two → beyond_form_1 (loaded b) ≡ false
      → saved One (loaded b)
      ≡ bytes_of 4 1 ++ (bytes_of 4 21 ++ (take 72 (drop 4 (sections b)) ++ take (length (sections b) - 88) (drop 80 (sections b))))
  moved-bytes-to-1 form within =
      ap (saved One) (in-its-form b Two form)
      ∙ (saved-is-numbered One (loaded_sections Two (sections b))
      ∙ ap (numbered One) (sections-to-1 (sections b) (sections-of-bytes b o) (good-in-form Two form) (within-form Two form within)))
