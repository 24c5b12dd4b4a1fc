-- The fields of a device that was loaded are the words that it was loaded from. Assumes nothing.
use Rattle.std.specs.Prelude.{◌≡◌, Bool, true, false, List, [], ◌∷◌, ◌++◌, ℕ, zero, suc, ◌+◌, ◌*◌, ◌/◌, ◌%◌, ◌^◌, ◌≤◌, eqb, length, take}
use Rattle.std.proofs.Math.Path.{refl, sym, ap}
use Rattle.std.proofs.Common.{◌∙◌, append_assoc, eqb-true}
use Rattle.std.proofs.Math.Nat.{add_assoc}
use native.Mathlib.Omega.{arith}
use Rattle.std.proofs.lemmas.Bool.{eqb-false}
use Rattle.std.proofs.Math.Seq.{take-length}
use Rattle.rules.specs.Layouts.{word, long}
use Rattle.rules.specs.Registers.{bit, bit_of, readable}
use Rattle.rules.specs.State.{State}
use Rattle.rules.specs.declared.Resource.{Resource}
use Rattle.rules.specs.Saved.{values_of, resources_fields, file_of, more_registers, memory_place, count_place, head_bytes, name_bytes, token_bytes, firsts_of, others_of, tokens_of, names_fields, tokens_fields, shared_fields}
use Rattle.rules.specs.Loaded.{names_place, section_2, loaded_names, loaded_tokens, loaded_sections}
use Rattle.rules.specs.declared.Form.{Form}
use Rattle.rules.specs.declared.Form.TheVariants.{One, Two}
use Rattle.promises_of_packets.specs.Held.{Every}
use Rattle.promises_of_submissions.specs.LentBytes.{OfBytes}
use Rattle.promises_of_saving.specs.FileWords.{words_at, words-on, file-of-words}
use Rattle.promises_of_saving.specs.GoodShared.{GoodNames, GoodTokens, tokens_at}
use Rattle.promises_of_saving.specs.GoodFile.{GoodSections}
use Rattle.promises_of_saving.specs.LoadedResources.{low-of-long, high-of-long, and_then, length-loaded, OneName, loaded-one-name, loaded-fields}
use Rattle.promises_of_saving.specs.LoadedShared.{its-lowest-name, loaded-name, length-names, length-tokens}
use Rattle.promises_of_saving.specs.LoadedParts.{firsts-loaded, others-loaded, tokens-loaded}
use Rattle.promises_of_saving.specs.SavedFile.{detail_fields, memory_fields, sections_fields, saved_sections}

-- ---- bits

bit-of-flag : (v : ℕ) → v ≤ 1 → bit (eqb v 1) ≡ v
bit-of-flag v h = by_test (eqb v 1) refl
  where
    by_test : (t : Bool) → eqb v 1 ≡ t → bit t ≡ v
    by_test true e = sym (eqb-true v 1 e)
    by_test false e = let n : v ≡ 1 → ⊥ = eqb-false v 1 e in omega arith

status-of-bits : (v : ℕ) → v ≤ 3 → bit (bit_of 0 v) + 2 * bit (bit_of 1 v) ≡ v
status-of-bits v h =
    let a : bit (bit_of 0 v) ≡ v / 2 ^ 0 % 2 = bit-of-flag (v / 2 ^ 0 % 2) (omega arith) in
    let b : bit (bit_of 1 v) ≡ v / 2 ^ 1 % 2 = bit-of-flag (v / 2 ^ 1 % 2) (omega arith) in
    omega arith

-- ---- the head

module _ (f : Form) (b : List ℕ) (o : OfBytes b) (g : GoodSections f b) where
  near : (at : ℕ) → at ≤ 88 → at + 4 ≤ length b
  near at h = omega (arith, g.head.whole)

  -- the registers that both forms have
  pub registers-loaded : values_of (take 18 (readable (loaded_sections f b).regs)) ≡ words_at 18 b 4
  unfolding loaded_sections words_at
  registers-loaded =
      and_then (sym g.head.magic)
      (and_then (sym g.head.its-version)
      (and_then (sym g.head.its-features)
      (and_then (sym g.head.more-features)
      (and_then (low-of-long b 20 o (near 20 (omega arith)))
      (and_then (high-of-long b 20 24 o (near 20 (omega arith)) refl)
      (and_then refl
      (and_then (bit-of-flag (word b 32) g.head.control)
      (and_then (low-of-long b 36 o (near 36 (omega arith)))
      (and_then (high-of-long b 36 40 o (near 36 (omega arith)) refl)
      (and_then (low-of-long b 44 o (near 44 (omega arith)))
      (and_then (high-of-long b 44 48 o (near 44 (omega arith)) refl)
      (and_then (status-of-bits (word b 52) g.head.status)
      (and_then refl
      (and_then refl
      (and_then (low-of-long b 64 o (near 64 (omega arith)))
      (and_then (high-of-long b 64 68 o (near 64 (omega arith)) refl)
      (and_then refl refl)))))))))))))))))

  four-words : (at : ℕ) → words_at 4 b at ≡ word b at ∷ word b (at + 4) ∷ word b (at + 8) ∷ word b (at + 12) ∷ []
  unfolding words_at
  four-words at = simp add_assoc

  length-firsts : length (firsts_of (loaded_sections f b)) ≡ word b (count_place f)
  length-firsts = ap length (firsts-loaded f b g) ∙ length-loaded (word b (count_place f)) b (head_bytes f)

  memory-loaded : memory_fields (loaded_sections f b) ≡ words_at 4 b (memory_place f)
  unfolding loaded_sections
  memory-loaded =
      let here : count_place f ≡ memory_place f + 12 = omega arith in
      and_then (low-of-long b (memory_place f) o (omega (arith, g.head.whole)))
      (and_then (high-of-long b (memory_place f) (memory_place f + 4) o (omega (arith, g.head.whole)) refl)
      (and_then (bit-of-flag (word b (memory_place f + 8)) g.head.flag)
      (and_then (length-firsts ∙ ap (word b) here) refl)))
      ∙ sym (four-words (memory_place f))

  resources-loaded : resources_fields (firsts_of (loaded_sections f b)) ≡ words_at (12 * word b (count_place f)) b (head_bytes f)
  resources-loaded = ap resources_fields (firsts-loaded f b g) ∙ loaded-fields (word b (count_place f)) b (head_bytes f) 0 o g.resources

  -- from the memory's length to the last resource
  pub memory-and-resources : memory_fields (loaded_sections f b) ++ resources_fields (firsts_of (loaded_sections f b))
      ≡ words_at (4 + 12 * word b (count_place f)) b (memory_place f)
  memory-and-resources =
      ap (λ x. x ++ resources_fields (firsts_of (loaded_sections f b))) memory-loaded
      ∙ (ap (λ x. words_at 4 b (memory_place f) ++ x) resources-loaded
      ∙ words-on 4 (12 * word b (count_place f)) b (memory_place f) (head_bytes f) (omega arith))

detail-loaded : (f : Form) (b : List ℕ) → detail_fields f (loaded_sections f b) ≡ words_at (more_registers f) b 76
unfolding loaded_sections words_at
detail-loaded One b = refl
detail-loaded Two b = refl

-- ---- sections 3 and 4

names-words : (n : ℕ) (rs : List Resource) (own : Every OneName rs) (b : List ℕ) (at before : ℕ) → GoodNames n rs b at before → names_fields (loaded_names n rs b at) ≡ words_at (2 * n) b at
unfolding GoodNames names_fields loaded_names words_at
names-words zero rs own b at before g = refl
names-words (suc n) rs own b at before g =
    let e : 2 * suc n ≡ suc (suc (2 * n)) = omega arith in
    let next : at + 8 ≡ at + 4 + 4 = omega arith in
    ap names_fields (loaded-name rs own b at before g.0 n)
    ∙ (and_then refl
    (and_then (its-lowest-name rs own b at before g.0) (names-words n rs own b (at + name_bytes) (word b at) g.1 ∙ ap (words_at (2 * n) b) next))
    ∙ ap (λ k. words_at k b at) (sym e))

tokens-words : (n : ℕ) (rs : List Resource) (b : List ℕ) (at before : ℕ) → OfBytes b → GoodTokens n rs b at before → tokens_fields (loaded_tokens n b at) ≡ words_at (3 * n) b at
unfolding GoodTokens tokens_fields loaded_tokens words_at
tokens-words zero rs b at before o g = refl
tokens-words (suc n) rs b at before o g =
    let e : 3 * suc n ≡ suc (suc (suc (3 * n))) = omega arith in
    let two : at + 8 ≡ at + 4 + 4 = omega arith in
    let next : at + 12 ≡ at + 4 + 4 + 4 = omega arith in
    and_then (low-of-long b at o (omega (arith, g.0.whole)))
    (and_then (high-of-long b at (at + 4) o (omega (arith, g.0.whole)) refl)
    (and_then (ap (word b) two) (tokens-words n rs b (at + token_bytes) (long b at) o g.1 ∙ ap (words_at (3 * n) b) next)))
    ∙ ap (λ k. words_at k b at) (sym e)

-- how many words there are
abbrev shared_words : Form → List ℕ → ℕ → ℕ
shared_words One b at = 0
shared_words Two b at = suc (2 * word b at + suc (3 * word b (tokens_at b at)))

shared-loaded : (f : Form) (b : List ℕ) → OfBytes b → GoodSections f b
    → shared_fields f (loaded_sections f b) ≡ words_at (shared_words f b (names_place f (word b (count_place f)))) b (names_place f (word b (count_place f)))
unfolding words_at
shared-loaded One b o g = refl
shared-loaded Two b o g =
    let at : ℕ = names_place Two (word b (count_place Two)) in
    let rs : List Resource = section_2 Two b in
    let own : Every OneName rs = loaded-one-name (word b (count_place Two)) b (head_bytes Two) 0 g.resources in
    let p : ℕ = word b at in
    let q : ℕ = word b (tokens_at b at) in
    let names : names_fields (others_of (loaded_sections Two b)) ≡ words_at (2 * p) b (at + 4) =
    ap names_fields (others-loaded Two b g) ∙ names-words p rs own b (at + 4) 0 g.later.names in
    let tokens : tokens_fields (tokens_of (loaded_sections Two b)) ≡ words_at (3 * q) b (tokens_at b at + 4) =
    ap tokens_fields (tokens-loaded Two b g) ∙ tokens-words q rs b (tokens_at b at + 4) 0 o g.later.tokens in
    and_then (ap length (others-loaded Two b g) ∙ length-names rs own b p (at + 4) 0 g.later.names)
    (ap (λ x. x ++ (length (tokens_of (loaded_sections Two b)) ∷ tokens_fields (tokens_of (loaded_sections Two b)))) names
    ∙ (ap (λ x. words_at (2 * p) b (at + 4) ++ x)
    (and_then (ap length (tokens-loaded Two b g) ∙ length-tokens q b (tokens_at b at + 4)) tokens)
    ∙ words-on (2 * p) (suc (3 * q)) b (at + 4) (tokens_at b at) (omega arith)))

-- ---- all of them

abbrev all_words : Form → List ℕ → ℕ
all_words f b = suc (18 + (more_registers f + (4 + 12 * word b (count_place f) + shared_words f b (names_place f (word b (count_place f))))))

fields-loaded : (f : Form) (b : List ℕ) → OfBytes b → GoodSections f b → sections_fields f (loaded_sections f b) ≡ words_at (all_words f b) b 0
unfolding words_at
fields-loaded f b o g =
    let t : State = loaded_sections f b in
    let at : ℕ = names_place f (word b (count_place f)) in
    let n : ℕ = 4 + 12 * word b (count_place f) in
    let k : ℕ = shared_words f b at in
    let m : ℕ = more_registers f in
    let later : memory_fields t ++ (resources_fields (firsts_of t) ++ shared_fields f t) ≡ words_at (n + k) b (memory_place f) =
    sym (append_assoc (memory_fields t) (resources_fields (firsts_of t)) (shared_fields f t))
    ∙ (ap (λ x. x ++ shared_fields f t) (memory-and-resources f b o g)
    ∙ (ap (λ x. words_at n b (memory_place f) ++ x) (shared-loaded f b o g) ∙ words-on n k b (memory_place f) at (omega arith))) in
    let from-detail : detail_fields f t ++ (memory_fields t ++ (resources_fields (firsts_of t) ++ shared_fields f t)) ≡ words_at (m + (n + k)) b 76 =
    ap (λ x. x ++ (memory_fields t ++ (resources_fields (firsts_of t) ++ shared_fields f t))) (detail-loaded f b)
    ∙ (ap (λ x. words_at m b 76 ++ x) later ∙ words-on m (n + k) b 76 (memory_place f) refl) in
    and_then (sym g.head.section)
    (ap (λ x. x ++ (detail_fields f t ++ (memory_fields t ++ (resources_fields (firsts_of t) ++ shared_fields f t)))) (registers-loaded f b o g)
    ∙ (ap (λ x. words_at 18 b 4 ++ x) from-detail ∙ words-on 18 (m + (n + k)) b 4 76 refl))

as-many-bytes : (f : Form) (b : List ℕ) → GoodSections f b → 4 * all_words f b ≡ length b
as-many-bytes One b g = omega (arith, g.later)
as-many-bytes Two b g = omega (arith, g.later.long_as)

-- saving what sections say, in their form, gives the sections
pub sections-back : (f : Form) (b : List ℕ) → OfBytes b → GoodSections f b → saved_sections f (loaded_sections f b) ≡ b
sections-back f b o g =
    let n : ℕ = all_words f b in
    let e : 4 * n ≡ length b = as-many-bytes f b g in
    ap file_of (fields-loaded f b o g) ∙ (file-of-words n b 0 o (omega arith) ∙ (ap (λ k. take k b) e ∙ take-length b))
