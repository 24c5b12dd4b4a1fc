-- A file that begins with the number of its form: which form it has, and what its sections are. Assumes nothing.
use Rattle.std.specs.Prelude.{◌≡◌, Bool, true, ◌||◌, List, ◌++◌, ℕ, ◌+◌, ◌%◌, ◌^◌, ◌≤◌, ◌<◌, eqb, length, take, drop}
use Rattle.std.proofs.Math.Path.{refl, ap, subst}
use Rattle.std.proofs.Common.{sym, ◌∙◌, take-append-drop, length-append, take_at, drop_at, get_or-drop}
use Rattle.std.proofs.Math.Bool.{false}
use native.Mathlib.Omega.{arith}
use borrow.Author.Tests.{eqb-true, ltb-false, le-ltb}
use Rattle.machine.specs.Machine.{pick}
use Rattle.rules.specs.Bytes.{le, bytes_of}
use Rattle.rules.specs.Layouts.{word}
use Rattle.rules.specs.Saved.{number_of, number_bytes}
use Rattle.rules.specs.Loaded.{missing, first_field, form_in, has_number, before_sections, sections}
use Rattle.rules.specs.declared.Form.{Form}
use Rattle.rules.specs.declared.Form.TheVariants.{One, Two}
use Rattle.words.specs.Fields.{le-bytes_of, length-bytes_of}
use Rattle.promises_of_packets.specs.Names.{true-not-false}
use Rattle.promises_of_submissions.specs.LentBytes.{OfBytes}
use Rattle.promises_of_saving.specs.FileWords.{bytes-of-word}

-- sections behind their form's number
abbrev pub numbered : Form → List ℕ → List ℕ
numbered f b = bytes_of number_bytes (number_of f) ++ b

module _ (f : Form) (b : List ℕ) where
  pub length-numbered : length (numbered f b) ≡ 4 + length b
  length-numbered = length-append (bytes_of 4 (number_of f)) b ∙ ap (λ n. n + length b) (length-bytes_of 4 (number_of f))

  its-number : first_field (numbered f b) ≡ number_of f
  unfolding first_field
  its-number =
      let there : missing (numbered f b) 0 ≡ false = le-ltb (length (numbered f b)) (0 + 4) (omega (arith, length-numbered)) in
      let is : word (numbered f b) 0 ≡ number_of f % 2 ^ 32 = ap le (take_at (bytes_of 4 (number_of f)) b 4 (length-bytes_of 4 (number_of f))) ∙ le-bytes_of 4 (number_of f) in
      rw there (is ∙ small f)
    where
      small : (f : Form) → number_of f % 2 ^ 32 ≡ number_of f
      small One = refl
      small Two = refl

  pub form-of-numbered : form_in (numbered f b) ≡ f
  form-of-numbered = ap (λ n. pick (eqb n 2) Two One) its-number ∙ by_form f
    where
      by_form : (f : Form) → pick (eqb (number_of f) 2) Two One ≡ f
      by_form One = refl
      by_form Two = refl

  pub is-numbered : has_number (numbered f b) ≡ true
  is-numbered = ap (λ n. eqb n 1 || eqb n 2) its-number ∙ by_form f
    where
      by_form : (f : Form) → eqb (number_of f) 1 || eqb (number_of f) 2 ≡ true
      by_form One = refl
      by_form Two = refl

  pub sections-of-numbered : sections (numbered f b) ≡ b
  unfolding sections before_sections
  sections-of-numbered = rw is-numbered (drop_at (bytes_of 4 (number_of f)) b 4 (length-bytes_of 4 (number_of f)))

-- ---- from a file to its number

-- "old files without it are form 1 and the move adds it": a file with its number
abbrev pub with_number : List ℕ → List ℕ
with_number b = pick (has_number b) b (numbered One b)

module _ (b : List ℕ) where
  -- the number that stands in it is that of its form
  number-there : has_number b ≡ true → first_field b ≡ number_of (form_in b)
  number-there = by-second (eqb (first_field b) 2) refl
    where
      by_first : (t : Bool) → eqb (first_field b) 1 ≡ t → t || false ≡ true → first_field b ≡ 1
      by_first true e h = eqb-true (first_field b) 1 e
      by_first false e h = absurd (true-not-false (sym h))

      by-second : (t : Bool) → eqb (first_field b) 2 ≡ t → eqb (first_field b) 1 || t ≡ true → first_field b ≡ number_of (pick t Two One)
      by-second true e h = eqb-true (first_field b) 2 e
      by-second false e h = by_first (eqb (first_field b) 1) refl h

  -- and an old one is form 1
  old-is-form-1 : has_number b ≡ false → form_in b ≡ One
  old-is-form-1 = by_tests (eqb (first_field b) 1) (eqb (first_field b) 2)
    where
      by_tests : (t u : Bool) → t || u ≡ false → pick u Two One ≡ One
      by_tests true u e = absurd (true-not-false e)
      by_tests false true e = absurd (true-not-false e)
      by_tests false false e = refl

  old-is-sections : has_number b ≡ false → sections b ≡ b
  unfolding sections before_sections
  old-is-sections e = rw e

  pub number-is-whole : has_number b ≡ true → 4 ≤ length b
  unfolding first_field
  number-is-whole h = by_test (missing b 0) refl (number-there h)
    where
      some : (f : Form) → 0 ≡ number_of f → ⊥
      some One e = omega arith
      some Two e = omega arith

      by_test : (t : Bool) → missing b 0 ≡ t → pick t 0 (word b 0) ≡ number_of (form_in b) → 4 ≤ length b
      by_test true e n = absurd (some (form_in b) n)
      by_test false e n = omega (arith, ltb-false (length b) (0 + 4) e)

  first-is-word : 4 ≤ length b → first_field b ≡ word b 0
  unfolding first_field
  first-is-word h = rw (le-ltb (length b) (0 + 4) (omega arith))

  behind-number : has_number b ≡ true → sections b ≡ drop 4 b
  unfolding sections before_sections
  behind-number e = rw e

  pub sections-of-bytes : OfBytes b → OfBytes (sections b)
  unfolding sections
  sections-of-bytes o i = subst (λ x. x < 256) (sym (get_or-drop (before_sections b) b i 0)) (o (before_sections b + i))

  -- a file with its number is that number, and its sections
  pub with-number-is : OfBytes b → with_number b ≡ numbered (form_in b) (sections b)
  with-number-is o = by_test (has_number b) refl
    where
      by_test : (t : Bool) → has_number b ≡ t → pick t b (numbered One b) ≡ numbered (form_in b) (sections b)
      by_test true e =
          let h : 4 ≤ length b = number-is-whole e in
          let front : bytes_of 4 (number_of (form_in b)) ≡ take 4 b =
          ap (bytes_of 4) (sym (number-there e) ∙ first-is-word h) ∙ bytes-of-word b 0 o (omega arith) in
          sym (ap (λ x. x ++ sections b) front ∙ (ap (λ x. take 4 b ++ x) (behind-number e) ∙ take-append-drop 4 b))
      by_test false e = ap (numbered One) (sym (old-is-sections e)) ∙ ap (λ f. numbered f (sections b)) (sym (old-is-form-1 e))
