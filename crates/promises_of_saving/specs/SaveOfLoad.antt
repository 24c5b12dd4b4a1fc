-- "written into a lent buffer and read back elsewhere": saving in its form what a file loads gives that file, an old one with its number. So a good
-- file is the only one of its form that says its device: two good files of a form and of the same device are equal. Assumes nothing.
use Rattle.std.specs.Prelude.{◌≡◌, refl, true, false, List, [], ◌∷◌, ℕ, ◌≤◌, length}
use Rattle.std.proofs.Common.{sym, ap, subst, ◌∙◌, eq-eqb}
use Rattle.rules.specs.Numbers.{done}
use Rattle.rules.specs.Lists.{over}
use Rattle.rules.specs.Lists.Found.{none}
use Rattle.rules.specs.Layouts.{word}
use Rattle.rules.specs.Calls.{at_rest}
use Rattle.rules.specs.declared.Resource.{Resource}
use Rattle.rules.specs.Saved.{other_name_among, beyond_form_1, count_place, head_bytes, saved, beyond, call_save}
use Rattle.rules.specs.Loaded.{form_in, sections, bad_place, section_2, loaded_sections, loaded}
use Rattle.rules.specs.declared.Form.{Form}
use Rattle.rules.specs.declared.Form.TheVariants.{One, Two}
use Rattle.promises_of_packets.specs.Held.{Every}
use Rattle.promises_of_submissions.specs.LentBytes.{OfBytes}
use Rattle.promises_of_saving.specs.SameDevice.{SameDevice}
use Rattle.promises_of_saving.specs.Refusals.{good-is-kept, save-done}
use Rattle.promises_of_saving.specs.Numbered.{numbered, with_number, with-number-is, sections-of-bytes}
use Rattle.promises_of_saving.specs.GoodFile.{GoodSections, GoodFile, good-file}
use Rattle.promises_of_saving.specs.LoadedResources.{OneName, loaded-one-name}
use Rattle.promises_of_saving.specs.SavedFile.{saved_sections, saved-is-numbered}
use Rattle.promises_of_saving.specs.LoadedWords.{sections-back}
use Rattle.promises_of_saving.specs.OneFile.{same-devices-one-file}

-- ---- what is loaded is within its form

pub one-name-each : (rs : List Resource) → Every OneName rs → other_name_among rs ≡ false
unfolding other_name_among Every
one-name-each [] h = refl
one-name-each (r ∷ rs) h = rw (eq-eqb r.handle r.lowest (sym h.0), one-name-each rs h.1)

-- "A form 1 file gives detail 0, no tokens and no other names"
sections-in-form : (f : Form) (b : List ℕ) → GoodSections f b → beyond f (loaded_sections f b) ≡ false
unfolding beyond_form_1 loaded_sections
sections-in-form One b g = rw (one-name-each (section_2 One b) (loaded-one-name (word b (count_place One)) b (head_bytes One) 0 g.resources))
sections-in-form Two b g = refl

module _ (b : List ℕ) (good : bad_place b ≡ none) where
  pub its-sections : GoodFile b
  its-sections = good-file b (good-is-kept b good)

  pub loaded-in-form : beyond (form_in b) (loaded b) ≡ false
  unfolding loaded
  loaded-in-form = sections-in-form (form_in b) (sections b) its-sections

  pub form-1-is-in-form-1 : form_in b ≡ One → beyond_form_1 (loaded b) ≡ false
  form-1-is-in-form-1 e = ap (λ f. beyond f (loaded b)) (sym e) ∙ loaded-in-form

-- ---- and its bytes are the file's

sections-of-loaded : (b : List ℕ) → OfBytes b → bad_place b ≡ none → saved_sections (form_in b) (loaded b) ≡ sections b
unfolding loaded
sections-of-loaded b o good = sections-back (form_in b) (sections b) (sections-of-bytes b o) (its-sections b good)

pub saved-of-loaded : (b : List ℕ) → OfBytes b → bad_place b ≡ none → saved (form_in b) (loaded b) ≡ with_number b
saved-of-loaded b o good =
    saved-is-numbered (form_in b) (loaded b) ∙ (ap (numbered (form_in b)) (sections-of-loaded b o good) ∙ sym (with-number-is b o))

pub loaded-rests : (b : List ℕ) → at_rest (loaded b).work ≡ true
unfolding loaded loaded_sections
loaded-rests b = refl

-- ---- the theorems

-- so saving it in its form, into any buffer that has room, is done, and writes these bytes
pub save-of-load : (b : List ℕ) → OfBytes b → bad_place b ≡ none → (buffer : List ℕ) → length (with_number b) ≤ length buffer
    → call_save (form_in b) (loaded b) buffer ≡ record { answer = done; length = length (with_number b); buffer = over 0 (with_number b) buffer }
save-of-load b o good buffer room =
    let e : saved (form_in b) (loaded b) ≡ with_number b = saved-of-loaded b o good in
    save-done (form_in b) (loaded b) buffer (loaded-rests b) (loaded-in-form b good) (subst (λ x. length x ≤ length buffer) (sym e) room)
    ∙ ap (λ (x : List ℕ). record { answer = done; length = length x; buffer = over 0 x buffer }) e

-- equal devices have equal files of a form
pub equal-devices-equal-files : (b c : List ℕ) → OfBytes b → OfBytes c → bad_place b ≡ none → bad_place c ≡ none → form_in b ≡ form_in c
    → SameDevice (loaded b) (loaded c) → with_number b ≡ with_number c
equal-devices-equal-files b c o p good fine form d =
    sym (saved-of-loaded b o good)
    ∙ (same-devices-one-file (form_in b) (loaded b) (loaded c) d ∙ (ap (λ f. saved f (loaded c)) form ∙ saved-of-loaded c p fine))
