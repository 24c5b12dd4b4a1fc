-- The theorems of specs/Moved.antt, and what they rest on. Assumes nothing.
use Rattle.std.specs.Prelude.{◌≡◌, refl, false, List, [], ℕ, ◌+◌, ◌≤◌, length, take}
use Rattle.std.proofs.Common.{sym, subst, ◌∙◌, append-nil, arith}
use Rattle.std.proofs.Math.Path.{ap}
use Rattle.rules.specs.Numbers.{done, not_in_form}
use Rattle.rules.specs.Lists.{over}
use Rattle.rules.specs.Lists.Found.{none}
use Rattle.rules.specs.Packets.{Belongings}
use Rattle.rules.specs.State.{State}
use Rattle.rules.specs.declared.Registers.{Registers}
use Rattle.rules.specs.Saved.{beyond_form_1, Saved, not_saved, firsts_of, saved, beyond, call_save}
use Rattle.rules.specs.Loaded.{form_in, has_number, sections, bad_place, loaded_sections, loaded, call_load, other_form, call_move}
use Rattle.rules.specs.declared.Form.{Form}
use Rattle.rules.specs.declared.Form.TheVariants.{One, Two}
use Rattle.promises_of_packets.specs.Held.{Every}
use Rattle.promises_of_submissions.specs.LentBytes.{OfBytes}
use Rattle.promises_of_saving.specs.Refusals.{SaveDone, save-done-exactly, done-save-keeps-later-bytes, load-of-good}
use Rattle.promises_of_saving.specs.Numbered.{with_number, is-numbered}
use Rattle.promises_of_saving.specs.LoadedResources.{OneName}
use Rattle.promises_of_saving.specs.Savable.{Savable}
use Rattle.promises_of_saving.proofs.SavedParts.{firsts-own}
use Rattle.promises_of_saving.specs.SavedFile.{saved_sections, saved-is-numbered, form-of-saved, saved-is-of-bytes, length-saved}
use Rattle.promises_of_saving.specs.LoadOfSave.{InForm1, in-form-1, said, LoadedBack}
use Rattle.promises_of_saving.proofs.LoadOfSave.{said-back, registers-back, loaded-of-saved, saved-is-good, same_back}
use Rattle.promises_of_saving.proofs.LoadedIsSavable.{loaded-is-savable}
use Rattle.promises_of_saving.specs.OneFile.{same-devices-one-file}
use Rattle.promises_of_saving.specs.SaveOfLoad.{loaded-in-form, form-1-is-in-form-1, saved-of-loaded, loaded-rests}
use Rattle.promises_of_saving.specs.MovedBytes.{no-names-shared, no-tokens-used}
use Rattle.promises_of_saving.specs.GoesBack.{GoesBack, Goes, form-1-has}
use Rattle.promises_of_saving.specs.MoveAnswers.{good-if-loads, loads-if-good, move-of-good}
use Rattle.promises_of_saving.proofs.MoveAnswers.{is_done, move-not-in-form, move-done, move-not-in-form-exactly, move-done-exactly}
use Rattle.promises_of_saving.specs.Moved.{MovedFile, move_wrote, other}

-- ---- which files move

-- every form 1 file does: no move of one answers 8
pub form-1-is-never-refused-with-8 : (b buffer : List ℕ) → form_in b ≡ One → (call_move b buffer).answer ≡ not_in_form → ⊥
form-1-is-never-refused-with-8 b buffer form e = ((move-not-in-form-exactly b buffer).0 e).stays (subst (λ f. Goes f (sections b)) (sym form) (omega arith))

-- and with room, which is 12 bytes more than it has with its number, it is done
pub form-1-moves : (b : List ℕ) → OfBytes b → bad_place b ≡ none → form_in b ≡ One → (buffer : List ℕ) → 12 + length (with_number b) ≤ length buffer
    → (call_move b buffer).answer ≡ done
form-1-moves b o good form buffer room =
    ap (λ (v : Saved). v.answer)
    (move-done b buffer (is_done b good (ap (λ f. beyond (other_form f) (loaded b)) form) buffer
    (subst (λ f. length (saved (other_form f) (loaded b)) ≤ length buffer) (sym form) (omega (arith, longer)))))
  where
    within : InForm1 (loaded b)
    within = in-form-1 (loaded b) (form-1-is-in-form-1 b good form)

    same-file : saved One (loaded b) ≡ with_number b
    same-file = ap (λ f. saved f (loaded b)) (sym form) ∙ saved-of-loaded b o good

    longer : length (saved Two (loaded b)) ≡ 12 + length (with_number b)
    longer =
        omega (
          arith,
          ap length same-file,
          length-saved One (loaded b),
          length-saved Two (loaded b),
          ap length (no-names-shared (loaded b) within),
          ap length (no-tokens-used (loaded b) within),
        )

-- "Form 2 goes back exactly when both sections are empty and detail is 0, else 8 .. and nothing written"
pub form-2-goes-back-exactly : (b : List ℕ) → bad_place b ≡ none → form_in b ≡ Two → (buffer : List ℕ)
    → ((call_move b buffer).answer ≡ not_in_form → GoesBack (sections b) → ⊥)
    × ((GoesBack (sections b) → ⊥) → call_move b buffer ≡ not_saved not_in_form buffer)
form-2-goes-back-exactly b good form buffer = (
  λ e g. ((move-not-in-form-exactly b buffer).0 e).stays (subst (λ f. Goes f (sections b)) (sym form) g),
  λ n. move-not-in-form b buffer (record { loads = loads-if-good b good; stays = λ g. n (subst (λ f. Goes f (sections b)) form g) }),
)

-- ---- what a move writes

module _ (b buffer : List ℕ) (o : OfBytes b) (d : (call_move b buffer).answer ≡ done) where
  moved-is-good : bad_place b ≡ none
  moved-is-good = good-if-loads b ((move-done-exactly b buffer).0 d).loads

  is-save : call_move b buffer ≡ call_save (other b buffer o d) (loaded b) buffer
  is-save = move-of-good b buffer moved-is-good

  save-is-done : (call_save (other b buffer o d) (loaded b) buffer).answer ≡ done
  save-is-done = sym (ap (λ (v : Saved). v.answer) is-save) ∙ d

  its_done : SaveDone (other b buffer o d) (loaded b) buffer
  its_done = (save-done-exactly (other b buffer o d) (loaded b) buffer).0 save-is-done

  can-be-saved : Savable (loaded b)
  can-be-saved = loaded-is-savable b o moved-is-good

  is-saved : move_wrote b buffer ≡ saved (other b buffer o d) (loaded b)
  is-saved = ap (λ (v : Saved). take v.length v.buffer) is-save ∙ (done-save-keeps-later-bytes (other b buffer o d) (loaded b) buffer save-is-done).file

  pub moved-file : MovedFile b (move_wrote b buffer)
  moved-file =
      subst (MovedFile b) (sym is-saved)
      (record {
        bytes = saved-is-of-bytes (other b buffer o d) (loaded b);
        form = form-of-saved (other b buffer o d) (loaded b);
        number = ap has_number (saved-is-numbered (other b buffer o d) (loaded b)) ∙ is-numbered (other b buffer o d) (saved_sections (other b buffer o d) (loaded b));
        good = saved-is-good (other b buffer o d) (loaded b) can-be-saved;
        same = same_back (other b buffer o d) (loaded b) can-be-saved its_done.form (loaded-rests b);
      })

  -- loading it, on any device, gives the device that loading the file gives
  pub load-of-moved : (t : State) → LoadedBack (loaded b) (call_load t (move_wrote b buffer))
  load-of-moved t =
      subst (LoadedBack (loaded b)) (sym (load-of-good t (move_wrote b buffer) moved-file.good))
      (record { answer = refl; place = refl; device = moved-file.same })

-- ---- and back

-- what is within form 1 is so, too, once form 2 said it
module _ (s : State) (v : Savable s) where
  its-belongings : (loaded_sections Two (saved_sections Two s)).belongings ≡ said Two s
  unfolding loaded_sections
  its-belongings = said-back Two s v

  its-detail : (loaded_sections Two (saved_sections Two s)).regs.error.detail ≡ s.regs.error.detail
  unfolding loaded_sections
  its-detail = ap (λ (r : Registers). r.error.detail) (registers-back Two s v refl)

still-within : (s : State) → Savable s → beyond_form_1 s ≡ false → beyond_form_1 (loaded (saved Two s)) ≡ false
still-within s v e = subst (λ (t : State). beyond_form_1 t ≡ false) (sym (loaded-of-saved Two s v)) its
  where
    f : InForm1 s
    f = in-form-1 s e

    empty : said Two s ≡ record { resources = firsts_of s; tokens = [] }
    empty = rw (no-names-shared s f, append-nil (firsts_of s), no-tokens-used s f)

    its : beyond_form_1 (loaded_sections Two (saved_sections Two s)) ≡ false
    its =
        let nothing : (loaded_sections Two (saved_sections Two s)).belongings ≡ record { resources = firsts_of s; tokens = [] } = its-belongings s v ∙ empty in
        form-1-has (loaded_sections Two (saved_sections Two s))
        (record {
          tokens = ap (λ (x : Belongings). x.tokens) nothing;
          one_name = subst (λ (x : Belongings). Every OneName x.resources) (sym nothing) (firsts-own s v);
          detail = its-detail s v ∙ f.detail;
        })

-- so what a move wrote is within the form that it came from
back-in-form : (f : Form) (s : State) → Savable s → beyond f s ≡ false → beyond f (loaded (saved (other_form f) s)) ≡ false
back-in-form One s v e = still-within s v e
back-in-form Two s v e = refl

-- "moves to form 2 and back to equal bytes", an old one with its number; and so does every form 2 file that goes back
pub moves-there-and-back : (b buffer : List ℕ) → OfBytes b → (call_move b buffer).answer ≡ done → (back : List ℕ) → length (with_number b) ≤ length back
    → call_move (move_wrote b buffer) back ≡ record { answer = done; length = length (with_number b); buffer = over 0 (with_number b) back }
moves-there-and-back b buffer o d back room =
    let f : Form = form_in b in
    let c : List ℕ = move_wrote b buffer in
    let m : MovedFile b c = moved-file b buffer o d in
    let home : other_form (form_in c) ≡ f = ap other_form m.form ∙ twice f in
    let good : bad_place b ≡ none = moved-is-good b buffer o d in
    let equal : saved (other_form (form_in c)) (loaded c) ≡ with_number b =
    ap (λ x. saved x (loaded c)) home ∙ (same-devices-one-file f (loaded c) (loaded b) m.same ∙ saved-of-loaded b o good) in
    let within : beyond (other_form (form_in c)) (loaded c) ≡ false =
    ap (λ x. beyond x (loaded c)) home
    ∙ (ap (λ x. beyond f (loaded x)) (is-saved b buffer o d) ∙ back-in-form f (loaded b) (can-be-saved b buffer o d) (loaded-in-form b good)) in
    move-done c back (is_done c m.good within back (subst (λ x. length x ≤ length back) (sym equal) room))
    ∙ ap (λ (x : List ℕ). record { answer = done; length = length x; buffer = over 0 x back }) equal
  where
    twice : (f : Form) → other_form (other_form f) ≡ f
    twice One = refl
    twice Two = refl
