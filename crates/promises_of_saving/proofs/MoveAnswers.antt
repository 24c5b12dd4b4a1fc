-- The theorems of specs/MoveAnswers.antt, and what they rest on. Assumes nothing.
use Rattle.std.specs.Prelude.{◌≡◌, refl, Bool, true, false, List, ◌⊎◌, ℕ, ◌≤◌, length}
use Rattle.std.proofs.Common.{sym, ap, ◌∙◌, inl, inr, ⊎_elim, arith}
use Rattle.rules.specs.Numbers.{done, in_work, too_short, bad_file, not_in_form}
use Rattle.rules.specs.Lists.{Found, over}
use Rattle.rules.specs.Lists.Found.{none, found}
use Rattle.rules.specs.Saved.{Saved, not_saved}
use Rattle.rules.specs.Loaded.{form_in, sections, bad_place, loaded, other_form, call_move}
use Rattle.words.specs.Over.{below_or_not}
use Rattle.promises_of_packets.specs.Names.{true-not-false}
use Rattle.promises_of_saving.specs.Refusals.{good-is-kept, save-not-in-form, save-too-short, save-done, NothingWritten, FileWritten, nothing_written, file-written}
use Rattle.promises_of_saving.specs.GoodFile.{good-file}
use Rattle.promises_of_saving.specs.SaveOfLoad.{loaded-rests}
use Rattle.promises_of_saving.specs.GoesBack.{Goes}
use Rattle.promises_of_saving.proofs.GoesBack.{goes-exactly}
use Rattle.promises_of_saving.specs.MoveAnswers.{LoadRefused, Loads, MoveDone, MoveNotInForm, MoveTooShort, answered, good-if-loads, its_beyond, loads-if-good, move-of-good, move-refused, moved, refused-if-bad}

-- ---- by the rules of a file

module _ (b : List ℕ) where
  goes-if-good : bad_place b ≡ none → ((its_beyond b) ≡ false → Goes (form_in b) (sections b)) × (Goes (form_in b) (sections b) → (its_beyond b) ≡ false)
  unfolding loaded
  goes-if-good e = goes-exactly (form_in b) (sections b) (good-file b (good-is-kept b e))

  goes-or-not : bad_place b ≡ none → Goes (form_in b) (sections b) ⊎ (Goes (form_in b) (sections b) → ⊥)
  goes-or-not e = by_test (its_beyond b) refl
    where
      by_test : (t : Bool) → (its_beyond b) ≡ t → Goes (form_in b) (sections b) ⊎ (Goes (form_in b) (sections b) → ⊥)
      by_test true h = inr (λ g. true-not-false (sym h ∙ (goes-if-good e).1 g))
      by_test false h = inl ((goes-if-good e).0 h)

  beyond-if-not : bad_place b ≡ none → (Goes (form_in b) (sections b) → ⊥) → (its_beyond b) ≡ true
  beyond-if-not e n = by_test (its_beyond b) refl
    where
      by_test : (t : Bool) → (its_beyond b) ≡ t → (its_beyond b) ≡ true
      by_test true h = h
      by_test false h = absurd (n ((goes-if-good e).0 h))

  pub is_done : bad_place b ≡ none → (its_beyond b) ≡ false → (buffer : List ℕ) → length (moved b) ≤ length buffer → MoveDone b buffer
  is_done e n buffer room = record { loads = (loads-if-good b) e; goes = (goes-if-good e).0 n; room = room }

-- ---- each case has its answer

module _ (b buffer : List ℕ) where
  -- "8 (7 comes before it"
  pub move-not-in-form : MoveNotInForm b → call_move b buffer ≡ not_saved not_in_form buffer
  move-not-in-form c =
      let good : bad_place b ≡ none = good-if-loads b c.loads in
      (move-of-good b buffer) good ∙ save-not-in-form (other_form (form_in b)) (loaded b) buffer (loaded-rests b) (beyond-if-not b good c.stays)

  -- "6 after)"
  pub move-too-short : MoveTooShort b buffer → call_move b buffer ≡ not_saved too_short buffer
  move-too-short c =
      let good : bad_place b ≡ none = good-if-loads b c.loads in
      (move-of-good b buffer) good ∙ save-too-short (other_form (form_in b)) (loaded b) buffer (loaded-rests b) ((goes-if-good b good).1 c.goes) c.short

  pub move-done : MoveDone b buffer → call_move b buffer ≡ record { answer = done; length = length (moved b); buffer = over 0 (moved b) buffer }
  move-done c =
      let good : bad_place b ≡ none = good-if-loads b c.loads in
      (move-of-good b buffer) good ∙ save-done (other_form (form_in b)) (loaded b) buffer (loaded-rests b) ((goes-if-good b good).1 c.goes) c.room

  -- ---- and there is one of them: the answers are 7, 8, 6 and 0, each exactly in its case

  one-of-four : LoadRefused b ⊎ (MoveNotInForm b ⊎ (MoveTooShort b buffer ⊎ MoveDone b buffer))
  one-of-four = by_found (bad_place b) refl
    where
      by-room : Loads b → Goes (form_in b) (sections b) → MoveTooShort b buffer ⊎ MoveDone b buffer
      by-room l g =
          ⊎_elim (λ h. inl (record { loads = l; goes = g; short = h })) (λ h. inr (record { loads = l; goes = g; room = h })) (below_or_not (length buffer) (length (moved b)))

      by_found : (f : Found ℕ) → bad_place b ≡ f → LoadRefused b ⊎ (MoveNotInForm b ⊎ (MoveTooShort b buffer ⊎ MoveDone b buffer))
      by_found none e =
          let l : Loads b = loads-if-good b e in
          inr (⊎_elim (λ g. inr (by-room l g)) (λ n. inl (record { loads = l; stays = n })) (goes-or-not b e))
      by_found (found p) e = inl (refused-if-bad b p e)

  -- what follows from an answer follows in the case that has it
  by_answer : (n : ℕ) (X : Type 0) → (answered b buffer) n → (bad_file ≡ n → LoadRefused b → X) → (not_in_form ≡ n → MoveNotInForm b → X)
      → (too_short ≡ n → MoveTooShort b buffer → X) → (done ≡ n → MoveDone b buffer → X) → X
  by_answer n X e seven eight six zero =
      ⊎_elim (λ c. seven (its ((move-refused b buffer) c)) c)
      (λ l. ⊎_elim (λ c. eight (its (move-not-in-form c)) c)
      (λ k. ⊎_elim (λ c. six (its (move-too-short c)) c) (λ c. zero (its (move-done c)) c) k) l) one-of-four
    where
      its : {r : Saved} → call_move b buffer ≡ r → r.answer ≡ n
      its q = sym (ap (λ (v : Saved). v.answer) q) ∙ e

  -- "7": exactly when loading refuses the file
  pub move-refused-exactly : ((answered b buffer) bad_file → LoadRefused b) × (LoadRefused b → (answered b buffer) bad_file)
  move-refused-exactly = (
    λ e. by_answer bad_file (LoadRefused b) e (λ n c. c) (λ n c. absurd (omega arith)) (λ n c. absurd (omega arith)) (λ n c. absurd (omega arith)),
    λ c. ap (λ (v : Saved). v.answer) ((move-refused b buffer) c),
  )

  -- "Form 2 goes back exactly when both sections are empty and detail is 0, else 8"
  pub move-not-in-form-exactly : ((answered b buffer) not_in_form → MoveNotInForm b) × (MoveNotInForm b → (answered b buffer) not_in_form)
  move-not-in-form-exactly = (
    λ e. by_answer not_in_form (MoveNotInForm b) e (λ n c. absurd (omega arith)) (λ n c. c) (λ n c. absurd (omega arith)) (λ n c. absurd (omega arith)),
    λ c. ap (λ (v : Saved). v.answer) (move-not-in-form c),
  )

  pub move-too-short-exactly : ((answered b buffer) too_short → MoveTooShort b buffer) × (MoveTooShort b buffer → (answered b buffer) too_short)
  move-too-short-exactly = (
    λ e. by_answer too_short (MoveTooShort b buffer) e (λ n c. absurd (omega arith)) (λ n c. absurd (omega arith)) (λ n c. c) (λ n c. absurd (omega arith)),
    λ c. ap (λ (v : Saved). v.answer) (move-too-short c),
  )

  pub move-done-exactly : ((answered b buffer) done → MoveDone b buffer) × (MoveDone b buffer → (answered b buffer) done)
  move-done-exactly = (
    λ e. by_answer done (MoveDone b buffer) e (λ n c. absurd (omega arith)) (λ n c. absurd (omega arith)) (λ n c. absurd (omega arith)) (λ n c. c),
    λ c. ap (λ (v : Saved). v.answer) (move-done c),
  )

  -- a file has nothing in work
  pub move-is-never-in-work : (answered b buffer) in_work → ⊥
  move-is-never-in-work e = by_answer in_work ⊥ e (λ n c. omega arith) (λ n c. omega arith) (λ n c. omega arith) (λ n c. omega arith)

  -- ---- what it leaves

  -- "and nothing written"
  pub refused-move-leaves-the-buffer : ((call_move b buffer).answer ≡ done → ⊥) → NothingWritten (call_move b buffer) buffer
  refused-move-leaves-the-buffer n =
      by_answer (call_move b buffer).answer (NothingWritten (call_move b buffer) buffer) refl
      (λ e c. nothing_written (call_move b buffer) buffer bad_file ((move-refused b buffer) c))
      (λ e c. nothing_written (call_move b buffer) buffer not_in_form (move-not-in-form c))
      (λ e c. nothing_written (call_move b buffer) buffer too_short (move-too-short c))
      (λ e c. absurd (n (sym e)))

  pub done-move-keeps-later-bytes : (call_move b buffer).answer ≡ done → FileWritten (call_move b buffer) (moved b) buffer
  done-move-keeps-later-bytes d =
      let c : MoveDone b buffer = move-done-exactly.0 d in
      file-written (call_move b buffer) buffer (moved b) c.room (move-done c)
