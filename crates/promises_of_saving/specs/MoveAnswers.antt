-- Which moves are refused, with what, and what a refused one leaves: 7, 8 and 6, each exactly in its case, and else it is done. Assumes nothing.
use Rattle.std.specs.Prelude.{◌≡◌, Bool, List, ℕ, ◌≤◌, ◌<◌, length}
use Rattle.std.proofs.Common.{ap}
use Rattle.rules.specs.Numbers.{done, bad_file}
use Rattle.rules.specs.Lists.Found.{none, found}
use Rattle.rules.specs.State.{State}
use Rattle.rules.specs.Saved.{not_saved, saved, beyond, call_save}
use Rattle.rules.specs.Loaded.{Loaded, form_in, sections, bad_place, loaded, call_load, other_form, call_move}
use Rattle.promises_of_saving.specs.Refusals.{kept-is-good, load-of-good, load-of-bad, loaded-exactly, refused-exactly, first-is-bad}
use Rattle.promises_of_saving.specs.GoesBack.{Goes}

-- the file that a move makes
abbrev pub moved : List ℕ → List ℕ
moved b = saved (other_form (form_in b)) (loaded b)

-- ---- the cases

module _ (b : List ℕ) where
  -- loading the file answers 7, or 0, whatever the device is
  abbrev pub LoadRefused : Type 0
  LoadRefused = (s : State) → (call_load s b).answer ≡ bad_file

  abbrev pub Loads : Type 0
  Loads = (s : State) → (call_load s b).answer ≡ done

  -- it loads, but the other form has no field for something
  pub record MoveNotInForm : Type 0 where
    pub loads : Loads
    pub stays : Goes (form_in b) (sections b) → ⊥

  module _ (buffer : List ℕ) where
    -- the other form has, but the buffer is too short
    pub record MoveTooShort : Type 0 where
      pub loads : Loads
      pub goes : Goes (form_in b) (sections b)
      pub short : length buffer < length (moved b)

    -- it is not
    pub record MoveDone : Type 0 where
      pub loads : Loads
      pub goes : Goes (form_in b) (sections b)
      pub room : length (moved b) ≤ length buffer

-- ---- by the rules of a file

module _ (b : List ℕ) where
  pub good-if-loads : Loads b → bad_place b ≡ none
  good-if-loads h = kept-is-good b ((loaded-exactly (loaded b) b).0 (h (loaded b)))

  pub loads-if-good : bad_place b ≡ none → Loads b
  loads-if-good e s = ap (λ (l : Loaded). l.answer) (load-of-good s b e)

  pub refused-if-bad : (p : ℕ) → bad_place b ≡ found p → LoadRefused b
  refused-if-bad p e s = ap (λ (l : Loaded). l.answer) (load-of-bad s b p e)

  bad-if-refused : LoadRefused b → bad_place b ≡ found (call_load (loaded b) b).place
  bad-if-refused h = first-is-bad b (call_load (loaded b) b).place ((refused-exactly (loaded b) b).0 (h (loaded b)))

  abbrev pub its_beyond : Bool
  its_beyond = beyond (other_form (form_in b)) (loaded b)

-- ---- each case has its answer

module _ (b buffer : List ℕ) where
  move-of-bad : (p : ℕ) → bad_place b ≡ found p → call_move b buffer ≡ not_saved bad_file buffer
  unfolding call_move
  move-of-bad p e = rw e

  -- a move is a save of what the file says
  pub move-of-good : bad_place b ≡ none → call_move b buffer ≡ call_save (other_form (form_in b)) (loaded b) buffer
  unfolding call_move
  move-of-good e = rw e

  -- 7
  pub move-refused : LoadRefused b → call_move b buffer ≡ not_saved bad_file buffer
  move-refused h = move-of-bad (call_load (loaded b) b).place (bad-if-refused b h)

  -- ---- and there is one of them: the answers are 7, 8, 6 and 0, each exactly in its case

  abbrev pub answered : ℕ → Type 0
  answered n = (call_move b buffer).answer ≡ n
