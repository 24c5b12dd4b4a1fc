-- A move is a load and then a save: what its code asks. Assumes nothing.
use Rattle.std.proofs.Math.Path.{◌≡◌, refl, sym, ap}
use Rattle.std.proofs.Common.{◌∙◌, arith, rules}
use mathlib.Core.List.{List, []}
use Rattle.std.specs.Prelude.{ℕ, Result, Ok, Err, ⊤}
use Rattle.rules.specs.Numbers.{done, bad_file}
use Rattle.rules.specs.Lists.{Found}
use Rattle.rules.specs.Lists.Found.{none, found}
use Rattle.rules.specs.Loaded.{Loaded, loaded, form_in, other_form, bad_place, call_load, call_move}
use Rattle.rules.specs.declared.Form.{Form}
use Rattle.run_state.specs.Views.{state_in}
use Rattle.saved_load.specs.Views.{load_answer, Loads}
use Rattle.saved_load.specs.declared.BadFile.{BadFile}
use Rattle.saved_save.specs.Views.{saved_of, Saves}
use Rattle.call_errors.specs.declared.CallError.{CallError}
use Rattle.call_errors.specs.declared.CallError.TheVariants.{BadFile as Bad}

module _ (b s a ft s' a' ft' buffer : List ℕ) (x : Result ⊤ BadFile) (l : Loads b s a ft s' a' ft' x) where
  -- the answer that the load gave is the rules' own
  answers : load_answer x ≡ (call_load (state_in s [] a a' ft ft' []) b).answer
  answers = ap (λ (y : Loaded). y.answer) (l.loads [] a' ft' [])

  pub refuses-move : (e : BadFile) (r : CallError) → x ≡ Err e → r ≡ Bad → saved_of (Err r) buffer ≡ call_move b buffer
  unfolding call_move call_load
  refuses-move e r n h = by (bad_place b) refl
    where
      by : (f : Found ℕ) → bad_place b ≡ f → saved_of (Err r) buffer ≡ call_move b buffer
      by none p = let z : ◌≡◌ {A = ℕ} bad_file done = ap load_answer (sym n) ∙ (answers ∙ rw p) in absurd (omega arith)
      by (found p) q = rw (h, q)

  pub does_move : (t : ⊤) (f g : Form) (y : Result ℕ CallError) (buffer' : List ℕ) → x ≡ Ok t → f ≡ form_in b → g ≡ other_form f
      → Saves g s' a' a' ft' ft' buffer y buffer' → saved_of y buffer' ≡ call_move b buffer
  unfolding call_move call_load
  does_move t f g y buffer' d e h k = by (bad_place b) refl
    where
      by : (r : Found ℕ) → bad_place b ≡ r → saved_of y buffer' ≡ call_move b buffer
      by none p =
          let same : state_in s' [] a' a' ft' ft' [] ≡ loaded b = ap (λ (z : Loaded). z.state) (l.loads [] a' ft' []) ∙ rw p in
          k.saves [] [] ∙ rw (same, h, e, p)
      by (found place) p = let z : ◌≡◌ {A = ℕ} bad_file done = sym (answers ∙ rw p) ∙ ap load_answer d in absurd (omega arith)

pub ruleset moving = (refuses-move, rules)
