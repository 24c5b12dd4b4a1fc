-- What loading asks: the sections of a good file, and either end of the call. Assumes nothing.
use Rattle.std.proofs.Math.Path.{◌≡◌}
use Rattle.std.specs.Prelude.{refl, List, ℕ, ◌-◌, ◌≤◌, length, take, drop, Ok, Err}
use Rattle.std.proofs.Common.{sym, ◌∙◌, arith, rules}
use Rattle.rules.specs.Lists.{Found}
use Rattle.rules.specs.Lists.Found.{none, found}
use Rattle.rules.specs.Loaded.{form_in, before_sections, bad_place, loaded, call_load}
use Rattle.rules.specs.declared.Form.{Form}
use Rattle.saved_fields.specs.Judging.{checked, FileCheck}
use Rattle.saved_fields.specs.Good.{GoodSections, GoodFile}
use Rattle.saved_check.specs.File.{sections-part}
use Rattle.saved_check.specs.Good.{good-file}
use Rattle.saved_load_sections.specs.Views.{LoadsSections}
use Rattle.saved_load.specs.Views.{LoadsGood, Loads}

-- ---- load_good

module _ (b : List ℕ) (n : ℕ) (f : Form) (before : n ≡ before_sections b) (room : n ≤ length b) (form : f ≡ form_in b) where
  pub good-sections : GoodFile b → GoodSections f (take (length b - n) (drop n b))
  good-sections good = rw (sections-part b n before room, form) good

  pub loads-good : (s' a' ft' : List ℕ) → LoadsSections f (take (length b - n) (drop n b)) s' a' ft' → LoadsGood b s' a' ft'
  unfolding loaded
  loads-good s' a' ft' l =
      record {
        state = λ e a₂ st c. l.state e a₂ st c ∙ rw (sections-part b n before room, form);
        rests = l.rests;
      }

pub ruleset loading_good = (good-sections, loads-good, rules)

-- ---- load

bad-at : (f : Found ℕ) (place : ℕ) → checked f ≡ Err place → f ≡ found place
bad-at none place e = cc
bad-at (found p) place e = let same : p ≡ place = cc in rw same

no-bad : (f : Found ℕ) → checked f ≡ Ok tt → f ≡ none
no-bad none e = refl
no-bad (found p) e = cc

module _ (b s a ft : List ℕ) (x : FileCheck) (is : x ≡ checked (bad_place b)) where
  pub refuses-file : (place : ℕ) → x ≡ Err place → Loads b s a ft s a ft (Err (record { place = place }))
  unfolding call_load
  refuses-file place q =
      record {
        loads = λ e a₂ st c. rw (bad-at (bad_place b) place (sym is ∙ q));
        refused = λ no_answer. (refl, (refl, refl));
        rests = λ (z : ◌≡◌ {A = ℕ} 7 0). absurd (omega arith);
      }

  pub is-good-file : x ≡ Ok tt → GoodFile b
  is-good-file q = good-file b (sym is ∙ q)

  pub takes-file : (s' a' ft' : List ℕ) → x ≡ Ok tt → LoadsGood b s' a' ft' → Loads b s a ft s' a' ft' (Ok tt)
  unfolding call_load
  takes-file s' a' ft' q l =
      record {
        loads = λ e a₂ st c. rw (l.state e a₂ st c, no-bad (bad_place b) (sym is ∙ q));
        refused = λ no_answer. absurd (no_answer refl);
        rests = λ z. l.rests;
      }

pub ruleset loading = (refuses-file, is-good-file, takes-file, rules)
