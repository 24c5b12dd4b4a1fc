-- The theorems of specs/GoesBack.antt, and what they rest on. Assumes nothing.
use Rattle.std.specs.Prelude.{◌≡◌, refl, false, ℕ, ◌+◌, ◌≤◌}
use Rattle.std.proofs.Math.Path.{sym, ap, subst}
use Rattle.std.proofs.Common.{◌∙◌, arith}
use mathlib.Core.List.{List, [], ◌++◌, append-nil}
use Rattle.std.proofs.Math.ListN.{length}
use Rattle.rules.specs.Layouts.{word}
use Rattle.rules.specs.Saved.{beyond}
use Rattle.rules.specs.Loaded.{loaded_sections, other_form}
use Rattle.rules.specs.declared.Form.{Form}
use Rattle.rules.specs.declared.Form.TheVariants.{One, Two}
use Rattle.promises_of_packets.specs.Held.{Every, every_back}
use Rattle.promises_of_saving.specs.GoodShared.{tokens_at}
use Rattle.promises_of_saving.specs.GoodFile.{GoodSections}
use Rattle.promises_of_saving.specs.LoadedResources.{OneName}
use Rattle.promises_of_saving.specs.LoadedShared.{length-names, names-are-others, length-tokens}
use Rattle.promises_of_saving.specs.LoadOfSave.{InForm1, in-form-1}
use Rattle.promises_of_saving.specs.GoesBack.{Goes, GoesBack, empty-names, empty-tokens, form-1-has, names_at, no_other, ns, own, rs}

-- ---- a file of form 2

module _ (b : List ℕ) (g : GoodSections Two b) where
  goes_back : beyond One (loaded_sections Two b) ≡ false → GoesBack b
  unfolding loaded_sections
  goes_back e =
      let i : InForm1 (loaded_sections Two b) = in-form-1 (loaded_sections Two b) e in
      let none : (ns b g) ≡ [] =
      no_other (rs b g) (ns b g) (names-are-others (rs b g) (own b g) b (word b (names_at b)) (names_at b + 4) 0 g.later.names) (every_back OneName (rs b g) (ns b g) i.one_name) in
      record {
        no_names = sym (length-names (rs b g) (own b g) b (word b (names_at b)) (names_at b + 4) 0 g.later.names) ∙ ap length none;
        no-tokens = sym (length-tokens (word b (tokens_at b (names_at b))) b (tokens_at b (names_at b) + 4)) ∙ ap length i.tokens;
        no-detail = i.detail;
      }

  back-goes : GoesBack b → beyond One (loaded_sections Two b) ≡ false
  unfolding loaded_sections
  back-goes e =
      form-1-has (loaded_sections Two b)
      (record {
        tokens = (empty-tokens b g) e.no-tokens;
        one_name = subst (Every OneName) (sym (ap (λ xs. (rs b g) ++ xs) ((empty-names b g) e.no_names) ∙ append-nil (rs b g))) (own b g);
        detail = e.no-detail;
      })

-- ---- a file of either form: form 2 has a field for all that form 1 says

pub goes-exactly : (f : Form) (b : List ℕ) → GoodSections f b
    → (beyond (other_form f) (loaded_sections f b) ≡ false → Goes f b) × (Goes f b → beyond (other_form f) (loaded_sections f b) ≡ false)
goes-exactly One b g = (λ e. omega arith, λ e. refl)
goes-exactly Two b g = (goes_back b g, back-goes b g)
