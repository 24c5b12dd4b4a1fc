-- "Form 2 goes back exactly when both sections are empty and detail is 0": what form 1 has a field for, of a device that a file of form 2 says, by the
-- fields of that file. Assumes nothing.
use Rattle.std.specs.Prelude.{◌≡◌, refl, false, ℕ, ◌+◌, ◌≤◌}
use Rattle.std.proofs.Math.Path.{ap}
use Rattle.std.proofs.Common.{arith, eq-eqb}
use mathlib.Core.List.{List, [], ◌∷◌}
use Rattle.std.proofs.Math.ListN.{length}
use Rattle.rules.specs.Layouts.{word}
use Rattle.rules.specs.State.{State}
use Rattle.rules.specs.declared.Resource.{Resource}
use Rattle.rules.specs.Saved.{beyond_form_1, detail_place, count_place}
use Rattle.rules.specs.Loaded.{names_place, section_2, section_3, section_4, loaded_names, loaded_tokens}
use Rattle.rules.specs.declared.Form.{Form}
use Rattle.rules.specs.declared.Form.TheVariants.{One, Two}
use Rattle.promises_of_packets.specs.Held.{Every}
use Rattle.promises_of_saving.specs.GoodShared.{tokens_at}
use Rattle.promises_of_saving.specs.GoodFile.{GoodSections}
use Rattle.promises_of_saving.specs.LoadedResources.{OneName}
use Rattle.promises_of_saving.specs.LoadedIsSound.{section-2-one-name}
use Rattle.promises_of_saving.specs.WrittenShared.{OtherNameOf}
use Rattle.promises_of_saving.specs.LoadOfSave.{InForm1}
use Rattle.promises_of_saving.specs.SaveOfLoad.{one-name-each}

-- where section 3's count stands in the sections of form 2
abbrev pub names_at : List ℕ → ℕ
names_at b = names_place Two (word b (count_place Two))

-- "both sections are empty and detail is 0"
pub record GoesBack (b : List ℕ) : Type 0 where
  pub no_names : word b (names_at b) ≡ 0
  pub no-tokens : word b (tokens_at b (names_at b)) ≡ 0
  pub no-detail : word b detail_place ≡ 0

-- ---- what form 1 has a field for

pub form-1-has : (s : State) → InForm1 s → beyond_form_1 s ≡ false
unfolding beyond_form_1
form-1-has s i =
    rw (eq-eqb (length s.belongings.tokens) 0 (ap length i.tokens), one-name-each s.belongings.resources i.one_name, eq-eqb s.regs.error.detail 0 i.detail)

-- another name is not its resource's only one
pub no_other : (rs ns : List Resource) → Every (OtherNameOf rs) ns → Every OneName ns → ns ≡ []
unfolding Every
no_other rs [] k h = refl
no_other rs (n ∷ ns) k h = absurd (omega (arith, k.0.below, h.0))

-- ---- a file of form 2

module _ (b : List ℕ) (g : GoodSections Two b) where
  abbrev pub rs : List Resource
  rs = section_2 Two b

  abbrev pub ns : List Resource
  ns = section_3 rs b (names_at b)

  pub own : Every OneName rs
  own = section-2-one-name Two b g

  pub empty-names : word b (names_at b) ≡ 0 → ns ≡ []
  unfolding loaded_names
  empty-names e = ap (λ n. loaded_names n rs b (names_at b + 4)) e

  pub empty-tokens : word b (tokens_at b (names_at b)) ≡ 0 → section_4 b (names_at b) ≡ []
  unfolding loaded_tokens
  empty-tokens e = ap (λ n. loaded_tokens n b (tokens_at b (names_at b) + 4)) e

-- ---- a file of either form: form 2 has a field for all that form 1 says

abbrev pub Goes : Form → List ℕ → Type 0
Goes One b = 0 ≤ 0
Goes Two b = GoesBack b
