-- The parts of a device that was loaded are the sections that it was loaded from: its resources by rising handle, each under its lowest name, are those
-- of section 2, its other names those of section 3, its tokens those of section 4. Assumes nothing.
use Rattle.std.specs.Prelude.{◌≡◌, refl, true, false, List, [], ◌∷◌, ◌++◌, ℕ, ◌+◌, ◌<◌}
use Rattle.std.proofs.Common.{sym, ap, ◌∙◌, arith, eq-eqb, ne_eqb}
use Rattle.rules.specs.Lists.{Found, lookup}
use Rattle.rules.specs.Lists.Found.{none, found}
use Rattle.rules.specs.Layouts.{word}
use Rattle.rules.specs.Names.{token_of}
use Rattle.rules.specs.Packets.{handle_of}
use Rattle.rules.specs.declared.Resource.{Resource}
use Rattle.rules.specs.declared.Token.{Token}
use Rattle.rules.specs.Saved.{is_other_name, count_place, head_bytes, those, is_lowest_name, firsts_of, others_of, tokens_of}
use Rattle.rules.specs.Loaded.{names_place, section_2, section_3, section_4, loaded_sections}
use Rattle.rules.specs.declared.Form.{Form}
use Rattle.rules.specs.declared.Form.TheVariants.{One, Two}
use Rattle.promises_of_packets.specs.Names.{none-not-found, found-key}
use Rattle.promises_of_packets.specs.Held.{Every, every-none, every-found}
use Rattle.promises_of_saving.specs.Rising.{Rises, none-rise, rising-of-rising}
use Rattle.promises_of_saving.specs.Those.{or_else, found-in-both, if_passed, all_pass, none_passes, those-are}
use Rattle.promises_of_saving.specs.GoodShared.{tokens_at}
use Rattle.promises_of_saving.specs.GoodFile.{GoodSections}
use Rattle.promises_of_saving.specs.LoadedResources.{loaded-rises, OneName, loaded-one-name}
use Rattle.promises_of_saving.specs.LoadedShared.{names-rise, names-are-others, tokens-rise}
use Rattle.promises_of_saving.specs.WrittenShared.{OtherNameOf}
use Rattle.promises_of_saving.specs.SavedParts.{own-is-lowest, all-lowest}

-- ---- resources under one name each, and other names of them

other_name : (r : Resource) → r.lowest < r.handle → is_other_name r ≡ true
other_name r l = rw (ne_eqb r.handle r.lowest (λ e. omega arith))

no-other-name : (r : Resource) → OneName r → is_other_name r ≡ false
no-other-name r e = rw (eq-eqb r.handle r.lowest (sym e))

module _ (rs ns : List Resource) (own : Every OneName rs) (others : Every (OtherNameOf rs) ns) where
  own_first : (r : Resource) → OneName r → if_passed is_lowest_name (found r) ≡ found r
  own_first r e = rw (own-is-lowest r e)

  -- no name is in both
  not-both : (j : ℕ) (r : Resource) → lookup handle_of j rs ≡ found r → (f : Found Resource) → lookup handle_of j ns ≡ f → f ≡ none
  not-both j r e none h = refl
  not-both j r e (found n) h =
      let o : OtherNameOf rs n = every-found (OtherNameOf rs) handle_of j ns n h others in
      absurd (none-not-found r (sym o.free ∙ (ap (λ k. lookup handle_of k rs) (found-key handle_of j ns n h) ∙ e)))

  first_found : (j : ℕ) → if_passed is_lowest_name (lookup handle_of j (rs ++ ns)) ≡ lookup handle_of j rs
  first_found j = ap (if_passed is_lowest_name) (found-in-both handle_of j rs ns) ∙ by_found (lookup handle_of j rs) refl (lookup handle_of j ns) refl
    where
      by_found : (f : Found Resource) → lookup handle_of j rs ≡ f → (h : Found Resource) → lookup handle_of j ns ≡ h → if_passed is_lowest_name (or_else f h) ≡ f
      by_found (found r) e h i = own_first r (every-found OneName handle_of j rs r e own)
      by_found none e none i = refl
      by_found none e (found n) i = rw (other_name n (every-found (OtherNameOf rs) handle_of j ns n i others).below)

  other-found : (j : ℕ) → if_passed is_other_name (lookup handle_of j (rs ++ ns)) ≡ lookup handle_of j ns
  other-found j = ap (if_passed is_other_name) (found-in-both handle_of j rs ns) ∙ by_found (lookup handle_of j rs) refl (lookup handle_of j ns) refl
    where
      not-other : (r : Resource) → OneName r → none ≡ if_passed is_other_name (found r)
      not-other r e = rw (no-other-name r e)

      by_found : (f : Found Resource) → lookup handle_of j rs ≡ f → (h : Found Resource) → lookup handle_of j ns ≡ h → if_passed is_other_name (or_else f h) ≡ h
      by_found (found r) e h i = sym (not-both j r e h i ∙ not-other r (every-found OneName handle_of j rs r e own))
      by_found none e none i = refl
      by_found none e (found n) i = rw (other_name n (every-found (OtherNameOf rs) handle_of j ns n i others).below)

-- each under one name: all are under their lowest
pub no-others : (rs : List Resource) → Every OneName rs → Every (λ r. is_other_name r ≡ false) rs
unfolding Every
no-others [] h = every-none (λ r. is_other_name r ≡ false)
no-others (r ∷ rs) h = (no-other-name r h.0, no-others rs h.1)

-- ---- what stands in sections 3 and 4: nothing in form 1

abbrev pub names_in : Form → List ℕ → List Resource
names_in One b = []
names_in Two b = section_3 (section_2 Two b) b (names_place Two (word b (count_place Two)))

abbrev pub tokens_in : Form → List ℕ → List Token
tokens_in One b = []
tokens_in Two b = section_4 b (names_place Two (word b (count_place Two)))

-- ---- the parts

module _ (f : Form) (b : List ℕ) (g : GoodSections f b) where
  its-rise : Rises handle_of 0 (section_2 f b)
  its-rise = loaded-rises (word b (count_place f)) b (head_bytes f) 0 g.resources

  its_own : Every OneName (section_2 f b)
  its_own = loaded-one-name (word b (count_place f)) b (head_bytes f) 0 g.resources

-- where section 3's count stands
abbrev third : List ℕ → ℕ
third b = names_place Two (word b (count_place Two))

module _ (b : List ℕ) (g : GoodSections Two b) where
  its-others : Every (OtherNameOf (section_2 Two b)) (names_in Two b)
  its-others = names-are-others (section_2 Two b) (its_own Two b g) b (word b (third b)) (third b + 4) 0 g.later.names

  others-in-turn : Rises handle_of 0 (names_in Two b)
  others-in-turn = names-rise (section_2 Two b) (its_own Two b g) b (word b (third b)) (third b + 4) 0 g.later.names

  tokens-in-turn : Rises token_of 0 (tokens_in Two b)
  tokens-in-turn = tokens-rise (word b (tokens_at b (third b))) (section_2 Two b) b (tokens_at b (third b) + 4) 0 g.later.tokens

pub firsts-loaded : (f : Form) (b : List ℕ) → GoodSections f b → firsts_of (loaded_sections f b) ≡ section_2 f b
unfolding loaded_sections
firsts-loaded One b g =
    ap (those is_lowest_name) (rising-of-rising handle_of (section_2 One b) (its-rise One b g))
    ∙ all_pass is_lowest_name (section_2 One b) (all-lowest (section_2 One b) (its_own One b g))
firsts-loaded Two b g =
    those-are is_lowest_name handle_of (section_2 Two b ++ names_in Two b) (section_2 Two b) (its-rise Two b g)
    (λ j l. first_found (section_2 Two b) (names_in Two b) (its_own Two b g) (its-others b g) j)

pub others-loaded : (f : Form) (b : List ℕ) → GoodSections f b → others_of (loaded_sections f b) ≡ names_in f b
unfolding loaded_sections
others-loaded One b g =
    ap (those is_other_name) (rising-of-rising handle_of (section_2 One b) (its-rise One b g))
    ∙ none_passes is_other_name (section_2 One b) (no-others (section_2 One b) (its_own One b g))
others-loaded Two b g =
    those-are is_other_name handle_of (section_2 Two b ++ names_in Two b) (names_in Two b) (others-in-turn b g)
    (λ j l. other-found (section_2 Two b) (names_in Two b) (its_own Two b g) (its-others b g) j)

pub tokens-loaded : (f : Form) (b : List ℕ) → GoodSections f b → tokens_of (loaded_sections f b) ≡ tokens_in f b
unfolding loaded_sections
tokens-loaded One b g = rising-of-rising token_of [] (none-rise token_of 0)
tokens-loaded Two b g = rising-of-rising token_of (tokens_in Two b) (tokens-in-turn b g)
