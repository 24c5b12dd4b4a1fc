-- What the loading of sections asks. Assumes nothing.
use Rattle.std.specs.Prelude.{◌≡◌, refl, List, [], ◌++◌, ℕ, ◌+◌, ◌*◌, ◌≤◌, ◌<◌, length}
use Rattle.std.proofs.Common.{sym, ap, ◌∙◌, arith, rules}
use Rattle.rules.specs.Numbers.{most, most_tokens}
use Rattle.rules.specs.Lists.{lookup}
use Rattle.rules.specs.Layouts.{word}
use Rattle.rules.specs.Packets.{handle_of}
use Rattle.rules.specs.Saved.{more_registers, count_place, head_bytes}
use Rattle.rules.specs.Loaded.{loaded_resources, names_place, section_2, loaded_names, loaded_tokens, loaded_belongings, loaded_sections}
use Rattle.rules.specs.declared.Resource.{Resource}
use Rattle.rows.specs.Rows.{table-zero, length-table}
use Rattle.kept_resources.specs.Views.{resource_of_row, resources_of}
use Rattle.kept_tokens.specs.Views.{token_of_row, tokens_of}
use Rattle.rules.specs.declared.Form.{Form}
use Rattle.rules.specs.declared.Form.TheVariants.{One, Two}
use Rattle.saved_fields.specs.Good.{IsFound, GoodShared, Shared, GoodSections}
use Rattle.saved_load_names.specs.Loading.{NamesFound}
use Rattle.saved_load_words.specs.Views.{LoadsWords}
use Rattle.saved_load_sections.specs.Views.{LoadsResources, LoadsRows, LoadsSections}
use Rattle.saved_load_sections.specs.declared.LoadedRows.{LoadedRows}

-- ---- count_at

pub counts : (b : List ℕ) (at p n : ℕ) → p ≡ at → n ≡ word b p → n ≡ word b at
counts b at p n here e = e ∙ rw here

pub ruleset counting = (counts, rules)

-- ---- load_section_2

module _ (f : Form) (b : List ℕ) (good : GoodSections f b) (more : ℕ) (m : (more ≡ more_registers f) × (more ≤ 1)) where
  module _ (n n' : ℕ) (e : n ≡ word b (88 + 4 * more)) (e' : n' ≡ n) where
    counted : n ≡ word b (count_place f)
    counted = e ∙ rw m.0

    pub few-first : n' ≤ most
    few-first = omega (arith, counted, good.count)

    pub first-there : 92 + 4 * more + 48 * n' ≤ length b
    first-there = omega (arith, counted, m.0, good.whole)

    pub loads-resources : (a' : List ℕ) → resources_of n' a' ≡ loaded_resources n' b (92 + 4 * more) → LoadsResources f b a' n
    loads-resources a' rows =
        let first : 92 + 4 * more ≡ head_bytes f = rw m.0 in
        let all : resources_of n a' ≡ loaded_resources n b (head_bytes f) = rw (e', first) at rows in
        record { count = counted; resources = all ∙ rw counted }

pub ruleset loading_resources = (few-first, first-there, loads-resources, rules)

-- ---- load_shared

module _ (b a : List ℕ) (at count : ℕ) (good : GoodShared (resources_of count a) b at) where
  abbrev rs : List Resource
  rs = resources_of count a

  module _ (n : ℕ) (e : n ≡ word b at) where
    names-few : count + n ≤ most
    names-few = omega (arith, good.few-names, length-table resource_of_row 12 count a)

    module _ (n' : ℕ) (e' : n' ≡ n) where
      pub few-names : count + n' ≤ most
      few-names = omega (arith, names-few)

      pub all-names-there : at + 4 + 8 * n' ≤ length b
      all-names-there = omega (arith, good.names-there)

      pub names-found : NamesFound n' rs b (at + 4)
      names-found i h =
          let place : at + 4 + 8 * i + 4 ≡ at + 8 + 8 * i = omega arith in
          rw place (good.names-found i (omega arith))

    module _ (t t' : ℕ) (g : t ≡ word b (at + 4 + 8 * n)) (g' : t' ≡ t) where
      counted-tokens : t ≡ word b (at + 4 + 8 * word b at)
      counted-tokens = g ∙ rw e

      pub few-tokens : t' ≤ most_tokens
      few-tokens = omega (arith, counted-tokens, good.few-tokens)

      pub all-tokens-there : at + 4 + 8 * n + 4 + 12 * t' ≤ length b
      all-tokens-there = omega (arith, counted-tokens, good.tokens-there)

      pub loads-shared : (n' n'' : ℕ) (a' ft' : List ℕ) → n' ≡ n → n'' ≡ n → resources_of (count + n') a' ≡ rs ++ loaded_names n' rs b (at + 4)
          → tokens_of t' ft' ≡ loaded_tokens t' b (at + 4 + 8 * n + 4) → LoadsRows (loaded_belongings Two rs b at) a' ft' (record { live = count + n''; used = t' })
      loads-shared n' n'' a' ft' e' e'' names tokens =
          let all-names : resources_of (count + n) a' ≡ rs ++ loaded_names n rs b (at + 4) = rw e' at names in
          let all-tokens : t' ≡ word b (at + 4 + 8 * word b at) = g' ∙ counted-tokens in
          record {
            live = omega (arith, names-few);
            used = few-tokens;
            resources = rw e'' (all-names ∙ rw e);
            tokens = tokens ∙ rw (all-tokens, e);
          }

pub ruleset loading_shared = (few-names, all-names-there, names-found, few-tokens, all-tokens-there, loads-shared, rules)

-- ---- load_belongings

module _ (f : Form) (b a : List ℕ) (n n' : ℕ) (l : LoadsResources f b a n) (e' : n' ≡ n) where
  pub few-resources : GoodSections f b → n' ≤ most
  few-resources good = omega (arith, l.count, good.count)

  -- what form 1 leaves
  pub loads-form-1 : (ft : List ℕ) → GoodSections f b → f ≡ One
      → LoadsRows (loaded_belongings f (section_2 f b) b (names_place f (word b (count_place f)))) a ft (record { live = n'; used = 0 })
  loads-form-1 ft good one =
      let all : resources_of n' a ≡ section_2 f b = rw e' l.resources in
      let rows : resources_of n' a ≡ section_2 One b = all ∙ rw one in
      rw one (record { live = few-resources good; used = omega arith; resources = rows; tokens = table-zero token_of_row 2 ft })

  names_at : f ≡ Two → 96 + 48 * n ≡ names_place Two (word b (count_place Two))
  names_at two = rw (l.count, two)

  resources-are : f ≡ Two → resources_of n' a ≡ section_2 Two b
  resources-are two =
      let all : resources_of n' a ≡ section_2 f b = rw e' l.resources in
      all ∙ rw two

  pub shared-good : GoodSections f b → f ≡ Two → GoodShared (resources_of n' a) b (96 + 48 * n)
  shared-good good two =
      let both : GoodSections Two b = rw two at good in
      rw (resources-are two, names_at two) both.shared

  pub loads-form-2 : (a' ft' : List ℕ) (x : LoadedRows) → f ≡ Two → LoadsRows (loaded_belongings Two (resources_of n' a) b (96 + 48 * n)) a' ft' x
      → LoadsRows (loaded_belongings f (section_2 f b) b (names_place f (word b (count_place f)))) a' ft' x
  loads-form-2 a' ft' x two rows = rw two (rw (resources-are two, names_at two) at rows)

pub ruleset loading_belongings = (few-resources, loads-form-1, shared-good, loads-form-2, rules)

-- ---- load_sections

pub loads-sections : (f : Form) (b s' a' ft' : List ℕ) (x : LoadedRows)
    → LoadsRows (loaded_belongings f (section_2 f b) b (names_place f (word b (count_place f)))) a' ft' x → LoadsWords f b x.live x.used s'
    → LoadsSections f b s' a' ft'
unfolding loaded_sections
loads-sections f b s' a' ft' x rows words =
    record {
      state = λ e a₂ st c. words.state e a' a₂ ft' st c ∙ rw (rows.resources, rows.tokens);
      rests = words.rests;
    }

pub ruleset loading_sections = (loads-sections, rules)
