-- What loading needs of a good file: all its fields are there, counts are within their limits, and each other name is of a resource.
use Rattle.std.specs.Prelude.{List, ℕ, ◌+◌, ◌*◌, ◌≤◌, ◌<◌, length}
use Rattle.rules.specs.Numbers.{most, most_tokens}
use Rattle.rules.specs.Lists.{Found, lookup}
use Rattle.rules.specs.Lists.Found.{none, found}
use Rattle.rules.specs.Layouts.{word}
use Rattle.rules.specs.Packets.{handle_of}
use Rattle.rules.specs.declared.Resource.{Resource}
use Rattle.rules.specs.Saved.{count_place, name_bytes}
use Rattle.rules.specs.Loaded.{names_place, tokens_place, end_place, section_2, form_in, sections}
use Rattle.rules.specs.declared.Form.{Form}
use Rattle.rules.specs.declared.Form.TheVariants.{One, Two}

abbrev pub IsFound : Found Resource → Type 0
IsFound none = ⊥
IsFound (found r) = 0 ≤ 0

-- sections 3 and 4, of which section 3's count stands at this place, after these resources
pub record GoodShared (rs : List Resource) (b : List ℕ) (at : ℕ) : Type 0 where
  pub few-names : length rs + word b at ≤ most
  pub names-there : tokens_place at (word b at) + 4 ≤ length b
  pub names-found : (i : ℕ) → i < word b at → IsFound (lookup handle_of (word b (at + 8 + name_bytes * i)) rs)
  pub few-tokens : word b (tokens_place at (word b at)) ≤ most_tokens
  pub tokens-there : end_place (tokens_place at (word b at)) (word b (tokens_place at (word b at))) ≤ length b

abbrev pub Shared : Form → List ℕ → Type 0
Shared One b = 0 ≤ 0
Shared Two b = GoodShared (section_2 Two b) b (names_place Two (word b (count_place Two)))

pub record GoodSections (f : Form) (b : List ℕ) : Type 0 where
  pub count : word b (count_place f) ≤ most
  pub whole : names_place f (word b (count_place f)) ≤ length b
  pub shared : Shared f b

abbrev pub GoodFile : List ℕ → Type 0
GoodFile b = GoodSections (form_in b) (sections b)
