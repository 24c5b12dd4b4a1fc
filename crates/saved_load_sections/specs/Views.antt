-- What the sections of a good file leave: rows of the first tables, and the device that they say.
use Rattle.std.specs.Prelude.{◌≡◌, List, ℕ, ◌≤◌}
use Rattle.rules.specs.Numbers.{most, most_tokens}
use Rattle.rules.specs.Layouts.{word}
use Rattle.rules.specs.Packets.{Belongings}
use Rattle.kept_resources.specs.Views.{resources_of}
use Rattle.kept_tokens.specs.Views.{tokens_of}
use Rattle.run_state.specs.Views.{Rests, state_in}
use Rattle.rules.specs.Saved.{count_place}
use Rattle.rules.specs.Loaded.{section_2, loaded_sections}
use Rattle.rules.specs.declared.Form.{Form}
use Rattle.saved_load_sections.specs.declared.LoadedRows.{LoadedRows}

-- section 2
pub record LoadsResources (f : Form) (b a' : List ℕ) (n : ℕ) : Type 0 where
  pub count : n ≡ word b (count_place f)
  pub resources : resources_of n a' ≡ section_2 f b

-- all that a device has: so many rows of both tables
pub record LoadsRows (g : Belongings) (a' ft' : List ℕ) (x : LoadedRows) : Type 0 where
  pub live : x.live ≤ most
  pub used : x.used ≤ most_tokens
  pub resources : resources_of x.live a' ≡ g.resources
  pub tokens : tokens_of x.used ft' ≡ g.tokens

-- all of the device is what the sections say
pub record LoadsSections (f : Form) (b s' a' ft' : List ℕ) : Type 0 where
  pub state : (e a₂ st c : List ℕ) → state_in s' e a' a₂ ft' st c ≡ loaded_sections f b
  pub rests : Rests s'
