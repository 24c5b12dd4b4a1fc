-- What a save gives: the rules' own call of the device that stands in the words, whatever stands in the tables that it is not lent.
use Rattle.std.specs.Prelude.{◌≡◌, List, [], ◌∷◌, ◌++◌, ℕ, ltb, length, get_or, Result}
use Rattle.std.specs.Result.{result_unwrap_or}
use Rattle.machine.specs.Machine.{pick}
use Rattle.rules.specs.Numbers.{done, too_short}
use Rattle.rules.specs.Lists.{over}
use Rattle.rules.specs.Names.{token_of}
use Rattle.rules.specs.Packets.{handle_of}
use Rattle.rules.specs.Saved.{Saved, not_saved, is_other_name, resources_fields, file_of, number_of, is_lowest_name, those, rising, names_fields, tokens_fields, call_save}
use Rattle.rules.specs.declared.Resource.{Resource}
use Rattle.rules.specs.declared.Token.{Token}
use Rattle.kept_resources.specs.Views.{resources_of}
use Rattle.kept_tokens.specs.Views.{tokens_of}
use Rattle.run_state.specs.Views.{count_in, token_count_in, token_side_in, world_in, state_in}
use Rattle.rules.specs.declared.Form.{Form}
use Rattle.rules.specs.declared.Form.TheVariants.{One, Two}
use Rattle.saved_write_head.specs.Head.{head_in}
use Rattle.call_errors.specs.Answers.{answer_of}
use Rattle.call_errors.specs.declared.CallError.{CallError}

-- beside a refusal stands length 0
abbrev pub saved_of : Result ℕ CallError → List ℕ → Saved
saved_of x buffer = record { answer = answer_of x; length = result_unwrap_or x 0; buffer = buffer }

-- ---- what is left of the call once nothing is in work and the form has a field for all

-- the bytes of a file, where the buffer has room
abbrev pub written : List ℕ → List ℕ → Saved
written bytes buffer =
    pick (ltb (length buffer) (length bytes)) (not_saved too_short buffer)
    (record { answer = done; length = length bytes; buffer = over 0 bytes buffer })

-- the fields of a device's words, resources and tokens, these two in rising order
abbrev pub shared_in : Form → List Resource → List Token → List ℕ
shared_in One rs ts = []
shared_in Two rs ts = (length (those is_other_name rs) ∷ names_fields (those is_other_name rs)) ++ (length ts ∷ tokens_fields ts)

unfoldable pub fields_in : Form → List ℕ → List Resource → List Token → List ℕ
fields_in f s rs ts =
    number_of f ∷ (head_in f s (length (those is_lowest_name rs)) ++ (resources_fields (those is_lowest_name rs) ++ shared_in f rs ts))

pub record Writes (f : Form) (s : List ℕ) (rs : List Resource) (ts : List Token) (before : List ℕ) (x : Result ℕ CallError) (after : List ℕ) : Type 0 where
  pub writes : saved_of x after ≡ written (file_of (fields_in f s rs ts)) before

-- the device's resources by rising handle, and its tokens in rising order
abbrev pub resources_in : List ℕ → List ℕ → List Resource
resources_in s l = rising handle_of (resources_of (count_in (get_or s 25 0)) l)

abbrev pub tokens_in : List ℕ → List ℕ → List Token
tokens_in s t = rising token_of (tokens_of (token_count_in (get_or s 32 0)) t)

-- ---- the call

-- of a device whose resources and tokens are those of a table each
pub record SavesOf (f : Form) (s l t before : List ℕ) (x : Result ℕ CallError) (after : List ℕ) : Type 0 where
  pub saves : (e h ot c : List ℕ) → saved_of x after ≡ call_save f (world_in s e l h t ot c []).state before

-- which of the two tables of tokens is the device's, its words say
pub record SavesWith (f : Form) (s l ft st before : List ℕ) (x : Result ℕ CallError) (after : List ℕ) : Type 0 where
  pub saves : (e h c : List ℕ) → saved_of x after ≡ call_save f (world_in s e l h (pick (token_side_in s) st ft) (pick (token_side_in s) ft st) c []).state before

-- and which of the two tables of resources
pub record Saves (f : Form) (s a b ft st before : List ℕ) (x : Result ℕ CallError) (after : List ℕ) : Type 0 where
  pub saves : (e c : List ℕ) → saved_of x after ≡ call_save f (state_in s e a b ft st c) before
