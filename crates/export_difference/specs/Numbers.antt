-- What the exports about two dumps say: an answer beside one word, a pair in five words, a cursor in two.
use Rattle.std.specs.Prelude.{◌≡◌, List, [], ◌∷◌, ℕ, get_or, None, Option, Some, ⊤, Result, Ok, Err}
use Rattle.rules.specs.declared.Class.{Class}
use Rattle.rules.specs.declared.Class.TheVariants.{Equal, SameOpcode, OtherOpcode, OnlyFirst, OnlySecond, Neither}
use Rattle.rules.specs.declared.Cursor.{Cursor}
use Rattle.rules.specs.declared.Pair.{Pair}
use Rattle.rules.specs.declared.RefusedStream.{RefusedStream}
use Rattle.rules.specs.Judging.{error_number}

abbrev pub class_number : Class → ℕ
class_number Equal = 0
class_number SameOpcode = 1
class_number OtherOpcode = 2
class_number OnlyFirst = 3
class_number OnlySecond = 4
class_number Neither = 5

-- ---- an answer, and the word beside it

pub record Answered : Type 0 where
  pub answer : ℕ
  pub value : ℕ

-- 0 beside what was asked for
abbrev pub said_is : ℕ → Answered
said_is n = record { answer = 0; value = n }

-- 1 where there is none
abbrev pub said_none : Answered
said_none = record { answer = 1; value = 0 }

-- 16 or 17 beside which of the two streams it is
abbrev pub said_refused : ℕ → ℕ → Answered
said_refused code which = record { answer = code; value = which }

abbrev pub checked_said : Result ⊤ RefusedStream → Answered
checked_said (Ok _) = said_is 0
checked_said (Err r) = said_refused (error_number r.why) r.which

abbrev pub place_said : Option ℕ → Answered
place_said (Some i) = said_is i
place_said None = said_none

abbrev pub found_said : Result (Option ℕ) RefusedStream → Answered
found_said (Ok x) = place_said x
found_said (Err r) = said_refused (error_number r.why) r.which

abbrev pub class_said : Result Class RefusedStream → Answered
class_said (Ok x) = said_is (class_number x)
class_said (Err r) = said_refused (error_number r.why) r.which

-- the answer is the call's, and the value is in the one word lent
pub record Says (x : Answered) (r : ℕ) (said : List ℕ) : Type 0 where
  pub answer : r ≡ x.answer
  pub value : said ≡ x.value ∷ []

-- ---- the cursor's two words, and the five of a pair

abbrev pub cursor_in : List ℕ → Cursor
cursor_in l = record { first = get_or l 0 0; second = get_or l 1 0 }

abbrev pub cursor_words : Cursor → List ℕ
cursor_words k = k.first ∷ k.second ∷ []

abbrev pub pair_words : Pair → List ℕ
pair_words x = class_number x.class ∷ x.first ∷ x.firstsize ∷ x.second ∷ x.secondsize ∷ []

-- how a walk begins; a refusal leaves the cursor's words
abbrev pub start_said : Result Cursor RefusedStream → Answered
start_said (Ok k) = said_is 0
start_said (Err r) = said_refused (error_number r.why) r.which

abbrev pub start_words : Result Cursor RefusedStream → List ℕ → List ℕ
start_words (Ok k) l = cursor_words k
start_words (Err r) l = l

pub record SaysStart (x : Result Cursor RefusedStream) (l : List ℕ) (r : ℕ) (l' said : List ℕ) : Type 0 where
  pub says : Says (start_said x) r said
  pub cursor : l' ≡ start_words x l
