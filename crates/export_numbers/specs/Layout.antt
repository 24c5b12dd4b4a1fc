-- What a host and the library must agree on before the first call: what the words and rows mean, and how many there are. Assumes nothing.
use Rattle.std.specs.Prelude.{◌≡◌, refl, ℕ, ◌+◌, ◌*◌, ◌^◌}
use Rattle.std.proofs.Common.{rules}

-- moves with every landing that gives a word or a row another meaning, or another number to one of the five below; with one that changes the 26
-- words of a month's totals, too, which have no digit of their own
abbrev pub layout_version : ℕ
layout_version = 3

-- words of a device's numbers
abbrev pub number_words : ℕ
number_words = 36

-- words of the rows of entries, of one table of resources, of one table of tokens, and of records
abbrev pub entry_words : ℕ
entry_words = 256

abbrev pub resource_words : ℕ
resource_words = 768

abbrev pub token_words : ℕ
token_words = 512

abbrev pub record_words : ℕ
record_words = 320

-- all of them in one number
unfoldable pub layout_number : ℕ
layout_number = layout_version * 2 ^ 60 + number_words * 2 ^ 48 + entry_words * 2 ^ 36 + resource_words * 2 ^ 24 + token_words * 2 ^ 12 + record_words

pub layout_is : 3468915218055168320 ≡ layout_number
unfolding layout_number
layout_is = refl

pub ruleset laying_out = (layout_is, rules)
