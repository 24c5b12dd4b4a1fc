-- Rows of words as tokens: how a row is read.
use Rattle.std.specs.Prelude.{List, ℕ, get_or}
use Rattle.rules.specs.Numbers.{no_name}
use Rattle.rules.specs.declared.Token.{Token}
use Rattle.rows.specs.Rows.{row_at, table}
use Rattle.kept_resources.specs.Views.{small}

-- a name, and a token
abbrev pub token_of_row : List ℕ → Token
token_of_row r = record { name = small r 0; token = get_or r 1 0 }

-- the first n rows
abbrev pub tokens_of : ℕ → List ℕ → List Token
tokens_of n l = table token_of_row 2 n l

-- the token of row i once it is spent
abbrev pub spent_at : List ℕ → ℕ → Token
spent_at l i = record { name = no_name; token = (token_of_row (row_at 2 l i)).token }
