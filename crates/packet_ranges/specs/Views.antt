-- What a packet's code leaves, as the rules' outcome. Assumes nothing.
use Rattle.std.specs.Prelude.{◌≡◌, refl, List, [], ◌∷◌, ℕ, ◌≤◌, Err}
use Rattle.std.proofs.Common.{sym, ap, ⊎_elim, eq-eqb, ne_eqb}
use Rattle.rules.specs.Numbers.{most}
use Rattle.rules.specs.Names.{renamed, rebind}
use Rattle.rules.specs.Packets.{Outcome}
use Rattle.rules.specs.declared.Token.{Token}
use Rattle.rows.specs.Keys.{same_or_not}
use Rattle.kept_resources.specs.Views.{holdings_of}
use Rattle.packet_ranges.specs.declared.applied.Applied.{Applied}
use Rattle.packet_ranges.specs.declared.applied.Renamed.{Renamed}
use Rattle.rules.specs.declared.Refusal.{Refusal}

abbrev pub refused_with : Refusal → ℕ → ℕ → Applied
refused_with why live made = record { verdict = Err why; live = live; made = made }

abbrev pub outcome_of : Applied → List ℕ → List ℕ → Outcome
outcome_of a resources records = record { verdict = a.verdict; held = holdings_of a.live resources a.made records }

-- the answer and the rows it leaves are an outcome of the rules, and there is room for them
pub record Applies (o : Outcome) (a : Applied) (resources records : List ℕ) : Type 0 where
  pub outcome : outcome_of a resources records ≡ o
  pub live : a.live ≤ most
  pub made : a.made ≤ most

-- so many entries, live resources and records: their rows are there
pub record RowsExist (n l m : ℕ) : Type 0 where
  pub entries : n ≤ most
  pub live : l ≤ most
  pub made : m ≤ most

-- ---- names

-- an answer where no name changes
abbrev pub renamed_nothing : Applied → Renamed
renamed_nothing a = record { applied = a; old = 0; new = 0 }

pub renames-nothing : (a b : Applied) → a ≡ b → renamed_nothing a ≡ renamed_nothing b
renames-nothing a b e = ap renamed_nothing e

-- what the answer's two names make of tokens is what the rules make of them
pub record Rebinds (after : List Token → List Token) (x : Renamed) : Type 0 where
  pub tokens : (ts : List Token) → rebind x.old x.new ts ≡ after ts

-- a name that becomes itself changes no token
pub rebind-same : (n : ℕ) (ts : List Token) → rebind n n ts ≡ ts
unfolding rebind
rebind-same n [] = refl
rebind-same n (t ∷ ts) = rw (rebind-same n ts) (ap {B = List Token} (λ k. record { name = k; token = t.token } ∷ ts) (itself t.name))
  where
    itself : (k : ℕ) → renamed n n k ≡ k
    itself k = ⊎_elim (λ q. rw (eq-eqb k n q) (sym q)) (λ q. rw (ne_eqb k n q)) (same_or_not k n)
