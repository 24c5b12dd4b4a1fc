-- The theorems of specs/Maps.antt, and what they rest on. Assumes nothing.
use Rattle.std.specs.Prelude.{◌≡◌, List, ℕ}
use Rattle.std.proofs.Common.{sym, ap, ◌∙◌, ⊎_elim}
use Rattle.rules.specs.Lists.{lookup}
use Rattle.rules.specs.Lists.Found.{found}
use Rattle.rules.specs.Names.{token_of, without_token}
use Rattle.rules.specs.declared.Token.{Token}
use Rattle.rows.specs.Keys.{same_or_not, Once}
use Rattle.promises_of_packets.proofs.Names.{lookup-released, lookup-unreleased}
use Rattle.promises_of_same_desks.specs.Maps.{SameMap}

-- ---- tokens

pub same-without-token : (token : ℕ) (ts us : List Token) (t : Token) → lookup token_of token us ≡ found t → SameMap token_of ts us
    → SameMap token_of (without_token token ts) (without_token token us)
same-without-token token ts us t e same j =
    ⊎_elim
    (λ s. ap (λ n. lookup token_of n (without_token token ts)) s
    ∙ (lookup-released token ts t (same token ∙ e) ∙ (sym (lookup-released token us t e) ∙ ap (λ n. lookup token_of n (without_token token us)) (sym s))))
    (λ n. lookup-unreleased token ts t (same token ∙ e) j n ∙ (same j ∙ sym (lookup-unreleased token us t e j n)))
    (same_or_not j token)
