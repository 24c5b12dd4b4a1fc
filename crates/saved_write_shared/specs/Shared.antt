-- The fields of other names and of tokens, and a section after its count: what their writers ask. Assumes nothing.
use Rattle.std.specs.Prelude.{◌≡◌, refl, List, [], ◌∷◌, ◌++◌, ℕ, ◌+◌, ◌*◌, ◌%◌, ◌≤◌, length}
use Rattle.std.proofs.Common.{ap, ◌∙◌, arith, rules}
use Rattle.rules.specs.Lists.{over}
use Rattle.rules.specs.Registers.{low, high}
use Rattle.rules.specs.Saved.{file_of, names_fields, tokens_fields}
use Rattle.rules.specs.declared.Resource.{Resource}
use Rattle.rules.specs.declared.Token.{Token}
use Rattle.saved_order.specs.Orders.{listed, length-listed}
use Rattle.saved_write.specs.Fields.{length-file, fields-behind}
use Rattle.saved_write.specs.Items.{Wide, all_fields, length-all, writing_items}

-- ---- put_name, put_names

abbrev pub name_fields : Resource → List ℕ
name_fields r = r.handle ∷ r.lowest ∷ []

pub name-wide : Wide name_fields 8
name-wide = record { wide = λ r. length-file (name_fields r) }

pub ruleset writing_names = (name-wide, writing_items)

-- ---- put_token, put_tokens

abbrev pub token_fields : Token → List ℕ
token_fields t = low t.token ∷ high t.token ∷ t.name ∷ []

pub token-written : (t : Token) (at : ℕ) (l m : List ℕ) (half₀ half₁ : ℕ) → m ≡ over at (file_of (half₀ ∷ half₁ ∷ t.name ∷ [])) l
    → half₀ ≡ t.token % 4294967296 → half₁ ≡ high t.token → m ≡ over at (file_of (token_fields t)) l
token-written t at l m half₀ half₁ is a b = rw (is, a, b)

pub ruleset writing_token = (token-written, rules)

pub token-wide : Wide token_fields 12
token-wide = record { wide = λ t. length-file (token_fields t) }

pub ruleset writing_tokens = (token-wide, writing_items)

-- ---- put_name_section, put_token_section

module _ {A : Type 0} (fields : A → List ℕ) (bytes : ℕ) (view : List ℕ → A) (w at count : ℕ) (l order b m m' : List ℕ) where
  pub section-written : Wide fields bytes → at + 4 + bytes * count ≤ length b → m ≡ over at (file_of (count ∷ [])) b
      → m' ≡ over (at + 4) (file_of (all_fields fields (listed view w count l order))) m
      → m' ≡ over at (file_of (count ∷ all_fields fields (listed view w count l order))) b
  section-written sized room p q =
      let long : length (file_of (all_fields fields (listed view w count l order))) ≡ bytes * count =
      length-all fields bytes sized (listed view w count l order) ∙ ap (λ n. bytes * n) (length-listed view w count l order) in
      fields-behind at (at + 4) (count ∷ []) (all_fields fields (listed view w count l order)) b m m' (omega (arith, length-file (count ∷ []))) (omega (arith, long)) p q

pub ruleset writing_section = (section-written, name-wide, token-wide, rules)

-- ---- the fields of all are the rules' own

pub names-all : (rs : List Resource) → all_fields name_fields rs ≡ names_fields rs
unfolding all_fields names_fields
names-all [] = refl
names-all (r ∷ rs) = ap (λ x. name_fields r ++ x) (names-all rs)

pub tokens-all : (ts : List Token) → all_fields token_fields ts ≡ tokens_fields ts
unfolding all_fields tokens_fields
tokens-all [] = refl
tokens-all (t ∷ ts) = ap (λ x. token_fields t ++ x) (tokens-all ts)
