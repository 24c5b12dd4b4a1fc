-- Sections that are written one after the other: what their writers ask. Assumes nothing.
use Rattle.std.specs.Prelude.{◌≡◌, List, ◌∷◌, ◌++◌, ℕ, ◌+◌, ◌*◌, ◌≤◌, length}
use Rattle.std.proofs.Common.{ap, ◌∙◌, arith, rules, length-append}
use Rattle.rules.specs.Lists.{over}
use Rattle.rules.specs.Saved.{resource_fields, file_of, number_of, number_bytes, head_bytes}
use Rattle.rules.specs.Loaded.{names_place}
use Rattle.rules.specs.declared.Resource.{Resource}
use Rattle.rules.specs.declared.Token.{Token}
use Rattle.kept_resources.specs.Views.{resource_of_row}
use Rattle.kept_tokens.specs.Views.{token_of_row}
use Rattle.rules.specs.declared.Form.{Form}
use Rattle.saved_order.specs.Orders.{listed, length-listed}
use Rattle.saved_write.specs.Fields.{length-file, file-append, fields-behind}
use Rattle.saved_write.specs.Items.{Wide, all_fields, length-all}
use Rattle.saved_write.specs.Resources.{resource-wide}
use Rattle.saved_write_head.specs.Head.{head_in, head-length}
use Rattle.saved_write_shared.specs.Shared.{name_fields, name-wide, token_fields, token-wide}

-- a form's number, section 1 of a device's words, and section 2
abbrev pub front_fields : Form → List ℕ → ℕ → List Resource → List ℕ
front_fields f s count rs = (number_of f ∷ head_in f s count) ++ all_fields resource_fields rs

-- sections 3 and 4
abbrev pub back_fields : ℕ → List Resource → ℕ → List Token → List ℕ
back_fields count rs used ts = (count ∷ all_fields name_fields rs) ++ (used ∷ all_fields token_fields ts)

-- how many bytes listed ones have
length-items : {A : Type 0} (fields : A → List ℕ) (bytes : ℕ) (view : List ℕ → A) (w count : ℕ) (l order : List ℕ) → Wide fields bytes
    → length (file_of (all_fields fields (listed view w count l order))) ≡ bytes * count
length-items fields bytes view w count l order sized = length-all fields bytes sized (listed view w count l order) ∙ ap (λ n. bytes * n) (length-listed view w count l order)

-- and a section with its count
length-section : {A : Type 0} (fields : A → List ℕ) (bytes : ℕ) (view : List ℕ → A) (w count : ℕ) (l order : List ℕ) → Wide fields bytes
    → length (file_of (count ∷ all_fields fields (listed view w count l order))) ≡ 4 + bytes * count
length-section fields bytes view w count l order sized =
    length-file (count ∷ all_fields fields (listed view w count l order))
    ∙ omega (arith, length-file (all_fields fields (listed view w count l order)), length-items fields bytes view w count l order sized)

-- ---- put_front

module _ (f : Form) (s : List ℕ) (count : ℕ) (l order : List ℕ) where
  pub front_length : length (file_of (front_fields f s count (listed resource_of_row 12 count l order))) ≡ number_bytes + names_place f count
  front_length =
      ap length (file-append (number_of f ∷ head_in f s count) (all_fields resource_fields (listed resource_of_row 12 count l order)))
      ∙ (length-append (file_of (number_of f ∷ head_in f s count)) (file_of (all_fields resource_fields (listed resource_of_row 12 count l order)))
      ∙ omega (arith, head-length f s count, length-items resource_fields 48 resource_of_row 12 count l order resource-wide))

  pub front-written : (at : ℕ) (b m m' : List ℕ) → number_bytes + names_place f count ≤ length b → m ≡ over 0 (file_of (number_of f ∷ head_in f s count)) b
      → at ≡ number_bytes + head_bytes f → m' ≡ over at (file_of (all_fields resource_fields (listed resource_of_row 12 count l order))) m
      → m' ≡ over 0 (file_of (front_fields f s count (listed resource_of_row 12 count l order))) b
  front-written at b m m' room p e q =
      fields-behind 0 at (number_of f ∷ head_in f s count) (all_fields resource_fields (listed resource_of_row 12 count l order)) b m m'
      (omega (arith, head-length f s count))
      (omega (arith, length-items resource_fields 48 resource_of_row 12 count l order resource-wide))
      p q

pub ruleset writing_front = (front-written, rules)

-- ---- put_back

module _ (count : ℕ) (l others : List ℕ) (used : ℕ) (t order : List ℕ) where
  pub back-length : length (file_of (back_fields count (listed resource_of_row 12 count l others) used (listed token_of_row 2 used t order))) ≡ 8 + 8 * count + 12 * used
  back-length =
      ap length (file-append (count ∷ all_fields name_fields (listed resource_of_row 12 count l others)) (used ∷ all_fields token_fields (listed token_of_row 2 used t order)))
      ∙ (length-append (file_of (count ∷ all_fields name_fields (listed resource_of_row 12 count l others))) (file_of (used ∷ all_fields token_fields (listed token_of_row 2 used t order)))
      ∙ omega (arith, length-section name_fields 8 resource_of_row 12 count l others name-wide, length-section token_fields 12 token_of_row 2 used t order token-wide))

  pub back-written : (at : ℕ) (b m m' : List ℕ) → at + 8 + 8 * count + 12 * used ≤ length b → m ≡ over at (file_of (count ∷ all_fields name_fields (listed resource_of_row 12 count l others))) b
      → m' ≡ over (at + 4 + 8 * count) (file_of (used ∷ all_fields token_fields (listed token_of_row 2 used t order))) m
      → m' ≡ over at (file_of (back_fields count (listed resource_of_row 12 count l others) used (listed token_of_row 2 used t order))) b
  back-written at b m m' room p q =
      fields-behind at (at + 4 + 8 * count) (count ∷ all_fields name_fields (listed resource_of_row 12 count l others)) (used ∷ all_fields token_fields (listed token_of_row 2 used t order)) b m m'
      (omega (arith, length-section name_fields 8 resource_of_row 12 count l others name-wide))
      (omega (arith, length-section token_fields 12 token_of_row 2 used t order token-wide))
      p q

pub ruleset writing_back = (back-written, rules)
