-- `has_other_name` meets its contract: the test of the rows in turn is the test of the list of them. Assumes nothing.
use Rattle.std.proofs.Common.{◌≡◌, ◌∙◌, List, ℕ, zero, suc, ◌||◌, refl, ap, add-one, rules, tests}
use Rattle.std.proofs.Math.Nat.{sub-zero}
use Rattle.std.specs.List.{list_any, range_with_len}
use Rattle.std.proofs.lemmas.Iterator.{YieldsList-from_range}
use Rattle.std.proofs.lemmas.Iterator.Search.{any_from_yields_List}
use Rattle.rows.specs.Rows.{row_at, tab, table}
use Rattle.kept_resources.specs.Views.{resource_of_row}
use Rattle.rules.specs.Saved.{is_other_name, other_name_among}
use Rattle.saved_order_names.proofs.has_other_name.Goals as goal

any-among : (l : List ℕ) (i n : ℕ)
    → list_any (λ k. is_other_name (resource_of_row (row_at 12 l k))) (range_with_len i n)
    ≡ other_name_among (tab (λ k. resource_of_row (row_at 12 l k)) i n)
unfolding other_name_among tab
any-among l i zero = refl
any-among l i (suc n) = rw add-one (ap (λ b. is_other_name (resource_of_row (row_at 12 l i)) || b) (any-among l (suc i) n))

pub returns : goal.returns
unfolding table
returns c =
    any_from_yields_List (λ k. is_other_name (resource_of_row (row_at 12 c.args.resources.now k))) _ _ _ c.any.ensures.ran
    (YieldsList-from_range 0 c.args.live c.args.live refl (sub-zero c.args.live))
    (λ x b q k. search (rules, tests))
    ∙ any-among c.args.resources.now 0 c.args.live
