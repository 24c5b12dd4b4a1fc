-- `all_listed` meets its contract: the row of each number below `count` is judged. Assumes nothing.
use Rattle.std.specs.Prelude.{◌≡◌, List, ℕ, zero, suc, ◌&&◌}
use Rattle.std.proofs.Common.{refl, ap, ◌∙◌, rules, arith, add-one}
use Rattle.std.proofs.lemmas.Iterator.{YieldsList-from_range}
use Rattle.std.proofs.lemmas.Iterator.Search.{all_from_yields_List}
use Rattle.std.specs.List.{list_all, range_with_len}
use borrow.Author.Tests.{tests}
use Rattle.rows.specs.Rows.{row_at, tab, table}
use Rattle.kept_resources.specs.Views.{record_of}
use Rattle.rules.specs.Month.{every, listed_kind}
use Rattle.rules.specs.declared.Record.{Record}
use Rattle.month_feed.proofs.all_listed.Goals as goal

row : List ℕ → ℕ → Record
row l i = record_of (row_at 5 l i)

every-row : (l : List ℕ) (i n : ℕ) → list_all (λ k. listed_kind (row l k)) (range_with_len i n) ≡ every listed_kind (tab (row l) i n)
unfolding every tab
every-row l i zero = refl
every-row l i (suc n) = rw add-one (ap (λ t. listed_kind (row l i) && t) (every-row l (suc i) n))

pub returns : goal.returns
unfolding table row
returns c =
    let l : List ℕ = c.args.records.now in
    all_from_yields_List (λ k. listed_kind (row l k)) c.all.new.self _ c.all.result c.all.ensures.ran (YieldsList-from_range 0 c.args.count c.args.count refl (omega arith)) (λ x b q k. search (rules, tests)) ∙ every-row l 0 c.args.count
