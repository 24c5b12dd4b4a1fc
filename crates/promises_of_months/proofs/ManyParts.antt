-- A month cut into any number of parts: their totals, merged, are the totals of all. Assumes nothing.
use Rattle.std.proofs.Math.Path.{◌≡◌}
use Rattle.std.proofs.Common.{sym, ap, ◌∙◌}
use Rattle.std.proofs.Math.Bool.{true}
use mathlib.Core.List.{List, [], ◌∷◌, ◌++◌, append_assoc, append-nil}
use Rattle.rules.specs.Month.{Finished, totals, counted, answers}
use Rattle.promises_of_months.specs.Counted.{answers-split}
use Rattle.promises_of_months.specs.Parts.{all_of, merged_all, no-nine-front, no_nine}
use Rattle.promises_of_months.proofs.Parts.{parts-of-all}

-- ---- any number of parts

pub parts-many : (ss : List Finished) (ps : List (List Finished)) → no_nine (answers (ss ++ all_of ps)) ≡ true → merged_all (totals (counted ss)) ps ≡ totals (counted (ss ++ all_of ps))
unfolding all_of merged_all
parts-many ss [] h = ap (λ xs. totals (counted xs)) (sym (append-nil ss))
parts-many ss (p ∷ ps) h =
    let same : (ss ++ p) ++ all_of ps ≡ ss ++ (p ++ all_of ps) = append_assoc ss p (all_of ps) in
    let whole : no_nine (answers ((ss ++ p) ++ all_of ps)) ≡ true = ap (λ xs. no_nine (answers xs)) same ∙ h in
    let front : no_nine (answers (ss ++ p)) ≡ true = no-nine-front (answers (ss ++ p)) _ (sym (ap no_nine (answers-split [] (ss ++ p) (all_of ps))) ∙ whole) in
    ap (λ f. merged_all f.totals ps) (parts-of-all ss p front) ∙ (parts-many (ss ++ p) ps whole ∙ ap (λ xs. totals (counted xs)) same)
