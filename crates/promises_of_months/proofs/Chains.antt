-- The theorems of specs/Chains.antt, and what they rest on. Assumes nothing.
use Rattle.std.specs.Prelude.{◌≡◌, true, List, ◌++◌, ℕ}
use Rattle.std.proofs.Common.{ap, ◌∙◌}
use Rattle.rules.specs.Numbers.{done}
use Rattle.rules.specs.Month.{Finished, totals, merged, counted, answers}
use Rattle.month_totals.specs.Views.{totals_in, Merges, Zeroes}
use Rattle.promises_of_months.specs.Parts.{no_nine}
use Rattle.promises_of_months.proofs.Parts.{parts-of-all}
use Rattle.promises_of_months.specs.Chains.{Chain, month-ends}

-- two months, each from zero, then merged: the words of both together, where no 9 arises in feeding all
pub merged-months : {l n k o m : List ℕ} {ss ts : List Finished} {rs qs : List ℕ} {a : ℕ} → Zeroes l → Chain l ss rs n → Zeroes k → Chain k ts qs o
    → no_nine (answers (ss ++ ts)) ≡ true → Merges n (totals_in o) a m → (a ≡ done) × (totals_in m ≡ totals (counted (ss ++ ts)))
merged-months {l} {n} {k} {o} {m} {ss} {ts} {rs} {qs} {a} p c q d h g =
    let u : totals_in n ≡ totals (counted ss) = (month-ends p c).words in
    let v : totals_in o ≡ totals (counted ts) = (month-ends q d).words in
    let e : merged (totals_in n) (totals_in o) ≡ record { answer = done; totals = totals (counted (ss ++ ts)) } = ap (λ x. merged x (totals_in o)) u ∙ (ap (merged (totals (counted ss))) v ∙ parts-of-all ss ts h) in
    (g.answer ∙ ap (λ x. x.answer) e, g.words ∙ ap (λ x. x.totals) e)
