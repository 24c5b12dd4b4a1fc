-- The promises, of calls that were made one after the other: what the words of the totals are after any feeds, and after a merge of two months.
-- Assumes nothing.
use Rattle.std.specs.Prelude.{◌≡◌, refl, List, [], ◌∷◌, ℕ}
use Rattle.std.proofs.Common.{ap, ◌∙◌}
use Rattle.rules.specs.Month.{Finished, totals, fed, feed_answer, with_fed, counted_after, answers_after, counted}
use Rattle.month_totals.specs.Views.{totals_in, Feeds, Zeroes}
use Rattle.promises_of_months.specs.Counted.{fed-totals}
use Rattle.promises_of_months.specs.Named.{Words, words-named}

-- a chain of feed calls, each of which kept its contract: the words before, the submissions, the answers, and the words after
pub data Chain : List ℕ → List Finished → List ℕ → List ℕ → Type 0 where
  at_end : {l : List ℕ} → Chain l [] [] l
  then : {l m n : List ℕ} {s : Finished} {ss : List Finished} {r : ℕ} {rs : List ℕ} → Feeds l s r m → Chain m ss rs n → Chain l (s ∷ ss) (r ∷ rs) n

pub record Ends (xs ss : List Finished) (rs n : List ℕ) : Type 0 where
  pub words : totals_in n ≡ totals (counted_after xs ss)
  pub told : rs ≡ answers_after xs ss

pub chain-ends : (xs : List Finished) {l n : List ℕ} {ss : List Finished} {rs : List ℕ} → totals_in l ≡ totals xs → Chain l ss rs n → Ends xs ss rs n
unfolding counted_after answers_after
chain-ends xs h at_end = record { words = h; told = refl }
chain-ends xs h (then {l} {m} {n} {s} {ss} {r} {rs} f c) =
    let e : fed (totals_in l) s ≡ record { answer = feed_answer xs s; totals = totals (with_fed xs s) } = ap (λ t. fed t s) h ∙ fed-totals xs s in
    let k : Ends (with_fed xs s) ss rs n = chain-ends (with_fed xs s) (f.words ∙ ap (λ x. x.totals) e) c in
    let a : r ≡ feed_answer xs s = f.answer ∙ ap (λ x. x.answer) e in
    record { words = k.words; told = ap (λ x. x ∷ rs) a ∙ ap (λ x. feed_answer xs s ∷ x) k.told }

-- from zero: the words are the sums over exactly the counted submissions, and the answers are the rule book's
pub month-ends : {l n : List ℕ} {ss : List Finished} {rs : List ℕ} → Zeroes l → Chain l ss rs n → Ends [] ss rs n
month-ends h c = chain-ends [] h.words c

-- each word by its name
pub month-words : {l n : List ℕ} {ss : List Finished} {rs : List ℕ} → Zeroes l → Chain l ss rs n → Words n (counted ss)
month-words {l} {n} {ss} h c = words-named n (counted ss) (month-ends h c).words
