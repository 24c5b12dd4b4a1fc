-- The example of docs/MONTH.md, which is the stored input of `program_month`, computed by the rule book. Assumes nothing.
use Rattle.std.specs.Prelude.{◌≡◌, refl, List, [], ◌∷◌, ℕ, replicate}
use Rattle.rules.specs.declared.Record.{Record}
use Rattle.rules.specs.Month.{Finished, sum, greatest, every, totals, good_feed, feed_answer, counted_after, answers_after, counted, answers}

abbrev range : ℕ → ℕ → Record
range kind length = record { kind = kind; handle = 0; id = 0; gpa = 0; length = length }

abbrev ended : ℕ → ℕ → List Record → Finished
ended error units records = record { error = error; units = units; records = records }

abbrev pub worked : List Finished
worked =
    ended 0 4 (range 1 256 ∷ range 2 32 ∷ [])
    ∷ ended 0 9 (range 3 64 ∷ range 3 100 ∷ range 4 0 ∷ [])
    ∷ ended 15 3 []
    ∷ ended 27 5 []
    ∷ ended 17 2 (range 2 1 ∷ [])
    ∷ ended 0 1 (range 2 18446744073709551583 ∷ range 2 1 ∷ [])
    ∷ ended 0 1 (range 2 18446744073709551583 ∷ [])
    ∷ ended 9 1 []
    ∷ []

pub worked-answers : answers worked ≡ 0 ∷ 0 ∷ 0 ∷ 0 ∷ 10 ∷ 9 ∷ 0 ∷ 10 ∷ []
unfolding sum greatest every totals good_feed feed_answer answers_after
worked-answers = refl

pub worked-totals : totals (counted worked) ≡ record { sums = 3 ∷ 0 ∷ 0 ∷ 0 ∷ 0 ∷ 0 ∷ 1 ∷ 0 ∷ 0 ∷ 0 ∷ 0 ∷ 0 ∷ 0 ∷ 0 ∷ 0 ∷ 0 ∷ 0 ∷ 0 ∷ 1 ∷ 0 ∷ 0 ∷ 0 ∷ 22 ∷ 18446744073709551615 ∷ 164 ∷ []; largest = 100 }
unfolding sum greatest every totals good_feed feed_answer counted_after
worked-totals = refl

-- one submission on either side of each rule
abbrev pub edges : List Finished
edges =
    ended 0 1 (replicate 64 (range 3 18446744073709551615))
    ∷ ended 0 1 (replicate 65 (range 3 1))
    ∷ ended 0 1 (range 2 18446744073709551615 ∷ range 2 1 ∷ range 5 0 ∷ [])
    ∷ ended 0 1 (replicate 64 (range 3 1))
    ∷ ended 0 0 (range 1 18446744073709551615 ∷ range 4 18446744073709551615 ∷ [])
    ∷ ended 0 0 (range 0 0 ∷ [])
    ∷ ended 9 1 []
    ∷ ended 10 1 []
    ∷ ended 30 1 []
    ∷ ended 31 1 []
    ∷ ended 28 1 (range 1 0 ∷ [])
    ∷ []

pub edges-answers : answers edges ≡ 9 ∷ 10 ∷ 10 ∷ 0 ∷ 0 ∷ 10 ∷ 10 ∷ 0 ∷ 0 ∷ 10 ∷ 10 ∷ []
unfolding sum greatest every totals good_feed feed_answer answers_after
edges-answers = refl
