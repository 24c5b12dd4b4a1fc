-- The theorems of specs/Main.antt, and what they rest on. Assumes nothing.
use Rattle.std.specs.Prelude.{◌≡◌, true, List, [], ◌++◌}
use Rattle.rules.specs.Month.{Finished, totals, fed_all, counted, answers}
use Rattle.promises_of_months.specs.Counted.{month-totals}
use Rattle.promises_of_months.specs.Parts.{no_nine, all_of, merged_all}
use Rattle.promises_of_months.proofs.ManyParts.{parts-many}
use Rattle.promises_of_months.specs.Named.{Small}
use Rattle.promises_of_months.proofs.Named.{month-small}
use Rattle.promises_of_months.specs.Causes.{Ten, NineBelow}
use Rattle.promises_of_months.proofs.Causes.{ten-exactly, nine-after-ten}

-- "Totals stay below 2^64", each by its name
pub totals-stay-below : (ss : List Finished) → Small (counted ss)
totals-stay-below ss = month-small ss

-- "The sums equal those of all counted": after any feeds
pub totals-are-the-sums-of-what-was-counted : (ss : List Finished) → fed_all (totals []) ss ≡ totals (counted ss)
totals-are-the-sums-of-what-was-counted ss = month-totals ss

-- and parts totalled apart and merged, where no 9 arises: any number of them
pub merged-parts-are-the-whole : (ss : List Finished) (ps : List (List Finished)) → no_nine (answers (ss ++ all_of ps)) ≡ true → merged_all (totals (counted ss)) ps ≡ totals (counted (ss ++ all_of ps))
merged-parts-are-the-whole ss ps h = parts-many ss ps h

-- "An unlisted error or kind, more than 64 records, or records beside an error is refused first, with 10": exactly these
pub answer-10-exactly : (xs : List Finished) (s : Finished) → Ten xs s
answer-10-exactly xs s = ten-exactly xs s

-- "an addition that would reach it is refused with 9": exactly these, where no cause of 10 holds
pub answer-9-exactly : (xs : List Finished) (s : Finished) → NineBelow xs s
answer-9-exactly xs s = nine-after-ten xs s
