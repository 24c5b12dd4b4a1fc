-- The month in numbers (02, wish 13): what a finished submission counts, when it is refused, which of those fed are counted, and the totals
-- of these, which are sums over them.
use Rattle.std.specs.Prelude.{Bool, true, ◌&&◌, ◌||◌, List, [], ◌∷◌, ◌++◌, map, ℕ, ◌+◌, ◌^◌, max, eqb, ltb, leb, length}
use Rattle.machine.specs.Machine.{pick}
use Rattle.rules.specs.Numbers.{bad_ring, bad_descriptor, outside_memory, bad_table, bad_entry, twice_in_table, bad_stream, bad_packet, bad_handle, too_many, bad_shape, not_in_table, past_entry, read_only, past_resource, host_backed, bad_copy, host_failed, bad_token, unbound_token, bad_state, most, backs, reads, writes, clips, done, too_much, bad_feed}
use Rattle.rules.specs.Lists.{pushed}
use Rattle.rules.specs.declared.Record.{Record}

-- ---- sums

module _ {A : Type 0} where
  unfoldable pub sum : (A → ℕ) → List A → ℕ
  sum f [] = 0
  sum f (x ∷ xs) = f x + sum f xs

  -- the greatest; of none, 0
  unfoldable pub greatest : (A → ℕ) → List A → ℕ
  greatest f [] = 0
  greatest f (x ∷ xs) = max (f x) (greatest f xs)

  unfoldable pub every : (A → Bool) → List A → Bool
  every t [] = true
  every t (x ∷ xs) = t x && every t xs

-- ---- a finished submission, and what it counts

-- "fed one at a time as error code, units and records"; error 0 is accepted
pub record Finished : Type 0 where
  pub error : ℕ
  pub units : ℕ
  pub records : List Record

-- one, if this is how it ended
abbrev pub ended_with : ℕ → Finished → ℕ
ended_with e s = pick (eqb s.error e) 1 0

-- "Kind 2 is read, kind 3 written, others count no bytes"
abbrev pub length_in : ℕ → Record → ℕ
length_in kind c = pick (eqb c.kind kind) c.length 0

abbrev pub bytes_in : ℕ → Finished → ℕ
bytes_in kind s = sum (length_in kind) s.records

-- "the largest single write"
abbrev pub largest_write : Finished → ℕ
largest_write s = greatest (length_in writes) s.records

-- "refused for each error number": those listed, in the published order
abbrev pub refusals : List ℕ
refusals =
    bad_ring
    ∷ bad_descriptor
    ∷ outside_memory
    ∷ bad_table
    ∷ bad_entry
    ∷ twice_in_table
    ∷ bad_stream
    ∷ bad_packet
    ∷ bad_handle
    ∷ too_many
    ∷ bad_shape
    ∷ not_in_table
    ∷ past_entry
    ∷ read_only
    ∷ past_resource
    ∷ host_backed
    ∷ bad_copy
    ∷ host_failed
    ∷ bad_token
    ∷ unbound_token
    ∷ bad_state
    ∷ []

-- what is summed, in the published order: accepted, refused, units, bytes read, bytes written
abbrev pub counts : List (Finished → ℕ)
counts = ended_with done ∷ (map ended_with refusals ++ ((λ s. s.units) ∷ bytes_in reads ∷ bytes_in writes ∷ []))

-- ---- totals

pub record Totals : Type 0 where
  pub sums : List ℕ
  pub largest : ℕ

-- "exact totals": the sums over some submissions, and the largest write of all
unfoldable pub totals : List Finished → Totals
totals xs = record { sums = map (λ count. sum count xs) counts; largest = greatest largest_write xs }

-- "Totals stay below 2^64"
abbrev pub small : ℕ → Bool
small n = ltb n (2 ^ 64)

abbrev pub below : Totals → Bool
below t = every small t.sums

-- ---- which are counted

abbrev pub listed_error : ℕ → Bool
listed_error e = leb bad_ring e && leb e bad_state

abbrev pub listed_kind : Record → Bool
listed_kind c = leb backs c.kind && leb c.kind clips

-- records stand only beside error 0
abbrev pub alone : Finished → Bool
alone s = eqb s.error done || (listed_error s.error && eqb (length s.records) 0)

-- not "an unlisted error or kind, more than 64 records, or records beside an error"
unfoldable pub good_feed : Finished → Bool
good_feed s = alone s && (leb (length s.records) most && every listed_kind s.records)

-- what one more is answered after these were counted: 10 first, then 9
unfoldable pub feed_answer : List Finished → Finished → ℕ
feed_answer xs s = pick (good_feed s) (pick (below (totals (pushed xs s))) done too_much) bad_feed

-- "counts nothing" if refused
abbrev pub with_fed : List Finished → Finished → List Finished
with_fed xs s = pick (eqb (feed_answer xs s) done) (pushed xs s) xs

-- those that are counted, in order, if these were before
unfoldable pub counted_after : List Finished → List Finished → List Finished
counted_after xs [] = xs
counted_after xs (s ∷ ss) = counted_after (with_fed xs s) ss

unfoldable pub answers_after : List Finished → List Finished → List ℕ
answers_after xs [] = []
answers_after xs (s ∷ ss) = feed_answer xs s ∷ answers_after (with_fed xs s) ss

-- of all that are fed from the month's beginning
abbrev pub counted : List Finished → List Finished
counted ss = counted_after [] ss

abbrev pub answers : List Finished → List ℕ
answers ss = answers_after [] ss

-- ---- the calls, on totals alone

pub record Fed : Type 0 where
  pub answer : ℕ
  pub totals : Totals

unfoldable pub added : List ℕ → List ℕ → List ℕ
added [] ns = []
added (m ∷ ms) [] = []
added (m ∷ ms) (n ∷ ns) = (m + n) ∷ added ms ns

abbrev pub joined : Totals → Totals → Totals
joined a b = record { sums = added a.sums b.sums; largest = max a.largest b.largest }

-- two parts of a month put together; refused, nothing of the second counts
unfoldable pub merged : Totals → Totals → Fed
merged a b = pick (below (joined a b)) (record { answer = done; totals = joined a b }) (record { answer = too_much; totals = a })

-- one submission is a part of its own
unfoldable pub fed : Totals → Finished → Fed
fed t s = pick (good_feed s) (merged t (totals (s ∷ []))) (record { answer = bad_feed; totals = t })

unfoldable pub fed_all : Totals → List Finished → Totals
fed_all t [] = t
fed_all t (s ∷ ss) = fed_all (fed t s).totals ss

unfoldable pub told_all : Totals → List Finished → List ℕ
told_all t [] = []
told_all t (s ∷ ss) = (fed t s).answer ∷ told_all (fed t s).totals ss
