-- What the reading of a device's words asks. Assumes nothing.
use Rattle.std.specs.Prelude.{◌≡◌, refl, Bool, true, false, not, List, [], ℕ, ◌≤◌, ◌<◌, eqb, get_or}
use Rattle.std.proofs.Common.{sym, ◌∙◌, arith, mod-eq_of_lt, rules, eq-eqb, ne_eqb, lt-ltb, le-ltb}
use Rattle.machine.specs.Machine.{pick}
use Rattle.rules.specs.Numbers.{most, most_tokens}
use Rattle.rules.specs.declared.Job.{Job}
use Rattle.rules.specs.declared.Table.{Table}
use Rattle.rules.specs.declared.Stream.{Stream}
use Rattle.rows.specs.Rows.{table-zero}
use Rattle.kept_entries.specs.Views.{entries_of}
use Rattle.kept_resources.specs.Views.{resources_of, records_of}
use Rattle.kept_tokens.specs.Views.{tokens_of}
use Rattle.run_state.specs.Views.{set_in, flag_of, small_in, count_in, token_count_in, job_in, table_in, stream_in}

-- ---- one word

pub unset : (x : ℕ) → x ≡ 0 → set_in x ≡ false
unset x h = rw (eq-eqb x 0 h)

pub is_set : (x : ℕ) → (x ≡ 0 → ⊥) → set_in x ≡ true
is_set x h = rw (ne_eqb x 0 h)

pub set-test : (x : ℕ) (b : Bool) → b ≡ not (eqb x 0) → b ≡ set_in x
set-test x b p = p ∙ by (eqb x 0)
  where
    by : (v : Bool) → not v ≡ pick v false true
    by true = refl
    by false = refl

pub marks-none : (x : ℕ) → x ≡ 0 → set_in 0 ≡ set_in x
marks-none x h = rw (eq-eqb x 0 h)

pub marks-set : (x : ℕ) → (x ≡ 0 → ⊥) → set_in 1 ≡ set_in x
marks-set x h = rw (ne_eqb x 0 h)

pub flagged : (b : Bool) → b ≡ true → 1 ≡ flag_of b
flagged b e = rw e

pub unflagged : (b : Bool) → b ≡ false → 0 ≡ flag_of b
unflagged b e = rw e

-- a flag that was stored is read
pub flag-as : (n : ℕ) (b : Bool) → n ≡ flag_of b → set_in n ≡ b
flag-as n b p = rw p (by b)
  where
    by : (v : Bool) → set_in (flag_of v) ≡ v
    by true = refl
    by false = refl

-- and so is a number of four bytes
pub small-as : (x y : ℕ) → (x ≡ y) × (x < 4294967296) → small_in x ≡ y
small-as x y p = mod-eq_of_lt p.1 ∙ p.0

pub many : (x : ℕ) → 64 < x → (64 ≡ count_in x) × (64 ≤ most)
unfolding count_in
many x h = (rw (lt-ltb most x h), omega arith)

pub few : (x : ℕ) → x ≤ 64 → (x ≡ count_in x) × (x ≤ most)
unfolding count_in
few x h = (rw (le-ltb most x h), h)

pub many-tokens : (x : ℕ) → 256 < x → (256 ≡ token_count_in x) × (256 ≤ most_tokens)
unfolding token_count_in
many-tokens x h = (rw (lt-ltb most_tokens x h), omega arith)

pub few-tokens : (x : ℕ) → x ≤ 256 → (x ≡ token_count_in x) × (x ≤ most_tokens)
unfolding token_count_in
few-tokens x h = (rw (le-ltb most_tokens x h), h)

pub ruleset reading_word = (unset, is_set, set-test, flagged, unflagged, many, few, many-tokens, few-tokens, rules)

-- a count that was stored is read
pub count-as : (x n : ℕ) → (x ≡ n) × (x < 18446744073709551616) → n ≤ most → count_in x ≡ n
count-as x n p h = sym (few x (omega arith)).0 ∙ p.0

pub token-count-as : (x n : ℕ) → (x ≡ n) × (x < 18446744073709551616) → n ≤ most_tokens → token_count_in x ≡ n
token-count-as x n p h = sym (few-tokens x (omega arith)).0 ∙ p.0

-- a count of 0 is no row
module _ (l : List ℕ) where
  pub none_kept : entries_of (count_in 0) l ≡ []
  unfolding count_in
  none_kept = table-zero _ _ l

  pub none-live : resources_of (count_in 0) l ≡ []
  unfolding count_in
  none-live = table-zero _ _ l

  pub none_made : records_of (count_in 0) l ≡ []
  unfolding count_in
  none_made = table-zero _ _ l

  pub none-used : tokens_of (token_count_in 0) l ≡ []
  unfolding token_count_in
  none-used = table-zero _ _ l

-- ---- some words

pub job_is : (s : List ℕ) (head : ℕ) (silent : Bool) → head ≡ small_in (get_or s 15 0) → silent ≡ set_in (get_or s 17 0)
    → ◌≡◌ {A = Job} (record { ring = get_or s 14 0; head = head; signal = get_or s 16 0; silent = silent }) (job_in s)
job_is s head silent a b = rw (a, b)

pub table_is : (s : List ℕ) (count stride : ℕ) → count ≡ small_in (get_or s 19 0) → stride ≡ small_in (get_or s 20 0)
    → ◌≡◌ {A = Table} (record { gpa = get_or s 18 0; count = count; stride = stride }) (table_in s)
table_is s count stride a b = rw (a, b)

pub stream-is : (s : List ℕ) (size : ℕ) → size ≡ small_in (get_or s 22 0) → ◌≡◌ {A = Stream} (record { gpa = get_or s 21 0; size = size }) (stream_in s)
stream-is s size a = rw a

pub ruleset reading = (job_is, table_is, stream-is, rules)
