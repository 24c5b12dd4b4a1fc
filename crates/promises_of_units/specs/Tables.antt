-- The table of a submission in work is its own: the one that its opening read, with each entry read and found good in the memory lent at
-- its unit, and all of them once packets are judged; and so is its stream. Of any device that was made and called, whatever memories.
-- Assumes nothing.
use Rattle.std.proofs.Math.Path.{◌≡◌, refl}
use Rattle.std.proofs.Common.{arith}
use Rattle.std.specs.Prelude.{Bool, List, [], ℕ, ◌≤◌, ◌<◌, length, Err, Ok}
use Rattle.std.proofs.Math.Bool.{true, false}
use Rattle.machine.specs.Machine.{pick}
use Rattle.rules.specs.Lists.{pushed}
use Rattle.rules.specs.Judging.{Verdict}
use Rattle.rules.specs.Layouts.{entry, stream_header_size}
use Rattle.rules.specs.Table.{Taken, entry_place, entry_rules, keep, in_reach, take_entry}
use Rattle.rules.specs.Ring.{opening_of}
use Rattle.rules.specs.State.{Work}
use Rattle.rules.specs.State.Work.{resting, entries, packets, waiting}
use Rattle.rules.specs.declared.Entry.{Entry}
use Rattle.rules.specs.declared.Job.{Job}
use Rattle.rules.specs.declared.Opened.{Opened}
use Rattle.rules.specs.declared.Stream.{Stream}
use Rattle.rules.specs.declared.Table.{Table}
use Rattle.rules.specs.declared.Opening.TheVariants.{Started}
use Rattle.rules.specs.declared.Refusal.TheVariants.{BadEntry}

-- the table's entry after those that were kept, as it stands in some memory
abbrev pub next_entry : List ℕ → Table → List Entry → Entry
next_entry m t kept = entry m (entry_place t (length kept))

-- an entry that is found good is kept after those before it, and breaks no rule
module _ (m : List ℕ) (t : Table) (kept : List Entry) where
  -- what is kept is right, where the verdict is good
  abbrev pub Right : Taken → Type 0
  Right x = x.verdict ≡ Ok tt → (x.kept ≡ pushed kept (next_entry m t kept)) × (entry_rules (length m) kept (next_entry m t kept) ≡ Ok tt)

  by-verdict : (v : Verdict) → entry_rules (length m) kept (next_entry m t kept) ≡ v → Right (keep v kept (next_entry m t kept))
  by-verdict (Ok _) e d = (refl, e)
  by-verdict (Err r) e d = absurd (let z : ◌≡◌ {A = ℕ} 0 1 = cc in omega arith)

  pub good-entry-is-kept : Right (take_entry m t kept)
  unfolding take_entry
  good-entry-is-kept = by_test (in_reach m t (length kept))
    where
      by_test : (b : Bool) → Right (pick b (keep (entry_rules (length m) kept (next_entry m t kept)) kept (next_entry m t kept)) (record { verdict = Err BadEntry; kept = kept }))
      by_test true d = by-verdict (entry_rules (length m) kept (next_entry m t kept)) refl d
      by_test false d = absurd (let z : ◌≡◌ {A = ℕ} 0 1 = cc in omega arith)

-- ---- whose table it is, over memories of n bytes

-- the entries taken of a table, in its order: each was read where it stands in some memory, and broke no rule there
pub data TakenFrom (n : ℕ) (t : Table) : List Entry → Type 0 where
  none_kept : TakenFrom n t []
  kept-one : {kept : List Entry} → TakenFrom n t kept → (m : List ℕ) → length m ≡ n
      → entry_rules n kept (next_entry m t kept) ≡ Ok tt → TakenFrom n t (pushed kept (next_entry m t kept))

-- an opening over some memory, with some ring, started this
pub record StartedOnce (n : ℕ) (o : Opened) : Type 0 where
  pub mem : List ℕ
  pub long : length mem ≡ n
  pub ring : ℕ
  pub size : ℕ
  pub started : opening_of mem ring size ≡ Started o

-- all the entries of the table that the submission's own opening read
pub record WholeTable (n : ℕ) (j : Job) (es : List Entry) : Type 0 where
  pub what : Opened
  pub opened : StartedOnce n what
  pub its-job : what.job ≡ j
  pub taken : TakenFrom n what.table es
  pub all : length es ≡ what.table.count

-- and the stream is the one that this opening read, with the packet in work past its header
pub record OwnStream (n : ℕ) (j : Job) (t : Stream) (at : ℕ) (es : List Entry) : Type 0 where
  pub table : WholeTable n j es
  pub its-stream : table.what.stream ≡ t
  pub past-header : stream_header_size ≤ at
  pub in-stream : at < t.size

-- of each phase
abbrev pub OwnTable : ℕ → Work → Type 0
OwnTable n resting = 0 ≤ 0
OwnTable n (entries o kept) = StartedOnce n o × TakenFrom n o.table kept × (length kept < o.table.count)
OwnTable n (packets j t at es h) = OwnStream n j t at es
OwnTable n (waiting j es h) = WholeTable n j es
