-- Wish 9, "tell me where it broke": beside a broken rule's number stands the entry's index, the packet's offset in its stream, or 0. At each
-- settling of any device that was made and called, whatever bytes its memories hold. Assumes nothing.
use Rattle.std.specs.Prelude.{◌≡◌, refl, Bool, true, false, List, ◌⊎◌, ℕ, ◌+◌, ◌^◌, ◌≤◌, ◌<◌, ltb, eqb, length, Err, Ok}
use Rattle.std.proofs.Common.{sym, ap, ◌∙◌, inl, inr, arith}
use Rattle.machine.specs.Machine.{pick}
use Rattle.rules.specs.Lists.{lookup}
use Rattle.rules.specs.Registers.{register, write_of}
use Rattle.rules.specs.Calls.{call_read, call_write}
use Rattle.rules.specs.Numbers.{done, no_register, bad_ring, bad_entry, twice_in_table, no_place}
use Rattle.rules.specs.Judging.{rule, ◌▹◌, Verdict, error_number}
use Rattle.rules.specs.Judging.Finding.{broken}
use Rattle.rules.specs.Layouts.{entry, stream_header_size}
use Rattle.rules.specs.Table.{matching, is_found, entry_place, entry_rules, keep, in_reach, take_entry}
use Rattle.rules.specs.Packets.{Progress, at_first, Belongings}
use Rattle.rules.specs.State.{Work, State, World}
use Rattle.rules.specs.State.Work.{resting, entries, packets, waiting}
use Rattle.rules.specs.Settle.{faulted, doorbell_cleared, settled_keeping, ring_refused}
use Rattle.rules.specs.Steps.{packets_at, entries_at, step}
use Rattle.rules.specs.declared.Entry.{Entry}
use Rattle.rules.specs.declared.Fault.{Fault}
use Rattle.rules.specs.declared.Job.{Job}
use Rattle.rules.specs.declared.Opened.{Opened}
use Rattle.rules.specs.declared.Refusal.{Refusal}
use Rattle.rules.specs.declared.Stream.{Stream}
use Rattle.rules.specs.declared.Table.{Table}
use Rattle.rules.specs.declared.Refusal.TheVariants.{BadEntry, TwiceInTable}
use Rattle.promises_of_units.specs.Called.{Called}
use Rattle.promises_of_units.specs.Units.Unit.{settles}
use Rattle.promises_of_units.specs.Changes.{told}
use Rattle.promises_of_units.specs.Kept.{EachLent}

-- the numbers that an entry's rules have
abbrev pub EntryRule : ℕ → Type 0
EntryRule n = (n ≡ bad_entry) ⊎ (n ≡ twice_in_table)

abbrev pub OfAnEntry : Table → Fault → Type 0
OfAnEntry t f = EntryRule f.code × (f.place < t.count)

-- within the stream, behind its header
abbrev pub OfAPacket : Stream → Fault → Type 0
OfAPacket t f = (stream_header_size ≤ f.place) × (f.place < t.size)

-- where a unit's broken rule is: that of the entry or the packet that the unit judges, "else 0"
abbrev pub Placed : Work → Fault → Type 0
Placed resting f = f.place ≡ no_place
Placed (entries o kept) f = OfAnEntry o.table f × (f.place ≡ length kept)
Placed (packets j t at es h) f = OfAPacket t f × (f.place ≡ at)
Placed (waiting j es h) f = ⊥

-- a stream's size has 32 bits: so no offset in it is cut
abbrev pub SizeFits : Work → Type 0
SizeFits resting = 0 ≤ 0
SizeFits (entries o kept) = o.stream.size < 2 ^ 32
SizeFits (packets j t at es h) = t.size < 2 ^ 32
SizeFits (waiting j es h) = 0 ≤ 0

-- ---- a broken rule and its place

-- what is broken at a place is a rule with the fault's number, and the fault tells the place where it has 32 bits
pub record BrokenAt (place : ℕ) (v : Verdict) (f : Fault) : Type 0 where
  pub why : Refusal
  pub broke : v ≡ Err why
  pub number : f.code ≡ error_number why
  pub told : place < 2 ^ 32 → f.place ≡ place

-- an entry breaks one of them
pub entry-number : (memory : ℕ) (earlier : List Entry) (e : Entry) (r : Refusal) → entry_rules memory earlier e ≡ Err r → EntryRule (error_number r)
unfolding entry_rules
entry-number memory earlier e r h = by_tests (eqb e.id 0) (eqb e.size 0) (ltb memory (e.gpa + e.size)) (is_found (matching e.id earlier)) h
  where
    same : (n : Refusal) → ◌≡◌ {A = Verdict} (Err n) (Err r) → error_number r ≡ error_number n
    same n k = let is : n ≡ r = cc in ap error_number (sym is)

    by_tests : (a b c d : Bool) → rule BadEntry a ▹ rule BadEntry b ▹ rule BadEntry c ▹ rule TwiceInTable d ≡ Err r → EntryRule (error_number r)
    by_tests true b c d k = inl (same BadEntry k)
    by_tests false true c d k = inl (same BadEntry k)
    by_tests false false true d k = inl (same BadEntry k)
    by_tests false false false true k = inr (same TwiceInTable k)
    by_tests false false false false k = absurd (let z : ◌≡◌ {A = ℕ} 0 1 = cc in omega arith)

pub taken-number : (m : List ℕ) (t : Table) (kept : List Entry) (r : Refusal) → (take_entry m t kept).verdict ≡ Err r → EntryRule (error_number r)
unfolding take_entry
taken-number m t kept r = by_test (in_reach m t (length kept))
  where
    next : Entry
    next = entry m (entry_place t (length kept))

    by-verdict : (v : Verdict) → entry_rules (length m) kept next ≡ v → (keep v kept next).verdict ≡ Err r → EntryRule (error_number r)
    by-verdict (Ok _) e k = absurd (let z : ◌≡◌ {A = ℕ} 0 1 = cc in omega arith)
    by-verdict (Err x) e k = entry-number (length m) kept next r (e ∙ k)

    by_test : (b : Bool) → (pick b (keep (entry_rules (length m) kept next) kept next) (record { verdict = Err BadEntry; kept = kept })).verdict ≡ Err r
        → EntryRule (error_number r)
    by_test true k = by-verdict (entry_rules (length m) kept next) refl k
    by_test false k = inl (let is : BadEntry ≡ r = cc in ap error_number (sym is))

-- ---- of any device that was made and called

pub packets-fit : (j : Job) (t : Stream) (at : ℕ) (es : List Entry) (h : Progress) → t.size < 2 ^ 32 → SizeFits (packets_at j t at es h)
packets-fit j t at es h fits = by_test (ltb at t.size)
  where
    by_test : (b : Bool) → SizeFits (pick b (packets j t at es h) (waiting j es h))
    by_test true = fits
    by_test false = omega arith

pub entries_fit : (o : Opened) (kept : List Entry) (owned : Belongings) → o.stream.size < 2 ^ 32 → SizeFits (entries_at o kept owned)
entries_fit o kept owned fits = by_test (ltb (length kept) o.table.count)
  where
    by_test : (b : Bool) → SizeFits (pick b (entries o kept) (packets_at o.job o.stream stream_header_size kept (at_first owned)))
    by_test true = fits
    by_test false = packets-fit o.job o.stream stream_header_size kept (at_first owned) fits

-- a unit that finds a rule broken settles with it, and tells its number and its place
pub record TellsWhere (w : World) (j : Job) (f : Fault) : Type 0 where
  pub settles : step w ≡ settled_keeping j (broken f) w
  pub tells : (step w).state.regs.error ≡ told j f w.state.regs.error
  pub place : Placed w.state.work f

-- "else 0": a bad ring, and the host's answer "failed"
pub bad-ring-has-no-place : (w : World) → ((ring_refused w).state.regs.error.code ≡ bad_ring) × ((ring_refused w).state.regs.error.detail ≡ no_place)
unfolding faulted doorbell_cleared
bad-ring-has-no-place w = (refl, refl)

-- "a read-only register at offset 320 (hex)": a read shows the last error's detail, a write answers 2
pub detail-is-read : (s : State) → call_read s 0x320 ≡ record { answer = done; value = s.regs.error.detail }
unfolding call_read register lookup
detail-is-read s = refl

pub detail-is-not-written : (s : State) (v : ℕ) → call_write s 0x320 v ≡ record { answer = no_register; state = s }
unfolding call_write write_of lookup
detail-is-not-written s v = refl
