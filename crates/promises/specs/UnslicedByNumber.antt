-- Wish 9 by the unsliced rules: of a submission that an opening started, the first broken rule's number alone tells whether it is an entry's, with its
-- index, or a packet's, with its offset in the stream. Assumes nothing.
use Rattle.std.specs.Prelude.{◌≡◌}
use Rattle.std.proofs.Math.Bool.{true}
use mathlib.Core.List.{List, []}
use Prim.Native.Nat.{ℕ, ◌+◌, ◌≤◌, ◌<◌}
use native.Mathlib.Omega.{arith}
use Rattle.std.proofs.Math.ListN.{length}
use Rattle.rules.specs.Judging.{Finding}
use Rattle.rules.specs.Judging.Finding.{fine, broken}
use Rattle.rules.specs.Table.{entries_of, judge_entries}
use Rattle.rules.specs.Stream.{packets_of}
use Rattle.rules.specs.Ring.{opening_of}
use Rattle.rules.specs.Packets.{Progress}
use Rattle.rules.specs.Unsliced.{Reckoned, judge_packets}
use Rattle.rules.specs.declared.Fault.{Fault}
use Rattle.rules.specs.declared.Opened.{Opened}
use Rattle.rules.specs.declared.Opening.TheVariants.{Started}
use Rattle.promises_of_submissions.specs.LentBytes.{OfBytes}
use Rattle.rule_laws.specs.RuleNumbers.{EntryRule, packet_number}
use Rattle.promises.specs.PlacesByNumber.{OfANumberedPacket}

pub fine-not-broken : {f : Fault} → fine ≡ broken f → ⊥
fine-not-broken e = let z : ◌≡◌ {A = ℕ} 0 1 = cc in omega arith

module _ (f : Fault) where
  -- the first broken packet, of bytes that stand at an offset, has its place among them
  abbrev pub Among : ℕ → List ℕ → Type 0
  Among at b = (packet_number f.code ≡ true) × (at ≤ f.place) × (f.place < at + length b)

-- what an opening started over bytes, judged by the unsliced rules over the same bytes: the first broken rule is an entry's or a packet's
module _ (m : List ℕ) (ring size : ℕ) (o : Opened) (opened : opening_of m ring size ≡ Started o) (bytes : OfBytes m) where
  abbrev pub table_judged : Finding
  table_judged = (judge_entries (length m) [] (entries_of m o.table)).finding

  abbrev pub packets_judged : Progress → Reckoned
  packets_judged h = judge_packets (entries_of m o.table) h (packets_of m o.stream)

  -- so the code decides: 14 or 15 exactly if an entry broke it, and then the place is below the table's count; else it is an offset in the stream
  pub record ByTheCode (h : Progress) (f : Fault) : Type 0 where
    pub entrys : (EntryRule f.code → table_judged ≡ broken f) × (table_judged ≡ broken f → EntryRule f.code)
    pub index : EntryRule f.code → f.place < o.table.count
    pub packets : (EntryRule f.code → ⊥) → ((packets_judged h).finding ≡ broken f) × OfANumberedPacket o.stream f
