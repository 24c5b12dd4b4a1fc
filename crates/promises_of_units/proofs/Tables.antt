-- The theorems of specs/Tables.antt, and what they rest on. Assumes nothing.
use Rattle.std.proofs.Math.Path.{◌≡◌, refl}
use Rattle.std.proofs.Common.{sym, subst, arith, ltb-true, ltb-false, length-append}
use Rattle.std.specs.Prelude.{Bool, List, [], ℕ, ◌≤◌, ◌<◌, ltb, length, Ok}
use Rattle.std.proofs.Math.Bool.{true, false}
use Rattle.machine.specs.Machine.{pick}
use Rattle.rules.specs.Lists.{pushed}
use Rattle.rules.specs.Layouts.{stream_header_size}
use Rattle.rules.specs.Table.{entry_rules, take_entry}
use Rattle.rules.specs.Packets.{Progress, at_first, Belongings}
use Rattle.rules.specs.State.{Work, State, World}
use Rattle.rules.specs.State.Work.{resting, entries, packets, waiting}
use Rattle.rules.specs.Steps.{packets_at, entries_at}
use Rattle.rules.specs.declared.Entry.{Entry}
use Rattle.rules.specs.declared.Job.{Job}
use Rattle.rules.specs.declared.Opened.{Opened}
use Rattle.rules.specs.declared.Stream.{Stream}
use Rattle.promises_of_units.specs.Called.{Called}
use Rattle.promises_of_units.specs.Units.{Next}
use Rattle.promises_of_units.specs.Kept.{AnyMemory, KeptByUnits}
use Rattle.promises_of_units.proofs.Kept.{lent_any, called-keeps}
use Rattle.promises_of_units.specs.Tables.{OwnTable, StartedOnce, TakenFrom, WholeTable, good-entry-is-kept, next_entry}
use Rattle.promises_of_units.specs.Tables.TakenFrom.{kept-one, none_kept}

-- ---- kept by a unit

packets-own : (n : ℕ) (j : Job) (t : Stream) (at : ℕ) (es : List Entry) (h : Progress) → (own : WholeTable n j es) → own.what.stream ≡ t → stream_header_size ≤ at
    → OwnTable n (packets_at j t at es h)
packets-own n j t at es h own its past = by_test (ltb at t.size) refl
  where
    by_test : (b : Bool) → ltb at t.size ≡ b → OwnTable n (pick b (packets j t at es h) (waiting j es h))
    by_test true e = record { table = own; its-stream = its; past-header = past; in-stream = ltb-true at t.size e }
    by_test false e = own

entries-own : (n : ℕ) (o : Opened) (kept : List Entry) (owned : Belongings) → StartedOnce n o → TakenFrom n o.table kept → length kept ≤ o.table.count → OwnTable n (entries_at o kept owned)
entries-own n o kept owned a t l = by_test (ltb (length kept) o.table.count) refl
  where
    by_test : (b : Bool) → ltb (length kept) o.table.count ≡ b → OwnTable n (pick b (entries o kept) (packets_at o.job o.stream stream_header_size kept (at_first owned)))
    by_test true e = (a, t, ltb-true (length kept) o.table.count e)
    by_test false e =
        packets-own n o.job o.stream stream_header_size kept (at_first owned)
        (record { what = o; opened = a; its-job = refl; taken = t; all = omega (arith, ltb-false (length kept) o.table.count e) }) refl (omega arith)

module _ (w : World) (n : ℕ) (lent : length w.mem ≡ n) where
  next-own : (k next : Work) → Next w k next → OwnTable n k → OwnTable n next
  next-own resting next h own =
      subst (OwnTable n) (sym h.first)
      (entries-own n h.what [] w.state.belongings (record { mem = w.mem; long = lent; ring = w.state.regs.ring; size = w.state.regs.ringsize; started = h.here }) none_kept (omega arith))
  next-own (entries o kept) next h own =
      let x : Entry = next_entry w.mem o.table kept in
      let good : ((take_entry w.mem o.table kept).kept ≡ pushed kept x) × (entry_rules (length w.mem) kept x ≡ Ok tt) = good-entry-is-kept w.mem o.table kept h.0 in
      let more : TakenFrom n o.table (pushed kept x) = kept-one own.1 w.mem lent (subst (λ i. entry_rules i kept x ≡ Ok tt) lent good.1) in
      subst (OwnTable n) (sym h.1)
      (subst (λ es. OwnTable n (entries_at o es w.state.belongings)) (sym good.0)
      (entries-own n o (pushed kept x) w.state.belongings own.0 more (simp length-append (omega (arith, own.2)))))
  next-own (packets j t at es held) next h own =
      subst (OwnTable n) (sym h.1) (packets-own n j t _ es _ own.table own.its-stream (omega (arith, own.past-header)))
  next-own (waiting j es held) next h own = subst (OwnTable n) (sym h) own

-- ---- and so by every call

own-table-kept : KeptByUnits AnyMemory OwnTable
own-table-kept =
    record {
      rests = λ n. omega arith;
      works-on = λ w l d k next h own. next-own w w.state.memory l k next h own;
      marks = λ j r m d. d;
    }

-- of any device that was made and called
pub called-has-its-own-table : (s : State) → Called s → OwnTable s.memory s.work
called-has-its-own-table s k = called-keeps own-table-kept s k (lent_any s k)
