-- The theorems of specs/Ranges.antt, and what they rest on. Assumes nothing.
use Rattle.std.specs.Prelude.{◌≡◌, get_or}
use Rattle.std.proofs.Math.Path.{refl, ap, subst}
use Rattle.std.proofs.Common.{sym, ◌∙◌}
use mathlib.Core.List.{List}
use Prim.Native.Nat.{ℕ, suc, ◌<◌}
use native.Mathlib.Omega.{arith}
use Rattle.std.proofs.Math.ListN.{length}
use Rattle.rules.specs.Numbers.{done, clips}
use Rattle.rules.specs.Lists.{Found, nth}
use Rattle.rules.specs.Lists.Found.{none, found}
use Rattle.rules.specs.Layouts.{entry}
use Rattle.rules.specs.Table.{entry_id, matching}
use Rattle.rules.specs.Packets.{Progress}
use Rattle.rules.specs.State.{State, World}
use Rattle.rules.specs.State.Work.{waiting}
use Rattle.rules.specs.Calls.{call_record}
use Rattle.rules.specs.declared.Entry.{Entry}
use Rattle.rules.specs.declared.Record.{Record}
use Rattle.rules.specs.declared.Job.{Job}
use Rattle.rules.specs.Loaded.{loaded_sections, loaded}
use Rattle.rows.specs.Keys.{Once}
use Rattle.promises_of_packets.specs.Held.{Within, Inside, OfAKind}
use Rattle.promises_of_units.specs.Sound.{SoundState}
use Rattle.promises_of_units.proofs.Sound.{made-sound, waiting-ranges-inside, waiting-kinds}
use Rattle.promises_of_units.proofs.LoadedSound.{loaded-sound}
use Rattle.promises_of_units.proofs.Refused.{run-call-keeps-sound, answer-call-keeps-sound, write-call-keeps-sound}
use Rattle.promises_of_units.specs.InMemory.{Lies, RangeEndsIn, made-lies}
use Rattle.promises_of_units.proofs.InMemory.{waiting-ranges-in-memory}
use Rattle.promises_of_units.specs.Called.{Call, after, Called}
use Rattle.promises_of_units.specs.Called.Call.{writes, reads, runs, records, answers}
use Rattle.promises_of_units.specs.Called.Called.{makes, loads, calls}
use Rattle.promises_of_units.specs.Tables.{OwnTable}
use Rattle.promises_of_units.proofs.Tables.{called-has-its-own-table}
use Rattle.promises_of_units.specs.Ranges.{IfARange, InOneEntry, OnlyOne, at-the-record-call, call_lies, every-nth, lookup-stands, nth-get_or}

-- ---- any device that was made or loaded, and called is sound, and its entries end within its memory

pub call-keeps-sound : (c : Call) (w : World) → SoundState w.state → SoundState (after c w).state
unfolding after
call-keeps-sound (writes offset v) w k = write-call-keeps-sound w.state offset v k
call-keeps-sound (reads offset) w k = k
call-keeps-sound (runs n) w k = run-call-keeps-sound w n k
call-keeps-sound (records i) w k = k
call-keeps-sound (answers good n) w k = answer-call-keeps-sound w good n k

pub called-sound : (s : State) → Called s → SoundState s
called-sound s (makes memory) = made-sound memory
called-sound s (loads b good) = loaded-sound b good
called-sound s (calls {s = t} c m k) = call-keeps-sound c (record { state = t; mem = m }) (called-sound t k)

pub called-lies : (s : State) → Called s → Lies s
unfolding loaded loaded_sections
called-lies s (makes memory) = made-lies memory
called-lies s (loads b good) = omega arith
called-lies s (calls {s = t} c m k) = call_lies c (record { state = t; mem = m }) (called-lies t k)

-- ---- exactly one entry has an id

the-only-one : (id : ℕ) (es : List Entry) (e : Entry) → Once entry_id es → matching id es ≡ found e → OnlyOne id es e
the-only-one id es e once h =
    let it : (i : ℕ) × (nth es i ≡ found e) × (e.id ≡ id) = lookup-stands entry_id id es e h in
    let here : (it.0 < length es) × (get_or es it.0 e ≡ e) = nth-get_or es it.0 e e it.1 in
    record {
      place = it.0;
      stands = it.1;
      has-id = it.2;
      only = λ i d q same.
          let there : (i < length es) × (get_or es i e ≡ d) = nth-get_or es i d e q in
          once.same e i it.0 there.0 here.0 (ap entry_id there.1 ∙ (same ∙ (sym it.2 ∙ ap entry_id (sym here.1))));
    }

-- ---- what a record call hands out

module _ (s : State) (k : Called s) (i : ℕ) where
  record-lies : (j : Job) (es : List Entry) (h : Progress) (c : Record) → s.work ≡ waiting j es h → nth h.holdings.records i ≡ found c → (IfARange s k i) c
  record-lies j es h c w e range =
      by-entry (matching c.id es) refl
      (every-nth (Inside es) h.holdings.records i c (waiting-ranges-inside s j es h (called-sound s k) w).0 e range)
    where
      by-entry : (f : Found Entry) → matching c.id es ≡ f → Within c f → InOneEntry s i c
      by-entry none q x = absurd x
      by-entry (found d) q x =
          record {
            job = j;
            table = es;
            held = h;
            waits = w;
            its-table = subst (OwnTable s.memory) w (called-has-its-own-table s k);
            its-record = e;
            entry = d;
            only_one = the-only-one c.id es d (waiting-ranges-inside s j es h (called-sound s k) w).1 q;
            starts = x.0;
            ends = x.1;
            in_memory = every-nth (RangeEndsIn s.memory) h.holdings.records i c (waiting-ranges-in-memory s j es h (called-sound s k) (called-lies s k) w) e range;
          }

  -- a record call that hands out a range: of any device, after any calls, over any memories
  pub ranges-at-the-record-call : (call_record s i).answer ≡ done → ((call_record s i).range.kind ≡ clips → ⊥) → InOneEntry s i (call_record s i).range
  ranges-at-the-record-call = at-the-record-call s i (IfARange s k i) record-lies

  -- and whatever it hands out is of one of the four kinds
  pub kinds-at-the-record-call : (call_record s i).answer ≡ done → OfAKind (call_record s i).range
  kinds-at-the-record-call =
      at-the-record-call s i OfAKind
      (λ j es h c w e. every-nth OfAKind h.holdings.records i c (waiting-kinds s j es h (called-sound s k) w) e)
