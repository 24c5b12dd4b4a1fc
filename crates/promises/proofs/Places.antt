-- The theorems of specs/Places.antt, and what they rest on. Assumes nothing.
use Rattle.std.specs.Prelude.{◌≡◌, refl, false, List, [], ℕ, ◌+◌, ◌≤◌, length, Err, Ok}
use Rattle.std.proofs.Common.{sym, ap, subst, ◌∙◌, arith}
use Rattle.rules.specs.Numbers.{most, host_failed, no_place}
use Rattle.rules.specs.Judging.{fault_at, at_place, Verdict}
use Rattle.rules.specs.Judging.Finding.{broken}
use Rattle.rules.specs.Layouts.{stream_header_size}
use Rattle.rules.specs.Table.{take_entry}
use Rattle.rules.specs.Stream.{left}
use Rattle.rules.specs.Packets.{Progress, take_packet, Belongings}
use Rattle.rules.specs.State.{Work, State, World}
use Rattle.rules.specs.State.Work.{resting, entries, packets, waiting}
use Rattle.rules.specs.Settle.{faulted, signalled, ended_by, settled, settled_keeping}
use Rattle.rules.specs.Steps.{step, answered}
use Rattle.rules.specs.declared.Entry.{Entry}
use Rattle.rules.specs.declared.Fault.{Fault}
use Rattle.rules.specs.declared.Job.{Job}
use Rattle.rules.specs.declared.Opened.{Opened}
use Rattle.promises_of_submissions.specs.LentBytes.{OfBytes, marked-bytes}
use Rattle.promises_of_submissions.specs.Submission.{Lies, LiesOn}
use Rattle.promises_of_submissions.proofs.Submission.{opening-lies}
use Rattle.promises_of_units.specs.Fences.{failed-settles}
use Rattle.promises_of_submissions.specs.Locality.{lent}
use Rattle.promises_of_units.specs.Called.{Called}
use Rattle.promises_of_units.specs.Units.{Next, Breaks}
use Rattle.promises_of_units.proofs.Units.{unit-is-step}
use Rattle.promises_of_units.specs.Units.Unit.{settles}
use Rattle.promises_of_units.specs.Changes.{told}
use Rattle.promises_of_units.specs.Kept.{EachLent, KeptByUnits}
use Rattle.promises_of_units.proofs.Kept.{called-keeps}
use Rattle.promises_of_units.specs.Tables.{StartedOnce, OwnTable}
use Rattle.promises_of_units.proofs.Tables.{called-has-its-own-table}
use Rattle.promises.specs.Places.{BrokenAt, EntryRule, Placed, SizeFits, TellsWhere, entries_fit, packets-fit, taken-number}

-- ---- a broken rule and its place

pub broken-at : (place : ℕ) (v : Verdict) (f : Fault) → at_place place v ≡ broken f → BrokenAt place v f
broken-at place (Ok _) f e = absurd (let z : ◌≡◌ {A = ℕ} 0 1 = cc in omega arith)
broken-at place (Err r) f e =
    let is : fault_at place r ≡ f = cc in
    record {
      why = r;
      broke = refl;
      number = ap (λ (x : Fault). x.code) (sym is);
      told = λ h. ap (λ (x : Fault). x.place) (sym is) ∙ omega arith;
    }

-- ---- at a unit

-- what an opening started has at most 64 entries
few-entries : (n : ℕ) (o : Opened) → StartedOnce n o → o.table.count ≤ most
few-entries n o a = (subst (LiesOn a.mem) a.started (opening-lies a.mem a.ring a.size)).few

unit-placed : (w : World) (n : ℕ) (k : Work) → OwnTable n k → SizeFits k → (j : Job) (f : Fault) → Breaks w k j f → Placed k f
unit-placed w n resting own fits j f h = ap (λ (x : Fault). x.place) h.nowhere
unit-placed w n (entries o kept) own fits j f h =
    let b : BrokenAt (length kept) (take_entry w.mem o.table kept).verdict f = broken-at _ _ f h.1 in
    let few : o.table.count ≤ most = few-entries n o own.0 in
    let is : f.place ≡ length kept = b.told (omega (arith, own.2)) in
    ((subst EntryRule (sym b.number) (taken-number w.mem o.table kept b.why b.broke), omega (arith, own.2)), is)
unit-placed w n (packets j t at es held) own fits i f h =
    let b : BrokenAt at (take_packet es held (left w.mem t at)).verdict f = broken-at _ _ f h.1 in
    let is : f.place ≡ at = b.told (omega (arith, own.in-stream)) in
    ((omega (arith, own.past-header), omega (arith, own.in-stream)), is)
unit-placed w n (waiting j es held) own fits i f h = h

-- ---- of any device that was made and called

next_fits : (w : World) → OfBytes w.mem → (k next : Work) → Next w k next → SizeFits k → SizeFits next
next_fits w b resting next h fits =
    let lies : Lies w.mem h.what = subst (LiesOn w.mem) h.here (opening-lies w.mem w.state.regs.ring w.state.regs.ringsize) in
    subst SizeFits (sym h.first) (entries_fit h.what [] w.state.belongings (lies.short b))
next_fits w b (entries o kept) next h fits = subst SizeFits (sym h.1) (entries_fit o (take_entry w.mem o.table kept).kept w.state.belongings fits)
next_fits w b (packets j t at es held) next h fits = subst SizeFits (sym h.1) (packets-fit j t _ es _ fits)
next_fits w b (waiting j es held) next h fits = subst SizeFits (sym h) fits

-- where its calls were lent bytes, the size of the stream in work has 32 bits
pub sizes-fit : (s : State) (k : Called s) → EachLent OfBytes s k → SizeFits s.work
sizes-fit s k b = called-keeps kept s k b
  where
    kept : KeptByUnits OfBytes (λ memory work. SizeFits work)
    kept = record { rests = λ n. omega arith; works-on = λ w l c. next_fits w c; marks = marked-bytes }

-- "set with the code"
pub settling-tells : (j : Job) (f : Fault) (owned : Belongings) (w : World) → (settled j (broken f) owned w).state.regs.error ≡ told j f w.state.regs.error
unfolding settled ended_by signalled faulted
settling-tells j f owned w = refl

pub each-settling-tells-where : (s : State) → Called s → SizeFits s.work → (m : List ℕ) (j : Job) (f : Fault) → Breaks (lent s m) s.work j f
    → TellsWhere (lent s m) j f
each-settling-tells-where s k fits m j f h =
    let is : step (lent s m) ≡ settled_keeping j (broken f) (lent s m) = unit-is-step (lent s m) _ (settles j f h) in
    record {
      settles = is;
      tells = ap (λ (w : World). w.state.regs.error) is ∙ settling-tells j f s.belongings (lent s m);
      place = unit-placed (lent s m) s.memory s.work (called-has-its-own-table s k) fits j f h;
    }

pub failed-has-no-place : (w : World) (j : Job) (es : List Entry) (h : Progress) → w.state.work ≡ waiting j es h
    → ((answered false w).state.regs.error.code ≡ host_failed) × ((answered false w).state.regs.error.detail ≡ no_place)
unfolding settled ended_by signalled faulted
failed-has-no-place w j es h e = rw (failed-settles w j es h e) (refl, refl)
