-- Every range that a record call hands out, of any device that was made or loaded, and called: whatever calls came, whatever bytes stood in memory at
-- each, it lies inside exactly one entry of the table of the submission that waits, and inside memory. A range is a record of kind 1 to 3; one of
-- kind 4 is a clipped rectangle. Assumes nothing.
use Rattle.std.specs.Prelude.{◌≡◌, Bool, get_or}
use Rattle.std.proofs.Math.Path.{refl, ap, subst}
use Rattle.std.proofs.Common.{sym, ◌∙◌}
use Rattle.std.proofs.Math.Bool.{true, false}
use mathlib.Core.List.{List, [], ◌∷◌}
use Prim.Native.Nat.{ℕ, zero, suc, ◌+◌, ◌≤◌, ◌<◌}
use native.Mathlib.Omega.{arith}
use borrow.Author.Tests.{eqb-true}
use Rattle.std.proofs.Math.Dec.{eqb}
use Rattle.std.proofs.Math.ListN.{length}
use Rattle.machine.specs.Machine.{pick}
use Rattle.rules.specs.Numbers.{done, clips}
use Rattle.rules.specs.Lists.{Found, nth, lookup}
use Rattle.rules.specs.Lists.Found.{none, found}
use Rattle.rules.specs.Layouts.{entry}
use Rattle.rules.specs.Packets.{Progress}
use Rattle.rules.specs.State.{Work, State, World}
use Rattle.rules.specs.State.Work.{resting, entries, packets, waiting}
use Rattle.rules.specs.Calls.{handed_out, record_read, call_record}
use Rattle.rules.specs.declared.Entry.{Entry}
use Rattle.rules.specs.declared.Record.{Record}
use Rattle.rules.specs.declared.Job.{Job}
use Rattle.promises_of_packets.specs.Held.{Every}
use Rattle.promises_of_units.specs.InMemory.{Lies, run-call-lies, answer-call-lies, write-call-lies}
use Rattle.promises_of_units.specs.Called.{Call, after, Called}
use Rattle.promises_of_units.specs.Called.Call.{writes, reads, runs, records, answers}
use Rattle.promises_of_units.specs.Tables.{WholeTable}

-- ---- any device that was made or loaded, and called is sound, and its entries end within its memory

pub call_lies : (c : Call) (w : World) → Lies w.state → Lies (after c w).state
unfolding after
call_lies (writes offset v) w k = write-call-lies w.state offset v k
call_lies (reads offset) w k = k
call_lies (runs n) w k = run-call-lies w n k
call_lies (records i) w k = k
call_lies (answers good n) w k = answer-call-lies w good n k

-- ---- exactly one entry has an id

pub record OnlyOne (id : ℕ) (es : List Entry) (e : Entry) : Type 0 where
  -- it stands in the table, and has the id
  pub place : ℕ
  pub stands : nth es place ≡ found e
  pub has-id : e.id ≡ id
  -- and no other place has one with that id
  pub only : (i : ℕ) (d : Entry) → nth es i ≡ found d → d.id ≡ id → i ≡ place

module _ {A : Type 0} where
  none-not-found : (x : A) → none ≡ found x → ⊥
  none-not-found x e = let z : ◌≡◌ {A = ℕ} 0 1 = cc in omega arith

  found-same : (x y : A) → found x ≡ found y → x ≡ y
  found-same x y e = cc

  pub every-nth : (P : A → Type 0) (xs : List A) (i : ℕ) (x : A) → Every P xs → nth xs i ≡ found x → P x
  unfolding nth Every
  every-nth P [] i x h e = absurd (none-not-found x e)
  every-nth P (y ∷ ys) zero x h e = subst P (found-same y x e) h.0
  every-nth P (y ∷ ys) (suc i) x h e = every-nth P ys i x h.1 e

  pub nth-get_or : (xs : List A) (i : ℕ) (x d : A) → nth xs i ≡ found x → (i < length xs) × (get_or xs i d ≡ x)
  unfolding nth
  nth-get_or [] i x d e = absurd (none-not-found x e)
  nth-get_or (y ∷ ys) zero x d e = (omega arith, found-same y x e)
  nth-get_or (y ∷ ys) (suc i) x d e = let k : (i < length ys) × (get_or ys i d ≡ x) = nth-get_or ys i x d e in (omega (arith, k.0), k.1)

  pub lookup-stands : (key : A → ℕ) (k : ℕ) (xs : List A) (x : A) → lookup key k xs ≡ found x → (i : ℕ) × (nth xs i ≡ found x) × (key x ≡ k)
  unfolding nth lookup
  lookup-stands key k [] x e = absurd (none-not-found x e)
  lookup-stands key k (y ∷ ys) x e = by_test (eqb (key y) k) refl (lookup-stands key k ys x) e
    where
      by_test : (b : Bool) → eqb (key y) k ≡ b → (lookup key k ys ≡ found x → (i : ℕ) × (nth ys i ≡ found x) × (key x ≡ k))
          → pick b (found y) (lookup key k ys) ≡ found x → (i : ℕ) × (nth (y ∷ ys) i ≡ found x) × (key x ≡ k)
      by_test true q later f = (0, f, ap key (sym (found-same y x f)) ∙ eqb-true (key y) k q)
      by_test false q later f = let l : (i : ℕ) × (nth ys i ≡ found x) × (key x ≡ k) = later f in (suc l.0, l.1, l.2)

-- ---- what a record call hands out

-- a submission waits, the range is its i-th record, and lies inside the one entry of its table that has its id, and inside memory
pub record InOneEntry (s : State) (i : ℕ) (c : Record) : Type 0 where
  pub job : Job
  pub table : List Entry
  pub held : Progress
  pub waits : s.work ≡ waiting job table held
  -- the table is this submission's own: what its opening read, all of it, each entry found good
  pub its-table : WholeTable s.memory job table
  pub its-record : nth held.holdings.records i ≡ found c
  pub entry : Entry
  pub only_one : OnlyOne c.id table entry
  pub starts : entry.gpa ≤ c.gpa
  pub ends : c.gpa + c.length ≤ entry.gpa + entry.size
  pub in_memory : c.gpa + c.length ≤ s.memory

-- what is true of each record of a submission that waits is true of what a record call hands out
module _ (s : State) (i : ℕ) (P : Record → Type 0)
    (each : (j : Job) (es : List Entry) (h : Progress) (c : Record) → s.work ≡ waiting j es h → nth h.holdings.records i ≡ found c → P c) where
  by_found : (j : Job) (es : List Entry) (h : Progress) → s.work ≡ waiting j es h → (f : Found Record) → nth h.holdings.records i ≡ f → (record_read f).answer ≡ done → P (record_read f).range
  by_found j es h w none e d = absurd (omega arith)
  by_found j es h w (found c) e d = each j es h c w e

  by-work : (k : Work) → s.work ≡ k → (record_read (nth (handed_out k) i)).answer ≡ done → P (record_read (nth (handed_out k) i)).range
  unfolding nth
  by-work resting e d = absurd (omega arith)
  by-work (entries o kept) e d = absurd (omega arith)
  by-work (packets j t at es h) e d = absurd (omega arith)
  by-work (waiting j es h) e d = by_found j es h e (nth h.holdings.records i) refl d

  pub at-the-record-call : (call_record s i).answer ≡ done → P (call_record s i).range
  unfolding call_record
  at-the-record-call d = by-work s.work refl d

module _ (s : State) (k : Called s) (i : ℕ) where
  -- a range lies where it should
  abbrev pub IfARange : Record → Type 0
  IfARange c = (c.kind ≡ clips → ⊥) → InOneEntry s i c
