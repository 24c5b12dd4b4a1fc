-- The phase of entries as a machine over the entries kept so far; and what its code asks. Assumes nothing.
use Rattle.std.specs.Prelude.{◌≡◌, Bool, true, false, List, ℕ, ◌+◌, ◌-◌, ◌^◌, ◌≤◌, ◌<◌, ltb, length, Err, Ok}
use Rattle.std.proofs.Math.Path.{refl}
use Rattle.std.proofs.Common.{subst, sym, ap, arith, rules}
use borrow.Author.Tests.{ltb-true}
use Rattle.machine.specs.Machine.{pick, Out, spent, run_while, loop-start, loop-out}
use Rattle.rules.specs.Numbers.{most}
use Rattle.rules.specs.Judging.{Verdict}
use Rattle.rules.specs.Layouts.{entry}
use Rattle.rules.specs.Table.{Taken, entry_place, entry_rules, keep, in_reach, take_entry}
use Rattle.rules.specs.declared.Entry.{Entry}
use Rattle.rules.specs.declared.Table.{Table}
use Rattle.rules.specs.declared.Refusal.{Refusal}
use Rattle.rules.specs.declared.Refusal.TheVariants.{BadEntry}
use Rattle.rule_laws.specs.Fine.{both_left}
use Rattle.rows.specs.Rows.{length-table}
use Rattle.kept_entries.specs.Views.{entry_of, entries_of, taken_of}
use Rattle.run_entries.specs.Ending.{onward, ending_at, goes, ends, phase-on, phase-left}
use Rattle.run_entries.specs.declared.ending.Ending.{Ending}
use Rattle.run_entries.specs.declared.ending.Ending.TheVariants.{Going, Broken}
use Rattle.run_entries.specs.declared.entries.EntriesPlace.{EntriesPlace}
use Rattle.run_entries.specs.declared.entries.EntriesRun.{EntriesRun}

pub record Reading : Type 0 where
  pub kept : List Entry
  pub ending : Ending

abbrev pub reading_goes : Reading → Bool
reading_goes s = onward s.ending

abbrev pub read_on : ℕ → Verdict → List Entry → Reading
read_on count (Ok _) kept = record { kept = kept; ending = ending_at (length kept) count }
read_on count (Err r) kept = record { kept = kept; ending = Broken r }

unfoldable pub read_step : List ℕ → Table → Reading → Reading
read_step m t s = read_on t.count (take_entry m t s.kept).verdict (take_entry m t s.kept).kept

-- ---- views

abbrev pub reading_of : EntriesPlace → List ℕ → Reading
reading_of p l = record { kept = entries_of p.kept l; ending = p.ending }

abbrev pub out_of : EntriesRun → List ℕ → Out Reading
out_of r l = record { state = reading_of r.place l; units = r.units }

abbrev pub from_row : ℕ → List ℕ → Reading
from_row n l = record { kept = entries_of n l; ending = Going }

pub record EntryStepped (m : List ℕ) (t : Table) (p : EntriesPlace) (l : List ℕ) (r : EntriesPlace) (l' : List ℕ) : Type 0 where
  pub step : reading_of r l' ≡ read_step m t (reading_of p l)
  pub room : r.kept ≤ most

pub record EntriesRan (m : List ℕ) (t : Table) (n : ℕ) (l : List ℕ) (allowance : ℕ) (r : EntriesRun) (l' : List ℕ) : Type 0 where
  pub run : out_of r l' ≡ run_while reading_goes (read_step m t) allowance (from_row n l)
  pub room : r.place.kept ≤ most

-- ---- step_entry

-- an entry that is fine had room
fine-room : (m : List ℕ) (t : Table) (kept : List Entry) → (take_entry m t kept).verdict ≡ Ok tt → length kept < most
unfolding take_entry
fine-room m t kept h = by-reach (in_reach m t (length kept)) refl h
  where
    by-reach : (b : Bool) → in_reach m t (length kept) ≡ b
        → (pick b (keep (entry_rules (length m) kept (entry m (entry_place t (length kept)))) kept (entry m (entry_place t (length kept)))) (record { verdict = Err BadEntry; kept = kept })).verdict ≡ Ok tt
        → length kept < most
    by-reach true e f = ltb-true (length kept) most (both_left (ltb (length kept) most) _ e)
    by-reach false e f = absurd (let z : ◌≡◌ {A = ℕ} 0 1 = cc in omega arith)

module _ (m : List ℕ) (t : Table) (p : EntriesPlace) (l l' : List ℕ) (v : Verdict) (took : taken_of v p.kept l' ≡ take_entry m t (entries_of p.kept l)) where
  pub step-broken : (r : Refusal) → p.kept ≤ most → v ≡ Err r → EntryStepped m t p l (record { kept = p.kept; ending = Broken r }) l'
  unfolding read_step
  step-broken r h e =
      let taken : taken_of (Err r) p.kept l' ≡ take_entry m t (entries_of p.kept l) = rw e at took in
      record { step = rw (← taken); room = h }

  module _ (e : v ≡ Ok tt) where
    taken_fine : taken_of (Ok tt) p.kept l' ≡ take_entry m t (entries_of p.kept l)
    taken_fine = rw e at took

    pub step_room : p.kept < most
    step_room = rw (length-table entry_of 4 p.kept l) at (fine-room m t (entries_of p.kept l) (sym (ap (λ (x : Taken). x.verdict) taken_fine)))

    pub step-next-fits : p.kept + 1 < 2 ^ 64
    step-next-fits = omega (arith, step_room)

    pub step-kept : (c : ℕ) (k : Ending) → c ≡ t.count → k ≡ ending_at (p.kept + 1) c → EntryStepped m t p l (record { kept = p.kept + 1; ending = k }) l'
    unfolding read_step
    step-kept c k same is =
        record { step = rw (is, same, ← taken_fine, length-table entry_of 4 (p.kept + 1) l'); room = omega (arith, step_room) }

pub ruleset stepping_entry = (step-broken, step_room, step-next-fits, step-kept, rules)

-- ---- read_entries

module _ (m : List ℕ) (t : Table) (n a : ℕ) (l₀ : List ℕ) where
  pub reads_first : run_while reading_goes (read_step m t) a (from_row n l₀) ≡ spent 0 (run_while reading_goes (read_step m t) (a - 0) (reading_of (record { kept = n; ending = Going }) l₀))
  reads_first = loop-start reading_goes (read_step m t) a (from_row n l₀)

  module _ (u : ℕ) (p : EntriesPlace) (l : List ℕ) (inv : run_while reading_goes (read_step m t) a (from_row n l₀) ≡ spent u (run_while reading_goes (read_step m t) (a - u) (reading_of p l))) where
    pub reads-no-more : a ≤ u → p.kept ≤ most → EntriesRan m t n l₀ a (record { place = p; units = u }) l
    reads-no-more h room = record { run = loop-out reading_goes (read_step m t) a u (reading_of p l) _ inv h; room = room }

    pub reads-out : u ≤ a → a ≤ u → p.kept ≤ most → EntriesRan m t n l₀ a (record { place = p; units = a }) l
    reads-out g h room =
        let e : u ≡ a = omega arith in
        subst (λ (k : ℕ). EntriesRan m t n l₀ a (record { place = p; units = k }) l) e (reads-no-more h room)

    module _ (more : u < a) (here : p.ending ≡ Going) (r : EntriesPlace) (l' : List ℕ) (s : EntryStepped m t p l r l') where
      pub reads_on : run_while reading_goes (read_step m t) a (from_row n l₀) ≡ spent (u + 1) (run_while reading_goes (read_step m t) (a - (u + 1)) (reading_of r l'))
      reads_on = phase-on reading_goes (read_step m t) a u (reading_of p l) _ inv more (goes p.ending here) (reading_of r l') s.step

      pub reads-to-end : (r.ending ≡ Going → ⊥) → EntriesRan m t n l₀ a (record { place = r; units = u + 1 }) l'
      reads-to-end h =
          record {
            run = phase-left reading_goes (read_step m t) a u (reading_of p l) _ inv more (goes p.ending here) (reading_of r l') s.step (ends r.ending h);
            room = s.room;
          }

pub ruleset reading_on = (reads_first, reads-no-more, reads-out, reads_on, reads-to-end, rules)
