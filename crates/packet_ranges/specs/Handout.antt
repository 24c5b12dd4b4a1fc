-- A range of a resource: its end, its entry, its record, and what handing it out comes to. Assumes nothing.
use Rattle.std.specs.Prelude.{◌≡◌, Option, Some, None, Bool, true, false, List, ℕ, ◌+◌, ◌-◌, ◌^◌, ◌≤◌, ◌<◌, ltb, Ok, Result, Err}
use Rattle.std.proofs.Math.Path.{refl}
use Rattle.std.proofs.Common.{sym, ap, ◌∙◌, add_assoc, rules}
use native.Mathlib.Omega.{arith}
use borrow.Author.Tests.{ltb-false, eq-eqb, ne_eqb, le-leb, lt-leb}
use Rattle.machine.specs.Machine.{pick}
use Rattle.rules.specs.Numbers.{most}
use Rattle.rules.specs.Lists.{Found, pushed}
use Rattle.rules.specs.Lists.Found.{none, found}
use Rattle.rules.specs.Table.{entry_id, matching}
use Rattle.rules.specs.Packets.{Holdings, Outcome, refused, refuse, on_entry, range_of, hand_out}
use Rattle.rules.specs.declared.Entry.{Entry}
use Rattle.rules.specs.declared.Resource.{Resource}
use Rattle.rules.specs.declared.Record.{Record}
use Rattle.rules.specs.declared.Refusal.TheVariants.{TooMany, NotInTable, PastEntry}
use Rattle.rows.specs.Rows.{row_at, length-table}
use Rattle.rows.specs.Keys.{place_of}
use Rattle.widths.specs.Beyond.{long, short}
use Rattle.kept_entries.specs.Views.{RowRead, entries_of}
use Rattle.kept_entries.specs.Rows.{entry-exists, entry_found, entry-missing}
use Rattle.kept_resources.specs.Views.{record_of, records_of, holdings_of}
use Rattle.packet_ranges.specs.Views.{Applies, RowsExist, refused_with}
use Rattle.packet_ranges.specs.declared.applied.Applied.{Applied}
use Rattle.rules.specs.declared.Refusal.{Refusal}

-- ---- beyond_entry

module _ (offset from size bytes : ℕ) where
  pub moved-long : bytes < size → true ≡ ltb bytes (offset + (from + size))
  moved-long h = rw (← add_assoc) (long (offset + from) size bytes h)

  pub moved-short : (b : Bool) → size ≤ bytes → b ≡ ltb (bytes - size) (offset + from) → b ≡ ltb bytes (offset + (from + size))
  moved-short b h is = is ∙ rw (← add_assoc) (short (offset + from) size bytes h)

pub ruleset moving_range = (moved-long, moved-short, rules)

-- ---- resolve

-- what a range comes to, by the entry that has its backing id
unfoldable pub resolved_of : ℕ → Resource → ℕ → ℕ → Found Entry → Result (ℕ × Record) Refusal
resolved_of kind r from size none = Err NotInTable
resolved_of kind r from size (found e) = pick (ltb e.size (r.offset + (from + size))) (Err PastEntry) (Ok (e.flags, range_of kind r e from size))

-- "21 ..; 22 ..", and then what follows for an entry's flags and a range inside it
abbrev pub judged : Result (ℕ × Record) Refusal → Holdings → (ℕ → Record → Outcome) → Outcome
judged (Err why) h later = refused why h
judged (Ok (flags, c)) h later = later flags c

module _ (kind : ℕ) (r : Resource) (from size : ℕ) where
  within-judged : (t : Bool) (flags : ℕ) (c : Record) (h : Holdings) (later : ℕ → Record → Outcome)
      → refuse PastEntry t h (later flags c) ≡ judged (pick t (Err PastEntry) (Ok (flags, c))) h later
  within-judged true flags c h later = refl
  within-judged false flags c h later = refl

  pub entry-judged : (f : Found Entry) (h : Holdings) (later : ℕ → Record → Outcome)
      → on_entry f h (λ e. refuse PastEntry (ltb e.size (r.offset + (from + size))) h (later e.flags (range_of kind r e from size)))
      ≡ judged (resolved_of kind r from size f) h later
  unfolding resolved_of
  entry-judged none h later = refl
  entry-judged (found e) h later =
      within-judged (ltb e.size (r.offset + (from + size))) e.flags (range_of kind r e from size) h later

  module _ (n : ℕ) (l : List ℕ) (o : Option ℕ) (place : o ≡ place_of entry_id r.backing (entries_of n l)) where
    pub resolves-missing : o ≡ None → Err NotInTable ≡ resolved_of kind r from size (matching r.backing (entries_of n l))
    unfolding resolved_of
    resolves-missing p = rw (entry-missing n r.backing l o place p)

    module _ (i : ℕ) (at : o ≡ Some i) (e : Entry) (row : RowRead (row_at 4 l i) e)
        (b : Bool) (is : b ≡ ltb e.size (r.offset + (from + size))) where
      found_here : matching r.backing (entries_of n l) ≡ found e
      found_here = entry_found n r.backing l o place i at ∙ ap found (sym row.entry)

      pub resolves-past : b ≡ true → Err PastEntry ≡ resolved_of kind r from size (matching r.backing (entries_of n l))
      unfolding resolved_of
      resolves-past t = rw (found_here, ← is, t)

      pub resolves-inside : b ≡ false → Ok (e.flags, range_of kind r e from size) ≡ resolved_of kind r from size (matching r.backing (entries_of n l))
      unfolding resolved_of
      resolves-inside t = rw (found_here, ← is, t)

      -- a range inside its entry begins at a number of eight bytes
      pub start_fits : b ≡ false → r.offset + from < 2 ^ 64
      start_fits t = omega (arith, row.ends, ltb-false e.size (r.offset + (from + size)) (sym is ∙ t))

      pub range-fits : b ≡ false → e.gpa + (r.offset + from) < 2 ^ 64
      range-fits t = omega (arith, row.ends, ltb-false e.size (r.offset + (from + size)) (sym is ∙ t))

pub ruleset resolving = (entry-exists, resolves-missing, resolves-past, resolves-inside, start_fits, range-fits, rules)

-- ---- hand_out

-- what a packet leaves that changes no room of a resource: the rules' outcome, whatever the resources hold
pub record HandsOut (o : Holdings → Outcome) (live made : ℕ) (before : List ℕ) (a : Applied) (after : List ℕ) : Type 0 where
  pub applies : (resources : List ℕ) → Applies (o (holdings_of live resources made before)) a resources after

abbrev pub accepted_with : ℕ → ℕ → Applied
accepted_with live made = record { verdict = Ok tt; live = live; made = made }

-- a refusal with the rule's number keeps what was held
module _ (why : Refusal) (n live made : ℕ) (records : List ℕ) (a : Applied) (room : RowsExist n live made) (e : a ≡ refused_with why live made) where
  pub refused-applies : (o : Outcome) (resources : List ℕ) → o ≡ refused why (holdings_of live resources made records) → Applies o a resources records
  refused-applies o resources f = rw (e, f) (record { outcome = refl; live = room.live; made = room.made })

  pub refused-hands : (o : Holdings → Outcome) → ((h : Holdings) → o h ≡ refused why h) → HandsOut o live made records a records
  refused-hands o f = record { applies = λ resources. refused-applies _ resources (f (holdings_of live resources made records)) }

module _ (c : Record) (live made : ℕ) (l : List ℕ) (room : (live ≤ most) × (made ≤ most)) where
  pub hands-nothing : c.length ≡ 0 → HandsOut (hand_out c) live made l (accepted_with live made) l
  unfolding hand_out
  hands-nothing p = record { applies = λ resources. record { outcome = rw (eq-eqb _ _ p); live = room.0; made = room.1 } }

  module _ (p : c.length ≡ 0 → ⊥) where
    pub hands-too-many : (a : Applied) → most ≤ made → a ≡ refused_with TooMany live made → HandsOut (hand_out c) live made l a l
    unfolding hand_out
    hands-too-many a q e =
        rw e
        (record { applies = λ resources. record { outcome = rw (ne_eqb _ _ p, length-table record_of 5 made l, le-leb _ _ q); live = room.0; made = room.1 } })

    pub hands-record : (m : List ℕ) → made < most → records_of (made + 1) m ≡ pushed (records_of made l) c → HandsOut (hand_out c) live made l (accepted_with live (made + 1)) m
    unfolding hand_out
    hands-record m q e =
        record { applies = λ resources. record { outcome = rw (ne_eqb _ _ p, length-table record_of 5 made l, lt-leb _ _ q, e); live = room.0; made = omega arith } }

pub ruleset handing = (hands-nothing, hands-too-many, hands-record, rules)
