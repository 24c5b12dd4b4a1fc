-- What a dirty packet comes to, a law for each end. Assumes nothing.
use Rattle.std.specs.Prelude.{◌≡◌, Option, Some, None, Bool, true, false, List, ℕ, ◌+◌, ltb, Result, Ok, Err}
use Rattle.std.proofs.Common.{sym, ap, ◌∙◌, rules}
use borrow.Author.Tests.{eq-eqb, ne_eqb}
use Rattle.rules.specs.Numbers.{reads}
use Rattle.rules.specs.Lists.{lookup}
use Rattle.rules.specs.Lists.Found.{found}
use Rattle.rules.specs.Table.{matching}
use Rattle.rules.specs.Packets.{handle_of, hand_out, on_dirty_packet}
use Rattle.rules.specs.declared.Resource.{Resource}
use Rattle.rules.specs.declared.Record.{Record}
use Rattle.rules.specs.declared.DirtyRange.{DirtyRange}
use Rattle.rules.specs.declared.Refusal.{Refusal}
use Rattle.rules.specs.declared.Refusal.TheVariants.{BadHandle, NotInTable, PastEntry, PastResource, HostBacked}
use Rattle.rows.specs.Rows.{row_at}
use Rattle.rows.specs.Keys.{place_of}
use Rattle.kept_entries.specs.Views.{entries_of}
use Rattle.kept_resources.specs.Views.{resource_of_row, resources_of, holdings_of}
use Rattle.kept_resources.specs.Resources.{resource-place, resource-exists, resource-found, resource-missing}
use Rattle.packet_ranges.specs.Views.{Applies, RowsExist, refused_with}
use Rattle.packet_ranges.specs.Handout.{HandsOut, judged, resolved_of, entry-judged, refused-applies}
use Rattle.packet_ranges.specs.declared.applied.Applied.{Applied}

abbrev Dirties : ℕ → List ℕ → ℕ → List ℕ → ℕ → List ℕ → DirtyRange → Applied → List ℕ → Type 0
Dirties n entries live resources made records c a after =
    Applies (on_dirty_packet (entries_of n entries) (holdings_of live resources made records) c) a resources after

module _ (n : ℕ) (entries : List ℕ) (live : ℕ) (resources : List ℕ) (made : ℕ) (records : List ℕ) (c : DirtyRange) (room : RowsExist n live made)
    (o : Option ℕ) (place : o ≡ place_of handle_of c.handle (resources_of live resources)) where
  pub dirties-not-live : (a : Applied) → o ≡ None → a ≡ refused_with BadHandle live made → Dirties n entries live resources made records c a records
  unfolding on_dirty_packet
  dirties-not-live a p e =
      refused-applies BadHandle n live made records a room e _ resources (rw (resource-missing live c.handle resources o place p))

  module _ (i : ℕ) (at : o ≡ Some i) (r : Resource) (row : r ≡ resource_of_row (row_at 12 resources i)) where
    here : lookup handle_of c.handle (resources_of live resources) ≡ found r
    here = resource-found live c.handle resources o place i at ∙ ap found (sym row)

    pub dirties-hosted : (a : Applied) → r.backing ≡ 0 → a ≡ refused_with HostBacked live made → Dirties n entries live resources made records c a records
    unfolding on_dirty_packet
    dirties-hosted a q e =
        refused-applies HostBacked n live made records a room e _ resources (rw (here, eq-eqb _ _ q))

    module _ (q : r.backing ≡ 0 → ⊥) (b : Bool) (is : b ≡ ltb r.bytes (c.offset + c.size)) where
      pub dirties-past : (a : Applied) → b ≡ true → a ≡ refused_with PastResource live made → Dirties n entries live resources made records c a records
      unfolding on_dirty_packet
      dirties-past a t e =
          refused-applies PastResource n live made records a room e _ resources (rw (here, ne_eqb _ _ q, ← is, t))

      module _ (t : b ≡ false) where
        module _ (x : Result (ℕ × Record) Refusal) (resolved : x ≡ resolved_of reads r c.offset c.size (matching r.backing (entries_of n entries))) where
          judges : on_dirty_packet (entries_of n entries) (holdings_of live resources made records) c
              ≡ judged x (holdings_of live resources made records) (λ _ range. hand_out range (holdings_of live resources made records))
          unfolding on_dirty_packet
          judges =
              rw (here, ne_eqb _ _ q, ← is, t, resolved)
              (entry-judged reads r c.offset c.size (matching r.backing (entries_of n entries)) (holdings_of live resources made records) (λ _ range. hand_out range (holdings_of live resources made records)))

          pub dirties-unresolved : (why : Refusal) (a : Applied) → x ≡ Err why → a ≡ refused_with why live made → Dirties n entries live resources made records c a records
          dirties-unresolved why a told e =
              refused-applies why n live made records a room e _ resources (judges ∙ rw told)

          pub dirties-inside : (flags : ℕ) (range : Record) (a : Applied) (after : List ℕ) → x ≡ Ok (flags, range) → HandsOut (hand_out range) live made records a after
              → Dirties n entries live resources made records c a after
          dirties-inside flags range a after told hands = rw (judges, told) (hands.applies resources)

pub ruleset dirtying =
    (resource-exists, dirties-not-live, dirties-hosted, dirties-past, dirties-unresolved, dirties-inside, rules)
