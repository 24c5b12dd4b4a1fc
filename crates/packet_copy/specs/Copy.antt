-- What a copy packet comes to, a law for each end. Assumes nothing.
use Rattle.std.specs.Prelude.{◌≡◌, refl, Option, Some, None, Bool, true, false, ◌||◌, List, ℕ, ◌+◌, ◌%◌, ◌≤◌, ◌<◌, ltb, eqb, Result, Ok, Err}
use Rattle.std.proofs.Common.{sym, ap, ◌∙◌, arith, rules}
use borrow.Author.Tests.{eq-eqb, ne_eqb, lt-ltb, le-ltb}
use Rattle.machine.specs.Machine.{pick}
use Rattle.rules.specs.Numbers.{writes}
use Rattle.rules.specs.Lists.{Found, lookup}
use Rattle.rules.specs.Lists.Found.{none, found}
use Rattle.rules.specs.Table.{matching}
use Rattle.rules.specs.Packets.{Holdings, Outcome, accepted, refused, refuse, handle_of, on_buffer, on_kind, hand_out, write_back, on_copy_packet}
use Rattle.rules.specs.declared.Entry.{Entry}
use Rattle.rules.specs.declared.Resource.{Resource}
use Rattle.rules.specs.declared.Shape.{Shape}
use Rattle.rules.specs.declared.Record.{Record}
use Rattle.rules.specs.declared.CopyBuffer.{CopyBuffer}
use Rattle.rules.specs.declared.Kind.{Kind}
use Rattle.rules.specs.declared.Kind.TheVariants.{Buffer, Texture}
use Rattle.rules.specs.declared.Refusal.{Refusal}
use Rattle.rules.specs.declared.Refusal.TheVariants.{BadHandle, NotInTable, PastEntry, ReadOnly, PastResource, HostBacked, BadCopy}
use Rattle.rows.specs.Rows.{row_at}
use Rattle.rows.specs.Keys.{place_of}
use Rattle.kept_entries.specs.Views.{entries_of}
use Rattle.kept_resources.specs.Views.{resource_of_row, resources_of, holdings_of}
use Rattle.kept_resources.specs.Resources.{resource-place, resource-exists, resource-found, resource-missing}
use Rattle.packet_ranges.specs.Views.{Applies, RowsExist, refused_with}
use Rattle.packet_ranges.specs.Handout.{HandsOut, accepted_with, judged, resolved_of, entry-judged, refused-applies, refused-hands}
use Rattle.packet_ranges.specs.declared.applied.Applied.{Applied}

-- ---- live_buffer

abbrev kind_sought : Resource → Kind → Option Resource
kind_sought r Buffer = Some r
kind_sought r (Texture s) = None

-- what a handle names, by the live resource that has it
unfoldable pub buffer_of : Found Resource → Option Resource
buffer_of none = None
buffer_of (found r) = kind_sought r r.kind

module _ (live k : ℕ) (l : List ℕ) (o : Option ℕ) (place : o ≡ place_of handle_of k (resources_of live l)) where
  pub seeks-nothing : o ≡ None → None ≡ buffer_of (lookup handle_of k (resources_of live l))
  unfolding buffer_of
  seeks-nothing p = rw (resource-missing live k l o place p)

  module _ (i : ℕ) (at : o ≡ Some i) (r : Resource) (row : r ≡ resource_of_row (row_at 12 l i)) where
    here : lookup handle_of k (resources_of live l) ≡ found r
    here = resource-found live k l o place i at ∙ ap found (sym row)

    pub seeks-buffer : r.kind ≡ Buffer → Some r ≡ buffer_of (lookup handle_of k (resources_of live l))
    unfolding buffer_of
    seeks-buffer e = rw (here, e)

    pub seeks-texture : (s : Shape) → r.kind ≡ Texture s → None ≡ buffer_of (lookup handle_of k (resources_of live l))
    unfolding buffer_of
    seeks-texture s e = rw (here, e)

pub ruleset seeking = (resource-exists, seeks-nothing, seeks-buffer, seeks-texture, rules)

live-not-none : (r : Resource) → ◌≡◌ {A = Option Resource} None (Some r) → ⊥
live-not-none r e = let z : ◌≡◌ {A = ℕ} 0 1 = cc in omega arith

-- "18 .. not a live buffer"
kind-refused : (r : Resource) (k : Kind) (h : Holdings) (later : Outcome) → kind_sought r k ≡ None → on_kind k h later ≡ refused BadHandle h
kind-refused r Buffer h later e = absurd (live-not-none r (sym e))
kind-refused r (Texture s) h later e = refl

no_buffer : (f : Found Resource) (h : Holdings) (later : Resource → Outcome) → buffer_of f ≡ None → on_buffer f h later ≡ refused BadHandle h
unfolding buffer_of
no_buffer none h later e = refl
no_buffer (found r) h later e = kind-refused r r.kind h (later r) e

kind-then : (r d : Resource) (k : Kind) (h : Holdings) (later : Resource → Outcome) → kind_sought r k ≡ Some d → on_kind k h (later r) ≡ later d
kind-then r d Buffer h later e = let same : r ≡ d = cc in rw same
kind-then r d (Texture s) h later e = absurd (live-not-none d e)

buffer-then : (f : Found Resource) (d : Resource) (h : Holdings) (later : Resource → Outcome) → buffer_of f ≡ Some d → on_buffer f h later ≡ later d
unfolding buffer_of
buffer-then none d h later e = absurd (live-not-none d e)
buffer-then (found r) d h later e = kind-then r d r.kind h later e

-- ---- write_back

-- the rule, with what is held as its last argument
unfoldable pub written_back : List Entry → CopyBuffer → Resource → Holdings → Outcome
written_back es c d h = write_back es h c d

module _ (n : ℕ) (entries : List ℕ) (live made : ℕ) (records : List ℕ) (c : CopyBuffer) (d : Resource) (room : RowsExist n live made) where
  pub writes-hosted : (a : Applied) → d.backing ≡ 0 → a ≡ refused_with HostBacked live made → HandsOut (written_back (entries_of n entries) c d) live made records a records
  unfolding written_back write_back
  writes-hosted a q e = refused-hands HostBacked n live made records a room e _ (λ h. rw (eq-eqb _ _ q))

  module _ (q : d.backing ≡ 0 → ⊥) (x : Result (ℕ × Record) Refusal) (resolved : x ≡ resolved_of writes d c.dstoffset c.size (matching d.backing (entries_of n entries))) where
    abbrev then : Holdings → ℕ → Record → Outcome
    then h flags range = refuse ReadOnly (eqb (flags % 2) 1) h (hand_out range h)

    judges : (h : Holdings) → written_back (entries_of n entries) c d h ≡ judged x h (then h)
    unfolding written_back write_back
    judges h =
        rw (ne_eqb _ _ q, resolved)
        (entry-judged writes d c.dstoffset c.size (matching d.backing (entries_of n entries)) h (then h))

    pub writes-unresolved : (why : Refusal) (a : Applied) → x ≡ Err why → a ≡ refused_with why live made → HandsOut (written_back (entries_of n entries) c d) live made records a records
    writes-unresolved why a told e = refused-hands why n live made records a room e _ (λ h. judges h ∙ rw told)

    module _ (flags : ℕ) (range : Record) (told : x ≡ Ok (flags, range)) where
      pub writes-read-only : (a : Applied) → flags % 2 ≡ 1 → a ≡ refused_with ReadOnly live made → HandsOut (written_back (entries_of n entries) c d) live made records a records
      writes-read-only a t e = refused-hands ReadOnly n live made records a room e _ (λ h. judges h ∙ rw (told, eq-eqb _ _ t))

      pub writes-range : (a : Applied) (after : List ℕ) → (flags % 2 ≡ 1 → ⊥) → HandsOut (hand_out range) live made records a after
          → HandsOut (written_back (entries_of n entries) c d) live made records a after
      writes-range a after t hands =
          record { applies = λ resources. rw (judges (holdings_of live resources made records), told, ne_eqb _ _ t) (hands.applies resources) }

pub ruleset writing_back =
    (writes-hosted, writes-unresolved, writes-read-only, writes-range, rules)

-- ---- copy_between

-- "26 same handle, or flags above 1; 24 dst, then src; with writeback on dst: .."
unfoldable pub between : List Entry → CopyBuffer → Resource → Resource → Holdings → Outcome
between es c d s h =
    refuse BadCopy (eqb c.dst c.src || ltb 1 c.flags) h
    (refuse PastResource (ltb d.bytes (c.dstoffset + c.size)) h
    (refuse PastResource (ltb s.bytes (c.srcoffset + c.size)) h
    (pick (eqb c.flags 1) (write_back es h c d) (accepted h))))

module _ (n : ℕ) (entries : List ℕ) (live made : ℕ) (records : List ℕ) (c : CopyBuffer) (d s : Resource) (room : RowsExist n live made) where
  pub copies-onto-itself : (a : Applied) → c.dst ≡ c.src → a ≡ refused_with BadCopy live made → HandsOut (between (entries_of n entries) c d s) live made records a records
  unfolding between
  copies-onto-itself a p e = refused-hands BadCopy n live made records a room e _ (λ h. rw (eq-eqb _ _ p))

  module _ (p : c.dst ≡ c.src → ⊥) where
    pub copies-other-flags : (a : Applied) → 1 < c.flags → a ≡ refused_with BadCopy live made → HandsOut (between (entries_of n entries) c d s) live made records a records
    unfolding between
    copies-other-flags a q e = refused-hands BadCopy n live made records a room e _ (λ h. rw (ne_eqb _ _ p, lt-ltb _ _ q))

    module _ (q : c.flags ≤ 1) (b : Bool) (is : b ≡ ltb d.bytes (c.dstoffset + c.size)) where
      pub copies-past-dst : (a : Applied) → b ≡ true → a ≡ refused_with PastResource live made → HandsOut (between (entries_of n entries) c d s) live made records a records
      unfolding between
      copies-past-dst a t e = refused-hands PastResource n live made records a room e _ (λ h. rw (ne_eqb _ _ p, le-ltb _ _ q, ← is, t))

      module _ (t : b ≡ false) (b' : Bool) (is' : b' ≡ ltb s.bytes (c.srcoffset + c.size)) where
        pub copies-past-src : (a : Applied) → b' ≡ true → a ≡ refused_with PastResource live made → HandsOut (between (entries_of n entries) c d s) live made records a records
        unfolding between
        copies-past-src a u e = refused-hands PastResource n live made records a room e _ (λ h. rw (ne_eqb _ _ p, le-ltb _ _ q, ← is, t, ← is', u))

        module _ (u : b' ≡ false) where
          passes : (h : Holdings) → between (entries_of n entries) c d s h ≡ pick (eqb c.flags 1) (written_back (entries_of n entries) c d h) (accepted h)
          unfolding written_back between
          passes h = rw (ne_eqb _ _ p, le-ltb _ _ q, ← is, t, ← is', u)

          pub copies-back : (a : Applied) (after : List ℕ) → c.flags ≡ 1 → HandsOut (written_back (entries_of n entries) c d) live made records a after
              → HandsOut (between (entries_of n entries) c d s) live made records a after
          copies-back a after f hands =
              record { applies = λ resources. rw (passes (holdings_of live resources made records), eq-eqb _ _ f) (hands.applies resources) }

          pub copies-only : (c.flags ≡ 1 → ⊥) → HandsOut (between (entries_of n entries) c d s) live made records (accepted_with live made) records
          copies-only f =
              record { applies = λ resources. record { outcome = sym (passes (holdings_of live resources made records) ∙ rw (ne_eqb _ _ f)); live = room.live; made = room.made } }

pub ruleset copying_between =
    (copies-onto-itself, copies-other-flags, copies-past-dst, copies-past-src, copies-back, copies-only, rules)

-- ---- on_copy

abbrev Copies : ℕ → List ℕ → ℕ → List ℕ → ℕ → List ℕ → CopyBuffer → Applied → List ℕ → Type 0
Copies n entries live resources made records c a after =
    Applies (on_copy_packet (entries_of n entries) (holdings_of live resources made records) c) a resources after

module _ (n : ℕ) (entries : List ℕ) (live : ℕ) (resources : List ℕ) (made : ℕ) (records : List ℕ) (c : CopyBuffer) (room : RowsExist n live made)
    (x : Option Resource) (dst : x ≡ buffer_of (lookup handle_of c.dst (resources_of live resources))) where
  pub copies-no-dst : (a : Applied) → x ≡ None → a ≡ refused_with BadHandle live made → Copies n entries live resources made records c a records
  unfolding on_copy_packet
  copies-no-dst a told e =
      refused-applies BadHandle n live made records a room e _ resources (no_buffer _ _ _ (sym dst ∙ told))

  module _ (d : Resource) (told : x ≡ Some d) (y : Option Resource) (src : y ≡ buffer_of (lookup handle_of c.src (resources_of live resources))) where
    pub copies-no-src : (a : Applied) → y ≡ None → a ≡ refused_with BadHandle live made → Copies n entries live resources made records c a records
    unfolding on_copy_packet
    copies-no-src a gone e =
        refused-applies BadHandle n live made records a room e _ resources (buffer-then _ d _ _ (sym dst ∙ told) ∙ no_buffer _ _ _ (sym src ∙ gone))

    module _ (s : Resource) (some : y ≡ Some s) where
      both-live : on_copy_packet (entries_of n entries) (holdings_of live resources made records) c
          ≡ between (entries_of n entries) c d s (holdings_of live resources made records)
      unfolding on_copy_packet between
      both-live = buffer-then _ d _ _ (sym dst ∙ told) ∙ buffer-then _ s _ _ (sym src ∙ some)

      pub copies-between : (a : Applied) (after : List ℕ) → HandsOut (between (entries_of n entries) c d s) live made records a after
          → Copies n entries live resources made records c a after
      copies-between a after hands =
          rw both-live (hands.applies resources)

pub ruleset copying = (copies-no-dst, copies-no-src, copies-between, rules)
