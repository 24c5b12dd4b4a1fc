-- What an import packet comes to, whatever records are held. Assumes nothing.
use Rattle.std.specs.Prelude.{◌≡◌, refl, Option, Some, None, is_some, Bool, true, false, ◌||◌, List, ℕ, ◌+◌, ◌≤◌, ◌<◌, eqb}
use Rattle.std.proofs.Math.Path.{sym, ap}
use Rattle.std.proofs.Common.{◌∙◌, arith, rules}
use borrow.Author.Tests.{eq-eqb, ne_eqb, le-leb, lt-leb, lt-ltb, le-ltb}
use Rattle.rules.specs.Numbers.{most, most_tokens}
use Rattle.rules.specs.Lists.{lookup, pushed}
use Rattle.rules.specs.Lists.Found.{found}
use Rattle.rules.specs.Names.{lower, under, rename, rebind, names_with}
use Rattle.rules.specs.Packets.{handle_of, is_live, refused, bound, on_import_packet, tokens_after}
use Rattle.rules.specs.declared.ImportSurface.{ImportSurface}
use Rattle.rules.specs.declared.Packet.TheVariants.{Import}
use Rattle.rules.specs.declared.Resource.{Resource}
use Rattle.rules.specs.declared.Refusal.TheVariants.{BadHandle, TooMany, UnboundToken}
use Rattle.rows.specs.Rows.{row_at, length-table}
use Rattle.rows.specs.Keys.{place_of}
use Rattle.kept_resources.specs.Views.{resource_of_row, resources_of, holdings_of}
use Rattle.kept_resources.specs.Resources.{resource-known}
use Rattle.kept_names.specs.Naming.{rename-same}
use Rattle.kept_tokens.specs.Views.{tokens_of}
use Rattle.packet_ranges.specs.Views.{Applies, refused_with, renamed_nothing, rebind-same}
use Rattle.packet_ranges.specs.Handout.{accepted_with}
use Rattle.packet_ranges.specs.declared.applied.Renamed.{Renamed}
use Rattle.packet_share.specs.Bound.{BindsToken, bound-exists}
use Rattle.packet_share.specs.declared.bound.Bound.{Bound}
use Rattle.rules.specs.declared.Refusal.{Refusal}

-- ---- is_taken

-- "create's rule for import": 0, or live
abbrev pub taken_in : ℕ → List Resource → Bool
taken_in k rs = eqb k 0 || is_live (lookup handle_of k rs)

module _ (live k : ℕ) (l : List ℕ) where
  pub zero-taken : k ≡ 0 → true ≡ taken_in k (resources_of live l)
  zero-taken p = rw (eq-eqb _ _ p)

  pub live-taken : (o : Option ℕ) (b : Bool) → (k ≡ 0 → ⊥) → o ≡ place_of handle_of k (resources_of live l) → b ≡ is_some o → b ≡ taken_in k (resources_of live l)
  live-taken o b p at known = rw (known, ne_eqb _ _ p, resource-known live k l o at)

pub ruleset taking = (zero-taken, live-taken, rules)

-- ---- add_name

-- the resource r has one name more, and its lowest name is the lower of that and what it was
pub record AddsName (live made k : ℕ) (r : Resource) (before : List ℕ) (x : Renamed) (after : List ℕ) : Type 0 where
  pub applied : x.applied ≡ accepted_with (live + 1) made
  pub old : x.old ≡ r.lowest
  pub new : x.new ≡ lower k r.lowest
  pub names : resources_of (live + 1) after ≡ names_with k r (resources_of live before)

module _ (live made k : ℕ) (r : Resource) (l m : List ℕ) (one_more : resources_of (live + 1) m ≡ pushed (resources_of live l) (under k r)) where
  pub adds-higher : r.lowest ≤ k → AddsName live made k r l (record { applied = accepted_with (live + 1) made; old = r.lowest; new = r.lowest }) m
  adds-higher h =
      record {
        applied = refl;
        old = refl;
        new = rw (le-ltb _ _ h);
        names = one_more ∙ rw (le-ltb _ _ h) (sym (rename-same r.lowest (pushed (resources_of live l) (under k r))));
      }

  pub adds-lower : k < r.lowest → (n : List ℕ) → resources_of (live + 1) n ≡ rename r.lowest k (resources_of (live + 1) m)
      → AddsName live made k r l (record { applied = accepted_with (live + 1) made; old = r.lowest; new = k }) n
  adds-lower h n e =
      record {
        applied = refl;
        old = refl;
        new = rw (lt-ltb _ _ h);
        names = e ∙ rw (lt-ltb _ _ h, one_more);
      }

pub ruleset adding = (adds-higher, adds-lower, rules)

-- ---- on_import

-- the answer is the rules' outcome, and its two names say how the tokens follow
pub record Imports (c : ImportSurface) (live made used : ℕ) (before t : List ℕ) (x : Renamed) (after : List ℕ) : Type 0 where
  pub applies : (records : List ℕ) → Applies (on_import_packet (tokens_of used t) (holdings_of live before made records) c) x.applied after records
  pub rebinds : (records : List ℕ)
      → rebind x.old x.new (tokens_of used t) ≡ tokens_after (Import c) x.applied.verdict (holdings_of live before made records) (tokens_of used t)

module _ (c : ImportSurface) (live made used : ℕ) (l t : List ℕ) (room : ((live ≤ most) × (made ≤ most)) × (used ≤ most_tokens)) where
  refusal-imports : (why : Refusal) (x : Renamed) → x ≡ renamed_nothing (refused_with why live made)
      → ((records : List ℕ) → on_import_packet (tokens_of used t) (holdings_of live l made records) c ≡ refused why (holdings_of live l made records)) → Imports c live made used l t x l
  unfolding tokens_after
  refusal-imports why x e f =
      rw e
      (record {
        applies = λ records. record { outcome = sym (f records); live = room.0.0; made = room.0.1 };
        rebinds = λ records. rebind-same 0 (tokens_of used t);
      })

  module _ (b : Bool) (is : b ≡ taken_in c.handle (resources_of live l)) where
    pub imports-taken : (x : Renamed) → b ≡ true → x ≡ renamed_nothing (refused_with BadHandle live made) → Imports c live made used l t x l
    unfolding on_import_packet
    imports-taken x q e = refusal-imports BadHandle x e (λ records. rw (← is, q))

    module _ (q : b ≡ false) (o : Option Bound) (at : BindsToken live l used t c.token o) where
      pub imports-unbound : (x : Renamed) → o ≡ None → x ≡ renamed_nothing (refused_with UnboundToken live made) → Imports c live made used l t x l
      unfolding on_import_packet
      imports-unbound x h e = refusal-imports UnboundToken x e (λ records. rw (← is, q, at.missing h))

      module _ (y : Bound) (h : o ≡ Some y) where
        pub imports-too-many : (x : Renamed) → most ≤ live → x ≡ renamed_nothing (refused_with TooMany live made) → Imports c live made used l t x l
        unfolding on_import_packet
        imports-too-many x s e =
            refusal-imports TooMany x e (λ records. rw (← is, q, at.here y h, length-table resource_of_row 12 live l, le-leb _ _ s))

        pub imports-one : live < most → (s' : Resource) → s' ≡ resource_of_row (row_at 12 l y.row) → (x : Renamed) (m : List ℕ) → AddsName live made c.handle s' l x m → Imports c live made used l t x m
        unfolding on_import_packet tokens_after
        imports-one s s' row x m named =
            let of : bound c.token (tokens_of used t) (resources_of live l) ≡ found s' = at.here y h ∙ ap found (sym row) in
            record {
              applies = λ records.
                  rw named.applied
                  (record { outcome = rw (← is, q, of, length-table resource_of_row 12 live l, lt-leb _ _ s, named.names); live = omega arith; made = room.0.1 });
              rebinds = λ records. rw (named.applied, named.old, named.new, of);
            }

pub ruleset importing = (bound-exists, imports-taken, imports-unbound, imports-too-many, imports-one, rules)
