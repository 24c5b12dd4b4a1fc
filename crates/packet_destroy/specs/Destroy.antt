-- What a destroy packet comes to, whatever records and tokens are held. Assumes nothing.
use Rattle.std.specs.Prelude.{◌≡◌, refl, Option, Some, None, Bool, not, List, ℕ, ◌-◌, ◌≤◌, ◌<◌}
use Rattle.std.proofs.Math.Path.{sym}
use Rattle.std.proofs.Common.{ap, ◌∙◌, arith, rules}
use Rattle.std.proofs.Math.Bool.{true, false}
use borrow.Author.Tests.{not-true, not-false}
use Rattle.rules.specs.Numbers.{most}
use Rattle.rules.specs.Lists.{index_of, lookup, removed}
use Rattle.rules.specs.Lists.Found.{found}
use Rattle.rules.specs.Names.{shareable}
use Rattle.rules.specs.Packets.{handle_of, on_destroy_packet, tokens_after}
use Rattle.rules.specs.declared.DestroyResource.{DestroyResource}
use Rattle.rules.specs.declared.Packet.TheVariants.{Destroy}
use Rattle.rules.specs.declared.Resource.{Resource}
use Rattle.rules.specs.declared.Refusal.TheVariants.{BadHandle}
use Rattle.rows.specs.Rows.{row_at}
use Rattle.rows.specs.Keys.{place_of, place-some}
use Rattle.kept_resources.specs.Views.{resource_of_row, resources_of, holdings_of}
use Rattle.kept_resources.specs.Resources.{resource-place, resource-exists, resource-found, resource-missing}
use Rattle.kept_names.specs.Naming.{RenamesLeft}
use Rattle.packet_ranges.specs.Views.{Applies, Rebinds, refused_with, renamed_nothing, rebind-same}
use Rattle.packet_ranges.specs.Handout.{accepted_with}
use Rattle.packet_ranges.specs.declared.applied.Applied.{Applied}
use Rattle.packet_ranges.specs.declared.applied.Renamed.{Renamed}

-- the records and the tokens are not lent: the answer is the rules' outcome, and says how tokens follow, whatever they are
pub record Destroys (c : DestroyResource) (live made : ℕ) (before : List ℕ) (x : Renamed) (after : List ℕ) : Type 0 where
  pub applies : (records : List ℕ) → Applies (on_destroy_packet (holdings_of live before made records) c) x.applied after records
  pub rebinds : (records : List ℕ) → Rebinds (λ ts. tokens_after (Destroy c) x.applied.verdict (holdings_of live before made records) ts) x

module _ (c : DestroyResource) (live made : ℕ) (l : List ℕ) (room : (live ≤ most) × (made ≤ most)) (o : Option ℕ) (place : o ≡ place_of handle_of c.handle (resources_of live l)) where
  pub destroys-nothing : (x : Renamed) → o ≡ None → x ≡ renamed_nothing (refused_with BadHandle live made) → Destroys c live made l x l
  unfolding on_destroy_packet tokens_after
  destroys-nothing x p e =
      rw e
      (record {
        applies = λ records. record { outcome = rw (resource-missing live c.handle l o place p); live = room.0; made = room.1 };
        rebinds = λ records. record { tokens = λ ts. rebind-same 0 ts };
      })

  module _ (i : ℕ) (found_at : o ≡ Some i) (r : Resource) (row : r ≡ resource_of_row (row_at 12 l i)) (m : List ℕ) (gone : resources_of (live - 1) m ≡ removed i (resources_of live l)) (b : Bool) (is : b ≡ shareable r.kind) where
    here : lookup handle_of c.handle (resources_of live l) ≡ found r
    here = resource-found live c.handle l o place i found_at ∙ ap found (sym row)

    at : i ≡ index_of handle_of c.handle (resources_of live l)
    at = (place-some handle_of c.handle i (resources_of live l) (sym found_at ∙ place)).0

    some : 0 < live
    some = omega (arith, resource-place live c.handle l o place i found_at)

    pub destroys-one : not b ≡ true → Destroys c live made l (renamed_nothing (accepted_with (live - 1) made)) m
    unfolding on_destroy_packet tokens_after
    destroys-one t =
        let unshared : shareable r.kind ≡ false = sym is ∙ not-true _ t in
        record {
          applies = λ records. record { outcome = rw (here, ← at, unshared, gone); live = omega (arith, some); made = room.1 };
          rebinds = λ records. record { tokens = λ ts. rw (here, ← at, unshared) (rebind-same 0 ts) };
        }

    pub destroys-name : not b ≡ false → (new : ℕ) (k : List ℕ) → RenamesLeft (live - 1) r.lowest m new k
        → Destroys c live made l (record { applied = accepted_with (live - 1) made; old = r.lowest; new = new }) k
    unfolding on_destroy_packet tokens_after
    destroys-name t new k left =
        let shared : shareable r.kind ≡ true = sym is ∙ not-false _ t in
        record {
          applies = λ records. record { outcome = rw (here, ← at, shared, left.names, gone); live = omega (arith, some); made = room.1 };
          rebinds = λ records. record { tokens = λ ts. rw (here, ← at, shared, left.lowest, gone) };
        }

pub ruleset destroying = (resource-exists, resource-place, destroys-nothing, destroys-one, destroys-name, rules)

-- ---- destroy_unshared

-- done, it is what a destroy comes to that changes no token; left, it has changed nothing
pub record DestroysUnshared (c : DestroyResource) (live made : ℕ) (before : List ℕ) (x : Option Applied) (after : List ℕ) : Type 0 where
  pub done : (a : Applied) → x ≡ Some a → Destroys c live made before (renamed_nothing a) after
  pub left : x ≡ None → after ≡ before

done-unshared : (c : DestroyResource) (live made : ℕ) (l m : List ℕ) (a : Applied) → Destroys c live made l (renamed_nothing a) m → DestroysUnshared c live made l (Some a) m
done-unshared c live made l m a d =
    record {
      done = λ b e. let same : a ≡ b = cc in rw same at d;
      left = λ e. absurd (let z : ◌≡◌ {A = ℕ} 0 1 = cc in omega arith);
    }

module _ (c : DestroyResource) (live made : ℕ) (l : List ℕ) (room : (live ≤ most) × (made ≤ most)) (o : Option ℕ) (place : o ≡ place_of handle_of c.handle (resources_of live l)) where
  pub unshared-nothing : (a : Applied) → o ≡ None → a ≡ refused_with BadHandle live made → DestroysUnshared c live made l (Some a) l
  unshared-nothing a p e = done-unshared c live made l l a (destroys-nothing c live made l room o place (renamed_nothing a) p (ap renamed_nothing e))

  module _ (i : ℕ) (found_at : o ≡ Some i) (r : Resource) (row : r ≡ resource_of_row (row_at 12 l i)) (b : Bool) (is : b ≡ shareable r.kind) where
    pub unshared-left : b ≡ true → DestroysUnshared c live made l None l
    unshared-left t = record { done = λ a e. absurd (let z : ◌≡◌ {A = ℕ} 0 1 = cc in omega arith); left = λ e. refl }

    pub unshared-one : (m : List ℕ) → resources_of (live - 1) m ≡ removed i (resources_of live l) → b ≡ false
        → DestroysUnshared c live made l (Some (accepted_with (live - 1) made)) m
    unshared-one m gone t = done-unshared c live made l m (accepted_with (live - 1) made) (destroys-one c live made l room o place i found_at r row m gone b is (rw t))

pub ruleset destroying_unshared = (resource-exists, resource-place, unshared-nothing, unshared-left, unshared-one, rules)
