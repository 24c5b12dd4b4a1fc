-- Where an opening comes to, on the device's words; and what its code asks. Assumes nothing.
use Rattle.std.specs.Prelude.{◌≡◌, List, ℕ, ◌<◌, length, get_or, set}
use Rattle.std.proofs.Common.{sym, ap, ◌∙◌, rules}
use Rattle.rules.specs.Judging.{without_place, error_number}
use Rattle.rules.specs.Judging.Finding.{broken}
use Rattle.rules.specs.Ring.{opening_of}
use Rattle.rules.specs.State.{World}
use Rattle.rules.specs.Settle.{one_more, faulted, doorbell_cleared, settled_keeping}
use Rattle.rules.specs.Steps.{after_opening}
use Rattle.rules.specs.Settle.{ring_refused}
use Rattle.rules.specs.declared.Job.{Job}
use Rattle.rules.specs.declared.Opened.{Opened}
use Rattle.rules.specs.declared.Refusal.{Refusal}
use Rattle.rules.specs.declared.Opening.{Opening}
use Rattle.rules.specs.declared.Opening.TheVariants.{BadRing, NoWork, Refused, Started}
use Rattle.run_state.specs.Views.{small_in, tag_in, world_in, bare_in, sides_in}
use Rattle.run_state.specs.Reading.{small-as}
use Rattle.run_state.specs.Spelled.{spell}
use Rattle.run_settle.specs.Views.{Refuses}
use Rattle.run_begin.specs.Views.{StoresJob, Starts}

-- a bad ring, whatever the rows and the memory are
pub record FaultsRing (s s' : List ℕ) : Type 0 where
  pub world : tag_in s ≡ 0 → (e r h dt ot c m : List ℕ) → world_in s' e r h dt ot c m ≡ ring_refused (bare_in s r dt m)
  pub side : sides_in s' ≡ sides_in s

-- what the opening comes to, whatever the rows are; the same table stays the device's
pub record Opens (s m s' m' : List ℕ) : Type 0 where
  pub world : (e r h dt ot c : List ℕ) → world_in s' e r h dt ot c m' ≡ after_opening (bare_in s r dt m) (opening_of m (get_or s 1 0) (small_in (get_or s 2 0)))
  pub side : sides_in s' ≡ sides_in s

-- ---- fault_ring

abbrev ring_faulted : ℕ → List ℕ → List ℕ
ring_faulted errors w = set (set (set (set (set (set w 7 1) 9 10) 10 0) 11 errors) 30 0) 12 0

pub faults-ring : (s : List ℕ) (low more errors : ℕ) → length s ≡ 36 → low ≡ small_in (get_or s 11 0) → more ≡ one_more low → (errors ≡ more) × (errors < 4294967296)
    → FaultsRing s (set (set (set (set (set (set s 7 1) 9 10) 10 0) 11 errors) 30 0) 12 0)
unfolding world_in faulted doorbell_cleared
faults-ring s low more errors long a b c =
    record {
      world = λ none e r h dt ot x m. spell (λ w. world_in (ring_faulted errors w) e r h dt ot x m) s long ∙ rw (none, small-as errors more c, b, a);
      side = spell (λ w. sides_in (ring_faulted errors w)) s long;
    }

pub ruleset faulting = (faults-ring, rules)

-- ---- open_ring

module _ (s m : List ℕ) (none : tag_in s ≡ 0) (size : ℕ) (is : size ≡ small_in (get_or s 2 0)) (v : Opening) (opens : v ≡ opening_of m (get_or s 1 0) size) where
  -- what is said of v is said of the opening
  as-opened : (w : World) (x : Opening) → v ≡ x → after_opening w x ≡ after_opening w (opening_of m (get_or s 1 0) (small_in (get_or s 2 0)))
  as-opened w x e = ap (after_opening w) (sym e ∙ (opens ∙ ap (opening_of m (get_or s 1 0)) is))

  pub opens-bad : (s' : List ℕ) → v ≡ BadRing → FaultsRing s s' → Opens s m s' m
  opens-bad s' e f = record { world = λ x r h dt ot c. f.world none x r h dt ot c m ∙ as-opened (bare_in s r dt m) BadRing e; side = f.side }

  pub opens-empty : v ≡ NoWork → length s ≡ 36 → Opens s m (set s 12 0) m
  unfolding world_in doorbell_cleared
  opens-empty e long =
      record {
        world = λ x r h dt ot c. spell (λ w. world_in (set w 12 0) x r h dt ot c m) s long ∙ rw none (as-opened (bare_in s r dt m) NoWork e);
        side = spell (λ w. sides_in (set w 12 0)) s long;
      }

  pub opens-refused : (j : Job) (why : Refusal) (code : ℕ) (s₁ s' m' : List ℕ) → v ≡ Refused j why → code ≡ error_number why → StoresJob s j s₁ → Refuses s₁ m (record { code = code; place = 0 }) s' m' → Opens s m s' m'
  opens-refused j why code s₁ s' m' e q k said =
      let f : Refuses s₁ m (record { code = error_number why; place = 0 }) s' m' = rw q at said in
      record {
        world = λ x r h dt ot c.
            f.world x r h dt ot c
            ∙ (ap (λ y. settled_keeping y (broken (without_place why)) (bare_in s₁ r dt m)) k.job
            ∙ (ap (settled_keeping j (broken (without_place why))) (k.bare r dt m) ∙ as-opened (bare_in s r dt m) (Refused j why) e));
        side = f.side ∙ k.side;
      }

  pub opens-started : (o : Opened) (s' : List ℕ) → v ≡ Started o → Starts s o s' → Opens s m s' m
  opens-started o s' e f = record { world = λ x r h dt ot c. f.world x r h dt ot c m ∙ as-opened (bare_in s r dt m) (Started o) e; side = f.side }

pub ruleset opening = (opens-bad, opens-empty, opens-refused, opens-started, rules)
