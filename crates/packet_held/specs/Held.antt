-- What a submission holds, and how a packet leaves it: what its code asks. Assumes nothing.
use Rattle.std.specs.Prelude.{◌≡◌, Bool, true, false, not, List, ℕ, eqb, Err, Ok}
use Rattle.std.proofs.Common.{rules, eq-eqb, ne_eqb}
use Rattle.std.proofs.lemmas.Bool.{not-true, not-false}
use Rattle.machine.specs.Machine.{pick}
use Rattle.rules.specs.Packets.{Holdings, Progress, if-fine}
use Rattle.rules.specs.declared.Refusal.{Refusal}
use Rattle.rules.specs.declared.Packet.{Packet}
use Rattle.rules.specs.declared.Packet.TheVariants.{Destroy, Export, Import, Release}
use Rattle.rules.specs.declared.Token.{Token}
use Rattle.kept_resources.specs.Views.{resources_of, holdings_of, progress_of}
use Rattle.packet_ranges.specs.declared.applied.Applied.{Applied}
use Rattle.packet_held.specs.declared.held.Changed.{Changed}
use Rattle.packet_held.specs.declared.held.Held.{Held}
use Rattle.packet_held.specs.declared.held.SharedPacket.{SharedPacket}
use Rattle.packet_held.specs.declared.held.SharedPacket.TheVariants.{Destroy as SharedDestroy, Export as SharedExport, Import as SharedImport, Release as SharedRelease}
use Rattle.rules.specs.Judging.{Verdict}

-- what was applied, with the rest of what is then held
abbrev pub changed_of : Applied → Bool → ℕ → Changed
changed_of a copied target =
    record { verdict = a.verdict; held = record { live = a.live; made = a.made; copied = copied; target = target } }

-- the resources and records that are held, with the device's rows, the submission's own rows and its records: the resources are in its own table
-- or still in the device's
abbrev pub holdings_held : Held → List ℕ → List ℕ → List ℕ → Holdings
holdings_held x r h c = holdings_of x.live (pick x.copied h r) x.made c

-- all that is held, with these tokens
abbrev pub held_of : Held → List ℕ → List ℕ → List ℕ → List Token → Progress
held_of x r h c ts = progress_of x.target x.live (pick x.copied h r) x.made c ts

-- a packet that is left
abbrev pub packet_of : SharedPacket → Packet
packet_of (SharedDestroy c) = Destroy c
packet_of (SharedExport c) = Export c
packet_of (SharedImport c) = Import c
packet_of (SharedRelease c) = Release c

-- ---- if_fine, without

module _ (v : Verdict) (new old : ℕ) where
  pub fine-new : v ≡ Ok tt → new ≡ if-fine v new old
  fine-new e = rw e

  pub broken-old : (r : Refusal) → v ≡ Err r → old ≡ if-fine v new old
  broken-old r e = rw e

pub ruleset leaving_target = (fine-new, broken-old, rules)

module _ (handle target : ℕ) where
  pub none_after : handle ≡ target → 0 ≡ pick (eqb handle target) 0 target
  none_after e = rw (eq-eqb handle target e)

  pub same_after : (handle ≡ target → ⊥) → target ≡ pick (eqb handle target) 0 target
  same_after n = rw (ne_eqb handle target n)

pub ruleset ending_target = (none_after, same_after, rules)

-- ---- take_own

module _ (live : ℕ) (copied : Bool) (r h : List ℕ) where
  pub owned-before : not copied ≡ false → resources_of live h ≡ resources_of live (pick copied h r)
  owned-before f = rw (not-false copied f)

  pub owned-now : (h' : List ℕ) → not copied ≡ true → resources_of live h' ≡ resources_of live r → resources_of live h' ≡ resources_of live (pick copied h r)
  owned-now h' t e = rw (not-true copied t) e

pub ruleset owning = (owned-before, owned-now, rules)
